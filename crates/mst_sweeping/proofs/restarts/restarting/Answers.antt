use Rattle.std.proofs.Common.{◌&&◌, ap, map, ◌∙◌}
use Rattle.std.specs.HashSet.{contains}
use Rattle.std.specs.List.{filter, list_any}
use Rattle.std.proofs.lemmas.Result.{IfOk-weaker}
use Rattle.mst_net.specs.tables.Tables.{port_eq}
use Rattle.mst_view.specs.Aggregation.{same_name}
use Rattle.mst_sweep.specs.facts.declared.both.Both.{Both}
use Rattle.mst_sweeping.specs.declared.ports.BothPorts.{BothPorts}
use Rattle.mst_sweeping.specs.Seen.{seen_anew, seen_restarts}
use Rattle.mst_sweeping.proofs.Anew.{anew_named, restarting_named}
use Rattle.mst_sweeping.proofs.restarts.restarting.Goals as goal

pub returns : goal.returns
returns c = IfOk-weaker c.restarting_of.result _ _
    (λ names told a b n k is are of so over.
    let v = c.args.old.now.view.now in
    let w = c.args.new.now.view.now in
    let f = c.args.old.now.forest.now in
    let g = c.args.new.now.forest.now in
    let anew = contains same_name c.in_ok-anew.anew in
    let replugged = contains port_eq c.args.replugged.now in
    told ∙ ap (λ (ps : _). map (λ (p : BothPorts). p.old.name) (filter (seen_restarts anew replugged) ps)) c.requires.shared
    ∙ restarting_named a b n k v w f g of so anew
    (λ name. c.in_ok-anew.ensures name ∙ ap (list_any (λ (both : Both). seen_anew v w both && same_name both.old.name name)) c.requires.both ∙ anew_named a b n k v w f g of so name)
    replugged over) c.restarting_of.ensures

use Rattle.std.proofs.Common.{◌≡◌, ◌++◌, ◌∷◌, [], None, not, ap, sym, subst, ◌∙◌}
use Rattle.std.proofs.lemmas.Result.{IfOk-weaker}
use Rattle.std.specs.FinMap as fin
use Rattle.std.specs.List.{filter}
use Rattle.std.specs.List.Sorted.{IsPermutation}
use Rattle.mst_tables.specs.After.{effect, refusal_of, new_port}
use Rattle.mst_tables.proofs.AfterLemmas.{port_addable}
use Rattle.mst_tables.proofs.Keys.{ports}
use Rattle.mst_tables.proofs.NamesInOrder.{name_joins, name_leaves}
use Rattle.mst_net.proofs.NamesAfter.{port_names_stay}
use Rattle.mst_net.proofs.ahead.AheadContents.port_names.Goals as goal
use Rattle.mst_tables.specs.Tables.{port_eq}

pub returns-in-AddPort : goal.returns-in-AddPort
returns-in-AddPort c =
    let old = c.self.inside.network.now in
    let port = c.in-AddPort.port in
    IfOk-weaker c.with_name.result _ _ (λ all joined.
    name_joins ports old.net.ports port new_port all.items (port_addable old.net c.in-AddPort.port (subst (λ e. refusal_of e old.net ≡ None) c.in-AddPort.is c.self.invariant.accepted)).1
    (subst (λ l. IsPermutation (l ++ port ∷ []) all.items) c.in_ok-names.ensures joined.0) joined.1
    ∙ ap (λ e. fin.keys (effect e old.net).ports) (sym c.in-AddPort.is) ∙ ap (λ t. fin.keys t.net.ports) c.self.view_is) c.with_name.ensures

pub returns-in-DelPort : goal.returns-in-DelPort
returns-in-DelPort c =
    let old = c.self.inside.network.now in
    let port = c.in-DelPort.port in
    c.without_name.ensures ∙ ap (filter (λ name. not (port_eq port name))) c.in_ok-names.ensures ∙ name_leaves ports old.net.ports port
    ∙ ap (λ e. fin.keys (effect e old.net).ports) (sym c.in-DelPort.is) ∙ ap (λ t. fin.keys t.net.ports) c.self.view_is

pub returns-in_default : goal.returns-in_default
returns-in_default c =
    let old = c.self.inside.network.now in
    c.in_ok-names.ensures ∙ port_names_stay c.self.inside.edit.now old.net c.in_default.not-AddPort c.in_default.not-DelPort ∙ ap (λ t. fin.keys t.net.ports) c.self.view_is

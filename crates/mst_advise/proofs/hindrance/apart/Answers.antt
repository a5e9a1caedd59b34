use Rattle.std.proofs.Common.{◌≡◌, ℕ, List, [], Option, sym, ap, subst, ◌∙◌}
use Rattle.std.specs.Prelude.{IfOk}
use Rattle.std.specs.Option.{option_copied, option_map_or}
use Rattle.mst_net.specs.tables.ByTree.{by_tree}
use Rattle.mst_net.specs.tables.Seen.{bridge_row}
use Rattle.mst_net.specs.tables.Tables.{BridgeRow}
use Rattle.mst_roles.specs.forest.InUse.{id_in}
use Rattle.mst_roles.specs.forest.Settled.{outcome_of}
use Rattle.mst_advise.specs.Hindrances.{apart_by}
use Rattle.mst_advise.proofs.BridgeNamed.{is_there, not_there}
use Rattle.mst_advise.proofs.hindrance.apart.Goals as goal

pub apart_of-requires : goal.apart_of-requires
apart_of-requires c = (is_there c.args.plan.now c.known.ensures c.args.name.now c.in-Some.bridge.now (sym c.bridge_named.ensures ∙ ap option_copied c.in-Some.is)).there

pub returns-in-None : goal.returns-in-None
returns-in-None c =
    let s = c.args.plan.now in
    let b = c.args.name.now in
    c.new.ensures.items
    ∙ ap (λ (row : Option BridgeRow). option_map_or (λ (r : BridgeRow). apart_by s.net (outcome_of s) c.args.tree b (id_in (by_tree s.net) c.args.tree b r)) row [])
    (sym (not_there s c.known.ensures b (sym c.bridge_named.ensures ∙ ap option_copied c.in-None.is)))

pub returns-in-Some : goal.returns-in-Some
returns-in-Some c =
    let s = c.args.plan.now in
    let o = outcome_of s in
    let b = c.in-Some.bridge.now in
    let found = is_there s c.known.ensures c.args.name.now b (sym c.bridge_named.ensures ∙ ap option_copied c.in-Some.is) in
    subst (λ (row : Option BridgeRow). IfOk c.apart_of.result (λ v. v.items ≡ option_map_or (λ (r : BridgeRow). apart_by s.net o c.args.tree c.args.name.now (id_in (by_tree s.net) c.args.tree c.args.name.now r)) row [])) (sym found.has_row)
    (subst (λ (n : List ℕ). IfOk c.apart_of.result (λ v. v.items ≡ apart_by s.net o c.args.tree n (id_in (by_tree s.net) c.args.tree n (bridge_row b.bridge)))) found.named c.apart_of.ensures)

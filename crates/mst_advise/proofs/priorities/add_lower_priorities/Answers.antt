use Rattle.std.proofs.Common.{◌≡◌, ◌++◌, ℕ, List, [], ◌∷◌, Option, sym, ap, subst, ◌∙◌, append-nil}
use Rattle.std.specs.Prelude.{OnOk}
use Rattle.std.specs.Option.{option_copied, option_map_or}
use Rattle.mst_net.specs.tables.Tables.{BridgeRow}
use Rattle.mst_roles.specs.forest.Settled.{outcome_of}
use Rattle.mst_advise.specs.Priorities.{lower_priorities, lower_priority, others}
use Rattle.mst_advise.specs.declared.setting.Setting.{Setting}
use Rattle.mst_advise.proofs.BridgeNamed.{is_there, not_there}
use Rattle.mst_advise.proofs.priorities.add_lower_priorities.Goals as goal

pub add_lower_of-requires : goal.add_lower_of-requires
add_lower_of-requires c = (is_there c.args.plan.now c.known.ensures c.args.name.now c.in-Some.bridge.now (sym c.bridge_named.ensures ∙ ap option_copied c.in-Some.is)).there

pub returns-in-None : goal.returns-in-None
returns-in-None c =
    let s = c.args.plan.now in
    let tree = c.args.tree in
    let b = c.args.name.now in
    let old : List Setting = c.args.found.now.items in
    sym (append-nil old)
    ∙ ap (λ (row : Option BridgeRow). old ++ option_map_or (λ (r : BridgeRow). lower_priority s.net tree b r.mac (c.args.other.now ∷ []) ++ lower_priority s.net tree b r.mac (others s.net (outcome_of s) tree b)) row [])
    (sym (not_there s c.known.ensures b (sym c.bridge_named.ensures ∙ ap option_copied c.in-None.is)))

pub returns-in-Some : goal.returns-in-Some
returns-in-Some c =
    let s = c.args.plan.now in
    let found = is_there s c.known.ensures c.args.name.now c.in-Some.bridge.now (sym c.bridge_named.ensures ∙ ap option_copied c.in-Some.is) in
    subst (λ (n : List ℕ). OnOk c.add_lower_of.result (c.add_lower_of.new.found.items ≡ c.args.found.now.items ++ lower_priorities s.net (outcome_of s) c.args.tree n c.args.other.now)) found.named c.add_lower_of.ensures

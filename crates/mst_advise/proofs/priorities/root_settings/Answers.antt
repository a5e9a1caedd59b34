use Rattle.std.proofs.Common.{◌≡◌, ℕ, List, [], Option, sym, ap, subst, ◌∙◌}
use Rattle.std.specs.Prelude.{IfOk}
use Rattle.std.specs.Option.{option_copied, option_map_or}
use Rattle.mst_net.specs.tables.Tables.{BridgeRow}
use Rattle.mst_roles.specs.forest.Settled.{outcome_of}
use Rattle.mst_advise.specs.Priorities.{greatest_priority, others, priorities, root_settings}
use Rattle.mst_advise.proofs.BridgeNamed.{is_there, not_there}
use Rattle.mst_advise.proofs.priorities.root_settings.Goals as goal

pub settings_of-requires : goal.settings_of-requires
settings_of-requires c = (is_there c.args.plan.now c.known.ensures c.args.name.now c.in-Some.bridge.now (sym c.bridge_named.ensures ∙ ap option_copied c.in-Some.is)).there

pub returns-in-None : goal.returns-in-None
returns-in-None c =
    let s = c.args.plan.now in
    let b = c.args.name.now in
    let all : List (List ℕ) = others s.net (outcome_of s) c.args.tree b in
    c.new.ensures.items
    ∙ ap (λ (row : Option BridgeRow). option_map_or (λ (r : BridgeRow). priorities s.net c.args.tree b r.mac all (greatest_priority s.net c.args.tree r.mac all)) row [])
    (sym (not_there s c.known.ensures b (sym c.bridge_named.ensures ∙ ap option_copied c.in-None.is)))

pub returns-in-Some : goal.returns-in-Some
returns-in-Some c =
    let s = c.args.plan.now in
    let found = is_there s c.known.ensures c.args.name.now c.in-Some.bridge.now (sym c.bridge_named.ensures ∙ ap option_copied c.in-Some.is) in
    subst (λ (n : List ℕ). IfOk c.settings_of.result (λ v. v.items ≡ root_settings s.net (outcome_of s) c.args.tree n)) found.named c.settings_of.ensures

use Rattle.std.proofs.Common.{◌≡◌, ◌≢◌, ◌<◌, ℕ, List, Option, Some, None, length, true≢false, sym, ◌∙◌}
use Rattle.std.specs.List.{Contains}
use Rattle.std.specs.Option.{MatchOption}
use Rattle.mst_path.specs.Places.{bridge_at}
use Rattle.mst_tables.specs.Tables.{Net}
use Rattle.mst_view.specs.declared.in_view.PortInView.{PortInView}
use Rattle.mst_judged.specs.reasons.sweep.vlan.Reach.{bridges_on}
use Rattle.mst_path_judges.specs.Longest.{HasNoPlace, HasPlace}
use Rattle.mst_path_judges.proofs.longest.place_of.Goals as goal

-- of a bridge that is on
on_place : (net : Net) (ports : List PortInView) (bridge : List ℕ) → Contains (bridges_on net) bridge → (found : Option ℕ)
    → MatchOption found ((place : ℕ) → place < length ports → bridge_at ports place ≢ bridge) (λ place. (place < length ports) × (bridge_at ports place ≡ bridge)) → MatchOption found (HasNoPlace net ports bridge) (HasPlace net ports bridge)
on_place net ports bridge on None none = λ place p. none place p.below p.is
on_place net ports bridge on (Some place) at = record { below = at.0; is = at.1; on = on }

pub returns-then-is_on : goal.returns-then-is_on
returns-then-is_on c = on_place c.args.plan.now.net c.args.ports.now c.args.bridge.now (c.is_on.ensures.0 c.if-is_on.true) c.place_on.result c.place_on.ensures

pub returns : goal.returns
returns c = λ place p. true≢false (sym (c.is_on.ensures.1 p.on) ∙ c.if-is_on.false)

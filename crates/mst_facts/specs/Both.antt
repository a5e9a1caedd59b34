-- The bridges that two networks have, by name.
use Rattle.std.specs.Prelude.{◌≡◌, ℕ, List, Option, filter_map}
use Rattle.std.specs.List.{Contains, find}
use Rattle.std.specs.Map.{lookup}
use Rattle.std.specs.Option.{option_map}
use Rattle.mst_view.specs.Aggregation.{same_name}
use Rattle.mst_view.specs.Viewed.{Viewed}
use Rattle.mst_view.specs.declared.in_view.BridgeInView.{BridgeInView}
use Rattle.mst_facts.specs.declared.both.Both.{Both}

-- a bridge of one view, if one of that name is in the other, too
abbrev pub seen_in_both : Viewed → BridgeInView → Option Both
seen_in_both w x = option_map (λ y. record { old = x; new = y }) (find (λ y. same_name y.name x.name) w.bridges)

abbrev pub seen_both : Viewed → Viewed → List Both
seen_both v w = filter_map (seen_in_both w) v.bridges

-- under each name the first of these bridges that has it
abbrev pub AreByName : List BridgeInView → List (List ℕ × BridgeInView) → Type 0
AreByName bridges entries = (name : List ℕ) → lookup (same_name name) entries ≡ find (λ y. same_name y.name name) bridges

-- a bridge that two views have
pub record IsBoth (v w : Viewed) (both : Both) : Type 0 where
  pub old : Contains v.bridges both.old
  pub new : Contains w.bridges both.new
  pub same : both.new.name ≡ both.old.name

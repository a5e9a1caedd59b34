use Rattle.std.proofs.Common.{◌≡◌, ◌≢◌, ◌<◌, ℕ, Bool, false, Option, Some, None, List, [], length, get_or, refl, sym, ap, ◌∙◌, true≢false}
use Rattle.std.specs.Prelude.{MatchOption}
use Rattle.std.specs.Cmp.Lexicographic.{nat_list_eq_equiv}
use Rattle.mst_view.specs.Aggregation.{same_name}
use Rattle.mst_view.specs.declared.in_view.PortInView.{PortInView}
use Rattle.mst_path.specs.Places.{bridge_names}
use Rattle.mst_path.proofs.Named.{none_from, none_to}
use Rattle.mst_path.proofs.between.path_over.Goals as goal

differ : (a b : List ℕ) (t : Bool) → t ≡ same_name a b → t ≡ false → a ≢ b
differ a b t e f same = true≢false (sym (nat_list_eq_equiv.refl a) ∙ ap (same_name a) same ∙ sym e ∙ f)

none_of : (ports : List PortInView) (b : List ℕ) (r : Option ℕ) → MatchOption r ((place : ℕ) → place < length ports → get_or (bridge_names ports) place [] ≢ b) (λ place. (place < length ports) × (get_or (bridge_names ports) place [] ≡ b)) → ((n : ℕ) → r ≡ Some n → ⊥)
    → (place : ℕ) → place < length ports → get_or (bridge_names ports) place [] ≢ b
none_of ports b None h n = h
none_of ports b (Some k) h n = absurd (n k refl)

pub returns-in_default : goal.returns-in_default
returns-in_default c = none_from c.args.ports.now c.args.from.now c.args.to.now (differ c.args.from.now c.args.to.now c.eq.result c.eq.ensures c.if-eq.false) (none_of c.args.ports.now c.args.from.now c.place_on.result c.place_on.ensures c.in_default.not-Some)

pub returns-in_default-place_on : goal.returns-in_default-place_on
returns-in_default-place_on c = none_to c.args.ports.now c.args.from.now c.args.to.now (differ c.args.from.now c.args.to.now c.eq.result c.eq.ensures c.if-eq.false) (none_of c.args.ports.now c.args.to.now c.place_on-2.result c.place_on-2.ensures c.in_default-place_on.not-Some)

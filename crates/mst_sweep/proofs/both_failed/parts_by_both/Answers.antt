use Rattle.std.proofs.Common.{◌≡◌, ◌+◌, ℕ, Bool, List, false, true, get_or, sym, subst, ◌∙◌}
use Rattle.std.specs.Option.{ForSome}
use Rattle.mst_sweep.specs.Breaking.{HasNoParts, IsCarriageOf}
use Rattle.mst_sweep.specs.Touched.{AreWhereTouched}
use Rattle.mst_sweep.proofs.both_failed.parts_by_both.Goals as goal

pub breaking-requires-clause-touched : goal.breaking-requires-clause-touched
breaking-requires-clause-touched c =
    subst (AreWhereTouched c.args.old.now.view.now c.args.old.now.forest.now c.args.new.now.view.now c.args.new.now.forest.now) (sym c.as_slice.ensures.value) c.in_ok-touched.ensures

pub parts_by_breaking-requires-clause-carriage : goal.parts_by_breaking-requires-clause-carriage
parts_by_breaking-requires-clause-carriage c = subst (λ o. ForSome o (IsCarriageOf c.args.new.now)) (sym c.as_ref.ensures.value) c.in_ok-carriage.ensures

pub parts_by_breaking-requires-clause-as_long : goal.parts_by_breaking-requires-clause-as_long
parts_by_breaking-requires-clause-as_long c = c.as_slice-4.ensures.len ∙ c.in_ok-flags.ensures.as_long

pub parts_by_breaking-requires-clause-others : goal.parts_by_breaking-requires-clause-others
parts_by_breaking-requires-clause-others c =
    subst (λ (flags : List Bool). (class : ℕ) → get_or flags class true ≡ false → HasNoParts c.args.old.now c.args.new.now (get_or c.args.baseline.now.classes.firsts.items class 0 + 1)) (sym c.as_slice-4.ensures.value)
    c.in_ok-flags.ensures.others

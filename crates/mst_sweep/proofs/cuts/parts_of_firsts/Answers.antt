use Rattle.std.proofs.Common.{◌≡◌, ◌+◌, ℕ, Bool, List, false, true, get_or, length, sym, subst, ap, ◌∙◌}
use Rattle.std.specs.Option.{ForSome}
use Rattle.mst_sweep.specs.Breaking.{HasNoParts, IsCarriageOf}
use Rattle.mst_sweep.proofs.cuts.parts_of_firsts.Goals as goal

pub parts_of_breaking-requires-clause-carriage : goal.parts_of_breaking-requires-clause-carriage
parts_of_breaking-requires-clause-carriage c = subst (λ o. ForSome o (IsCarriageOf c.args.new.now)) (sym c.as_ref.ensures.value) c.in_ok-carriage.ensures

pub parts_of_breaking-requires-clause-as_long : goal.parts_of_breaking-requires-clause-as_long
parts_of_breaking-requires-clause-as_long c = c.as_slice-breaking.ensures.len ∙ c.in_ok-flags.ensures.as_long

pub parts_of_breaking-requires-clause-others : goal.parts_of_breaking-requires-clause-others
parts_of_breaking-requires-clause-others c =
    subst (λ (flags : List Bool). (class : ℕ) → get_or flags class true ≡ false → HasNoParts c.args.old.now c.args.new.now (get_or c.args.baseline.now.classes.firsts.items class 0 + 1)) (sym c.as_slice-breaking.ensures.value)
    c.in_ok-flags.ensures.others

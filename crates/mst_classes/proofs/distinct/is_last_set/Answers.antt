use Rattle.std.proofs.Common.{◌≡◌, ◌-◌, length, subst, sym, ◌∙◌, arith}
use Rattle.std.specs.List.{Contains}
use Rattle.mst_classes.proofs.Told.{same_sets}
use Rattle.mst_classes.proofs.distinct.is_last_set.Goals as goal

pub returns-then-count-gt0 : goal.returns-then-count-gt0
returns-then-count-gt0 c e =
    let sets = c.args.sets.now in
    let last = c.index-sets-count.result in
    let same : last ≡ c.args.set.now = same_sets last c.args.set.now (sym c.eq.ensures ∙ e) in
    subst (Contains sets) same (length sets - 1, omega (arith, c.if-count-gt0.true), sym c.index-sets-count.is)

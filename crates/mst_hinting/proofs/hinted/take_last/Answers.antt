use Rattle.std.proofs.Common.{[], sym, subst}
use Rattle.mst_io.specs.Held.{ending}
use Rattle.mst_hinting.specs.Hinted.{IsTold}
use Rattle.mst_hinting.proofs.Tells.{told_nothing}
use Rattle.mst_hinting.proofs.hinted.take_last.Goals as goal

pub returns-then-is_empty-clause-told : goal.returns-then-is_empty-clause-told
returns-then-is_empty-clause-told c past kept =
    let out = c.args.out.now.items in
    subst (λ held. IsTold past held (ending held) c.args.hints.now [] out out) (sym (c.is_empty.ensures.0 c.if-is_empty.true))
    (told_nothing past [] c.args.hints.now out kept)

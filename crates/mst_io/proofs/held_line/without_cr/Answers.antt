use Rattle.std.proofs.Common.{arith, length, ◌-◌}
use Rattle.mst_io.proofs.Cuts.{drop_cr-cut, drop_cr-kept, drop_cr-empty}
use Rattle.mst_io.proofs.held_line.without_cr.Goals as goal

pub returns-then-len-eq0 : goal.returns-then-len-eq0
returns-then-len-eq0 c = drop_cr-empty c.args.line.now (omega arith)

pub returns-then-line-len-eq13 : goal.returns-then-line-len-eq13
returns-then-line-len-eq13 c = drop_cr-cut c.args.line.now (length c.args.line.now - 1) (omega arith) c.if-line-len-eq13.true

pub returns : goal.returns
returns c = drop_cr-kept c.args.line.now (length c.args.line.now - 1) (omega arith) c.if-line-len-eq13.false

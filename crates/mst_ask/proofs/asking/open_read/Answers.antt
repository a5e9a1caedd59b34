use Rattle.std.proofs.Common.{inl}
use Rattle.mst_drive.proofs.Words.{front_as}
use Rattle.mst_ask.proofs.Opened.{broken_end, lines_printed, net_loaded, opened}
use Rattle.mst_ask.proofs.asking.open_read.Goals as goal

pub returns-in-Err-clause-fault : goal.returns-in-Err-clause-fault
returns-in-Err-clause-fault g c = (inl c.in-Err.ensures.some, front_as _ _ _ _ (λ text h. inl h) c.in-Err.ensures.err)

pub returns-then-not-script-clause-fault : goal.returns-then-not-script-clause-fault
returns-then-not-script-clause-fault g c = (c.if-not-script.true, lines_printed c.args.form _ _ _ c.in-Ok.engine c.in-Ok.ensures.ok)

pub returns-then-engine-ne0-clause-fault : goal.returns-then-engine-ne0-clause-fault
returns-then-engine-ne0-clause-fault g c = (c.if-not-script.false, lines_printed c.args.form _ _ _ c.in-Ok.engine c.in-Ok.ensures.ok)

pub new-standing-requires-clause-net : goal.new-standing-requires-clause-net
new-standing-requires-clause-net g c = net_loaded c.args.form c.args.script _ _ c.in-Ok.engine c.in-Ok.ensures.ok c.if-not-script.false c.if-engine-ne0.false

pub returns-in-Err-put_done-clause-fault : goal.returns-in-Err-put_done-clause-fault
returns-in-Err-put_done-clause-fault g c = broken_end c.args.form c.args.script _ _ c.in-Ok.engine c.in-Ok.ensures.ok c.if-not-script.false c.if-engine-ne0.false _ c.in-Err-put_done.ensures.err

pub returns-in-Ok-put_done-clause-ok : goal.returns-in-Ok-put_done-clause-ok
returns-in-Ok-put_done-clause-ok g c =
    let stands = c.new-standing.ensures in
    opened c.args.form c.args.script _ _ c.in-Ok.engine c.in-Ok.ensures.ok c.if-not-script.false c.if-engine-ne0.false _ c.new-standing.result c.new.result c.in-Ok.ensures.few c.in-Ok-put_done.ensures.ok
    stands.kept stands.form stands.version stands.standing c.new.ensures

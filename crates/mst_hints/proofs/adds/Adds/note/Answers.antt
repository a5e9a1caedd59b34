use Rattle.mst_hints.proofs.adds.Adds.note.Goals as goal

pub returns-then-made-clause-noted : goal.returns-then-made-clause-noted
returns-then-made-clause-noted c = rw c.in-Some.is (rw c.if-made.true (c.forget.ensures.noted c.args.number))

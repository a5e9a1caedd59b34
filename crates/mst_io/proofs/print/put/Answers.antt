use Rattle.std.proofs.Common.{sym, ap, ◌∙◌, ◌++◌, take, drop}
use Rattle.std.proofs.KnownBytes.{Appends-trans}
use Rattle.mst_io.proofs.Known.{Appends-kept, front_more}
use Rattle.mst_io.proofs.Calls.{works_on}
use Rattle.mst_io.proofs.print.put.Goals as goal

pub loop-rest-preserved : goal.loop-rest-preserved
loop-rest-preserved g c =
    let was = c.loop-rest.invariant in
    let rest = c.loop-rest.rest.now in
    record {
      front = was.front ++ take c.in-Ok.count rest;
      whole = front_more _ was.front rest c.in-Ok.count was.whole ∙ ap (λ l. (was.front ++ take c.in-Ok.count rest) ++ l) (sym c.split_at.ensures.back);
      written = Appends-trans _ _ _ was.front (take c.in-Ok.count rest) was.written c.in-Ok.ensures.bytes;
      works = works_on _ _ _ c.in-Ok.count _ was.works c.in-Ok.ensures.told c.if-count-eq0.false;
      lent = c.in-Ok.ensures.lent ∙ was.lent;
    }

pub returns-in-Err-clause-err : goal.returns-in-Err-clause-err
returns-in-Err-clause-err g c =
    let was = c.loop-rest.invariant in
    record { front = was.front; rest = c.loop-rest.rest.now; whole = was.whole; written = Appends-kept _ _ _ was.front was.written c.in-Err.ensures.bytes }

pub returns-then-count-eq0-clause-err : goal.returns-then-count-eq0-clause-err
returns-then-count-eq0-clause-err g c =
    let was = c.loop-rest.invariant in
    let rest = c.loop-rest.rest.now in
    record {
      front = was.front ++ take c.in-Ok.count rest;
      rest = drop c.in-Ok.count rest;
      whole = front_more _ was.front rest c.in-Ok.count was.whole;
      written = Appends-trans _ _ _ was.front (take c.in-Ok.count rest) was.written c.in-Ok.ensures.bytes;
    }

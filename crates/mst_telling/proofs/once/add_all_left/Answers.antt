use Rattle.std.proofs.Common.{◌≡◌, ◌∙◌, ◌+◌, ◌++◌, Bool, List, ap, arith, map, sym, take}
use Rattle.std.specs.List.{count_by, flat_map}
use Rattle.std.proofs.lemmas.List.{take_all}
use Rattle.mst_rows.specs.Rows.{Row}
use Rattle.mst_graph.specs.Lists.{has_any}
use Rattle.mst_telling.specs.Judged.{AreTexts, found_at}
use Rattle.mst_telling.specs.Once.{left_out}
use Rattle.mst_telling.specs.Told.{Found}
use Rattle.mst_telling.proofs.GoesOn.{counted_mapped, flat_mapped, more, one_if, one_few, whole}
use Rattle.mst_telling.proofs.once.add_all_left.Goals as goal

pub loop-finding-preserved : goal.loop-finding-preserved
loop-finding-preserved c =
    let folding = c.args.folding.now in
    let found = c.args.found.now in
    let l = c.loop-finding in
    let f = c.finding-item.result in
    let is = c.in_ok-has_left.has_left in
    let said = c.in_ok-has_left.ensures in
    record {
      counted = λ nows folds.
          let test : Found → Bool = λ f. has_any (left_out folding.number folding.scope.now nows f) in
          (λ i. l.invariant.counted nows folds i + (c.one_if-count.ensures ∙ ap one_if (said.is nows folds)) i) ∙ sym (counted_mapped test (found_at c.args.n) found l.finding-index f c.loop-finding-test.true c.finding-item.is);
      few = omega (arith, l.invariant.few, one_few is, c.one_if-count.ensures);
      added = λ nows rows folds are.
          more (λ (all : List Row). AreTexts all c.add_left.new.texts) (flat_mapped (left_out folding.number folding.scope.now nows) (found_at c.args.n)) found l.finding-index f rows c.loop-finding-test.true c.finding-item.is
          (said.added nows (rows ++ flat_map (left_out folding.number folding.scope.now nows) (map (found_at c.args.n) (take l.finding-index found))) folds (l.invariant.added nows rows folds are));
    }

pub returns-clause-count : goal.returns-clause-count
returns-clause-count c nows folds =
    let folding = c.args.folding.now in
    c.loop-finding.invariant.counted nows folds
    ∙ ap (λ l. count_by (λ (f : Found). has_any (left_out folding.number folding.scope.now nows f)) (map (found_at c.args.n) l)) (take_all c.loop-finding.finding-index c.args.found.now c.loop-finding-test.false)

pub returns-clause-added : goal.returns-clause-added
returns-clause-added c nows rows folds are =
    let folding = c.args.folding.now in
    whole (λ (all : List Row). AreTexts all c.loop-finding.texts) (flat_mapped (left_out folding.number folding.scope.now nows) (found_at c.args.n)) c.args.found.now c.loop-finding.finding-index rows c.loop-finding-test.false
    (c.loop-finding.invariant.added nows rows folds are)

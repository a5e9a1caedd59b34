use Rattle.std.proofs.Common.{◌+◌, ◌++◌, ◌∷◌, [], ◌∙◌, length, sym, ap, append-nil, ⊎_elim}
use Rattle.std.proofs.lemmas.Bool.{cases_lt}
use Rattle.mst_ids.specs.Vids.{run_text}
use Rattle.mst_edits.proofs.Cutting.{first_run, begin, next_run, put, part, done}
use Rattle.mst_edits.proofs.MovesInTurn.{moves_of, one_line}
use Rattle.mst_edits.proofs.moves.add_moves.Goals as goal

pub begun-line-requires-clause-least : goal.begun-line-requires-clause-least
begun-line-requires-clause-least c = (first_run c.args.name.now c.args.tree c.args.vids.now c.in-Some.run' c.contains-set.ensures.set c.in-Some.ensures.runs).0

pub begun-line-requires-clause-order : goal.begun-line-requires-clause-order
begun-line-requires-clause-order c = (first_run c.args.name.now c.args.tree c.args.vids.now c.in-Some.run' c.contains-set.ensures.set c.in-Some.ensures.runs).1

pub loop-run-init : goal.loop-run-init
loop-run-init c =
    let line = c.begun-line in (
      [],
      begin c.args.name.now c.args.tree c.args.vids.now line.result.vids line.result.length c.in-Some.run' c.contains-set.ensures.set c.in-Some.ensures.runs line.ensures.vids line.ensures.long line.ensures.short,
      sym (append-nil c.args.moves.now.items),
    )

pub add_next-requires-clause-least : goal.add_next-requires-clause-least
add_next-requires-clause-least c =
    (next_run c.args.name.now c.args.tree c.loop-run.invariant.0 c.args.vids.now c.loop-run.line.vids c.loop-run.line.length c.loop-run.next c.loop-run.invariant.1 c.in-Some-run_from.run' c.in-Some-run_from.ensures.runs).0

pub add_next-requires-clause-order : goal.add_next-requires-clause-order
add_next-requires-clause-order c =
    (next_run c.args.name.now c.args.tree c.loop-run.invariant.0 c.args.vids.now c.loop-run.line.vids c.loop-run.line.length c.loop-run.next c.loop-run.invariant.1 c.in-Some-run_from.run' c.in-Some-run_from.ensures.runs).1

pub loop-run-preserved : goal.loop-run-preserved
loop-run-preserved c =
    let name = c.args.name.now in
    let tree = c.args.tree in
    let vids = c.args.vids.now in
    let line = c.loop-run.line in
    let before = c.loop-run.invariant.0 in
    let p = c.loop-run.invariant.1 in
    let run = c.in-Some-run_from.run' in
    let here = c.in-Some-run_from.ensures.runs in
    let new = c.in_ok-line.line in
    ⊎_elim
    (λ large.
    let is = c.in_ok-line.ensures.next large in (
      before ++ (p.first ∷ p.more) ∷ [],
      part name tree before vids line.vids line.length c.loop-run.next p run here new.vids new.length is.0 is.1 is.2 large,
      one_line tree before (p.first ∷ p.more) line.vids c.args.moves.now.items c.loop-run.moves.items c.add_next.new.moves.items p.is c.loop-run.invariant.2 (c.in_ok-line.ensures.adds large),
    ))
    (λ small.
    let is = c.in_ok-line.ensures.longer (p.first ∷ p.more) p.is small in (
      before,
      put name tree before vids line.vids line.length c.loop-run.next p run here new.vids new.length is.0 is.1 small,
      c.in_ok-line.ensures.waits small ∙ c.loop-run.invariant.2,
    ))
    (cases_lt 4096 (line.length + 1 + length (run_text run)))

pub returns : goal.returns
returns c =
    let name = c.args.name.now in
    let tree = c.args.tree in
    let line = c.loop-run.line in
    let before = c.loop-run.invariant.0 in
    let p = c.loop-run.invariant.1 in
    one_line tree before (p.first ∷ p.more) line.vids c.args.moves.now.items c.loop-run.moves.items c.push.new.self.items p.is c.loop-run.invariant.2 c.in_ok-push.ensures.items
    ∙ ap (λ lines. c.args.moves.now.items ++ moves_of tree lines) (sym (done name tree before c.args.vids.now line.vids line.length c.loop-run.next p c.in_default-run_from.ensures.runs))

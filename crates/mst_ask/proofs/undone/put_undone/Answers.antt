use Rattle.std.proofs.Common.{◌++◌, ◌∷◌, [], drop, refl, subst, arith}
use Rattle.mst_rows.specs.Cells.{word}
use Rattle.mst_ask.specs.Kept.{line_row, rows_of}
use Rattle.mst_ask.proofs.Rows.{rows_more}
use Rattle.mst_ask.proofs.undone.put_undone.Goals as goal

pub loop-left-preserved : goal.loop-left-preserved
loop-left-preserved g c =
    let left = c.loop-left.left in
    let lines = c.args.lines.now in
    record {
      few = omega (arith, c.loop-left.invariant.few);
      grew = λ first before grew.
          rows_more (g.R.Rows.grew first c.put.new.rows) lines left c.index-lines-left.result before (omega (arith, c.loop-left-test.true)) c.loop-left.invariant.few c.index-lines-left.is
          (subst (λ line. g.R.Rows.grew first c.put.new.rows ((before ++ rows_of (drop left lines)) ++ line_row line ∷ [])) c.as_slice.ensures.value
          (c.in_ok-put.ensures first (before ++ rows_of (drop left lines)) (word c.as_slice.result.now ∷ []) (refl, tt) (c.loop-left.invariant.grew first before grew)));
    }

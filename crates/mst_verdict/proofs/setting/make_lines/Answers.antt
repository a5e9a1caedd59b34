use Rattle.std.proofs.Common.{◌++◌, List, arith, subst, append_assoc, ap, sym, ◌∙◌, take}
use Rattle.mst_rows.specs.Rows.{Row}
use Rattle.mst_verdict.specs.Setting.{refused_lines, rows_of_line}
use Rattle.mst_verdict.specs.declared.setting.Made.{Made}
use Rattle.mst_verdict.proofs.Made.{few_made, one_made, rows_taken}
use Rattle.mst_verdict.proofs.setting.make_lines.Goals as goal

pub overflow_add-refused : goal.overflow_add-refused
overflow_add-refused g c =
    let so_far : Made = record { refused = c.loop-line.refused; regions_stand = c.loop-line.regions_stand } in
    omega (arith, few_made c.args.step c.args.network.now c.loop-line.network c.make_line.new.network c.args.lines.now c.loop-line.line-index c.line-item.result c.loop-line-test.true c.line-item.is so_far c.in_ok-made.made c.loop-line.invariant.made c.in_ok-made.ensures.made)

pub loop-line-preserved : goal.loop-line-preserved
loop-line-preserved g c =
    let old = c.args.network.now in
    let now = c.loop-line.network in
    let lines = c.args.lines.now in
    let i = c.loop-line.line-index in
    let line = c.line-item.result in
    let so_far : Made = record { refused = c.loop-line.refused; regions_stand = c.loop-line.regions_stand } in
    let was = c.loop-line.invariant in
    record {
      made = one_made c.args.step old now c.make_line.new.network lines i line c.loop-line-test.true c.line-item.is so_far c.in_ok-made.made was.made c.in_ok-made.ensures.made;
      put = λ first rows grew.
          subst (λ (more : List Row). g.R.Rows.grew first c.make_line.new.out (rows ++ more))
          (ap (λ net. refused_lines c.args.step old.net (take i lines) ++ rows_of_line c.args.step net line) was.made.net_is ∙ sym (rows_taken c.args.step old now c.make_line.new.network lines i line c.loop-line-test.true c.line-item.is))
          (subst (λ (all : List Row). g.R.Rows.grew first c.make_line.new.out all) (append_assoc rows (refused_lines c.args.step old.net (take i lines)) (rows_of_line c.args.step now.net line))
          (c.in_ok-made.ensures.put first (rows ++ refused_lines c.args.step old.net (take i lines)) (was.put first rows grew)));
    }

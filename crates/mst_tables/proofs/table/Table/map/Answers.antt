use Rattle.std.proofs.Common.{◌∙◌, ◌+◌, ◌*◌, ◌-◌, ap, arith}
use Rattle.mst_tables.specs.Table.{mapped}
use Rattle.mst_tables.proofs.TableLemmas.{all_mapped, passed, composed}
use Rattle.mst_tables.proofs.table.Table.map.Goals.{then-not-misses+else-loop-index-test, else-not-misses}
use Rattle.mst_tables.proofs.table.Table.map.Goals as goal

pub loop-block-preserved : goal.loop-block-preserved
loop-block-preserved c = elim c.if-not-misses.branch [
  | then-not-misses+else-loop-index-test w ↦ (
      let e = w.min-end.ensures in
      let f = w.from-then-not-misses.ensures in
      let m = w.max-first.ensures in
      let k = w.from.ensures in
      let low = w.loop-index.auto.index in
      let past = w.loop-index-test.false in
      let t = c.loop-block-test.true in
      let b = c.loop-block.block in
      let i = w.loop-index.index in
      rw w.self-inside-is (passed c.self.inside.trees w.loop-index.self-inside.trees c.args.vids.now c.args.tree i (64 * (b + 1) - 1) (let l = w.loop-index.auto.index-end (omega (arith, e, f, m, k, t)) in omega (arith, e, f, l)) (λ n high less small. absurd (omega (arith, e, f, past, high, less, small)))
      (composed c.self.inside.trees c.loop-block.self-inside.trees w.loop-index.self-inside.trees c.args.vids.now c.args.tree (64 * b - 1) i (omega (arith, m, k, low)) c.loop-block.invariant w.loop-index.invariant)))
  | else-not-misses w ↦ rw w.self-inside-is (passed c.self.inside.trees c.loop-block.self-inside.trees c.args.vids.now c.args.tree (64 * c.loop-block.block - 1) (64 * (c.loop-block.block + 1) - 1) (omega arith) (λ n high low small. c.misses.ensures w.if-not-misses.false (n + 1) (omega arith)) c.loop-block.invariant)
]

pub returns : goal.returns
returns c =
    all_mapped c.self.inside.trees c.loop-block.self-inside.trees c.args.vids.now c.args.tree (64 * c.loop-block.block - 1) (omega arith) c.loop-block.invariant
    ∙ ap (mapped c.args.vids.now c.args.tree) c.self.view_is

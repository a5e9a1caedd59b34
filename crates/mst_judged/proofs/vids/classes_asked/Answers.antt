use Rattle.std.proofs.Common.{◌≡◌, ◌<◌, Bool, length, subst, sym, ◌∙◌, arith}
use Rattle.std.proofs.Math.ListN.{length-set}
use Rattle.mst_judged.proofs.VidFlags.{AreFlagged, flags_all, flags_more}
use Rattle.mst_judged.proofs.vids.classes_asked.Goals as goal

pub loop-vid-preserved : goal.loop-vid-preserved
loop-vid-preserved c =
    let l = c.loop-vid in
    let class = c.class_of.result in
    let long : length l.flags.items ≡ c.args.count = l.invariant.as_long in
    record {
      as_long = omega (arith, length-set {A = Bool});
      asked = flags_more c.args.numbers.now c.as_slice-vid-items.result.now l.vid-index c.vid-item.result c.loop-vid-test.true c.vid-item.is l.flags.items class c.class_of.ensures.value
          (subst (λ n. class < n) (sym long) c.class_of.ensures.below) l.invariant.asked;
    }

pub returns-clause-asked : goal.returns-clause-asked
returns-clause-asked c =
    let l = c.loop-vid in
    subst (AreFlagged c.args.numbers.now l.flags.items) (c.as_slice-vid-items.ensures.value ∙ c.in_ok-vids.ensures)
    (flags_all c.args.numbers.now c.as_slice-vid-items.result.now l.vid-index l.flags.items c.loop-vid-test.false l.invariant.asked)

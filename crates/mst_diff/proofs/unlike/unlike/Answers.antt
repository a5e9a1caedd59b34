use Rattle.std.proofs.Common.{ℕ, ◌+◌, get_or, subst, sym, ◌∙◌}
use Rattle.std.proofs.lemmas.Result.{IfOk-weaker}
use Rattle.mst_vlan.specs.Carried.{AreFlags, with_trees}
use Rattle.mst_diff.specs.Seen.{HaveSameEnds}
use Rattle.mst_diff.proofs.SameIslands.{none_unlike}
use Rattle.mst_diff.proofs.unlike.unlike.Goals as goal

pub returns-then-branch : goal.returns-then-branch
returns-then-branch c =
    let h = c.args.both.now in
    let s = h.old.now in
    let t = h.new.now in
    let ends : HaveSameEnds s.view t.view =
    subst (λ v. HaveSameEnds v t.view) c.view.ensures (subst (λ w. HaveSameEnds c.view.result.now w) c.view-2.ensures (c.in_ok-have_same_ends.ensures c.if-branch.true)) in
    IfOk-weaker c.differing.result _ _
    (λ flags told.
    let are : AreFlags (with_trees s) (with_trees t) c.args.places.now flags.items =
    subst (λ w. AreFlags w (with_trees t) c.args.places.now flags.items) h.is_before (subst (λ w. AreFlags h.before.now w c.args.places.now flags.items) h.is_after told) in
    record {
      as_long = are.as_long;
      none = λ i below e. none_unlike s t c.known.ensures c.known-2.ensures c.islands_of_vid.ensures.some ends (get_or c.args.places.now i 0 + 1) (are.alike i below e);
    }) c.differing.ensures

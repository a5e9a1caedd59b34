use Rattle.std.proofs.Common.{◌≡◌, ◌++◌, [], map, ap, ◌∙◌, arith}
use Rattle.mst_changes.proofs.Gathered.{more_after, trees_done}
use Rattle.mst_diff.specs.Seen.{roots_of, row_of_root}
use Rattle.mst_diff.proofs.all_roots.changed_roots.Goals as goal
use Rattle.mst_diff.proofs.all_roots.changed_roots.Goals.{in-Some+in_ok-add_roots_in, in_default}

pub loop-number-preserved : goal.loop-number-preserved
loop-number-preserved c =
    let l = c.loop-number in
    let made = roots_of c.args.change.now.old.now c.args.change.now.new.now in
    elim c.match-new.branch [
      | in-Some+in_ok-add_roots_in w ↦
          let same : w.in-Some.tree ≡ l.number = (w.in-Some.ensures {u = tt}).1 in
          let more : map row_of_root w.add_roots_in.new.changes.items ≡ map row_of_root l.changes.items ++ made l.number = w.in_ok-add_roots_in.ensures {u = tt} ∙ ap (λ tree. map row_of_root l.changes.items ++ made tree) same in
          ap (λ r. map row_of_root r.items) w.changes-is ∙ more_after made l.number [] (map row_of_root l.changes.items) (map row_of_root w.add_roots_in.new.changes.items) l.invariant more
      | in_default w ↦
          let below = c.loop-number-test.true in
          absurd (w.in_default.ensures {u = tt} (omega arith))
    ]

pub returns : goal.returns
returns c =
    let l = c.loop-number in
    l.invariant ∙ trees_done (roots_of c.args.change.now.old.now c.args.change.now.new.now) l.number (omega arith)

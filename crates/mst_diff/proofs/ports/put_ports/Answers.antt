use Rattle.std.proofs.Common.{◌≡◌, ◌+◌, ◌++◌, ◌∙◌, List, refl, sym, ap, subst, append-nil, append_assoc, arith}
use Rattle.std.specs.List.{flat_map, range_with_len}
use Rattle.mst_changes.specs.PortChanges.{counted}
use Rattle.mst_changes.proofs.Counted.{counted_both}
use Rattle.mst_changes.proofs.Gathered.{tree_more, trees_done}
use Rattle.mst_rows.specs.Rows.{Row}
use Rattle.mst_diff.specs.Seen.{ports_of}
use Rattle.mst_diff.proofs.ports.put_ports.Goals as goal
use Rattle.mst_diff.proofs.ports.put_ports.Goals.{in-Some+in_ok-put, in_default}

pub loop-number-init : goal.loop-number-init
loop-number-init g c first rows grew = (refl, subst (g.R.Rows.grew first c.args.out.now) (sym (append-nil rows)) grew)

pub loop-number-preserved : goal.loop-number-preserved
loop-number-preserved g c = λ first rows grew.
    let l = c.loop-number in
    let made = ports_of c.args.change.now.old.now c.args.change.now.new.now in
    elim c.match-new.branch [
      | in-Some+in_ok-put w ↦
          let so_far : List Row = flat_map made (range_with_len 0 l.number) in
          let same : w.in-Some.tree ≡ l.number = (w.in-Some.ensures {u = tt}).1 in
          let more : so_far ++ made w.in-Some.tree ≡ flat_map made (range_with_len 0 (l.number + 1)) = tree_more made l.number so_far (so_far ++ made w.in-Some.tree) refl (ap (λ tree. so_far ++ made tree) same) in
          let before = l.invariant first rows grew in
          let put = w.in_ok-put.ensures first (rows ++ so_far) before.1 in (
            w.count-is ∙ w.saturating_add-count.ensures ∙ counted_both so_far (made w.in-Some.tree) l.count w.in_ok-put.put before.0 put.0 ∙ ap counted more,
            subst (λ r. g.R.Rows.grew first r (rows ++ flat_map made (range_with_len 0 (l.number + 1)))) (sym w.out-is)
                (subst (g.R.Rows.grew first w.put_ports_in.new.out) (append_assoc rows so_far (made w.in-Some.tree) ∙ ap (λ (own : List Row). rows ++ own) more) put.1),
          )
      | in_default w ↦
          let below = c.loop-number-test.true in
          absurd (w.in_default.ensures {u = tt} (omega arith))
    ]

pub returns : goal.returns
returns g c first rows grew =
    let l = c.loop-number in
    let done = trees_done (ports_of c.args.change.now.old.now c.args.change.now.new.now) l.number (omega arith) in
    let all = l.invariant first rows grew in
    (all.0 ∙ ap counted done, subst (λ (own : List Row). g.R.Rows.grew first l.out (rows ++ own)) done all.1)

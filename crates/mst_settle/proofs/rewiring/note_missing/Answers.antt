use Rattle.std.proofs.Common.{rules, ◌≡◌, ◌≤◌, ◌++◌, ◌∷◌, [], length, IsTrue, ap, arith}
use Rattle.std.proofs.lemmas.List.Elements.{Contains-append_left}
use Rattle.mst_topology.specs.Topology.{TreePort}
use Rattle.mst_settle.proofs.Marked.{all_there}
use Rattle.mst_settle.proofs.Noted.{IsNoted, found_more, noted_more}
use Rattle.mst_settle.proofs.rewiring.note_missing.Goals.{then-not-is_wired+in_ok-push, else-not-is_wired}
use Rattle.mst_settle.proofs.rewiring.note_missing.Goals as goal

pub loop-port-preserved : goal.loop-port-preserved
loop-port-preserved g c =
    let low = rw c.ports-port-items.ensures at c.loop-port-test.true in
    let is = rw c.ports-port-items.ensures at c.port-item.is in
    let before = c.loop-port.invariant in
    elim c.if-not-is_wired.branch [
      | then-not-is_wired+in_ok-push w ↦
          let number = ap (λ (q : TreePort _ _ _ g.row.M-Port.Denot). q.number) c.port.view_is in
          let pushed : c.if-not-is_wired.numbers.items ≡ c.loop-port.numbers.items ++ c.port.inside.number ∷ [] = rw (ap (λ v. v.items) w.numbers-is) w.in_ok-push.ensures.items in
          let more = rw number at pushed in
          record {
            kept = λ n m. rw more (Contains-append_left c.loop-port.numbers.items (c.port-item.result.number ∷ []) n (before.kept n m));
            noted = rw more (noted_more c.args.here.now c.args.there.now c.loop-port.numbers.items c.loop-port.port-index c.port-item.result low is before.noted);
          }
      | else-not-is_wired w ↦
          let same = ap (λ v. v.items) w.numbers-is in
          let yes : IsTrue c.is_wired.result = search rules in
          record {
            kept = λ n m. rw same (before.kept n m);
            noted = rw same (found_more c.args.here.now c.args.there.now c.loop-port.numbers.items c.loop-port.port-index c.port-item.result low is before.noted (c.is_wired.ensures yes));
          }
    ]

pub returns : goal.returns
returns g c =
    let e : length c.ports-port-items.result.now ≡ length c.args.here.now = ap length c.ports-port-items.ensures in
    let end : length c.args.here.now ≤ c.loop-port.port-index = omega arith in
    record { kept = c.loop-port.invariant.kept; noted = λ p w. all_there (IsNoted c.args.there.now c.loop-port.numbers.items) c.args.here.now c.loop-port.port-index p end c.loop-port.invariant.noted w }

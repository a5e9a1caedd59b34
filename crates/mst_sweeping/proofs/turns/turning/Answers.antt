use Rattle.std.proofs.Common.{◌≡◌, ℕ, Vec, Global, List, [], ◌∷◌, ◌++◌, map, sym, ap, ◌∙◌, arith}
use Rattle.std.specs.List.{filter}
use Rattle.mst_graph.specs.Lists.{has_any}
use Rattle.mst_sweeping.specs.Seen.{turning_of}
use Rattle.mst_sweeping.specs.Turns.{turned}
use Rattle.mst_sweeping.specs.declared.turns.TreeTurns.{TreeTurns}
use Rattle.mst_sweeping.proofs.TurnLists.{made_all, made_more}
use Rattle.mst_sweeping.proofs.turns.turning.Goals as goal
use Rattle.mst_sweeping.proofs.turns.turning.Goals.{in-Some+in_ok-bridges+in_ok-add_tree, in_default}

pub loop-number-preserved : goal.loop-number-preserved
loop-number-preserved c = λ a b n k is are of so.
    let l = c.loop-number in
    let at : ℕ → ℕ × List (List ℕ) = λ tree. (tree, turned a is.outcome b are.outcome tree) in
    let before = l.invariant a b n k is are of so in
    elim c.match-new.branch [
      | in-Some+in_ok-bridges+in_ok-add_tree w ↦
          let same : w.in-Some.tree ≡ l.number = (w.in-Some.ensures {u = tt}).1 in
          let bridges : w.in_ok-bridges.bridges.items ≡ turned a is.outcome b are.outcome l.number = w.in_ok-bridges.ensures a b n k is are of so ∙ ap (turned a is.outcome b are.outcome) same in
          ap (λ (r : Vec TreeTurns Global). map turning_of r.items) w.turning-is ∙ w.in_ok-add_tree.ensures ∙ (λ i. before i ++ filter (λ t. has_any t.1) ((same i, bridges i) ∷ []))
          ∙ sym (made_more (λ t. has_any t.1) at l.number)
      | in_default w ↦
          let below = c.loop-number-test.true in
          absurd (w.in_default.ensures {u = tt} (omega arith))
    ]

pub returns : goal.returns
returns c a b n k is are of so =
    c.loop-number.invariant a b n k is are of so ∙ made_all (λ t. has_any t.1) (λ tree. (tree, turned a is.outcome b are.outcome tree)) c.loop-number.number (omega arith)

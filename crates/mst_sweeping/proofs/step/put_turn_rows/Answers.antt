use Rattle.std.proofs.Common.{◌≡◌, Vec, Global, ℕ, List, [], ◌∷◌, ◌++◌, map, sym, ap, subst, ◌∙◌, take}
use Rattle.std.specs.List.{filter, flat_map}
use Rattle.std.proofs.lemmas.List.Concat.{flat_map_single}
use Rattle.mst_graph.proofs.Splits.{map_of_map}
use Rattle.mst_rows.proofs.Loops.{rows_all, rows_more}
use Rattle.mst_rows.specs.Rows.{Row}
use Rattle.mst_sweeping.specs.Seen.{turning_of}
use Rattle.mst_sweeping.specs.StepText.{turn_row}
use Rattle.mst_sweeping.specs.Turns.{lists_of, same_bridges, trees_with}
use Rattle.mst_sweeping.specs.declared.turns.TreeTurns.{TreeTurns}
use Rattle.mst_sweeping.proofs.TurnLists.{trees_listed}
use Rattle.mst_sweeping.proofs.step.put_turn_rows.Goals as goal

pub loop-bridges-preserved : goal.loop-bridges-preserved
loop-bridges-preserved g c first rows grew =
    let turning : List TreeTurns = c.args.turning.now in
    let step = c.args.step.now in
    let lists : List (Vec (List ℕ) Global) = c.as_slice-bridges-items.result.now in
    let item : Vec (List ℕ) Global = c.bridges-item.result in
    let i : ℕ = c.loop-bridges.bridges-index in
    let f : Vec (List ℕ) Global → List Row = λ bridges. turn_row step (trees_with (map turning_of turning) bridges.items) bridges.items ∷ [] in
    let trees : c.as_slice-in-loop-bridges.result.now ≡ trees_with (map turning_of turning) item.items =
    c.as_slice-in-loop-bridges.ensures.value ∙ c.in_ok-trees.ensures
    ∙ ap (λ (bridges : List (List ℕ)). map (λ (t : TreeTurns). t.tree) (filter (λ (t : TreeTurns). same_bridges t.bridges.items bridges) turning)) c.as_slice.ensures.value ∙ trees_listed item.items turning in
    let row : turn_row step c.as_slice-in-loop-bridges.result.now c.as_slice-in-loop-bridges-2.result.now ≡ turn_row step (trees_with (map turning_of turning) item.items) item.items = λ k. turn_row step (trees k) (c.as_slice-in-loop-bridges-2.ensures.value k) in
    rows_more (g.R.Rows.grew first c.put_turn_row.new.out) f lists i item rows c.loop-bridges-test.true c.bridges-item.is
    (subst (λ (row : Row). g.R.Rows.grew first c.put_turn_row.new.out ((rows ++ flat_map f (take i lists)) ++ row ∷ [])) row
    (c.in_ok-put_turn_row.ensures first (rows ++ flat_map f (take i lists)) (c.loop-bridges.invariant first rows grew)))

pub returns : goal.returns
returns g c first rows grew =
    let turning : List (ℕ × List (List ℕ)) = map turning_of c.args.turning.now in
    let step = c.args.step.now in
    let lists : List (Vec (List ℕ) Global) = c.as_slice-bridges-items.result.now in
    let row_of : List (List ℕ) → Row = λ bridges. turn_row step (trees_with turning bridges) bridges in
    let f : Vec (List ℕ) Global → List Row = λ bridges. row_of bridges.items ∷ [] in
    let whole : flat_map f lists ≡ map row_of (lists_of turning) =
    flat_map_single (λ (bridges : Vec (List ℕ) Global). row_of bridges.items) lists ∙ sym (map_of_map row_of (λ (bridges : Vec (List ℕ) Global). bridges.items) lists)
    ∙ ap (map row_of) (ap (map (λ (bridges : Vec (List ℕ) Global). bridges.items)) c.as_slice-bridges-items.ensures.value ∙ c.in_ok-lists.ensures) in
    subst (λ (all : List Row). g.R.Rows.grew first c.loop-bridges.out (rows ++ all)) whole
    (rows_all (g.R.Rows.grew first c.loop-bridges.out) f lists c.loop-bridges.bridges-index rows c.loop-bridges-test.false (c.loop-bridges.invariant first rows grew))

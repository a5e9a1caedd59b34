-- The trees in which bridges turn, and the lists of these bridges, as a loop makes them.
use Rattle.std.proofs.Common.{◌≡◌, ℕ, ◌+◌, ◌<◌, Vec, Global, Bool, List, [], ◌∷◌, ◌++◌, length, map, take, get_or, sym, ap, ◌∙◌, arith}
use Rattle.std.specs.List.{filter, list_any, range_with_len}
use Rattle.std.proofs.lemmas.List.{map_push, take_more}
use Rattle.std.proofs.lemmas.List.Elements.{filter-append}
use Rattle.std.proofs.lemmas.List.Sums.{fold-append}
use Rattle.mst_graph.specs.Lists.{each_once, with_new}
use Rattle.mst_graph.proofs.Splits.{map_of_map}
use Rattle.mst_net.proofs.tables_lemmas.Rising.{range_more}
use Rattle.mst_plan.specs.forest.AllTrees.{all_trees}
use Rattle.mst_plan.proofs.forest_lemmas.AllTrees.{trees_are}
use Rattle.mst_plan.proofs.forest_lemmas.Lists.{filter_mapped}
use Rattle.mst_sweep.proofs.facts_lemmas.Lists.{list_any-map}
use Rattle.mst_sweeping.specs.Seen.{turning_of}
use Rattle.mst_sweeping.specs.Turns.{lists_of, same_bridges, trees_with}
use Rattle.mst_sweeping.specs.declared.turns.TreeTurns.{TreeTurns}

-- one more tree of those that pass, with what is made of it, and all of them
module _ {A : Type 0} (test : A → Bool) (made : ℕ → A) where
  pub made_more : (n : ℕ) → filter test (map made (range_with_len 0 (n + 1))) ≡ filter test (map made (range_with_len 0 n)) ++ filter test (made n ∷ [])
  made_more n =
      let same : 0 + n ≡ n = omega arith in
      ap (λ ts. filter test (map made ts)) (range_more 0 n ∙ ap (λ m. range_with_len 0 n ++ m ∷ []) same)
      ∙ ap (filter test) (map_push made (range_with_len 0 n) n) ∙ filter-append test (map made (range_with_len 0 n)) (made n ∷ [])

  pub made_all : (n : ℕ) → n ≡ 4095 → filter test (map made (range_with_len 0 n)) ≡ filter test (map made all_trees)
  made_all n e = ap (λ ts. filter test (map made ts)) (ap (range_with_len 0) e ∙ trees_are)

-- one more list
pub lists_more : (xs : List TreeTurns) (i : ℕ) (x : TreeTurns) → i < length xs → x ≡ get_or xs i x
    → with_new same_bridges (lists_of (map turning_of (take i xs))) x.bridges.items ≡ lists_of (map turning_of (take (i + 1) xs))
lists_more xs i x l is = sym
    (ap (λ ts. lists_of (map turning_of ts)) (take_more xs i x l ∙ ap (λ y. take i xs ++ y ∷ []) (sym is))
    ∙ ap lists_of (map_push turning_of (take i xs) x)
    ∙ ap (each_once same_bridges) (map_push (λ t. t.1) (map turning_of (take i xs)) (turning_of x))
    ∙ fold-append (with_new same_bridges) [] (map (λ t. t.1) (map turning_of (take i xs))) (x.bridges.items ∷ []))

-- whether a list is among some
pub among_lists : (bridges : List (List ℕ)) (lists : List (Vec (List ℕ) Global)) → list_any (λ (list : Vec (List ℕ) Global). same_bridges list.items bridges) lists ≡ list_any (λ other. same_bridges other bridges) (map (λ list. list.items) lists)
among_lists bridges lists = sym (list_any-map (λ other. same_bridges other bridges) (λ (list : Vec (List ℕ) Global). list.items) lists)

-- the trees of a list
pub trees_listed : (bridges : List (List ℕ)) (turning : List TreeTurns) → map (λ (t : TreeTurns). t.tree) (filter (λ (t : TreeTurns). same_bridges t.bridges.items bridges) turning) ≡ trees_with (map turning_of turning) bridges
trees_listed bridges turning =
    sym (map_of_map (λ (t : ℕ × List (List ℕ)). t.0) turning_of (filter (λ t. same_bridges t.bridges.items bridges) turning))
    ∙ ap (map (λ (t : ℕ × List (List ℕ)). t.0)) (sym (filter_mapped (λ (t : ℕ × List (List ℕ)). same_bridges t.1 bridges) turning_of turning))

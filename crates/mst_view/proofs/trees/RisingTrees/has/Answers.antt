use Rattle.std.proofs.Common.{rules, ◌≡◌, ◌∙◌, ℕ, List, subst}
use Rattle.std.specs.List.Sorted.{IsNonDecreasingBy, IsBinarySearchResult}
use Rattle.std.specs.Ordering.{nat_cmp}
use Rattle.std.proofs.lemmas.Fn.{always_returns_same}
use Rattle.mst_view.proofs.Rising.{found_by_halves}
use Rattle.mst_view.proofs.trees.RisingTrees.has.Goals as goal

pub returns : goal.returns
returns c =
    let searched : IsBinarySearchResult (λ t. nat_cmp t c.value.result) c.as_slice.result.now c.binary_search_by_key.result =
    c.binary_search_by_key.ensures.position (λ t. t) (always_returns_same _ (λ a r. r ≡ a.0.now) _ (λ a r q k. search rules)) in
    let trees : List ℕ → Type 0 = λ ts. IsBinarySearchResult (λ t. nat_cmp t c.args.tree) ts c.binary_search_by_key.result in
    c.is_ok.ensures.value ∙ found_by_halves c.args.self.now c.args.tree c.binary_search_by_key.result
    (subst (λ (ts : List ℕ). IsNonDecreasingBy (λ t. t) ts) c.self.view_is c.self.invariant)
    (subst trees (c.as_slice.ensures.value ∙ c.self.view_is) (subst (λ (tree : ℕ). IsBinarySearchResult (λ t. nat_cmp t tree) c.as_slice.result.now c.binary_search_by_key.result) c.value.ensures.value searched))

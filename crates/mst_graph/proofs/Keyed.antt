-- The keys of things.
use Rattle.std.proofs.Common.{◌≡◌, List, [], ◌∷◌, ◌++◌}
use Rattle.std.specs.List.{Contains}
use Rattle.std.proofs.lemmas.List.Elements.{All-contains, Contains-append_left, Contains-push, All-contains_itself, All-weaker}
use Rattle.mst_graph.specs.Adding.{AreKeyed}

module _ {T K : Type 0} (key : T → K) (pairs : List (T × K)) (thing : T) (k : K) (keyed : AreKeyed key (pairs ++ (thing, k) ∷ [])) where
  pub keyed_last : k ≡ key thing
  keyed_last = All-contains (λ (p : T × K). p.1 ≡ key p.0) (pairs ++ (thing, k) ∷ []) (thing, k) keyed (Contains-push pairs (thing, k))

  pub keyed_before : AreKeyed key pairs
  keyed_before =
      All-weaker (Contains pairs) (λ (p : T × K). p.1 ≡ key p.0)
      (λ p h. All-contains (λ (q : T × K). q.1 ≡ key q.0) (pairs ++ (thing, k) ∷ []) p keyed (Contains-append_left pairs ((thing, k) ∷ []) p h)) pairs (All-contains_itself pairs)

-- Calls of a source, one after another.
use Rattle.std.proofs.Common.{List, ℕ, [], ◌∷◌, ◌++◌, refl, subst}
use Rattle.mst_io.specs.Devices.{Chain, Hears, HearsWhere, Seen}

module _ {S : Type 0} (does : S → S → List ℕ → Seen → Type 0) where
  module _ (stand : S → Seen → Type 0) where
    -- no call
    pub Hears-none : (from : S) → HearsWhere does stand from from
    Hears-none from = ([], refl)

    -- one more behind some
    Chain-more : (chunks : List (List ℕ)) (from next now : S) (chunk : List ℕ) (sink : Seen) → Chain does stand from next chunks → stand next sink → does next now chunk sink → Chain does stand from now (chunks ++ chunk ∷ [])
    Chain-more [] from next now chunk sink same stands call = (now, sink, subst (λ s. stand s sink) same stands, subst (λ s. does s now chunk sink) same call, refl)
    Chain-more (first ∷ chunks) from next now chunk sink calls stands call = (calls.0, calls.1, calls.2, calls.3, Chain-more chunks calls.0 next now chunk sink calls.4 stands call)

    pub Hears-more : (from next now : S) (chunk : List ℕ) (sink : Seen) → HearsWhere does stand from next → stand next sink → does next now chunk sink → HearsWhere does stand from now
    Hears-more from next now chunk sink calls stands call = (calls.0 ++ chunk ∷ [], Chain-more calls.0 from next now chunk sink calls.1 stands call)

  -- what each of them stood by says more
  Chain-as : (these those : S → Seen → Type 0) → ((source : S) (sink : Seen) → these source sink → those source sink) → (chunks : List (List ℕ)) (from now : S) → Chain does these from now chunks → Chain does those from now chunks
  Chain-as these those are [] from now same = same
  Chain-as these those are (chunk ∷ chunks) from now calls = (calls.0, calls.1, are from calls.1 calls.2, calls.3, Chain-as these those are chunks calls.0 now calls.4)

  pub Hears-as : (these those : S → Seen → Type 0) → ((source : S) (sink : Seen) → these source sink → those source sink) → (from now : S) → HearsWhere does these from now → HearsWhere does those from now
  Hears-as these those are from now calls = (calls.0, Chain-as these those are calls.0 from now calls.1)

  -- or nothing of that
  pub Hears-plain : (stand : S → Seen → Type 0) (from now : S) → HearsWhere does stand from now → Hears does from now
  Hears-plain stand from now calls = Hears-as stand (λ source sink. Unit {0}) (λ source sink h. tt) from now calls

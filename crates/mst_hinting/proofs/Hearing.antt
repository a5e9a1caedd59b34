-- What calls of a source that listens do, one after another.
use Rattle.std.proofs.Common.{◌≡◌, ℕ, Bool, List, [], ◌∷◌, ◌++◌, sym, ap, subst, ◌∙◌}
use Rattle.mst_io.specs.Devices.{Seen, Chain, Hears}
use Rattle.mst_hints.specs.declared.whose.Script.{Script}
use Rattle.mst_hinting.specs.Listening.{Stands, Listens}
use Rattle.mst_hinting.specs.declared.listening.Hinting.{Hinting}

-- whatever stands before a call
abbrev Any : {S : Type 0} → S → Seen → Type 0
Any source sink = Unit {0}

module _ {S E : Type 0} (source_of : S → Seen) (errors_of : E → Seen) where
  errors_chain : (chunks : List (List ℕ)) (from now : Hinting S E) → Chain (Listens source_of errors_of) Any from now chunks → now.errors.ghost_name ≡ from.errors.ghost_name
  errors_chain [] from now same = ap (λ h. h.errors.ghost_name) same
  errors_chain (chunk ∷ chunks) from now calls = errors_chain chunks calls.0 now calls.4 ∙ calls.3.errors

  source_chain : (chunks : List (List ℕ)) (from now : Hinting S E) → Chain (Listens source_of errors_of) Any from now chunks → now.source.ghost_name ≡ from.source.ghost_name
  source_chain [] from now same = ap (λ h. h.source.ghost_name) same
  source_chain (chunk ∷ chunks) from now calls = source_chain chunks calls.0 now calls.4 ∙ calls.3.source

  lent_errors_chain : (chunks : List (List ℕ)) (from now : Hinting S E) → Chain (Listens source_of errors_of) Any from now chunks → (errors_of now.errors.now).lent ≡ (errors_of from.errors.now).lent
  lent_errors_chain [] from now same = ap (λ h. (errors_of h.errors.now).lent) same
  lent_errors_chain (chunk ∷ chunks) from now calls = lent_errors_chain chunks calls.0 now calls.4 ∙ calls.3.lent_errors

  lent_source_chain : (chunks : List (List ℕ)) (from now : Hinting S E) → Chain (Listens source_of errors_of) Any from now chunks → (source_of now.source.now).lent ≡ (source_of from.source.now).lent
  lent_source_chain [] from now same = ap (λ h. (source_of h.source.now).lent) same
  lent_source_chain (chunk ∷ chunks) from now calls = lent_source_chain chunks calls.0 now calls.4 ∙ calls.3.lent_source

  stands_chain : (wanted : Bool) (of : Script) (source errors : Seen) (chunks : List (List ℕ)) (from now : Hinting S E) (read : List ℕ) → Chain (Listens source_of errors_of) Any from now chunks
      → Stands wanted of source (source_of from.source.now) errors (errors_of from.errors.now) read from.telling.now
      → (all : List ℕ) × Stands wanted of source (source_of now.source.now) errors (errors_of now.errors.now) all now.telling.now
  stands_chain wanted of source errors [] from now read same stands = (read, subst (λ h. Stands wanted of source (source_of h.source.now) errors (errors_of h.errors.now) read h.telling.now) (sym same) stands)
  stands_chain wanted of source errors (chunk ∷ chunks) from now read calls stands =
      stands_chain wanted of source errors chunks calls.0 now (read ++ chunk) calls.4 (calls.3.goes_on wanted of source errors read stands)

  -- it reads through the same reference, and tells through the same
  pub errors_name : (from now : Hinting S E) → Hears (Listens source_of errors_of) from now → now.errors.ghost_name ≡ from.errors.ghost_name
  errors_name from now calls = errors_chain calls.0 from now calls.1

  pub source_name : (from now : Hinting S E) → Hears (Listens source_of errors_of) from now → now.source.ghost_name ≡ from.source.ghost_name
  source_name from now calls = source_chain calls.0 from now calls.1

  pub errors_lent : (from now : Hinting S E) → Hears (Listens source_of errors_of) from now → (errors_of now.errors.now).lent ≡ (errors_of from.errors.now).lent
  errors_lent from now calls = lent_errors_chain calls.0 from now calls.1

  pub source_lent : (from now : Hinting S E) → Hears (Listens source_of errors_of) from now → (source_of now.source.now).lent ≡ (source_of from.source.now).lent
  source_lent from now calls = lent_source_chain calls.0 from now calls.1

  -- and goes on with all that was read
  pub stands_now : (wanted : Bool) (of : Script) (source errors : Seen) (from now : Hinting S E) → Hears (Listens source_of errors_of) from now
      → Stands wanted of source (source_of from.source.now) errors (errors_of from.errors.now) [] from.telling.now
      → (all : List ℕ) × Stands wanted of source (source_of now.source.now) errors (errors_of now.errors.now) all now.telling.now
  stands_now wanted of source errors from now calls stands = stands_chain wanted of source errors calls.0 from now [] calls.1 stands

-- Which bridges are of the region of a bridge that is found by its name, or isn't there.
use Rattle.std.proofs.Common.{◌≡◌, ℕ, Bool, true, false, nat_eq, ◌||◌, List, [], ◌∷◌, Option, Some, None, cond, refl, sym, ap, subst, ◌∙◌}
use Rattle.std.specs.List.{Contains, find}
use Rattle.std.specs.Option.{option_map_or}
use Rattle.std.specs.Cmp.Lexicographic.{pointwise, bytes_decides}
use Rattle.std.specs.FinMap as fin
use Rattle.mst_graph.proofs.Members.{here, there, from_map}
use Rattle.mst_view.specs.Aggregation.{same_name}
use Rattle.mst_view.specs.Viewed.{Viewed}
use Rattle.mst_view.specs.declared.in_view.BridgeInView.{BridgeInView}
use Rattle.mst_tables.specs.Tables.{Net, Numbers, BridgeRow}
use Rattle.mst_roles.specs.forest.config.Regions.{same_configuration, same_region}
use Rattle.mst_roles.specs.forest.config.Shared.{same_in}
use Rattle.mst_roles.specs.forest.Agrees.{AreOf}
use Rattle.mst_roles.proofs.forest_lemmas.Lists.{no_some, some_is}
use Rattle.mst_roles.proofs.forest_lemmas.Looking.{first_found}
use Rattle.mst_roles.proofs.forest_lemmas.Seen.{bridge_seen}
use Rattle.mst_tree_judges.proofs.Keys.{key_there}
use Rattle.mst_judged.proofs.reasons_lemmas.NamedIn.{names_are}

-- ---- what is found
pub found_there : {A : Type 0} (test : A → Bool) (xs : List A) (y : A) → find test xs ≡ Some y → Contains xs y × (test y ≡ true)
found_there test [] y e = absurd (no_some y e)
found_there {A} test (x ∷ xs) y e = go (test x) refl e (found_there test xs y)
  where
    go : (b : Bool) → test x ≡ b → cond b (Some x) (find test xs) ≡ Some y → (find test xs ≡ Some y → Contains xs y × (test y ≡ true)) → Contains (x ∷ xs) y × (test y ≡ true)
    go true passes is others = let same = some_is x y is in (subst (λ z. Contains (x ∷ xs) z) same (here x xs), ap test (sym same) ∙ passes)
    go false fails is others = let rest = others is in (there x y xs rest.0, rest.1)

pub none_found : {A : Type 0} (test : A → Bool) (xs : List A) → find test xs ≡ None → (x : A) → Contains xs x → test x ≡ true → ⊥
none_found test xs e x h passes = let f = first_found test xs x h passes in no_some f.it (sym e ∙ f.found)

module _ (net : Net) (numbers : Numbers) (v : Viewed) (regions : List (ℕ × ℕ)) (of : AreOf net numbers v regions) (name : List ℕ) where
  abbrev is_it : BridgeInView → Bool
  is_it b = same_name b.name name

  -- no bridge has the name
  module _ (none : find is_it v.bridges ≡ None) where
    not_there : Contains (fin.keys net.bridges) name → ⊥
    not_there h =
        let b = from_map (λ (b : BridgeInView). b.name) v.bridges name (subst (λ names. Contains names name) (sym (names_are net numbers v of.view)) h) in
        none_found is_it v.bridges none b.0 b.1 ((bytes_decides b.0.name name).1 b.2)

    no_row : (row : Option BridgeRow) → fin.get net.bridges name ≡ row → row ≡ None
    no_row None e = refl
    no_row (Some row) e = absurd (not_there (key_there net name row e))

    other : (b : BridgeInView) → Contains v.bridges b → (t : Bool) → pointwise nat_eq name b.name ≡ t → t ≡ false
    other b h false e = refl
    other b h true e = absurd (none_found is_it v.bridges none b h ((bytes_decides b.name name).1 (sym ((bytes_decides name b.name).0 e))))

    pub none_same : (b : BridgeInView) → Contains v.bridges b → false ≡ same_region net name b.name
    none_same b h =
        let differ : pointwise nat_eq name b.name ≡ false = other b h (pointwise nat_eq name b.name) refl in
        let row : fin.get net.bridges name ≡ None = no_row (fin.get net.bridges name) refl in
        sym (λ i. differ i || option_map_or (λ x. option_map_or (λ y. same_configuration net name b.name x y) (fin.get net.bridges b.name) false) (row i) false)

  -- this bridge has it
  pub some_same : (a : BridgeInView) → find is_it v.bridges ≡ Some a → (b : BridgeInView) → Contains v.bridges b → same_in regions a.bridge.number b.bridge.number ≡ same_region net name b.name
  some_same a found b h =
      let f = found_there is_it v.bridges a found in
      let named : a.name ≡ name = (bytes_decides a.name name).0 f.1 in
      let first = bridge_seen net numbers v of.view a f.0 in
      let second = bridge_seen net numbers v of.view b h in
      of.regions.regions a.name b.name a.bridge.number b.bridge.number first.has_number second.has_number ∙ ap (λ n. same_region net n b.name) named

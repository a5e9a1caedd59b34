-- The root that a bridge names in a tree is a bridge of the network.
use Rattle.std.proofs.Common.{◌≡◌, ℕ, zero, suc, ◌==◌, Bool, true, false, List, Option, Some, None, refl, sym, ap, ◌∙◌, arith}
use Rattle.std.specs.Prelude.{if◌then◌else◌}
use Rattle.std.specs.Option.{option_map}
use Rattle.std.specs.FinMap as fin
use Rattle.std.proofs.lemmas.Bool.{eqb-true}
use Rattle.mst_tables.specs.Tables.{Net, IsNetwork}
use Rattle.mst_vector.specs.declared.cist.CistVector.{CistVector}
use Rattle.mst_vector.specs.declared.msti.MstiVector.{MstiVector}
use Rattle.mst_roles.specs.forest.nested.Trees.{IsSettled}
use Rattle.mst_roles.specs.forest.Msti.{has_msti}
use Rattle.mst_roles.specs.forest.Outcome.{Outcome, trees_of}
use Rattle.mst_judged.specs.reasons.sweep.facts.Roots.{root_of}
use Rattle.mst_roles.proofs.forest_lemmas.Lists.{no_some, some_is}
use Rattle.mst_roles.proofs.Names.{tests}
use Rattle.mst_judged.proofs.reasons_lemmas.note_text_lemmas.Tops.{internal_depth, external_depth, ends_cist, ends_msti}
use Rattle.mst_tree_judges.proofs.Keys.{InNet, cist_there, msti_there}

-- what a test lets through, and what there is of a value
let_through : {A : Type 0} (b : Bool) (x : Option A) (y : A) → (if b then x else None) ≡ Some y → x ≡ Some y
let_through true x y e = e
let_through false x y e = absurd (no_some y e)

of_some : {A B : Type 0} (f : A → B) (x : Option A) (y : B) → option_map f x ≡ Some y → (z : A) × (x ≡ Some z) × (f z ≡ y)
of_some f None y e = absurd (no_some y e)
of_some f (Some z) y e = (z, refl, some_is (f z) y e)

not_zero : (i : ℕ) → (suc i == 0) ≡ false
not_zero i = go (suc i == 0) refl
  where
    go : (b : Bool) → (suc i == 0) ≡ b → (suc i == 0) ≡ false
    go false e = e
    go true e = let none : suc i ≡ 0 = eqb-true (suc i) 0 e in absurd (omega arith)

module _ (net : Net) (ok : IsNetwork net) (o : Outcome) (settled : IsSettled (trees_of net o)) where
  cist_root : (n : List ℕ) (x : CistVector) → o.cist.vector n ≡ Some x → (r : List ℕ) × InNet net ok o 0 r x.root
  cist_root n x e =
      let b = settled.cist.settled.is_bridge n x e in
      let d = external_depth (trees_of net o) tests settled n b.0 b.1 in
      let r = ends_cist (trees_of net o) tests settled n x d.0 d.1 e in
      let t = cist_there net ok o d.1.root r.0 r.1 in
      (d.1.root, record { row = t.row; has_row = t.has_row; is_id = t.is_id ∙ r.2 })

  msti_root : (i : ℕ) (n : List ℕ) (x : MstiVector) → (o.msti (suc i)).vector n ≡ Some x → (r : List ℕ) × InNet net ok o (suc i) r x.regional
  msti_root i n x e =
      let b = (settled.msti i).settled.is_bridge n x e in
      let d = internal_depth (trees_of net o) tests settled (suc i) n b in
      let r = ends_msti (trees_of net o) tests settled i n x d.0 d.1 e in
      let t = msti_there net ok o (suc i) d.1.root r.0 r.1 in
      (d.1.root, record { row = t.row; has_row = t.has_row; is_id = t.is_id ∙ r.2 })

  pub roots_there : (tree : ℕ) (bridge : List ℕ) (id : ℕ) → root_of net o tree bridge ≡ Some id → (r : List ℕ) × InNet net ok o tree r id
  roots_there zero bridge id e =
      let v = of_some (λ (x : CistVector). x.root) (o.cist.vector bridge) id (let_through (fin.contains_key net.bridges bridge) (option_map (λ (x : CistVector). x.root) (o.cist.vector bridge)) id e) in
      let r = cist_root bridge v.0 v.1 in
      (r.0, record { row = r.1.row; has_row = r.1.has_row; is_id = r.1.is_id ∙ v.2 })
  roots_there (suc i) bridge id e =
      let inner : Option ℕ = if has_msti net (suc i) bridge then option_map (λ (x : MstiVector). x.regional) ((o.msti (suc i)).vector bridge) else None in
      let outer : Option ℕ = if fin.contains_key net.bridges bridge then option_map (λ (x : CistVector). x.root) (o.cist.vector bridge) else None in
      let told : inner ≡ Some id = ap (λ (t : Bool). if t then outer else inner) (sym (not_zero i)) ∙ e in
      let v = of_some (λ (x : MstiVector). x.regional) ((o.msti (suc i)).vector bridge) id (let_through (has_msti net (suc i) bridge) (option_map (λ (x : MstiVector). x.regional) ((o.msti (suc i)).vector bridge)) id told) in
      let r = msti_root i bridge v.0 v.1 in
      (r.0, record { row = r.1.row; has_row = r.1.has_row; is_id = r.1.is_id ∙ v.2 })

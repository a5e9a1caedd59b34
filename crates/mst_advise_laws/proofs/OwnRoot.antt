-- A bridge that is on and has a tree names a root there, whose identifier is at most its own.
use Rattle.std.proofs.Common.{◌≡◌, ℕ, zero, suc, ◌<◌, ◌≤◌, ◌==◌, ◌&&◌, ◌||◌, Bool, true, false, true≢false, List, [], ◌∷◌, Option, Some, None, is_some, inl, refl, sym, ap, ◌∙◌, arith, Less, Equal, Greater}
use Rattle.std.specs.Prelude.{if◌then◌else◌}
use Rattle.std.specs.Option.{option_map}
use Rattle.std.specs.Ordering.{nat_cmp, is_gt, ordering_then, MatchOrdering}
use Rattle.std.specs.declared.cmp.Ordering.{Ordering}
use Rattle.std.specs.Cmp.Lexicographic.{slice_cmp}
use Rattle.std.specs.FinMap as fin
use Rattle.std.proofs.lemmas.Bool.{and_parts, eqb-true}
use Rattle.std.proofs.lemmas.Cmp.{ranked}
use Rattle.mst_vector.specs.Cist.{cist_rules}
use Rattle.mst_vector.specs.Msti.{msti_rules}
use Rattle.mst_vector.specs.declared.cist.CistBridge.{CistBridge}
use Rattle.mst_vector.specs.declared.cist.CistVector.{CistVector}
use Rattle.mst_vector.specs.declared.msti.MstiBridge.{MstiBridge}
use Rattle.mst_vector.specs.declared.msti.MstiVector.{MstiVector}
use Rattle.mst_forest.specs.topology.Topology.{HasBridge}
use Rattle.mst_tables.specs.ByTree.{by_tree}
use Rattle.mst_tables.specs.Tables.{Net, BridgeRow, IsNetwork}
use Rattle.mst_forest.specs.config.Regions.{region_of}
use Rattle.mst_forest.specs.Cist.{cist_bridge, cist_of, cist_sight}
use Rattle.mst_forest.specs.InUse.{id_in}
use Rattle.mst_forest.specs.Msti.{has_msti, msti_bridge, msti_of, msti_sight}
use Rattle.mst_forest.specs.Outcome.{Outcome, IsOutcome}
use Rattle.mst_forest.specs.Sight.{named_bridge}
use Rattle.mst_forest.proofs.CistTopology.{given, cist_is_sight}
use Rattle.mst_forest.proofs.Lists.{kept_in, no_some}
use Rattle.mst_forest.proofs.MstiTopology.{msti_is_sight}
use Rattle.mst_forest.proofs.Sights.{bridge_from, changed_from}
use Rattle.mst_forest.proofs.Views.{entry_there}
use Rattle.mst_advise.specs.verify.summary.facts.Roots.{root_of}

-- ---- orders
first_upto : (a b : ℕ) (xs ys : List ℕ) → is_gt (slice_cmp nat_cmp (a ∷ xs) (b ∷ ys)) ≡ false → a ≤ b
first_upto a b xs ys e = go (nat_cmp a b) (ranked a b (nat_cmp a b) refl) e
  where
    go : (r : Ordering) → MatchOrdering r (a < b) (a ≡ b) (b < a) → is_gt (ordering_then r (slice_cmp nat_cmp xs ys)) ≡ false → a ≤ b
    go Less less e = omega arith
    go Equal same e = omega arith
    go Greater more e = absurd (true≢false e)

cist_upto : (x y : CistVector) → is_gt (cist_rules.order x y) ≡ false → x.root ≤ y.root
cist_upto x y e =
    first_upto x.root y.root (x.external ∷ x.regional ∷ x.internal ∷ x.designated ∷ x.port ∷ x.receiver ∷ [])
    (y.external ∷ y.regional ∷ y.internal ∷ y.designated ∷ y.port ∷ y.receiver ∷ []) e

msti_upto : (x y : MstiVector) → is_gt (msti_rules.order x y) ≡ false → x.regional ≤ y.regional
msti_upto x y e = first_upto x.regional y.regional (x.internal ∷ x.designated ∷ x.port ∷ x.receiver ∷ []) (y.internal ∷ y.designated ∷ y.port ∷ y.receiver ∷ []) e

-- ---- tests
not_zero : (i : ℕ) → (suc i == 0) ≡ false
not_zero i = go (suc i == 0) refl
  where
    go : (b : Bool) → (suc i == 0) ≡ b → (suc i == 0) ≡ false
    go false e = e
    go true e = let none : suc i ≡ 0 = eqb-true (suc i) 0 e in absurd (omega arith)

let_through : {A : Type 0} (b : Bool) (x : Option A) (y : A) → (if b then x else None) ≡ Some y → (b ≡ true) × (x ≡ Some y)
let_through true x y e = (refl, e)
let_through false x y e = absurd (no_some y e)

-- a bridge of this name is on and has the tree
pub record IsIn (net : Net) (tree : ℕ) (name : List ℕ) : Type 0 where
  pub row : BridgeRow
  pub has_row : fin.get net.bridges name ≡ Some row
  pub is_on : row.is_on ≡ true
  pub has_tree : (tree == 0 || has_msti net tree name) ≡ true

module _ (net : Net) (o : Outcome) (is : IsOutcome net o) where
  -- it names a root, whose identifier isn't greater than this one
  pub record IsRooted (tree : ℕ) (name : List ℕ) (own : ℕ) : Type 0 where
    pub root : ℕ
    pub is_root : root_of net o tree name ≡ Some root
    pub low : root ≤ own

  pub rooted : (tree : ℕ) (name : List ℕ) (x : IsIn net tree name) → IsRooted tree name (id_in (by_tree net) tree name x.row)
  rooted zero name x =
      let b : CistBridge = cist_bridge (by_tree net) (region_of net name) name x.row in
      let seen = ap (λ (t : Bool). option_map (λ (c : CistBridge). (name, c)) (if t then Some b else None)) x.is_on in
      let there : HasBridge (cist_of net) name b = kept_in (named_bridge (cist_sight net)) (fin.entries net.bridges) (name, x.row) (name, b) (entry_there net name x.row x.has_row) seen in
      let v = is.cist.settled.has_vector name b there in
      let low = (is.cist.settled.bridges name b v.0 there v.1).upto (cist_rules.bridge_vector b) (inl refl) in
      record {
        root = v.0.root;
        is_root = λ i. if is_some (x.has_row i) then option_map (λ (v : CistVector). v.root) (v.1 i) else None;
        low = cist_upto v.0 (cist_rules.bridge_vector b) low;
      }
  rooted (suc i) name x =
      let has : has_msti net (suc i) name ≡ true = ap (λ t. t || has_msti net (suc i) name) (sym (not_zero i)) ∙ x.has_tree in
      let b : MstiBridge = msti_bridge (by_tree net) (suc i) name x.row in
      let seen : option_map (λ (c : MstiBridge). (name, c)) (if x.row.is_on && has_msti net (suc i) name then Some b else None) ≡ Some (name, b) = λ j. option_map (λ (c : MstiBridge). (name, c)) (if x.is_on j && has j then Some b else None) in
      let there : HasBridge (msti_of net (suc i) o.cist.designated) name b = kept_in (named_bridge (msti_sight net (suc i) o.cist.designated)) (fin.entries net.bridges) (name, x.row) (name, b) (entry_there net name x.row x.has_row) seen in
      let v = (is.mstis (suc i)).settled.has_vector name b there in
      let low = ((is.mstis (suc i)).settled.bridges name b v.0 there v.1).upto (msti_rules.bridge_vector b) (inl refl) in
      let outer : Option ℕ = if fin.contains_key net.bridges name then option_map (λ (v : CistVector). v.root) (o.cist.vector name) else None in
      let inner : Option ℕ = if has_msti net (suc i) name then option_map (λ (v : MstiVector). v.regional) ((o.msti (suc i)).vector name) else None in
      let told : inner ≡ Some v.0.regional = λ j. if has j then option_map (λ (v : MstiVector). v.regional) (v.1 j) else None in
      record { root = v.0.regional; is_root = ap (λ (t : Bool). if t then outer else inner) (not_zero i) ∙ told; low = msti_upto v.0 (msti_rules.bridge_vector b) low }

  -- a bridge that names a root is on and has the tree
  module _ (ok : IsNetwork net) where
    pub is_in : (tree : ℕ) (name : List ℕ) (id : ℕ) → root_of net o tree name ≡ Some id → IsIn net tree name
    is_in zero name id e =
        let told = let_through (fin.contains_key net.bridges name) (option_map (λ (v : CistVector). v.root) (o.cist.vector name)) id e in
        let v = changed_from (λ (v : CistVector). v.root) (o.cist.vector name) id told.1 in
        let b = is.cist.settled.is_bridge name v.0 v.1 in
        let r = bridge_from net ok cist_rules (cist_sight net) (cist_is_sight net ok) name b.0 b.1 in
        record { row = r.row; has_row = r.has_row; is_on = (given r.row.is_on (cist_bridge (by_tree net) (region_of net name) name r.row) b.0 r.seen).0; has_tree = refl }
    is_in (suc i) name id e =
        let outer : Option ℕ = if fin.contains_key net.bridges name then option_map (λ (v : CistVector). v.root) (o.cist.vector name) else None in
        let inner : Option ℕ = if has_msti net (suc i) name then option_map (λ (v : MstiVector). v.regional) ((o.msti (suc i)).vector name) else None in
        let here : inner ≡ Some id = ap (λ (t : Bool). if t then outer else inner) (sym (not_zero i)) ∙ e in
        let told = let_through (has_msti net (suc i) name) (option_map (λ (v : MstiVector). v.regional) ((o.msti (suc i)).vector name)) id here in
        let v = changed_from (λ (v : MstiVector). v.regional) ((o.msti (suc i)).vector name) id told.1 in
        let b = (is.mstis (suc i)).settled.is_bridge name v.0 v.1 in
        let r = bridge_from net ok msti_rules (msti_sight net (suc i) o.cist.designated) (msti_is_sight net ok (suc i) o.cist.designated) name b.0 b.1 in
        let on = (given (r.row.is_on && has_msti net (suc i) name) (msti_bridge (by_tree net) (suc i) name r.row) b.0 r.seen).0 in
        record { row = r.row; has_row = r.has_row; is_on = (and_parts r.row.is_on (has_msti net (suc i) name) on).0; has_tree = ap (λ t. t || has_msti net (suc i) name) (not_zero i) ∙ told.0 }

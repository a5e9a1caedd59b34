-- The trees that bridges have a VID in.
use Rattle.std.proofs.Common.{◌≡◌, ℕ, zero, suc, ◌+◌, ◌<◌, ◌≤◌, ◌==◌, ◌&&◌, ◌||◌, Bool, true, false, not, nat_eq, List, [], ◌∷◌, get_or, Option, Some, None, refl, sym, ap, subst, ◌∙◌, inl, inr, true≢false, eq-eqb, arith, unwrap_or}
use Rattle.std.specs.Prelude.{if◌then◌else◌}
use Rattle.std.specs.List.{AllByRecursion, Contains, list_any, range_with_len}
use Rattle.std.specs.Option.{option_map_or}
use Rattle.std.specs.Cmp.Lexicographic.{pointwise, bytes_decides}
use Rattle.std.specs.FinMap as fin
use Rattle.std.proofs.lemmas.Bool.{and_parts}
use Rattle.std.proofs.lemmas.List.FromFn.{length-range_with_len, get_or-range_with_len}
use Rattle.mst_graph.proofs.Members.{in_none, cases, in_filter}
use Rattle.mst_tables.specs.Table.{tree_in, has_tree, mstis_in, no_table}
use Rattle.mst_tables.specs.Tables.{Net, BridgeRow, IsNetwork}
use Rattle.mst_tables.specs.After.{table_of}
use Rattle.mst_tables.proofs.TableFits.{tree_in-no_table}
use Rattle.mst_view.specs.Trees.{mstis_of, is_among}
use Rattle.mst_forest.specs.config.Regions.{same_region, same_configuration}
use Rattle.mst_forest.specs.Msti.{has_msti}
use Rattle.mst_roles.specs.Roles.{tree_of_vid}

or_right : (a b : Bool) → b ≡ true → (a || b) ≡ true
or_right true b e = refl
or_right false b e = e

is_false : (b : Bool) → not b ≡ true → b ≡ false
is_false true e = absurd (true≢false (sym e))
is_false false e = refl

-- an element that passes a test
any_there : {A : Type 0} (test : A → Bool) (xs : List A) (x : A) → Contains xs x → test x ≡ true → list_any test xs ≡ true
any_there test [] x h e = absurd (in_none x h)
any_there test (y ∷ xs) x h e = elim (cases y x xs h) [
  | inl same ↦ ap (λ b. b || list_any test xs) (ap test same ∙ e)
  | inr a ↦ or_right (test y) (list_any test xs) (any_there test xs x a e)
]

-- a number at a place, other than 0
somewhere : (xs : List ℕ) (k n : ℕ) → get_or xs k 0 ≡ suc n → list_any (λ t. t == suc n) xs ≡ true
somewhere [] k n e = absurd (omega arith)
somewhere (x ∷ xs) zero n e = ap (λ b. b || list_any (λ t. t == suc n) xs) (eq-eqb x (suc n) e)
somewhere (x ∷ xs) (suc k) n e = or_right (x == suc n) (list_any (λ t. t == suc n) xs) (somewhere xs k n e)

each_fits : (xs : List ℕ) (k : ℕ) → AllByRecursion (λ t. t ≤ 4094) xs → get_or xs k 0 ≤ 4094
each_fits [] k h = omega arith
each_fits (x ∷ xs) zero h = h.0
each_fits (x ∷ xs) (suc k) h = each_fits xs k h.1

-- the tree of a VID, other than the CIST, is one of the table's
in_table : (table : List ℕ) (vid n : ℕ) → tree_in table vid ≡ suc n → has_tree table (suc n) ≡ true
in_table table zero n e = absurd (omega (arith, e))
in_table table (suc k) n e = somewhere table k n e

fits : (table : List ℕ) (vid n : ℕ) → AllByRecursion (λ t. t ≤ 4094) table → tree_in table vid ≡ suc n → suc n ≤ 4094
fits table zero n h e = absurd (omega (arith, e))
fits table (suc k) n h e = let below = each_fits table k h in omega (arith, below, e)

-- the numbers from one on
in_range : (n count from : ℕ) → n < count → Contains (range_with_len from count) (from + n)
in_range n count from below = (n, rw length-range_with_len below, get_or-range_with_len from count n (from + n) below)

listed : (table : List ℕ) (n : ℕ) → suc n ≤ 4094 → has_tree table (suc n) ≡ true → is_among (mstis_in table) (suc n) ≡ true
unfolding mstis_in
listed table n below has =
    any_there (λ t. t == suc n) (mstis_in table) (suc n)
    (in_filter (has_tree table) (range_with_len 1 4094) (suc n) (let e : 1 + n ≡ suc n = omega arith in subst (Contains (range_with_len 1 4094)) e (in_range n 4094 1 (omega arith))) has)
    (eq-eqb (suc n) (suc n) refl)

-- a bridge of a network has its tree of a VID
pub has_its_tree : (net : Net) (ok : IsNetwork net) (name : List ℕ) (row : BridgeRow) (vid n : ℕ) → fin.get net.bridges name ≡ Some row → tree_of_vid net name vid ≡ suc n → has_msti net (suc n) name ≡ true
has_its_tree net ok name row vid n is e =
    ap (λ (o : Option BridgeRow). option_map_or (λ row. is_among (mstis_of net name row) (suc n)) o false) is
    ∙ go row.is_rstp (sym (ap (λ (o : Option BridgeRow). option_map_or (λ row. if row.is_rstp then 0 else tree_in (table_of net name) vid) o 0) is) ∙ e)
  where
    few : (o : Option (List ℕ)) → fin.get net.tables name ≡ o → tree_in (unwrap_or o no_table) vid ≡ suc n → suc n ≤ 4094
    few None f h = let none = tree_in-no_table vid in absurd (omega (arith, none, h))
    few (Some table) f h = fits table vid n (ok.tables name table f).1.1 h

    go : (b : Bool) → (if b then 0 else tree_in (table_of net name) vid) ≡ suc n → is_among (if b then [] else mstis_in (table_of net name)) (suc n) ≡ true
    go true h = absurd (omega (arith, h))
    go false h = listed (table_of net name) n (few (fin.get net.tables name) refl h) (in_table (table_of net name) vid n h)

-- bridges of one region have one tree of a VID
pub one_tree : (net : Net) (a b : List ℕ) (x y : BridgeRow) (vid : ℕ) → fin.get net.bridges a ≡ Some x → fin.get net.bridges b ≡ Some y → same_region net a b ≡ true → tree_of_vid net a vid ≡ tree_of_vid net b vid
one_tree net a b x y vid e f h =
    go (pointwise nat_eq a b) refl (sym (λ i. pointwise nat_eq a b || option_map_or (λ x. option_map_or (λ y. same_configuration net a b x y) (f i) false) (e i) false) ∙ h)
  where
    tree_at : (name : List ℕ) (row : BridgeRow) → fin.get net.bridges name ≡ Some row → tree_of_vid net name vid ≡ (if row.is_rstp then 0 else tree_in (table_of net name) vid)
    tree_at name row is = ap (λ (o : Option BridgeRow). option_map_or (λ row. if row.is_rstp then 0 else tree_in (table_of net name) vid) o 0) is

    go : (t : Bool) → pointwise nat_eq a b ≡ t → (t || same_configuration net a b x y) ≡ true → tree_of_vid net a vid ≡ tree_of_vid net b vid
    go true one k = ap (λ name. tree_of_vid net name vid) ((bytes_decides a b).0 one)
    go false one k =
        let tables = and_parts (not x.is_rstp && not y.is_rstp && pointwise nat_eq x.conf_name y.conf_name && x.revision == y.revision) (pointwise nat_eq (table_of net a) (table_of net b)) k in
        let revisions = and_parts (not x.is_rstp && not y.is_rstp && pointwise nat_eq x.conf_name y.conf_name) (x.revision == y.revision) tables.0 in
        let names = and_parts (not x.is_rstp && not y.is_rstp) (pointwise nat_eq x.conf_name y.conf_name) revisions.0 in
        let kinds = and_parts (not x.is_rstp) (not y.is_rstp) names.0 in
        tree_at a x e
        ∙ ap (λ t. if t then 0 else tree_in (table_of net a) vid) (is_false x.is_rstp kinds.0)
        ∙ ap (λ table. tree_in table vid) ((bytes_decides (table_of net a) (table_of net b)).0 tables.1)
        ∙ sym (ap (λ t. if t then 0 else tree_in (table_of net b) vid) (is_false y.is_rstp kinds.1))
        ∙ sym (tree_at b y f)

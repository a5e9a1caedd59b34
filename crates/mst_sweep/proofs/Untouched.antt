-- A port that no failure touched has its roles, and so none of them moves.
use Rattle.std.proofs.Common.{◌≡◌, ℕ, zero, suc, true≢false, ◌+◌, ◌-◌, ◌<◌, ◌≤◌, ◌==◌, ◌&&◌, ◌||◌, not, Bool, true, false, List, [], ◌∷◌, ◌++◌, length, get_or, Option, Some, None, refl, sym, ap, subst, ◌∙◌, arith, eq-eqb}
use Rattle.std.specs.Prelude.{if◌then◌else◌}
use Rattle.std.specs.List.{Contains, filter, range_with_len}
use Rattle.std.proofs.lemmas.Bool.{eqb-true, eqb-false}
use Rattle.std.proofs.lemmas.List.{get_or_default}
use Rattle.std.proofs.lemmas.List.FromFn.{length-range_with_len, get_or-range_with_len}
use Rattle.mst_graph.proofs.Members.{here, there, in_filter}
use Rattle.mst_ids.specs.declared.name.PortName.{PortName}
use Rattle.mst_net.specs.tables.Tables.{Net, Numbers}
use Rattle.mst_view.specs.Viewed.{Viewed}
use Rattle.mst_vlan.specs.forest.Agrees.{AreOf}
use Rattle.mst_vlan.specs.forest.Forest.{Forest, IsForest}
use Rattle.mst_vlan.specs.forest.InUse.{is_in_use, seen_mstis}
use Rattle.mst_vlan.specs.roles.SeenRoles.{seen_role}
use Rattle.mst_vlan.specs.roles.declared.kind.Role.{Role}
use Rattle.mst_vlan.specs.roles.declared.kind.Role.TheVariants.{Root, Designated, Alternate, Backup, Master, Disabled}
use Rattle.mst_view.specs.View.{port_names}
use Rattle.mst_vlan.specs.roles.RoleNumbers.{role_number}
use Rattle.mst_sweep.specs.Moved.{takes_part, is_other_role, port_moved}
use Rattle.mst_sweep.specs.Touched.{differ, AreTouched}
use Rattle.mst_sweep.proofs.Moved.{as_many, moved_at}

-- ---- trees
-- a tree that the old network has is the CIST or one of its MSTIs
pub had_listed : (v : Viewed) (tree : ℕ) → tree < 4095 → (tree == 0 || is_in_use v tree) ≡ true → Contains (0 ∷ seen_mstis v) tree
unfolding seen_mstis
had_listed v tree small = go (tree == 0) refl
  where
    in_use : 0 < tree → is_in_use v tree ≡ true → Contains (filter (is_in_use v) (range_with_len 1 4094)) tree
    in_use more e =
        let below : tree - 1 < 4094 = omega arith in
        let number : 1 + (tree - 1) ≡ tree = omega arith in
        in_filter (is_in_use v) (range_with_len 1 4094) tree (tree - 1, subst (λ n. tree - 1 < n) (sym (length-range_with_len 1 4094)) below, get_or-range_with_len 1 4094 (tree - 1) tree below ∙ number) e

    go : (first : Bool) → (tree == 0) ≡ first → (first || is_in_use v tree) ≡ true → Contains (0 ∷ seen_mstis v) tree
    go true e h = subst (Contains (0 ∷ seen_mstis v)) (sym (eqb-true tree 0 e)) (here 0 (seen_mstis v))
    go false e h =
        let other : tree ≡ 0 → ⊥ = eqb-false tree 0 e in
        let more : 0 < tree = omega arith in
        there 0 tree (seen_mstis v) (in_use more h)

-- ---- roles
role_numbered : ℕ → Role
role_numbered n = if n == 0 then Root else (if n == 1 then Designated else (if n == 2 then Alternate else (if n == 3 then Backup else (if n == 4 then Master else Disabled))))

numbered_back : (r : Role) → role_numbered (role_number r) ≡ r
unfolding role_numbered
numbered_back Root = refl
numbered_back Designated = refl
numbered_back Alternate = refl
numbered_back Backup = refl
numbered_back Master = refl
numbered_back Disabled = refl

same_test : (b : Bool) → not b ≡ false → b ≡ true
same_test true e = refl
same_test false e = sym e

-- roles that don't differ are the same
pub same_roles : (r s : Option Role) → differ r s ≡ false → r ≡ s
same_roles None None e = refl
same_roles None (Some s) e = absurd (true≢false e)
same_roles (Some r) None e = absurd (true≢false e)
same_roles (Some r) (Some s) e = ap Some (sym (numbered_back r) ∙ ap role_numbered (eqb-true (role_number r) (role_number s) (same_test (role_number r == role_number s) e)) ∙ numbered_back s)

-- and none is another one
none_other : (r : Option Role) → is_other_role r r ≡ false
none_other None = refl
none_other (Some r) = (λ i. takes_part r && takes_part r && not (eq-eqb (role_number r) (role_number r) refl i)) ∙ by (takes_part r)
  where
    by : (t : Bool) → (t && t && not true) ≡ false
    by true = refl
    by false = refl

-- ---- ports
pub at_place : {A : Type 0} (xs : List A) (i : ℕ) → i < length xs → (x : A) × (get_or xs i x ≡ x)
at_place [] i l = absurd (omega arith)
at_place (x ∷ xs) zero l = (x, refl)
at_place (x ∷ xs) (suc i) l = at_place xs i (omega arith)

-- what stands at a place is one thing
pub one_at : {A : Type 0} (xs : List A) (i : ℕ) (x y : A) → i < length xs → x ≡ get_or xs i x → get_or xs i y ≡ y → x ≡ y
one_at xs i x y l first second = first ∙ get_or_default xs i x y l ∙ second

-- a fact of each number before the end is one of each that is listed
pub of_listed : (P : ℕ → Type 0) (xs : List ℕ) (i : ℕ) → length xs ≤ i → ((k : ℕ) → k < i → P (get_or xs k 0)) → (x : ℕ) → Contains xs x → P x
of_listed P xs i past each x listed =
    let below : listed.0 < i = let l = listed.1 in omega arith in
    subst P (get_or_default xs listed.0 0 x listed.1 ∙ listed.2) (each listed.0 below)

module _ (a b : Net) (n k : Numbers) (v w : Viewed) (f g : Forest) (of : AreOf a n v f.regions) (so : AreOf b k w g.regions) (is : IsForest a n f) (are : IsForest b k g) (tree : ℕ)
    (ports : port_names a ≡ port_names b) (flags : List Bool) (touched : AreTouched v f w g flags) (listed : Contains (0 ∷ seen_mstis v) tree) where
  pub not_moved : (i : ℕ) → i < length v.ports → get_or flags i true ≡ false → (name : PortName) → get_or (port_names a) i name ≡ name → port_moved a is.outcome b are.outcome tree name ≡ false
  not_moved i l off name named =
      let many : length w.ports ≡ length v.ports = as_many a b n k v w f g of so is are tree ports in
      let m : i < length w.ports = omega arith in
      let x = at_place v.ports i l in
      let y = at_place w.ports i m in
      let kept : seen_role v f tree x.0 ≡ seen_role w g tree y.0 = touched i off x.0 y.0 l x.1 y.1 tree listed in
      sym (moved_at a b n k v w f g of so is are tree ports i x.0 y.0 l (sym x.1) (sym y.1) name named)
      ∙ ap (is_other_role (seen_role v f tree x.0)) (sym kept) ∙ none_other (seen_role v f tree x.0)

-- one more flag
pub one_flag : (P : ℕ → Type 0) (flags : List Bool) (flag : Bool) → ((k : ℕ) → get_or flags k true ≡ false → P k) → (flag ≡ false → P (length flags)) → (k : ℕ) → get_or (flags ++ flag ∷ []) k true ≡ false → P k
one_flag P [] flag before last zero e = last e
one_flag P [] flag before last (suc k) e = absurd (true≢false e)
one_flag P (x ∷ xs) flag before last zero e = before 0 e
one_flag P (x ∷ xs) flag before last (suc k) e = one_flag (λ m. P (suc m)) xs flag (λ m. before (suc m)) last k e

pub one_longer : (flags : List Bool) (flag : Bool) → length (flags ++ flag ∷ []) ≡ length flags + 1
one_longer [] flag = refl
one_longer (x ∷ xs) flag = let moved : suc (length xs + 1) ≡ suc (length xs) + 1 = omega arith in ap suc (one_longer xs flag) ∙ moved

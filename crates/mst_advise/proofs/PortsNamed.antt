-- The logical port of a name, as it is found in a view, and the trees that its bridge has.
use Rattle.std.proofs.Common.{◌≡◌, ℕ, ◌==◌, ◌||◌, Bool, true, false, true≢false, cond, not, List, [], ◌∷◌, map, Option, Some, None, refl, sym, ap, subst, ◌∙◌}
use Rattle.std.specs.Prelude.{if◌then◌else◌}
use Rattle.std.specs.List.{Contains, find}
use Rattle.std.specs.Option.{option_map, option_map_or}
use Rattle.std.specs.FinMap as fin
use Rattle.std.proofs.lemmas.Bool.{eqb-true}
use Rattle.mst_ids.specs.declared.name.PortName.{PortName}
use Rattle.mst_view.specs.Trees.{mstis_of, is_among}
use Rattle.mst_view.specs.View.{LogicalPort}
use Rattle.mst_view.specs.Viewed.{named_port}
use Rattle.mst_view.specs.declared.in_view.PortInView.{PortInView}
use Rattle.mst_net.specs.tables.Tables.{Net, BridgeRow, port_eq}
use Rattle.mst_roles.specs.Roles.{cist_role, msti_role, role_in}
use Rattle.mst_roles.specs.declared.kind.Role.{Role}
use Rattle.mst_roles.specs.forest.Msti.{has_msti}
use Rattle.mst_roles.specs.forest.Outcome.{Outcome}
use Rattle.mst_roles.specs.forest.Settled.{SettledNet, IsSettledNet}
use Rattle.mst_roles.proofs.Named.{found_in}
use Rattle.mst_roles.proofs.forest_lemmas.Lists.{no_some, passed, there_first, there_later}
use Rattle.mst_explain.specs.Explained.{trees_of_bridge}
use Rattle.mst_advise.specs.Costs.{contested, is_inner, port_named}

pub not_false : (b : Bool) → not b ≡ false → b ≡ true
not_false true e = refl
not_false false e = absurd (true≢false e)

-- the first of a changed list
find_changed : {A B : Type 0} (test : B → Bool) (f : A → B) (xs : List A) → find test (map f xs) ≡ option_map f (find (λ x. test (f x)) xs)
find_changed test f [] = refl
find_changed {A} {B} test f (x ∷ xs) = go (test (f x)) (find_changed test f xs)
  where
    go : (b : Bool) → find test (map f xs) ≡ option_map f (find (λ x. test (f x)) xs)
        → cond b (Some (f x)) (find test (map f xs)) ≡ option_map f (cond b (Some x) (find (λ x. test (f x)) xs))
    go true e = refl
    go false e = e

-- ---- the port of a name
module _ (s : SettledNet) (is : IsSettledNet s) (name : PortName) (found : Option PortInView) (e : find (λ (p : PortInView). port_eq p.name name) s.view.ports ≡ found) where
  pub port_is_named : port_named s.net name ≡ option_map named_port found
  port_is_named =
      ap (find (λ (p : LogicalPort). port_eq p.name name)) (sym is.of.view.ports) ∙ find_changed (λ (p : LogicalPort). port_eq p.name name) named_port s.view.ports ∙ ap (option_map named_port) e

pub port_is_there : (s : SettledNet) (name : PortName) (p : PortInView) → find (λ (p : PortInView). port_eq p.name name) s.view.ports ≡ Some p → Contains s.view.ports p
port_is_there s name p e = found_in (λ (p : PortInView). port_eq p.name name) s.view.ports p e

-- ---- the trees of its bridge
-- a tree that a bridge has is among its trees
pub tree_among : (net : Net) (bridge : List ℕ) (tree : ℕ) → (tree == 0 || has_msti net tree bridge) ≡ true → Contains (trees_of_bridge net bridge) tree
tree_among net bridge tree = go (tree == 0) refl (fin.get net.bridges bridge)
  where
    own : Option BridgeRow → List ℕ
    own row = option_map_or (mstis_of net bridge) row []

    go : (b : Bool) → (tree == 0) ≡ b → (row : Option BridgeRow) → (b || option_map_or (λ row. is_among (mstis_of net bridge row) tree) row false) ≡ true → Contains (0 ∷ own row) tree
    go true e row h = subst (Contains (0 ∷ own row)) (sym (eqb-true tree 0 e)) (there_first 0 (own row))
    go false e None h = absurd (true≢false (sym h))
    go false e (Some row) h =
        let found = passed (λ t. t == tree) (mstis_of net bridge row) h in
        there_later tree 0 (mstis_of net bridge row) (subst (Contains (mstis_of net bridge row)) (eqb-true found.0 tree found.2) found.1)

-- where a port has a role, its bridge has the tree, and so it has the one that is contested
module _ (net : Net) (o : Outcome) (tree : ℕ) (p : LogicalPort) where
  had_by : (b c : Bool) (x y role : Role) → (if b then Some x else (if c then Some y else None)) ≡ Some role → (b || c) ≡ true
  had_by true c x y role e = refl
  had_by false true x y role e = refl
  had_by false false x y role e = absurd (no_some role e)

  pub contested_had : (role : Role) → role_in net o tree p ≡ Some role → (contested net o tree p == 0 || has_msti net (contested net o tree p) p.name.bridge) ≡ true
  contested_had role e = go (is_inner net o p)
    where
      go : (b : Bool) → ((if b then tree else 0) == 0 || has_msti net (if b then tree else 0) p.name.bridge) ≡ true
      go true = had_by (tree == 0) (has_msti net tree p.name.bridge) (cist_role net o p) (msti_role net o tree p) role e
      go false = refl

-- A port whose role is restricted is no root port, and so its role is neither Root nor Master.
use Rattle.std.proofs.Common.{◌≡◌, ℕ, zero, suc, ◌==◌, ◌&&◌, Bool, true, false, List, Option, Some, None, nat_eq, refl, sym, ap, subst, ◌∙◌, true≢false, arith}
use Rattle.std.specs.Prelude.{◌≢◌, if◌then◌else◌}
use Rattle.std.specs.List.{Contains}
use Rattle.std.specs.Option.{option_map, option_map_or}
use Rattle.std.proofs.lemmas.Bool.{eqb-true}
use Rattle.mst_ids.specs.declared.name.PortName.{PortName}
use Rattle.mst_vector.specs.Rules.{Rules}
use Rattle.mst_vector.specs.Cist.{cist_rules}
use Rattle.mst_vector.specs.Msti.{msti_rules}
use Rattle.mst_vector.specs.declared.cist.CistPort.{CistPort}
use Rattle.mst_vector.specs.declared.msti.MstiPort.{MstiPort}
use Rattle.std.specs.Cmp.Lexicographic.{pointwise, bytes_decides}
use Rattle.mst_forest.specs.topology.Topology.{TreePort, Topology, IsTest, KeyTests}
use Rattle.mst_forest.specs.nested.Trees.{Trees, TakesPart}
use Rattle.mst_forest.specs.nested.Roles.{IsRootPort, IsCistRoot, IsMstiRoot}
use Rattle.mst_tables.specs.Tables.{Net, IsNetwork, port_eq}
use Rattle.mst_tables.specs.ByTree.{by_tree}
use Rattle.mst_view.specs.Aggregation.{same_name}
use Rattle.mst_view.specs.View.{LogicalPort, view_ports}
use Rattle.mst_forest.specs.Sight.{tree_port}
use Rattle.mst_forest.specs.Cist.{cist_port, cist_sight, cist_of}
use Rattle.mst_forest.specs.Msti.{msti_port, msti_sight, msti_of, has_msti, is_internal}
use Rattle.mst_forest.specs.Outcome.{Outcome, trees_of}
use Rattle.mst_forest.proofs.Lists.{some_is, no_some}
use Rattle.mst_forest.proofs.Sights.{port_in}
use Rattle.mst_forest.proofs.CistTopology.{cist_is_sight}
use Rattle.mst_forest.proofs.MstiTopology.{msti_is_sight}
use Rattle.mst_roles.specs.Roles.{beside, role_by, outside, cist_role, msti_role, role_in}
use Rattle.mst_roles.specs.declared.kind.Role.{Role}
use Rattle.mst_roles.specs.declared.kind.Role.TheVariants.{Root, Designated, Alternate, Backup, Master, Disabled}

-- names tell bridges and LANs
is_test : IsTest (pointwise nat_eq)
is_test = record { itself = λ a. (bytes_decides a a).1 refl; alone = λ a b e. (bytes_decides a b).0 e }

pub name_tests : KeyTests (List ℕ) (List ℕ)
name_tests = record { same_bridge = pointwise nat_eq; bridges = is_test; same_lan = pointwise nat_eq; lans = is_test }

-- a role by which its bridge hears of the root
abbrev leads : Role → Bool
leads Root = true
leads Master = true
leads _ = false

not_leading : (role : Role) → leads role ≡ false → (role ≢ Root) × (role ≢ Master)
not_leading role e = (λ is. true≢false (sym (ap leads is) ∙ e), λ is. true≢false (sym (ap leads is) ∙ e))

-- no role beside a designated port leads, and none of these does by external information
beside_not : (a b : Bool) → leads (if a then Designated else (if b then Backup else Alternate)) ≡ false
beside_not true b = refl
beside_not false true = refl
beside_not false false = refl

outside_not : (role : Role) → leads role ≡ false → leads (outside role) ≡ false
outside_not Root e = absurd (true≢false e)
outside_not Designated e = refl
outside_not Alternate e = refl
outside_not Backup e = refl
outside_not Master e = absurd (true≢false e)
outside_not Disabled e = refl

-- in one tree, by the port that its bridge's vector names
module _ {B P V : Type 0} (m : Rules B P V) (t : Topology (List ℕ) (List ℕ) PortName B P) (v : List ℕ → Option V) (receiver : V → ℕ)
    (q : TreePort (List ℕ) (List ℕ) PortName P) (part : TakesPart t q) (free : IsRootPort m t v receiver q → q.is_restricted ≡ false) (restricted : q.is_restricted ≡ true) where
  abbrev came_by : Option V → Bool
  came_by x = option_map_or (λ r. r == m.port_id q.settings) (option_map receiver x) false

  not_by : (x : Option V) → v q.bridge ≡ x → came_by x ≡ true → ⊥
  not_by None f e = true≢false (sym e)
  not_by (Some x) f e = true≢false (sym restricted ∙ free (record { part = part; vector = x; is_vector = f; came_by = eqb-true (receiver x) (m.port_id q.settings) e }))

  pub by_not : (d : Option PortName) → leads (role_by (m.port_id q.settings) (option_map receiver (v q.bridge)) d q.number) ≡ false
  by_not d = go (came_by (v q.bridge)) refl d
    where
      go : (c : Bool) → came_by (v q.bridge) ≡ c → (d : Option PortName) → leads (if c then Root else option_map_or (beside q.number) d Alternate) ≡ false
      go true f d = absurd (not_by (v q.bridge) refl f)
      go false f None = refl
      go false f (Some k) = beside_not (port_eq k q.number) (same_name k.bridge q.number.bridge)

module _ (net : Net) (ok : IsNetwork net) (o : Outcome) (cist_free : (q : TreePort (List ℕ) (List ℕ) PortName CistPort) → IsCistRoot (trees_of net o) q → q.is_restricted ≡ false)
    (msti_free : (i : ℕ) (q : TreePort (List ℕ) (List ℕ) PortName MstiPort) → IsMstiRoot (trees_of net o) (suc i) q → q.is_restricted ≡ false)
    (p : LogicalPort) (there : Contains (view_ports net) p) (restricted : p.settings.is_restricted ≡ true) where
  abbrev d : List ℕ → Option PortName
  d = o.cist.designated

  cist_not : leads (cist_role net o p) ≡ false
  cist_not = go p.is_enabled refl
    where
      q : TreePort (List ℕ) (List ℕ) PortName CistPort
      q = tree_port p (cist_port (by_tree net) p)

      in_cist : p.is_enabled ≡ true → TakesPart (cist_of net) q
      in_cist e = (port_in net ok cist_rules (cist_sight net) (cist_is_sight net ok) p (cist_port (by_tree net) p) there (ap (λ (t : Bool). if t then Some (cist_port (by_tree net) p) else None) e), refl)

      go : (b : Bool) → p.is_enabled ≡ b
          → leads (if b then role_by (cist_port (by_tree net) p).id (option_map (λ v. v.receiver) (o.cist.vector p.name.bridge)) (d p.lan) p.name else Disabled) ≡ false
      go true e = by_not cist_rules (cist_of net) o.cist.vector (λ x. x.receiver) q (in_cist e) (cist_free q) restricted (d p.lan)
      go false e = refl

  msti_not : (i : ℕ) → has_msti net (suc i) p.name.bridge ≡ true → leads (msti_role net o (suc i) p) ≡ false
  msti_not i has = go p.is_enabled refl (is_internal net d p) refl
    where
      settings : MstiPort
      settings = msti_port (by_tree net) (suc i) p

      r : TreePort (List ℕ) (List ℕ) PortName MstiPort
      r = tree_port p settings

      in_msti : p.is_enabled ≡ true → is_internal net d p ≡ true → TakesPart (msti_of net (suc i) d) r
      in_msti enabled internal =
          let seen : (msti_sight net (suc i) d).port p ≡ Some settings =
          ap (λ (t : Bool). if t && is_internal net d p && has_msti net (suc i) p.name.bridge then Some settings else None) enabled
          ∙ ap (λ (t : Bool). if t && has_msti net (suc i) p.name.bridge then Some settings else None) internal
          ∙ ap (λ (t : Bool). if t then Some settings else None) has in
          (port_in net ok msti_rules (msti_sight net (suc i) d) (msti_is_sight net ok (suc i) d) p settings there seen, refl)

      go : (b : Bool) → p.is_enabled ≡ b → (c : Bool) → is_internal net d p ≡ c
          → leads (if b then (if c
          then role_by settings.id (option_map (λ v. v.receiver) ((o.msti (suc i)).vector p.name.bridge)) ((o.msti (suc i)).designated p.lan) p.name
          else outside (cist_role net o p)) else Disabled) ≡ false
      go true e true f = by_not msti_rules (msti_of net (suc i) d) (o.msti (suc i)).vector (λ x. x.receiver) r (in_msti e f) (msti_free i r) restricted ((o.msti (suc i)).designated p.lan)
      go true e false f = outside_not (cist_role net o p) cist_not
      go false e c f = refl

  not_zero : (i : ℕ) → (suc i == 0) ≡ false
  not_zero i = go (suc i == 0) refl
    where
      go : (b : Bool) → (suc i == 0) ≡ b → (suc i == 0) ≡ false
      go false e = e
      go true e = let zero_is : suc i ≡ 0 = eqb-true (suc i) 0 e in absurd (omega arith)

  role_not : (tree : ℕ) (role : Role) → role_in net o tree p ≡ Some role → leads role ≡ false
  role_not zero role e = subst (λ (x : Role). leads x ≡ false) (some_is (cist_role net o p) role e) cist_not
  role_not (suc i) role e = go (has_msti net (suc i) p.name.bridge) refl (sym (ap by_tree_number (not_zero i)) ∙ e)
    where
      by_tree_number : Bool → Option Role
      by_tree_number b = if b then Some (cist_role net o p) else (if has_msti net (suc i) p.name.bridge then Some (msti_role net o (suc i) p) else None)

      go : (b : Bool) → has_msti net (suc i) p.name.bridge ≡ b → (if b then Some (msti_role net o (suc i) p) else None) ≡ Some role → leads role ≡ false
      go true h k = subst (λ (x : Role). leads x ≡ false) (some_is (msti_role net o (suc i) p) role k) (msti_not i h)
      go false h k = absurd (no_some role k)

  pub restricted_role : (tree : ℕ) (role : Role) → role_in net o tree p ≡ Some role → (role ≢ Root) × (role ≢ Master)
  restricted_role tree role e = not_leading role (role_not tree role e)

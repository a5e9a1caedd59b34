-- The role of a logical port under its number is its role under its name.
use Rattle.std.proofs.Common.{◌≡◌, ℕ, ◌==◌, ◌&&◌, Bool, true, false, cond, nat_eq, List, [], ◌∷◌, map, Option, Some, None, ◌⊎◌, inl, inr, Less, refl, sym, ap, subst, ◌∙◌, eq-eqb}
use Rattle.std.specs.Prelude.{if◌then◌else◌}
use Rattle.std.specs.List.{AllByRecursion, Contains, find}
use Rattle.std.specs.Option.{option_map, option_map_or, option_and_then}
use Rattle.std.specs.FinMap as fin
use Rattle.std.specs.Cmp.Lexicographic.{pointwise, bytes_decides}
use Rattle.std.proofs.lemmas.Bool.{eqb-true, and_parts, and_from}
use Rattle.mst_ids.specs.Names.{port_cmp}
use Rattle.mst_ids.specs.declared.name.PortName.{PortName}
use Rattle.mst_vector.specs.Rules.{Rules}
use Rattle.mst_vector.specs.Cist.{cist_rules}
use Rattle.mst_vector.specs.Msti.{msti_rules}
use Rattle.mst_forest.specs.outcome.Assignment.{vector_of, designated_of}
use Rattle.mst_tables.specs.Tables.{Net, Numbers, port_eq}
use Rattle.mst_tables.specs.ByTree.{by_tree}
use Rattle.mst_view.specs.Aggregation.{same_name}
use Rattle.mst_view.specs.Trees.{is_among}
use Rattle.mst_view.specs.View.{LogicalPort, view_ports}
use Rattle.mst_view.specs.Viewed.{Viewed, named_port}
use Rattle.mst_view.specs.declared.in_view.PortInView.{PortInView}
use Rattle.mst_forest.specs.Sight.{Sight, tree_of}
use Rattle.mst_forest.specs.Cist.{cist_port, cist_sight}
use Rattle.mst_forest.specs.Msti.{msti_port, msti_sight, has_msti, is_internal}
use Rattle.mst_forest.specs.Outcome.{TreeOutcome, IsTreeOutcome, Outcome}
use Rattle.mst_forest.specs.Seen.{seen_internal, trees_at}
use Rattle.mst_forest.specs.Agrees.{Agrees, IsNameOf, AreOf}
use Rattle.mst_forest.specs.Forest.{IsForest, msti_vector, msti_designated, designated_in, Forest}
use Rattle.mst_forest.proofs.Lists.{some_is, no_some, all_there, apart_cases}
use Rattle.mst_forest.proofs.Entries.{all_weaker}
use Rattle.mst_forest.proofs.CistTopology.{cist_is_sight}
use Rattle.mst_forest.proofs.MstiTopology.{msti_is_sight}
use Rattle.mst_forest.proofs.Sights.{IsSight}
use Rattle.mst_forest.proofs.Views.{port_names_differ, ports_rise}
use Rattle.mst_forest.proofs.Seen.{SeenPort, ports_seen, port_seen, port_of_net}
use Rattle.mst_forest.proofs.Looking.{first_found, is_there, internal_same, has_tree_at}
use Rattle.mst_roles.specs.Roles.{beside, role_by, outside, cist_role, msti_role, role_in, role_of}
use Rattle.mst_roles.specs.SeenRoles.{seen_beside, seen_role_by, seen_cist_role, seen_msti_role, seen_role}
use Rattle.mst_roles.specs.declared.kind.Role.TheVariants.{Root, Designated, Alternate, Backup, Disabled}

-- two tests that pass together
alike : (a b : Bool) → (a ≡ true → b ≡ true) → (b ≡ true → a ≡ true) → a ≡ b
alike true b f g = sym (f refl)
alike false true f g = g refl
alike false false f g = refl

pub port_is : (p q : PortName) → port_eq p q ≡ true → p ≡ q
port_is p q e =
    let parts = and_parts (pointwise nat_eq p.bridge q.bridge) (nat_eq p.number q.number) e in
    let bridge : p.bridge ≡ q.bridge = (bytes_decides p.bridge q.bridge).0 parts.0 in
    let number : p.number ≡ q.number = eqb-true p.number q.number parts.1 in
    λ i. record { bridge = bridge i; number = number i }

pub port_same : (p q : PortName) → p ≡ q → port_eq p q ≡ true
port_same p q e =
    and_from (pointwise nat_eq p.bridge q.bridge) (nat_eq p.number q.number) ((bytes_decides p.bridge q.bridge).1 (ap (λ (n : PortName). n.bridge) e))
    (eq-eqb p.number q.number (ap (λ (n : PortName). n.number) e))

-- the first of a changed list
find_changed : {A B : Type 0} (test : B → Bool) (f : A → B) (xs : List A) → find test (map f xs) ≡ option_map f (find (λ x. test (f x)) xs)
find_changed test f [] = refl
find_changed {A} {B} test f (x ∷ xs) = go (test (f x)) (find_changed test f xs)
  where
    go : (b : Bool) → find test (map f xs) ≡ option_map f (find (λ x. test (f x)) xs)
        → cond b (Some (f x)) (find test (map f xs)) ≡ option_map f (cond b (Some x) (find (λ x. test (f x)) xs))
    go true e = refl
    go false e = e

find_alike : {A : Type 0} (p q : A → Bool) (xs : List A) → AllByRecursion (λ x. p x ≡ q x) xs → find p xs ≡ find q xs
find_alike p q [] h = refl
find_alike p q (x ∷ xs) h = λ i. cond (h.0 i) (Some x) (find_alike p q xs h.1 i)

-- what is found is there
found_there : {A : Type 0} (test : A → Bool) (ys xs : List A) (x : A) → AllByRecursion (Contains ys) xs → find test xs ≡ Some x → Contains ys x
found_there test ys [] x h e = absurd (no_some x e)
found_there {A} test ys (y ∷ xs) x h e = go (test y) e (found_there test ys xs x h.1)
  where
    go : (b : Bool) → cond b (Some y) (find test xs) ≡ Some x → (find test xs ≡ Some x → Contains ys x) → Contains ys x
    go true f rest = subst (Contains ys) (some_is y x f) h.0
    go false f rest = rest f

pub found_in : {A : Type 0} (test : A → Bool) (xs : List A) (x : A) → find test xs ≡ Some x → Contains xs x
found_in test xs x = found_there test xs xs x (all_there xs)

module _ (net : Net) (numbers : Numbers) (v : Viewed) (region_ids : List (ℕ × ℕ)) (of : AreOf net numbers v region_ids) where
  -- a port and a bridge are told by their numbers
  port_told : (p : PortInView) → SeenPort net numbers p → (q : PortName) (k : ℕ) → fin.get numbers.ports q ≡ Some k → (k == p.number) ≡ port_eq q p.name
  port_told p seen q k e =
      alike (k == p.number) (port_eq q p.name)
      (λ same. port_same q p.name (of.numbered.ports_differ q p.name k e (seen.has_numbers.port ∙ ap Some (sym (eqb-true k p.number same)))))
      (λ same. eq-eqb k p.number (some_is k p.number (sym e ∙ ap (fin.get numbers.ports) (port_is q p.name same) ∙ seen.has_numbers.port)))

  bridge_told : (a b : List ℕ) (n k : ℕ) → fin.get numbers.bridges a ≡ Some n → fin.get numbers.bridges b ≡ Some k → (n == k) ≡ same_name a b
  bridge_told a b n k e f =
      alike (n == k) (same_name a b)
      (λ same. (bytes_decides a b).1 (of.numbered.bridges_differ a b k (e ∙ ap Some (eqb-true n k same)) f))
      (λ same. eq-eqb n k (some_is n k (sym e ∙ ap (fin.get numbers.bridges) ((bytes_decides a b).0 same) ∙ f)))

  -- what is found by number is what is found by name
  pub port_listed : (name : PortName) (k : ℕ) → fin.get numbers.ports name ≡ Some k → find (λ p. port_eq p.name name) (view_ports net) ≡ option_map named_port (find (λ p. k == p.number) v.ports)
  port_listed name k e =
      ap (find (λ (p : LogicalPort). port_eq p.name name)) (sym of.view.ports)
      ∙ find_changed (λ (p : LogicalPort). port_eq p.name name) named_port v.ports
      ∙ ap (option_map named_port) (find_alike (λ (p : PortInView). port_eq p.name name) (λ p. k == p.number) v.ports tests)
    where
      tests : AllByRecursion (λ (p : PortInView). port_eq p.name name ≡ (k == p.number)) v.ports
      tests = all_weaker (SeenPort net numbers) _ (λ p seen. alike (port_eq p.name name) (k == p.number)
          (λ same. eq-eqb k p.number (some_is k p.number (sym e ∙ ap (fin.get numbers.ports) (sym (port_is p.name name same)) ∙ seen.has_numbers.port)))
          (λ same. port_same p.name name (of.numbered.ports_differ p.name name k (seen.has_numbers.port ∙ ap Some (sym (eqb-true k p.number same))) e)))
          v.ports (ports_seen net numbers v of.view)

  -- a port of the view is the one that is found by its name
  pub port_found : (p : PortInView) → Contains v.ports p → find (λ (q : LogicalPort). port_eq q.name p.name) (view_ports net) ≡ Some (named_port p)
  port_found p there =
      let own = port_of_net net numbers v of.view p there in
      let first = first_found (λ (q : LogicalPort). port_eq q.name p.name) (view_ports net) (named_port p) own (port_same p.name p.name refl) in
      first.found ∙ ap Some (one first.it (port_is first.it.name p.name first.passes) (apart_cases (λ (a b : LogicalPort). port_cmp a.name b.name ≡ Less) (view_ports net) first.it (named_port p) (ports_rise net) first.there own))
    where
      one : (q : LogicalPort) → q.name ≡ p.name → (q ≡ named_port p) ⊎ ((port_cmp q.name p.name ≡ Less) ⊎ (port_cmp p.name q.name ≡ Less)) → q ≡ named_port p
      one q same (inl e) = e
      one q same (inr (inl l)) = absurd (port_names_differ q.name p.name l same)
      one q same (inr (inr l)) = absurd (port_names_differ p.name q.name l (sym same))

  module _ {B P V : Type 0} (m : Rules B P V) (s : Sight B P) (sight : IsSight net m s) (o : TreeOutcome V) (is : IsTreeOutcome m (tree_of net s) o)
      (vector : ℕ → Option V) (designated : ℕ → Option ℕ) (agrees : Agrees numbers o vector designated) (receiver : V → ℕ) (id : ℕ) (p : PortInView) (seen : SeenPort net numbers p) where
    beside_same : (q : PortName) (k : ℕ) → o.designated p.lan ≡ Some q → fin.get numbers.ports q ≡ Some k → seen_beside v p k ≡ beside p.name q
    beside_same q k e f =
        let x = is_there net numbers v region_ids of m s sight o is p.lan q k e f in
        (λ i. if port_told p seen q k f i then Designated else option_map_or (λ (y : PortInView). if y.bridge == p.bridge then Backup else Alternate) (x.found i) Alternate)
        ∙ ap (λ t. if port_eq q p.name then Designated else (if t then Backup else Alternate)) (bridge_told q.bridge p.name.bridge x.port.bridge p.bridge x.has_bridge seen.has_numbers.bridge)

    role_same : seen_role_by v id (option_map receiver (vector p.bridge)) (designated p.lan_number) p ≡ role_by id (option_map receiver (o.vector p.name.bridge)) (o.designated p.lan) p.name
    role_same =
        ap (λ x. seen_role_by v id (option_map receiver x) (designated p.lan_number) p) (agrees.vectors p.name.bridge p.bridge seen.has_numbers.bridge)
        ∙ ap (λ r. if option_map_or (λ r. r == id) (option_map receiver (o.vector p.name.bridge)) false then Root else r)
        (go (designated p.lan_number) (agrees.designated_ports p.lan p.lan_number seen.has_numbers.lan))
      where
        go : (x : Option ℕ) → IsNameOf numbers x (o.designated p.lan) → option_map_or (seen_beside v p) x Alternate ≡ option_map_or (beside p.name) (o.designated p.lan) Alternate
        go None e = sym (ap (λ w. option_map_or (beside p.name) w Alternate) e)
        go (Some k) h = beside_same h.0 k h.1 h.2 ∙ sym (ap (λ w. option_map_or (beside p.name) w Alternate) h.1)

module _ (net : Net) (numbers : Numbers) (v : Viewed) (f : Forest) (of : AreOf net numbers v f.regions) (is : IsForest net numbers f) where
  abbrev o : Outcome
  o = is.outcome

  cist_same : (p : PortInView) → SeenPort net numbers p → seen_cist_role v f p ≡ cist_role net o (named_port p)
  cist_same p seen =
      ap (λ set. if p.is_enabled then seen_role_by v (cist_port set (named_port p)).id (option_map (λ x. x.receiver) (vector_of f.cist p.bridge)) (designated_of f.cist p.lan_number) p else Disabled) of.view.settings
      ∙ ap (λ r. if p.is_enabled then r else Disabled)
      (role_same net numbers v f.regions of cist_rules (cist_sight net) (cist_is_sight net of.network) o.cist is.is_outcome.cist (vector_of f.cist) (designated_of f.cist) is.cist
      (λ x. x.receiver) (cist_port (by_tree net) (named_port p)).id p seen)

  -- of an enabled port, the test of internal ports says where its LAN belongs
  internal_of_enabled : (p : PortInView) → SeenPort net numbers p → p.is_enabled ≡ true → seen_internal v f.regions (designated_of f.cist) p ≡ is_internal net o.cist.designated (named_port p)
  internal_of_enabled p seen enabled =
      internal_same net numbers v f.regions of o.cist is.is_outcome.cist (vector_of f.cist) (designated_of f.cist) is.cist p seen ∙ ap (λ b. b && is_internal net o.cist.designated (named_port p)) enabled

  msti_same : (tree : ℕ) → (tree == 0) ≡ false → (p : PortInView) → SeenPort net numbers p → seen_msti_role v f tree p ≡ msti_role net o tree (named_port p)
  msti_same tree other p seen = go p.is_enabled refl
    where
      inside : seen_role_by v (msti_port v.settings tree (named_port p)).id (option_map (λ x. x.receiver) (msti_vector f tree p.bridge)) (designated_in f tree p.lan_number) p
          ≡ role_by (msti_port (by_tree net) tree (named_port p)).id (option_map (λ x. x.receiver) ((o.msti tree).vector p.name.bridge)) ((o.msti tree).designated p.lan) p.name
      inside =
          (λ i. seen_role_by v (msti_port (of.view.settings i) tree (named_port p)).id (option_map (λ x. x.receiver) (msti_vector f tree p.bridge))
          (if other i then designated_of f.cist p.lan_number else msti_designated f tree p.lan_number) p)
          ∙ role_same net numbers v f.regions of msti_rules (msti_sight net tree o.cist.designated) (msti_is_sight net of.network tree o.cist.designated) (o.msti tree) (is.is_outcome.mstis tree)
          (msti_vector f tree) (msti_designated f tree) (is.mstis tree) (λ x. x.receiver) (msti_port (by_tree net) tree (named_port p)).id p seen

      go : (b : Bool) → p.is_enabled ≡ b
          → (if b then (if seen_internal v f.regions (designated_of f.cist) p
          then seen_role_by v (msti_port v.settings tree (named_port p)).id (option_map (λ x. x.receiver) (msti_vector f tree p.bridge)) (designated_in f tree p.lan_number) p
          else outside (seen_cist_role v f p)) else Disabled)
          ≡ (if b then (if is_internal net o.cist.designated (named_port p)
          then role_by (msti_port (by_tree net) tree (named_port p)).id (option_map (λ x. x.receiver) ((o.msti tree).vector p.name.bridge)) ((o.msti tree).designated p.lan) p.name
          else outside (cist_role net o (named_port p))) else Disabled)
      go false e = refl
      go true e = λ i. if internal_of_enabled p seen e i then inside i else outside (cist_same p seen i)

  pub each_same : (tree : ℕ) (p : PortInView) → SeenPort net numbers p → seen_role v f tree p ≡ role_in net o tree (named_port p)
  each_same tree p seen = go (tree == 0) refl
    where
      go : (b : Bool) → (tree == 0) ≡ b → (if b then Some (seen_cist_role v f p) else (if is_among (trees_at v p.bridge) tree then Some (seen_msti_role v f tree p) else None))
          ≡ (if b then Some (cist_role net o (named_port p)) else (if has_msti net tree p.name.bridge then Some (msti_role net o tree (named_port p)) else None))
      go true e = ap Some (cist_same p seen)
      go false e = λ i. if has_tree_at net numbers v f.regions of tree p.name.bridge p.bridge seen.has_numbers.bridge i then Some (msti_same tree e p seen i) else None

  -- the role of a port of the view is that of its name
  pub own_role : (tree : ℕ) (p : PortInView) → Contains v.ports p → seen_role v f tree p ≡ role_of net o tree p.name
  own_role tree p there =
      each_same tree p (port_seen net numbers v of.view p there) ∙ sym (ap (option_and_then (role_in net o tree)) (port_found net numbers v f.regions of p there))

  -- and so is that of the port of a number
  pub named : (tree : ℕ) (name : PortName) (k : ℕ) → fin.get numbers.ports name ≡ Some k
      → option_and_then (seen_role v f tree) (find (λ p. k == p.number) v.ports) ≡ role_of net o tree name
  named tree name k e = go (find (λ p. k == p.number) v.ports) refl ∙ sym (ap (option_and_then (role_in net o tree)) (port_listed net numbers v f.regions of name k e))
    where
      go : (x : Option PortInView) → find (λ p. k == p.number) v.ports ≡ x → option_and_then (seen_role v f tree) (find (λ p. k == p.number) v.ports) ≡ option_and_then (role_in net o tree) (option_map named_port (find (λ p. k == p.number) v.ports))
      go None h = ap (option_and_then (seen_role v f tree)) h ∙ sym (ap (λ y. option_and_then (role_in net o tree) (option_map named_port y)) h)
      go (Some p) h =
          ap (option_and_then (seen_role v f tree)) h ∙ each_same tree p (port_seen net numbers v of.view p (found_in (λ (p : PortInView). k == p.number) v.ports p h))
          ∙ sym (ap (λ y. option_and_then (role_in net o tree) (option_map named_port y)) h)

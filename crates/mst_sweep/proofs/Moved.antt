-- Roots and roles that are other ones, under names.
use Rattle.std.proofs.Common.{◌≡◌, ℕ, ◌+◌, ◌<◌, ◌≤◌, ◌==◌, ◌||◌, Bool, true, false, cond, List, [], ◌∷◌, ◌++◌, length, take, get_or, map, Option, Some, None, refl, sym, ap, subst, ◌∙◌, arith}
use Rattle.std.specs.Prelude.{if◌then◌else◌}
use Rattle.std.specs.List.{AllByRecursion, Contains, filter, filter_map, find, list_any, count_by, sum_by, range_with_len, cons_option}
use Rattle.std.specs.Option.{option_map, option_map_or, option_and_then}
use Rattle.std.specs.FinMap as fin
use Rattle.std.specs.FinMap.{len-entries}
use Rattle.std.specs.Cmp.Lexicographic.{bytes_decides}
use Rattle.std.proofs.lemmas.List.{length-map, get_or-map, get_or_default}
use Rattle.mst_net.proofs.tables_lemmas.Rising.{range_more}
use Rattle.std.proofs.lemmas.List.Elements.{filter-append}
use Rattle.std.proofs.lemmas.List.Sums.{count_by_more_yes, count_by_more_no, count_by-le-length, length-filter, sum_by-append, sum_by-cons}
use Rattle.mst_ids.specs.declared.name.PortName.{PortName}
use Rattle.mst_net.specs.tables.Tables.{Net, Numbers, port_eq}
use Rattle.mst_net.specs.tables.Seen.{bridge_row}
use Rattle.mst_view.specs.Aggregation.{Plug, plug_of, plugs, same_name}
use Rattle.mst_view.specs.View.{LogicalPort, logical_port, as_port, view_ports, bridge_names, port_names}
use Rattle.mst_view.specs.Viewed.{Viewed, named_port}
use Rattle.mst_view.specs.declared.in_view.BridgeInView.{BridgeInView}
use Rattle.mst_view.specs.declared.in_view.PortInView.{PortInView}
use Rattle.mst_vlan.specs.forest.Agrees.{AreOf}
use Rattle.mst_vlan.specs.forest.Forest.{Forest, IsForest}
use Rattle.mst_vlan.specs.forest.Msti.{has_msti}
use Rattle.mst_vlan.specs.forest.Outcome.{Outcome}
use Rattle.mst_vlan.proofs.forest_lemmas.Entries.{all_weaker}
use Rattle.mst_vlan.proofs.forest_lemmas.Lists.{all_there, mapped_twice}
use Rattle.mst_vlan.proofs.roles_lemmas.Named.{own_role}
use Rattle.mst_vlan.specs.roles.Roles.{role_of, role_in, cist_role, msti_role}
use Rattle.mst_vlan.specs.roles.SeenRoles.{seen_role}
use Rattle.mst_vlan.specs.forest.AllTrees.{all_trees}
use Rattle.mst_vlan.proofs.forest_lemmas.AllTrees.{trees_are}
use Rattle.mst_facts.specs.declared.both.Both.{Both}
use Rattle.mst_facts.specs.Roots.{root_of}
use Rattle.mst_facts.specs.Both.{seen_in_both, seen_both}
use Rattle.mst_facts.proofs.Lists.{find-found, list_any-map}
use Rattle.mst_facts.proofs.Named.{found_named, names_are, none_there, root_named}
use Rattle.mst_sweep.specs.Moved.{is_other_root, root_moved, is_other_role, port_moved}
use Rattle.mst_sweep.specs.Seen.{seen_root_moved, seen_port_moved}

-- ---- lists
-- whether some of what is made of things passes
list_any-filter_map : {A B : Type 0} (test : B → Bool) (h : A → Option B) (xs : List A) → list_any test (filter_map h xs) ≡ list_any (λ x. option_map_or test (h x) false) xs
list_any-filter_map test h [] = refl
list_any-filter_map {A} {B} test h (x ∷ xs) = go (h x) (list_any-filter_map test h xs)
  where
    go : (o : Option B) → list_any test (filter_map h xs) ≡ list_any (λ x. option_map_or test (h x) false) xs
        → list_any test (cons_option o (filter_map h xs)) ≡ (option_map_or test o false || list_any (λ x. option_map_or test (h x) false) xs)
    go None rest = rest
    go (Some y) rest = ap (λ b. test y || b) rest

any_alike : {A : Type 0} (f g : A → Bool) (xs : List A) → AllByRecursion (λ x. f x ≡ g x) xs → list_any f xs ≡ list_any g xs
any_alike f g [] h = refl
any_alike f g (x ∷ xs) h = let first = h.0 in let rest = any_alike f g xs h.1 in λ i. first i || rest i

none_any : {A : Type 0} (f : A → Bool) (xs : List A) → ((x : A) → f x ≡ false) → list_any f xs ≡ false
none_any f [] h = refl
none_any f (x ∷ xs) h = (λ i. h x i || list_any f xs) ∙ none_any f xs h

count_none : {A : Type 0} (test : A → Bool) (x : A) (xs : List A) → test x ≡ false → count_by test (x ∷ xs) ≡ count_by test xs
count_none test x xs e =
    let none : 0 + count_by test xs ≡ count_by test xs = omega arith in
    sum_by-cons (λ y. cond (test y) 1 0) x xs ∙ ap (λ b. cond b 1 0 + count_by test xs) e ∙ none

few_made : {A B : Type 0} (h : A → Option B) (xs : List A) → length (filter_map h xs) ≤ length xs
few_made h [] = let none : 0 ≤ 0 = omega arith in none
few_made {A} {B} h (x ∷ xs) = go (h x) (few_made h xs)
  where
    go : (o : Option B) → length (filter_map h xs) ≤ length xs → length (cons_option o (filter_map h xs)) ≤ length (x ∷ xs)
    go None l = omega arith
    go (Some y) l = omega arith

-- one more tree of those that pass, and all of them
pub trees_more : (test : ℕ → Bool) (n : ℕ) → filter test (range_with_len 0 (n + 1)) ≡ filter test (range_with_len 0 n) ++ cond (test n) (n ∷ []) []
trees_more test n = let same : 0 + n ≡ n = omega arith in ap (filter test) (range_more 0 n ∙ ap (λ m. range_with_len 0 n ++ m ∷ []) same) ∙ filter-append test (range_with_len 0 n) (n ∷ [])

pub trees_all : (test : ℕ → Bool) (n : ℕ) → n ≡ 4095 → filter test (range_with_len 0 n) ≡ filter test all_trees
trees_all test n e = ap (filter test) (ap (range_with_len 0) e ∙ trees_are)

pub sums_more : (f : ℕ → ℕ) (n : ℕ) → sum_by f (range_with_len 0 (n + 1)) ≡ sum_by f (range_with_len 0 n) + f n
sums_more f n =
    let same : 0 + n ≡ n = omega arith in
    let one : 0 + f n ≡ f n = omega arith in
    ap (sum_by f) (range_more 0 n ∙ ap (λ m. range_with_len 0 n ++ m ∷ []) same) ∙ sum_by-append f (range_with_len 0 n) (n ∷ []) ∙ ap (λ m. sum_by f (range_with_len 0 n) + m) one

pub sums_all : (f : ℕ → ℕ) (n : ℕ) → n ≡ 4095 → sum_by f (range_with_len 0 n) ≡ sum_by f all_trees
sums_all f n e = ap (sum_by f) (ap (range_with_len 0) e ∙ trees_are)

-- ---- roots
none_other : (o : Option ℕ) → is_other_root o None ≡ false
none_other None = refl
none_other (Some x) = refl

module _ (a b : Net) (n k : Numbers) (v w : Viewed) (f g : Forest) (of : AreOf a n v f.regions) (so : AreOf b k w g.regions) (is : IsForest a n f) (are : IsForest b k g) (tree : ℕ) where
  abbrev moved : Both → Bool
  moved = seen_root_moved v f w g tree

  each_moved : (x : BridgeInView) → Contains v.bridges x → option_map_or moved (seen_in_both w x) false ≡ root_moved a is.outcome b are.outcome tree x.name
  each_moved x there = go (find (λ (y : BridgeInView). same_name y.name x.name) w.bridges) refl
    where
      go : (o : Option BridgeInView) → find (λ (y : BridgeInView). same_name y.name x.name) w.bridges ≡ o
          → option_map_or moved (option_map (λ y. record { old = x; new = y }) o) false ≡ root_moved a is.outcome b are.outcome tree x.name
      go None e =
          sym (ap (is_other_root (root_of a is.outcome tree x.name)) (none_there b are.outcome tree x.name (found_named b k w g so x.name ∙ ap (option_map (λ (y : BridgeInView). bridge_row y.bridge)) e) (tree == 0))
          ∙ none_other (root_of a is.outcome tree x.name))
      go (Some y) e =
          let found = find-found (λ (y : BridgeInView). same_name y.name x.name) w.bridges y e in
          let name : y.name ≡ x.name = (bytes_decides y.name x.name).0 found.1 in
          λ i. is_other_root (root_named a n v f of is tree x there i) ((root_named b k w g so are tree y found.0 ∙ ap (root_of b are.outcome tree) name) i)

  -- whether some bridge's root is another one
  pub any_moved : list_any moved (seen_both v w) ≡ list_any (root_moved a is.outcome b are.outcome tree) (bridge_names a)
  any_moved =
      list_any-filter_map moved (seen_in_both w) v.bridges
      ∙ any_alike _ (λ (x : BridgeInView). root_moved a is.outcome b are.outcome tree x.name) v.bridges (all_weaker (Contains v.bridges) _ each_moved v.bridges (all_there v.bridges))
      ∙ sym (list_any-map (root_moved a is.outcome b are.outcome tree) (λ (x : BridgeInView). x.name) v.bridges)
      ∙ ap (list_any (root_moved a is.outcome b are.outcome tree)) (names_are a n v f of)

-- of a tree beside the CIST that no bridge has
module _ (a b : Net) (o p : Outcome) (tree : ℕ) (other : (tree == 0) ≡ false) (none : (name : List ℕ) → has_msti a tree name ≡ false) where
  no_root : (name : List ℕ) → root_of a o tree name ≡ None
  no_root name = λ i. if other i then (if fin.contains_key a.bridges name then option_map (λ v. v.root) (o.cist.vector name) else None) else (if none name i then option_map (λ v. v.regional) ((o.msti tree).vector name) else None)

  pub none_moved : list_any (root_moved a o b p tree) (bridge_names a) ≡ false
  none_moved = none_any (root_moved a o b p tree) (bridge_names a) (λ name. ap (λ r. is_other_root r (root_of b p tree name)) (no_root name))

  no_role_at : (q : Option LogicalPort) → option_and_then (role_in a o tree) q ≡ None
  no_role_at None = refl
  no_role_at (Some q) = λ i. if other i then Some (cist_role a o q) else (if none q.name.bridge i then Some (msti_role a o tree q) else None)

  no_role : (port : PortName) → role_of a o tree port ≡ None
  no_role port = no_role_at (find (λ (q : LogicalPort). port_eq q.name port) (view_ports a))

  pub none_counted : (ports : List PortName) → count_by (port_moved a o b p tree) ports ≡ 0
  none_counted [] = refl
  none_counted (port ∷ ports) = count_none (port_moved a o b p tree) port ports (ap (λ r. is_other_role r (role_of b p tree port)) (no_role port)) ∙ none_counted ports

-- ---- roles
-- a network has few logical ports
pub few_ports : (net : Net) (numbers : Numbers) (v : Viewed) (classes : List (ℕ × ℕ)) → AreOf net numbers v classes → length v.ports ≤ 16384
few_ports net numbers v classes of =
    let logical : Plug → Bool = λ p. port_eq (logical_port net p).port p.port in
    let seen : length v.ports ≡ length (view_ports net) = sym (length-map v.ports named_port) ∙ ap length of.view.ports in
    let mapped : length (view_ports net) ≡ length (filter logical (plugs net)) = length-map (filter logical (plugs net)) (as_port net) in
    let counted : length (filter logical (plugs net)) ≡ count_by logical (plugs net) = length-filter logical (plugs net) in
    let passed : count_by logical (plugs net) ≤ length (plugs net) = count_by-le-length logical (plugs net) in
    let plugged : length (plugs net) ≤ length (fin.entries net.ports) = few_made plug_of (fin.entries net.ports) in
    let kept : fin.len net.ports ≡ length (fin.entries net.ports) = len-entries net.ports in
    let few : fin.len net.ports ≤ 16384 = of.network.ports.few in
    omega arith

module _ (a b : Net) (n k : Numbers) (v w : Viewed) (f g : Forest) (of : AreOf a n v f.regions) (so : AreOf b k w g.regions) (is : IsForest a n f) (are : IsForest b k g) (tree : ℕ) where
  -- a port of both views of one name
  role_moved : (x y : PortInView) → Contains v.ports x → Contains w.ports y → y.name ≡ x.name → seen_port_moved v f w g tree x y ≡ port_moved a is.outcome b are.outcome tree x.name
  role_moved x y here there name =
      let old : seen_role v f tree x ≡ role_of a is.outcome tree x.name = own_role a n v f of is tree x here in
      let new : seen_role w g tree y ≡ role_of b are.outcome tree x.name = own_role b k w g so are tree y there ∙ ap (role_of b are.outcome tree) name in
      λ i. is_other_role (old i) (new i)

  module _ (ports : port_names a ≡ port_names b) where
    names_of : map (λ (x : PortInView). x.name) v.ports ≡ port_names a
    names_of = sym (mapped_twice (λ (q : LogicalPort). q.name) named_port v.ports) ∙ ap (map (λ (q : LogicalPort). q.name)) of.view.ports

    names_of_too : map (λ (y : PortInView). y.name) w.ports ≡ port_names a
    names_of_too = sym (mapped_twice (λ (q : LogicalPort). q.name) named_port w.ports) ∙ ap (map (λ (q : LogicalPort). q.name)) so.view.ports ∙ sym ports

    -- both views have as many ports, and those at one place have one name
    pub as_many : length w.ports ≡ length v.ports
    as_many = sym (length-map w.ports (λ (y : PortInView). y.name)) ∙ ap length (names_of_too ∙ sym names_of) ∙ length-map v.ports (λ (x : PortInView). x.name)

    pub moved_at : (i : ℕ) (x y : PortInView) → i < length v.ports → x ≡ get_or v.ports i x → y ≡ get_or w.ports i y → (name : PortName) → get_or (port_names a) i name ≡ name
        → seen_port_moved v f w g tree x y ≡ port_moved a is.outcome b are.outcome tree name
    moved_at i x y l is_x is_y name is_name =
        let many : length w.ports ≡ length v.ports = as_many in
        let m : i < length w.ports = omega arith in
        let long : i < length (port_names a) = subst (λ ns. i < length ns) names_of (subst (λ m. i < m) (sym (length-map v.ports (λ (x : PortInView). x.name))) l) in
        let first : get_or (port_names a) i x.name ≡ x.name = ap (λ ns. get_or ns i x.name) (sym names_of) ∙ get_or-map (λ (x : PortInView). x.name) v.ports i x x.name l ∙ ap (λ (z : PortInView). z.name) (sym is_x) in
        let second : get_or (port_names a) i y.name ≡ y.name = ap (λ ns. get_or ns i y.name) (sym names_of_too) ∙ get_or-map (λ (y : PortInView). y.name) w.ports i y y.name m ∙ ap (λ (z : PortInView). z.name) (sym is_y) in
        let same : y.name ≡ x.name = sym second ∙ get_or_default (port_names a) i y.name x.name long ∙ first in
        let called : x.name ≡ name = sym first ∙ get_or_default (port_names a) i x.name name long ∙ is_name in
        role_moved x y (i, l, sym is_x) (i, m, sym is_y) same ∙ ap (port_moved a is.outcome b are.outcome tree) called

    pub as_named : length (port_names a) ≡ length v.ports
    as_named = ap length (sym names_of) ∙ length-map v.ports (λ (x : PortInView). x.name)

-- ---- one more port
abbrev nobody : PortName
nobody = record { bridge = []; number = 0 }

pub count_step : (test : PortName → Bool) (ports : List PortName) (i : ℕ) (b : Bool) (count new : ℕ) → i < length ports → ((name : PortName) → get_or ports i name ≡ name → b ≡ test name)
    → count ≡ count_by test (take i ports) → new ≡ cond b (count + 1) count → new ≡ count_by test (take (i + 1) ports)
count_step test ports i b count new l h before after = go b refl
  where
    is : b ≡ test (get_or ports i nobody)
    is = h (get_or ports i nobody) (get_or_default ports i (get_or ports i nobody) nobody l)

    go : (d : Bool) → b ≡ d → new ≡ count_by test (take (i + 1) ports)
    go true e = after ∙ ap (λ d. cond d (count + 1) count) e ∙ ap (λ n. n + 1) before ∙ sym (count_by_more_yes test ports i nobody l (sym is ∙ e))
    go false e = after ∙ ap (λ d. cond d (count + 1) count) e ∙ before ∙ sym (count_by_more_no test ports i nobody l (sym is ∙ e))

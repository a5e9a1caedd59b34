-- What is asked about a port, under the numbers of records and by name.
use Rattle.std.proofs.Common.{◌≡◌, ℕ, ◌==◌, ◌||◌, Bool, true, false, not, cond, List, [], ◌∷◌, map, Option, Some, None, is_some, refl, sym, ap, subst, ◌∙◌, true≢false, append-nil}
use Rattle.std.specs.Prelude.{if◌then◌else◌}
use Rattle.std.specs.List.{AllByRecursion, Contains, find}
use Rattle.std.specs.Option.{option_map, option_map_or}
use Rattle.std.specs.FinMap as fin
use Rattle.std.proofs.lemmas.Bool.{eqb-true}
use Rattle.mst_ids.specs.declared.name.PortName.{PortName}
use Rattle.mst_net.specs.tables.After.{has_bridge}
use Rattle.mst_net.specs.tables.Tables.{Net, Numbers, BridgeRow, IsNetwork, port_eq}
use Rattle.mst_rows.specs.Rows.{Row}
use Rattle.mst_view.specs.Trees.{mstis_of, is_among}
use Rattle.mst_view.specs.View.{LogicalPort, view_ports}
use Rattle.mst_view.specs.Viewed.{Viewed, named_port}
use Rattle.mst_view.specs.declared.in_view.PortInView.{PortInView}
use Rattle.mst_roles.specs.forest.Agrees.{AreOf}
use Rattle.mst_roles.specs.forest.InUse.{seen_has}
use Rattle.mst_roles.specs.forest.Msti.{has_msti}
use Rattle.mst_roles.specs.forest.Outcome.{Outcome, IsOutcome}
use Rattle.mst_roles.specs.forest.Settled.{SettledNet, outcome_of, IsSettledNet}
use Rattle.mst_roles.proofs.forest_lemmas.Entries.{all_weaker}
use Rattle.mst_roles.specs.forest.Seen.{trees_at}
use Rattle.mst_roles.proofs.forest_lemmas.Lists.{some_is, no_some, passed, all_there, there_first, there_later}
use Rattle.mst_roles.proofs.forest_lemmas.Seen.{port_seen}
use Rattle.mst_roles.proofs.forest_lemmas.Looking.{has_tree_at}
use Rattle.mst_roles.proofs.Named.{port_is, port_found, found_in}
use Rattle.mst_advise.specs.explain.Explained.{IsExplained, AreExplained, trees_of_bridge}
use Rattle.mst_advise.proofs.explain_lemmas.Texts.{tree_there as among_trees}
use Rattle.mst_questions.specs.Unadvised.{unrooted_of}
use Rattle.mst_questions.specs.Explaining.{logical_port_of, has_tree, has_asked, unexplained_of, asked_trees, Explains}
use Rattle.mst_questions.specs.declared.explaining.Unexplained.{Unexplained}
use Rattle.mst_questions.specs.declared.explaining.Unexplained.TheVariants.{NoBridge, NoPort, NoTree}

-- ---- what applies first
abbrev first_of : Bool → Bool → Bool → Option Unexplained
first_of bridge port tree = if not bridge then Some NoBridge else (if not port then Some NoPort else (if not tree then Some NoTree else None))

module _ (net : Net) (name : PortName) (tree : Option ℕ) where
  pub without_bridge : has_bridge name.bridge net ≡ false → unexplained_of net name tree ≡ Some NoBridge
  without_bridge e = ap (λ b. first_of b (is_some (logical_port_of net name)) (has_asked net name.bridge tree)) e

  pub without_port : has_bridge name.bridge net ≡ true → is_some (logical_port_of net name) ≡ false → unexplained_of net name tree ≡ Some NoPort
  without_port e f = λ i. first_of (e i) (f i) (has_asked net name.bridge tree)

  pub with_port : has_bridge name.bridge net ≡ true → is_some (logical_port_of net name) ≡ true → unexplained_of net name tree ≡ (if not (has_asked net name.bridge tree) then Some NoTree else None)
  with_port e f = λ i. first_of (e i) (f i) (has_asked net name.bridge tree)

  -- what is there where nothing applies
  pub record HasAll : Type 0 where
    pub found : is_some (logical_port_of net name) ≡ true
    pub asked : has_asked net name.bridge tree ≡ true

  pub has_all : unexplained_of net name tree ≡ None → HasAll
  has_all = go (has_bridge name.bridge net) (is_some (logical_port_of net name)) refl (has_asked net name.bridge tree) refl
    where
      go : (b p : Bool) → is_some (logical_port_of net name) ≡ p → (t : Bool) → has_asked net name.bridge tree ≡ t → first_of b p t ≡ None → HasAll
      go false p e t f h = absurd (true≢false (ap is_some h))
      go true false e t f h = absurd (true≢false (ap is_some h))
      go true true e false f h = absurd (true≢false (ap is_some h))
      go true true e true f h = record { found = e; asked = f }

-- a tree that a bridge has is among its trees
pub tree_there : (net : Net) (bridge : List ℕ) (tree : ℕ) → has_tree net bridge tree ≡ true → Contains (trees_of_bridge net bridge) tree
tree_there net bridge tree = go (tree == 0) refl (fin.get net.bridges bridge)
  where
    own : Option BridgeRow → List ℕ
    own row = option_map_or (mstis_of net bridge) row []

    go : (b : Bool) → (tree == 0) ≡ b → (row : Option BridgeRow) → (b || option_map_or (λ row. is_among (mstis_of net bridge row) tree) row false) ≡ true → Contains (0 ∷ own row) tree
    go true e row h = subst (Contains (0 ∷ own row)) (sym (eqb-true tree 0 e)) (there_first 0 (own row))
    go false e None h = absurd (true≢false (sym h))
    go false e (Some row) h =
        let found = passed (λ t. t == tree) (mstis_of net bridge row) h in
        there_later tree 0 (mstis_of net bridge row) (subst (Contains (mstis_of net bridge row)) (eqb-true found.0 tree found.2) found.1)

-- what is found passes the test
found_passes : {A : Type 0} (test : A → Bool) (xs : List A) (x : A) → find test xs ≡ Some x → test x ≡ true
found_passes test [] x e = absurd (no_some x e)
found_passes {A} test (y ∷ ys) x e = go (test y) refl e (found_passes test ys x)
  where
    go : (b : Bool) → test y ≡ b → cond b (Some y) (find test ys) ≡ Some x → (find test ys ≡ Some x → test x ≡ true) → test x ≡ true
    go true f h rest = ap test (sym (some_is y x h)) ∙ f
    go false f h rest = rest h

-- each tree that is told of is one that the bridge has
pub told_had : (net : Net) (bridge : List ℕ) (tree : Option ℕ) → has_asked net bridge tree ≡ true → AllByRecursion (λ t. has_tree net bridge t ≡ true) (asked_trees net bridge tree)
told_had net bridge (Some t) h = (h, tt)
told_had net bridge None h = all_weaker (Contains (trees_of_bridge net bridge)) _ (λ t c. by t c (t == 0) refl) (trees_of_bridge net bridge) (all_there (trees_of_bridge net bridge))
  where
    by : (t : ℕ) → Contains (trees_of_bridge net bridge) t → (b : Bool) → (t == 0) ≡ b → has_tree net bridge t ≡ true
    by t c true e = ap (λ b. b || has_msti net t bridge) e
    by t c false e = ap (λ b. b || has_msti net t bridge) e ∙ among_trees net bridge t c e

-- where ports have explanations by an outcome, and there is one, a port that isn't refused has an explanation
pub some_explains : ((net : Net) (o : Outcome) → IsNetwork net → IsOutcome net o → (p : LogicalPort) → Contains (view_ports net) p → (trees : List ℕ) → AllByRecursion (λ t. has_tree net p.name.bridge t ≡ true) trees → (rows : List Row) × AreExplained net o p trees rows)
    → ((net : Net) → IsNetwork net → (o : Outcome) × IsOutcome net o) → (net : Net) (name : PortName) (tree : Option ℕ) → IsNetwork net → unexplained_of net name tree ≡ None → (rows : List Row) × Explains net name tree rows
some_explains some has net name tree ok none = by (logical_port_of net name) refl (has_all net name tree none).found
  where
    trees : List ℕ
    trees = asked_trees net name.bridge tree

    by : (found : Option LogicalPort) → logical_port_of net name ≡ found → is_some (logical_port_of net name) ≡ true → (rows : List Row) × Explains net name tree rows
    by None e h = absurd (true≢false (sym h ∙ ap is_some e))
    by (Some p) e h =
        let o = has net ok in
        let named : p.name ≡ name = port_is p.name name (found_passes (λ (q : LogicalPort). port_eq q.name name) (view_ports net) p e) in
        let had = subst (λ (n : PortName). AllByRecursion (λ t. has_tree net n.bridge t ≡ true) trees) (sym named) (told_had net name.bridge tree (has_all net name tree none).asked) in
        let said = some net o.0 ok o.1 p (found_in (λ (q : LogicalPort). port_eq q.name name) (view_ports net) p e) trees had in
        (said.0, record { port = p; is_port = e; outcome = o.0; is_outcome = o.1; told = said.1 })

-- so a port that is found by name has that name
pub has_name : (name : PortName) (ps : List PortInView) (p : PortInView) → find (λ p. port_eq p.name name) ps ≡ Some p → p.name ≡ name
has_name name ps p e = port_is p.name name (found_passes (λ (p : PortInView). port_eq p.name name) ps p e)

-- the first of a changed list
find_changed : {A B : Type 0} (test : B → Bool) (f : A → B) (xs : List A) → find test (map f xs) ≡ option_map f (find (λ x. test (f x)) xs)
find_changed test f [] = refl
find_changed {A} {B} test f (x ∷ xs) = go (test (f x)) (find_changed test f xs)
  where
    go : (b : Bool) → find test (map f xs) ≡ option_map f (find (λ x. test (f x)) xs)
        → cond b (Some (f x)) (find test (map f xs)) ≡ option_map f (cond b (Some x) (find (λ x. test (f x)) xs))
    go true e = refl
    go false e = e

module _ (s : SettledNet) (is : IsSettledNet s) where
  -- ---- the logical port of a name
  by_name : (name : PortName) → option_map named_port (find (λ p. port_eq p.name name) s.view.ports) ≡ logical_port_of s.net name
  by_name name = sym (find_changed (λ (p : LogicalPort). port_eq p.name name) named_port s.view.ports) ∙ ap (find (λ (p : LogicalPort). port_eq p.name name)) is.of.view.ports

  pub not_found : (name : PortName) → find (λ p. port_eq p.name name) s.view.ports ≡ None → is_some (logical_port_of s.net name) ≡ false
  not_found name e = ap is_some (sym (by_name name) ∙ ap (option_map named_port) e)

  module _ (name : PortName) (p : PortInView) (e : find (λ p. port_eq p.name name) s.view.ports ≡ Some p) where
    pub is_found : is_some (logical_port_of s.net name) ≡ true
    is_found = ap is_some (sym (by_name name) ∙ ap (option_map named_port) e)

    pub found_there : Contains s.view.ports p
    found_there = found_in (λ (p : PortInView). port_eq p.name name) s.view.ports p e

  module _ (port : PortInView) (there : Contains s.view.ports port) where
    -- it is the logical port of its name
    is_port : logical_port_of s.net port.name ≡ Some (named_port port)
    is_port = port_found s.net s.numbers s.view s.forest.regions is.of port there

    -- the trees of its bridge
    pub has_tree_by_number : (tree : ℕ) → (tree == 0 || is_among (trees_at s.view port.bridge) tree) ≡ has_tree s.net port.name.bridge tree
    has_tree_by_number tree =
        let own = (port_seen s.net s.numbers s.view is.of.view port there).has_numbers in
        ap (λ b. tree == 0 || b) (has_tree_at s.net s.numbers s.view s.forest.regions is.of tree port.name.bridge port.bridge own.bridge)

    -- ---- its rows
    pub told_in_each : (rows : List Row) → AreExplained s.net (outcome_of s) (named_port port) (trees_of_bridge s.net port.name.bridge) rows → Explains s.net port.name None rows
    told_in_each rows told = record { port = named_port port; is_port = is_port; outcome = outcome_of s; is_outcome = is.is_outcome; told = told }

    pub told_in : (tree : ℕ) (rows : List Row) → IsExplained s.net (outcome_of s) tree (named_port port) rows → Explains s.net port.name (Some tree) rows
    told_in tree rows told = record { port = named_port port; is_port = is_port; outcome = outcome_of s; is_outcome = is.is_outcome; told = (rows, [], told, refl, sym (append-nil rows)) }

    -- it is among those of the network
    pub port_there : Contains (view_ports s.net) (named_port port)
    port_there = found_in (λ (q : LogicalPort). port_eq q.name port.name) (view_ports s.net) (named_port port) is_port

-- ---- why a bridge can't be the root of a tree
abbrev root_of : Bool → Bool → Option Unexplained
root_of bridge tree = if not bridge then Some NoBridge else (if not tree then Some NoTree else None)

-- of the bridge under a number, by whether it is seen to have the tree
pub rootless_by : (net : Net) (numbers : Numbers) (v : Viewed) (region_ids : List (ℕ × ℕ)) → AreOf net numbers v region_ids
    → (name : List ℕ) (tree number : ℕ) → fin.get numbers.bridges name ≡ Some number → (has : Bool) → has ≡ seen_has v tree number → (if not has then Some NoTree else None) ≡ unrooted_of net tree name
rootless_by net numbers v region_ids of name tree number numbered has seen = λ i. root_of (there i) (tree_had i)
  where
    there : true ≡ has_bridge name net
    there = sym (ap is_some numbered) ∙ of.numbered.bridges name

    tree_had : has ≡ has_tree net name tree
    tree_had = seen ∙ ap (λ h. tree == 0 || h) (has_tree_at net numbers v region_ids of tree name number numbered)

-- ---- by the law that a port's explanations are one list of rows
module _ (one : (net : Net) (o q : Outcome) → IsNetwork net → IsOutcome net o → IsOutcome net q
    → (p : LogicalPort) (trees : List ℕ) (rows other : List Row) → AreExplained net o p trees rows → AreExplained net q p trees other → rows ≡ other) where
  -- a port that is explained has one
  pub one_list : (net : Net) (name : PortName) (tree : Option ℕ) (rows other : List Row) → IsNetwork net → Explains net name tree rows → Explains net name tree other → rows ≡ other
  one_list net name tree rows other ok a b =
      let trees = asked_trees net name.bridge tree in
      let same : a.port ≡ b.port = some_is a.port b.port (sym a.is_port ∙ b.is_port) in
      one net a.outcome b.outcome ok a.is_outcome b.is_outcome b.port trees rows other (subst (λ p. AreExplained net a.outcome p trees rows) same a.told) b.told

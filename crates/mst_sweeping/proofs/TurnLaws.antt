-- Which bridges turn: none between a network and itself, and each that doesn't keep its ways out. And which lists of them are told.
use Rattle.std.proofs.Common.{◌≡◌, ℕ, ◌&&◌, ◌||◌, not, Bool, true, false, List, [], ◌∷◌, ◌++◌, map, ◌⊎◌, inl, inr, refl, sym, ap, subst, ◌∙◌, true≢false}
use Rattle.std.specs.Prelude.{◌↔◌, if◌then◌else◌}
use Rattle.std.specs.Cmp.Lexicographic.{bytes_decides, pointwise_decides}
use Rattle.std.specs.List.{Contains, filter, fold, list_any}
use Rattle.std.proofs.lemmas.Bool.{or_parts}
use Rattle.std.proofs.lemmas.List.Elements.{Contains-append_left, Contains-push, Contains-push_cases}
use Rattle.mst_graph.specs.Lists.{has_any, with_new}
use Rattle.mst_graph.proofs.Members.{cases, filter_none, from_filter, from_map, here, in_filter, in_map, in_none, passing, there}
use Rattle.mst_net.specs.tables.Tables.{Net, port_eq}
use Rattle.mst_view.specs.Aggregation.{same_name}
use Rattle.mst_view.specs.View.{bridge_names}
use Rattle.mst_plan.specs.forest.AllTrees.{all_trees}
use Rattle.mst_plan.specs.forest.Outcome.{Outcome}
use Rattle.mst_roles.proofs.Named.{port_is, port_same}
use Rattle.mst_sweeping.specs.Links.{same_link}
use Rattle.mst_sweeping.specs.Turns.{KeepsWays, TakesOtherWay, TurnIn, has_other_way, has_own_way, lists_of, same_bridges, takes_part, trees_with, turned, turning, turns, ways_out}
use Rattle.mst_sweeping.specs.declared.links.Link.{Link}

-- ---- tests
both_true : (x y : Bool) → (x && y) ≡ true → (x ≡ true) × (y ≡ true)
both_true true y e = (refl, e)
both_true false y e = absurd (true≢false (sym e))

all_true : (x y z : Bool) → x ≡ true → y ≡ true → z ≡ true → (x && y && z) ≡ true
all_true x y z e f h = λ i. e i && f i && h i

either : (x y : Bool) → (x || y) ≡ true → (x ≡ true) ⊎ (y ≡ true)
either true y e = inl refl
either false y e = inr e

isnt : (x : Bool) → (x ≡ true → ⊥) → x ≡ false
isnt true h = absurd (h refl)
isnt false h = refl

-- one that passes is there
some_passes : {A : Type 0} (test : A → Bool) (xs : List A) (x : A) → Contains xs x → test x ≡ true → list_any test xs ≡ true
some_passes test [] x h e = absurd (in_none x h)
some_passes {A} test (y ∷ ys) x h e = go (test y) refl (cases y x ys h) (λ a. some_passes test ys x a e)
  where
    go : (b : Bool) → test y ≡ b → (y ≡ x) ⊎ Contains ys x → (Contains ys x → list_any test ys ≡ true) → (b || list_any test ys) ≡ true
    go true f c rest = refl
    go false f (inl same) rest = absurd (true≢false (sym e ∙ ap test (sym same) ∙ f))
    go false f (inr a) rest = rest a

-- ---- ways
link_is : (k j : Link) → same_link k j ≡ true → k ≡ j
link_is k j e =
    let parts = both_true (port_eq k.port j.port) (same_name k.lan j.lan) e in
    let port = port_is k.port j.port parts.0 in
    let lan = (bytes_decides k.lan j.lan).0 parts.1 in
    λ i. record { port = port i; lan = lan i }

link_same : (k : Link) → same_link k k ≡ true
link_same k = let port = port_same k.port k.port refl in let lan = (bytes_decides k.lan k.lan).1 refl in λ i. port i && lan i

module _ (ways others : List Link) (bridge : List ℕ) where
  abbrev among : Link → Bool
  among k = list_any (λ j. same_link j k) others

  -- one that isn't one of the others
  own_way : has_own_way ways others bridge ≡ true → (k : Link) × Contains ways k × (k.port.bridge ≡ bridge) × (Contains others k → ⊥)
  own_way e =
      let found = passing (λ k. same_name k.port.bridge bridge && not (among k)) ways e in
      let k : Link = found.0 in
      let parts = both_true (same_name k.port.bridge bridge) (not (among k)) found.2 in
      (k, found.1, (bytes_decides k.port.bridge bridge).0 parts.0, λ h. true≢false (sym parts.1 ∙ ap not (some_passes (λ j. same_link j k) others k h (link_same k))))

  -- where there is none, each is one of the others
  no_own_way : has_own_way ways others bridge ≡ false → (k : Link) → Contains ways k → k.port.bridge ≡ bridge → Contains others k
  no_own_way e k h named = go (among k) refl
    where
      go : (b : Bool) → among k ≡ b → Contains others k
      go true f = let found = passing (λ j. same_link j k) others f in subst (Contains others) (link_is found.0 k found.2) found.1
      go false f =
          let own = (bytes_decides k.port.bridge bridge).1 named in
          absurd (true≢false (sym (some_passes (λ k. same_name k.port.bridge bridge && not (among k)) ways k h (λ i. own i && not (f i))) ∙ e))

module _ (before afterwards : List Link) (bridge : List ℕ) where
  keeps : has_other_way before afterwards bridge ≡ false → KeepsWays before afterwards bridge
  keeps e =
      let parts = or_parts (has_own_way before afterwards bridge) (has_own_way afterwards before bridge) e in
      record { kept = no_own_way before afterwards bridge parts.0; known = no_own_way afterwards before bridge parts.1 }

  keeps_not : has_other_way before afterwards bridge ≡ true → KeepsWays before afterwards bridge → ⊥
  keeps_not e same = elim (either (has_own_way before afterwards bridge) (has_own_way afterwards before bridge) e) [
    | inl f ↦ let own = own_way before afterwards bridge f in own.3 (same.kept own.0 own.1 own.2)
    | inr f ↦ let own = own_way afterwards before bridge f in own.3 (same.known own.0 own.1 own.2)
  ]

-- ---- bridges that turn
module _ (a b : Net) (o p : Outcome) (tree : ℕ) (bridge : List ℕ) where
  abbrev before : List Link
  before = ways_out a o tree

  abbrev afterwards : List Link
  afterwards = ways_out b p tree

  other : Contains (turned a o b p tree) bridge → TakesOtherWay a o b p tree bridge
  other h =
      let own = from_filter (turns a o b p tree) (bridge_names a) bridge h in
      let parts = both_true (takes_part a tree bridge && takes_part b tree bridge) (has_other_way before afterwards bridge) own.1 in
      let part = both_true (takes_part a tree bridge) (takes_part b tree bridge) parts.0 in
      record { there = own.0; was = part.0; is = part.1; differ = keeps_not before afterwards bridge parts.1 }

  back : TakesOtherWay a o b p tree bridge → Contains (turned a o b p tree) bridge
  back x = go (has_other_way before afterwards bridge) refl
    where
      go : (t : Bool) → has_other_way before afterwards bridge ≡ t → Contains (turned a o b p tree) bridge
      go true e = in_filter (turns a o b p tree) (bridge_names a) bridge x.there (all_true (takes_part a tree bridge) (takes_part b tree bridge) (has_other_way before afterwards bridge) x.was x.is e)
      go false e = absurd (x.differ (keeps before afterwards bridge e))

  pub turns_exactly : Contains (turned a o b p tree) bridge ↔ TakesOtherWay a o b p tree bridge
  turns_exactly = (other, back)

-- a tree with those that turn in it
abbrev Turning : Type 0
Turning = ℕ × List (List ℕ)

abbrev tree_of : Turning → ℕ
tree_of t = t.0

abbrev bridges_of : Turning → List (List ℕ)
bridges_of t = t.1

abbrev some_turn : Turning → Bool
some_turn t = has_any t.1

abbrev are_these : List (List ℕ) → Turning → Bool
are_these bridges t = same_bridges t.1 bridges

-- none between a network and itself
module _ (net : Net) (o : Outcome) where
  stays : (tree : ℕ) (bridge : List ℕ) → turns net o net o tree bridge ≡ false
  stays tree bridge = isnt (turns net o net o tree bridge)
      (λ e. let parts = both_true (takes_part net tree bridge && takes_part net tree bridge) (has_other_way (ways_out net o tree) (ways_out net o tree) bridge) e in
      keeps_not (ways_out net o tree) (ways_out net o tree) bridge parts.1 (record { kept = λ k h named. h; known = λ k h named. h }))

  abbrev own_tree : ℕ → Turning
  own_tree tree = (tree, turned net o net o tree)

  none_in : (t : Turning) → Contains (map own_tree all_trees) t → some_turn t ≡ false
  none_in t h =
      let own = from_map own_tree all_trees t h in
      sym (ap some_turn own.2) ∙ ap has_any (filter_none (turns net o net o own.0) (bridge_names net) (λ bridge there. stays own.0 bridge))

  pub none_by_itself : turning net o net o ≡ []
  none_by_itself = filter_none some_turn (map own_tree all_trees) none_in

-- ---- things that are kept once
module _ {A : Type 0} (same : A → A → Bool) where
  -- one was there
  kept_once : (xs kept : List A) (x : A) → Contains (fold (with_new same) kept xs) x → Contains kept x ⊎ Contains xs x
  kept_once [] kept x h = inl h
  kept_once (y ∷ ys) kept x h = go (list_any (λ z. same z y) kept) (kept_once ys (with_new same kept y) x h)
    where
      go : (b : Bool) → Contains (if b then kept else kept ++ y ∷ []) x ⊎ Contains ys x → Contains kept x ⊎ Contains (y ∷ ys) x
      go true (inl before) = inl before
      go true (inr later) = inr (there y x ys later)
      go false (inr later) = inr (there y x ys later)
      go false (inl c) = elim (Contains-push_cases kept y x c) [ inl before ↦ inl before | inr here_now ↦ inr (subst (Contains (y ∷ ys)) here_now (here y ys)) ]

  -- each is there
  module _ (tells : (x y : A) → same x y ≡ true → x ≡ y) where
    stays_kept : (y : A) (kept : List A) (x : A) → Contains kept x → Contains (with_new same kept y) x
    stays_kept y kept x h = go (list_any (λ z. same z y) kept)
      where
        go : (b : Bool) → Contains (if b then kept else kept ++ y ∷ []) x
        go true = h
        go false = Contains-append_left kept (y ∷ []) x h

    new_kept : (y : A) (kept : List A) → Contains (with_new same kept y) y
    new_kept y kept = go (list_any (λ z. same z y) kept) refl
      where
        go : (b : Bool) → list_any (λ z. same z y) kept ≡ b → Contains (if b then kept else kept ++ y ∷ []) y
        go true e = let found = passing (λ z. same z y) kept e in subst (Contains kept) (tells found.0 y found.2) found.1
        go false e = Contains-push kept y

    kept_still : (xs kept : List A) (x : A) → Contains kept x → Contains (fold (with_new same) kept xs) x
    kept_still [] kept x h = h
    kept_still (y ∷ ys) kept x h = kept_still ys (with_new same kept y) x (stays_kept y kept x h)

    there_once : (xs kept : List A) (x : A) → Contains xs x → Contains (fold (with_new same) kept xs) x
    there_once [] kept x h = absurd (in_none x h)
    there_once (y ∷ ys) kept x h = elim (cases y x ys h) [
      | inl e ↦ kept_still ys (with_new same kept y) x (subst (Contains (with_new same kept y)) e (new_kept y kept))
      | inr later ↦ there_once ys (with_new same kept y) x later
    ]

-- ---- lists of bridges
lists_same : (x y : List (List ℕ)) → same_bridges x y ≡ true → x ≡ y
lists_same x y e = (pointwise_decides bytes_decides x y).0 e

list_same : (x y : List (List ℕ)) → x ≡ y → same_bridges x y ≡ true
list_same x y e = (pointwise_decides bytes_decides x y).1 e

module _ (a b : Net) (o p : Outcome) where
  abbrev in_tree : ℕ → Turning
  in_tree tree = (tree, turned a o b p tree)

  abbrev all : List Turning
  all = turning a o b p

  -- a tree with those that turn in it
  turn_in : (t : Turning) → Contains all t → TurnIn a o b p t.1 t.0
  turn_in t h =
      let passed = from_filter some_turn (map in_tree all_trees) t h in
      let own = from_map in_tree all_trees t passed.0 in
      let tree : own.0 ≡ t.0 = ap tree_of own.2 in
      record { is_tree = subst (Contains all_trees) tree own.1; are = ap (turned a o b p) (sym tree) ∙ ap bridges_of own.2; some = passed.1 }

  turn_there : (bridges : List (List ℕ)) (tree : ℕ) → TurnIn a o b p bridges tree → Contains all (tree, bridges)
  turn_there bridges tree x =
      in_filter some_turn (map in_tree all_trees) (tree, bridges) (subst (λ bridges. Contains (map in_tree all_trees) (tree, bridges)) x.are (in_map in_tree all_trees tree x.is_tree)) x.some

  pub trees_exactly : (bridges : List (List ℕ)) (tree : ℕ) → Contains (trees_with all bridges) tree ↔ TurnIn a o b p bridges tree
  trees_exactly bridges tree = (only, each)
    where
      only : Contains (trees_with all bridges) tree → TurnIn a o b p bridges tree
      only h =
          let own = from_map tree_of (filter (are_these bridges) all) tree h in
          let passed = from_filter (are_these bridges) all own.0 own.1 in
          subst (TurnIn a o b p bridges) own.2 (subst (λ bridges. TurnIn a o b p bridges own.0.0) (lists_same own.0.1 bridges passed.1) (turn_in own.0 passed.0))

      each : TurnIn a o b p bridges tree → Contains (trees_with all bridges) tree
      each x =
          in_map tree_of (filter (are_these bridges) all) (tree, bridges)
          (in_filter (are_these bridges) all (tree, bridges) (turn_there bridges tree x) (list_same bridges bridges refl))

  pub lists_exactly : (bridges : List (List ℕ)) → Contains (lists_of all) bridges ↔ (tree : ℕ) × TurnIn a o b p bridges tree
  lists_exactly bridges = (only, each)
    where
      only : Contains (lists_of all) bridges → (tree : ℕ) × TurnIn a o b p bridges tree
      only h = elim (kept_once same_bridges (map bridges_of all) [] bridges h) [
        | inl none ↦ absurd (in_none bridges none)
        | inr c ↦ let own = from_map bridges_of all bridges c in (own.0.0, subst (λ bridges. TurnIn a o b p bridges own.0.0) own.2 (turn_in own.0 own.1))
      ]

      each : (tree : ℕ) × TurnIn a o b p bridges tree → Contains (lists_of all) bridges
      each x = there_once same_bridges lists_same (map bridges_of all) [] bridges (in_map bridges_of all (x.0, bridges) (turn_there bridges x.0 x.1))

  pub none_kept : (bridge : List ℕ) → ((tree : ℕ) → KeepsWays (ways_out a o tree) (ways_out b p tree) bridge) → (told : List (List ℕ)) → Contains (lists_of all) told → Contains told bridge → ⊥
  none_kept bridge keep told h c =
      let own = (lists_exactly told).0 h in
      ((turns_exactly a b o p own.0 bridge).0 (subst (λ bridges. Contains bridges bridge) (sym own.1.are) c)).differ (keep own.0)

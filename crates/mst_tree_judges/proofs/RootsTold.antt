-- What the bridges whose root is asked of tell: other roots, and the next one.
use Rattle.std.proofs.Common.{◌≡◌, ℕ, ◌≢◌, ◌≤◌, ◌==◌, ◌&&◌, ◌||◌, Bool, true, false, cond, not, true≢false, List, [], ◌∷◌, ◌++◌, length, map, Option, Some, None, refl, sym, ap, subst, ◌∙◌, arith, eq-eqb}
use Rattle.std.specs.Prelude.{is_some, MatchOption, if◌then◌else◌}
use Rattle.std.specs.List.{AllByRecursion, Contains, cons_option, filter, filter_map, flat_map, fold}
use Rattle.std.specs.Option.{option_map, option_map_or}
use Rattle.std.specs.Cmp.Lexicographic.{bytes_decides}
use Rattle.std.specs.FinMap as fin
use Rattle.std.proofs.lemmas.Bool.{eqb-true}
use Rattle.std.proofs.lemmas.List.{length-map}
use Rattle.mst_graph.proofs.Members.{in_none, in_filter, from_filter, in_map, from_map, here, there}
use Rattle.mst_view.specs.Aggregation.{same_name}
use Rattle.mst_tables.specs.ByTree.{by_tree}
use Rattle.mst_tables.specs.Tables.{Net, BridgeRow, IsNetwork}
use Rattle.mst_roles.specs.forest.InUse.{id_in}
use Rattle.mst_roles.specs.forest.Outcome.{Outcome}
use Rattle.mst_graph.specs.Lists.{has_any}
use Rattle.mst_judged.specs.reasons.sweep.facts.Roots.{root_of}
use Rattle.mst_roles.specs.forest.config.Regions.{same_region}
use Rattle.mst_judged.specs.reasons.summary.Roots.{least, with_lesser}
use Rattle.mst_judged.specs.reasons.summary.declared.roots.Follower.{Follower}
use Rattle.mst_judged.proofs.reasons_lemmas.summary_lemmas.Next.{least_of}
use Rattle.mst_roles.proofs.forest_lemmas.Entries.{all_weaker}
use Rattle.mst_roles.proofs.forest_lemmas.Lists.{all_contained, all_there, filter_mapped, kept_from, no_some, some_is}
use Rattle.mst_roles.proofs.forest_lemmas.Looking.{filter_alike}
use Rattle.mst_judged.specs.reasons.Reasons.{other_root, root_count}
use Rattle.mst_judged.specs.reasons.Roots.{concerned, identifier, is_concerned, is_root_of, IsNextRoot}
use Rattle.mst_tree_judges.specs.Seen.{concerned_follower, concerned_followers, seen_other_root}
use Rattle.mst_judged.specs.reasons.declared.reason.Reason.{Reason}
use Rattle.mst_judged.specs.reasons.declared.reason.Reason.TheVariants as why
use Rattle.mst_tree_judges.proofs.BrokenRoots.{entry_row, one_named, root_is}
use Rattle.mst_tree_judges.proofs.Keys.{InNet}
use Rattle.mst_judged.proofs.reasons_lemmas.Things.{flat_named}

-- ---- lists
flat_alike : {A B : Type 0} (f g : A → List B) (xs : List A) → ((x : A) → Contains xs x → f x ≡ g x) → flat_map f xs ≡ flat_map g xs
flat_alike f g [] same = refl
flat_alike f g (x ∷ xs) same = λ i. same x (here x xs) i ++ flat_alike f g xs (λ y h. same y (there x y xs h)) i

any_named : {A B : Type 0} (f : A → B) (xs : List A) → has_any (map f xs) ≡ has_any xs
any_named f [] = refl
any_named f (x ∷ xs) = refl

-- ---- the least of those that pass a test
module _ (test : Follower → Bool) (all : List Follower) where
  pub record IsLeast (next : Follower) : Type 0 where
    pub there : Contains all next
    pub passes : test next ≡ true
    pub low : (f : Follower) → Contains all f → test f ≡ true → next.id ≤ f.id

  pub least_is : (next : Follower) → least (filter test all) ≡ Some next → IsLeast next
  least_is next e = go (filter test all) refl
    where
      go : (those : List Follower) → filter test all ≡ those → IsLeast next
      go [] is = absurd (no_some next (sym (ap (fold with_lesser None) is) ∙ e))
      go (x ∷ xs) is =
          let r = least_of x xs in
          let same : r.it ≡ next = some_is r.it next (sym r.is ∙ sym (ap (fold with_lesser None) is) ∙ e) in
          let there : Contains (filter test all) r.it = r.among (Contains (filter test all)) (subst (AllByRecursion (Contains (filter test all))) is (all_there (filter test all))) in
          let whole = from_filter test all r.it there in
          subst IsLeast same record {
            there = whole.0;
            passes = whole.1;
            low = λ f h passes. all_contained (λ (f : Follower). r.it.id ≤ f.id) (x ∷ xs) f r.below (subst (λ ys. Contains ys f) is (in_filter test all f h passes));
          }

  pub none_least : least (filter test all) ≡ None → (f : Follower) → Contains all f → test f ≡ true → ⊥
  none_least e f h passes = go (filter test all) refl (in_filter test all f h passes)
    where
      go : (those : List Follower) → filter test all ≡ those → Contains those f → ⊥
      go [] is there = in_none f there
      go (x ∷ xs) is there = no_some (least_of x xs).it (sym e ∙ ap (fold with_lesser None) is ∙ (least_of x xs).is)

-- ---- names
module _ (net : Net) (o : Outcome) (tree : ℕ) (b : List ℕ) where
  abbrev with_root : List ℕ × BridgeRow → ℕ → Follower
  with_root e root = record { name = e.0; id = id_in (by_tree net) tree e.0 e.1; root = root }

  names_of_all : (es : List (List ℕ × BridgeRow)) → map (λ (f : Follower). f.name) (filter_map (concerned_follower net o tree b) es) ≡ filter (is_concerned net o tree b) (map (λ (e : List ℕ × BridgeRow). e.0) es)
  names_of_all [] = refl
  names_of_all (e ∷ es) = go (tree == 0 || same_region net b e.0) (root_of net o tree e.0) (names_of_all es)
    where
      go : (t : Bool) (r : Option ℕ) → map (λ (f : Follower). f.name) (filter_map (concerned_follower net o tree b) es) ≡ filter (is_concerned net o tree b) (map (λ (e : List ℕ × BridgeRow). e.0) es)
          → map (λ (f : Follower). f.name) (cons_option (if t then option_map (with_root e) r else None) (filter_map (concerned_follower net o tree b) es))
          ≡ cond (is_some r && t) (e.0 ∷ filter (is_concerned net o tree b) (map (λ (e : List ℕ × BridgeRow). e.0) es)) (filter (is_concerned net o tree b) (map (λ (e : List ℕ × BridgeRow). e.0) es))
      go true (Some root) same = ap (λ names. e.0 ∷ names) same
      go true None same = same
      go false (Some root) same = same
      go false None same = same

  pub names_are : map (λ (f : Follower). f.name) (concerned_followers net o tree b) ≡ concerned net o tree b
  names_are = names_of_all (fin.entries net.bridges)

  pub any_concerned : has_any (concerned net o tree b) ≡ has_any (concerned_followers net o tree b)
  any_concerned = ap has_any (sym names_are) ∙ any_named (λ (f : Follower). f.name) (concerned_followers net o tree b)

  -- what is known of one of them
  pub record Follows (f : Follower) : Type 0 where
    pub row : BridgeRow
    pub there : Contains (fin.entries net.bridges) (f.name, row)
    pub id : f.id ≡ id_in (by_tree net) tree f.name row
    pub root : root_of net o tree f.name ≡ Some f.root

  pub follows : (f : Follower) → Contains (concerned_followers net o tree b) f → Follows f
  follows f h =
      let e = kept_from (concerned_follower net o tree b) (fin.entries net.bridges) f h in
      go e.0 e.1 (tree == 0 || same_region net b e.0.0) (root_of net o tree e.0.0) refl e.2
    where
      go : (e : List ℕ × BridgeRow) → Contains (fin.entries net.bridges) e → (t : Bool) (r : Option ℕ) → root_of net o tree e.0 ≡ r → (if t then option_map (with_root e) r else None) ≡ Some f → Follows f
      go e k true (Some root) is same = subst Follows (some_is (with_root e root) f same) (record { row = e.1; there = k; id = refl; root = is })
      go e k true None is same = absurd (no_some f same)
      go e k false r is same = absurd (no_some f same)

module _ (net : Net) (ok : IsNetwork net) (o : Outcome) (tree : ℕ) (roots_there : (bridge : List ℕ) (id : ℕ) → root_of net o tree bridge ≡ Some id → (r : List ℕ) × InNet net ok o tree r id) (b : List ℕ) where
  abbrev all : List Follower
  all = concerned_followers net o tree b

  -- ---- counts
  same_root : (root : List ℕ) (row : BridgeRow) → fin.get net.bridges root ≡ Some row → (f : Follower) → Contains all f → (f.root == id_in (by_tree net) tree root row) ≡ is_root_of net o tree root f.name
  same_root root row has f h =
      let w = follows net o tree b f h in
      let r = roots_there f.name f.root w.root in
      let named = ap (λ n. option_map_or (same_name root) n false) (root_is net ok o tree roots_there f.name r.0 f.root w.root r.1) in
      go r.0 r.1 (same_name root r.0) refl ∙ sym named
    where
      id : ℕ
      id = id_in (by_tree net) tree root row

      other : (r : List ℕ) → InNet net ok o tree r f.root → (t : Bool) → (f.root == id) ≡ t → same_name root r ≡ false → (f.root == id) ≡ false
      other r n false e k = e
      other r n true e k =
          let ids : id_in (by_tree net) tree root row ≡ id_in (by_tree net) tree r n.row = sym (eqb-true f.root id e) ∙ sym n.is_id in
          absurd (true≢false (sym ((bytes_decides root r).1 (one_named net ok o tree roots_there root r row n.row has n.has_row ids)) ∙ k))

      go : (r : List ℕ) → InNet net ok o tree r f.root → (t : Bool) → same_name root r ≡ t → (f.root == id) ≡ same_name root r
      go r n true e =
          let name : root ≡ r = (bytes_decides root r).0 e in
          let rows : row ≡ n.row = some_is row n.row (sym has ∙ ap (fin.get net.bridges) name ∙ n.has_row) in
          eq-eqb f.root id (sym n.is_id ∙ (λ i. id_in (by_tree net) tree (sym name i) (sym rows i))) ∙ sym e
      go r n false e = other r n (f.root == id) refl e ∙ sym e

  pub counted : (root : List ℕ) (row : BridgeRow) → fin.get net.bridges root ≡ Some row → length (filter (λ f. f.root == id_in (by_tree net) tree root row) all) ≡ root_count net o tree (concerned net o tree b) root
  counted root row has =
      ap length (filter_alike (λ (f : Follower). f.root == id_in (by_tree net) tree root row) (λ (f : Follower). is_root_of net o tree root f.name) all (all_weaker (Contains all) _ (same_root root row has) all (all_there all)))
      ∙ sym (length-map (filter (λ (f : Follower). is_root_of net o tree root f.name) all) (λ (f : Follower). f.name))
      ∙ ap length (sym (filter_mapped (is_root_of net o tree root) (λ (f : Follower). f.name) all))
      ∙ ap (λ names. length (filter (is_root_of net o tree root) names)) (names_are net o tree b)

  -- ---- other roots
  abbrev told : ℕ → List ℕ → List Reason
  told count root = if same_name root b || count == 0 then [] else why.OtherRoot tree root count ∷ []

  pub others_told : flat_map (seen_other_root net tree b all) (fin.entries net.bridges) ≡ flat_map (other_root net o tree b (concerned net o tree b)) (fin.keys net.bridges)
  others_told =
      flat_alike (seen_other_root net tree b all) (λ (e : List ℕ × BridgeRow). other_root net o tree b (concerned net o tree b) e.0) (fin.entries net.bridges)
      (λ e h. ap (λ count. told count e.0) (counted e.0 e.1 (entry_row net ok o tree roots_there e h)))
      ∙ flat_named (λ (e : List ℕ × BridgeRow). e.0) (other_root net o tree b (concerned net o tree b)) (other_root net o tree b (concerned net o tree b)) (λ root. refl) (fin.entries net.bridges)

  -- ---- the next root
  abbrev other : Follower → Bool
  other f = not (same_name f.name b)

  own_id : (f : Follower) → Contains all f → identifier net tree f.name ≡ f.id
  own_id f h =
      let w = follows net o tree b f h in
      ap (λ (row : Option BridgeRow). option_map_or (id_in (by_tree net) tree f.name) row 0) (entry_row net ok o tree roots_there (f.name, w.row) w.there) ∙ sym w.id

  is_other : (f : Follower) → f.name ≢ b → other f ≡ true
  is_other f differ = go (same_name f.name b) refl
    where
      go : (t : Bool) → same_name f.name b ≡ t → not t ≡ true
      go false e = refl
      go true e = absurd (differ ((bytes_decides f.name b).0 e))

  named_all : (bridge : List ℕ) → Contains (concerned net o tree b) bridge → (f : Follower) × Contains all f × (f.name ≡ bridge)
  named_all bridge h = from_map (λ (f : Follower). f.name) all bridge (subst (λ names. Contains names bridge) (sym (names_are net o tree b)) h)

  some_next : (next : Follower) → least (filter other all) ≡ Some next → IsNextRoot net o tree b next.name
  some_next next e =
      let l = least_is other all next e in
      record {
        among = subst (λ names. Contains names next.name) (names_are net o tree b) (in_map (λ (f : Follower). f.name) all next l.there);
        other = λ same. true≢false (sym l.passes ∙ ap not ((bytes_decides next.name b).1 same));
        least = λ bridge h differ.
            let f = named_all bridge h in
            let low : next.id ≤ f.0.id = l.low f.0 f.1 (is_other f.0 (λ same. differ (sym f.2 ∙ same))) in
            let own : identifier net tree next.name ≡ next.id = own_id next l.there in
            let there : identifier net tree bridge ≡ f.0.id = ap (identifier net tree) (sym f.2) ∙ own_id f.0 f.1 in
            omega arith;
      }

  no_next : least (filter other all) ≡ None → (c : List ℕ) → IsNextRoot net o tree b c → ⊥
  no_next e c n = let f = named_all c n.among in none_least other all e f.0 f.1 (is_other f.0 (λ same. n.other (sym f.2 ∙ same)))

  pub next_told : (next : Option (List ℕ)) → next ≡ option_map (λ f. f.name) (least (filter other all)) → MatchOption next ((c : List ℕ) → IsNextRoot net o tree b c → ⊥) (IsNextRoot net o tree b)
  next_told next e = subst (λ next. MatchOption next ((c : List ℕ) → IsNextRoot net o tree b c → ⊥) (IsNextRoot net o tree b)) (sym e) (go (least (filter other all)) refl)
    where
      go : (found : Option Follower) → least (filter other all) ≡ found → MatchOption (option_map (λ f. f.name) found) ((c : List ℕ) → IsNextRoot net o tree b c → ⊥) (IsNextRoot net o tree b)
      go None is = no_next is
      go (Some next) is = some_next next is

-- None of the edits that are advised can be left out.
use Rattle.std.proofs.Common.{◌≡◌, ◌≢◌, ℕ, ◌<◌, ◌≤◌, ◌==◌, Bool, true, false, not, nat_lt, List, [], ◌∷◌, ◌++◌, length, map, Option, None, Some, refl, sym, ap, subst, ◌∙◌, append_assoc, arith}
use Rattle.std.specs.Prelude.{if◌then◌else◌}
use Rattle.std.specs.List.{AllByRecursion, Contains, filter}
use Rattle.std.specs.Option.{option_map_or}
use Rattle.std.specs.FinMap as fin
use Rattle.std.proofs.lemmas.Bool.{eq-eqb, lt-ltb, ltb-false, ltb-true}
use Rattle.mst_graph.specs.Groups.{StandOnce}
use Rattle.mst_graph.proofs.Members.{from_filter, in_filter}
use Rattle.mst_ids.specs.Identifiers.{bridge_id}
use Rattle.mst_view.specs.Aggregation.{same_name}
use Rattle.mst_tables.specs.ByTree.{priority_in}
use Rattle.mst_tables.specs.Tables.{Net, BridgeRow, IsNetwork, bridge_tree_cmp}
use Rattle.mst_rows.specs.Rows.{Row}
use Rattle.mst_forest.specs.Outcome.{Outcome, IsOutcome}
use Rattle.mst_forest.proofs.Lists.{no_some}
use Rattle.mst_forest.proofs.Views.{same_mac}
use Rattle.mst_advise.specs.verify.tree_judges.judged.reasons.Holds.{IsOneRoot}
use Rattle.mst_advise.specs.verify.tree_judges.judged.reasons.Roots.{concerned, identifier, is_concerned}
use Rattle.mst_advise.proofs.tree_judges_lemmas.Keys.{keys_once}
use Rattle.mst_advise.specs.Candidates.{AreCandidates}
use Rattle.mst_advise.specs.Made.{Has, Make}
use Rattle.mst_advise.specs.Priorities.{before_best, comes_first, greatest_priority, others, priorities, root_settings}
use Rattle.mst_advise.specs.Settings.{alone}
use Rattle.mst_advise.specs.Told.{count_row, setting_row}
use Rattle.mst_advise.specs.declared.goal.Goal.{Goal}
use Rattle.mst_advise.specs.declared.goal.Goal.TheVariants.{Root, Forward}
use Rattle.mst_advise.specs.declared.setting.Setting.{Setting}
use Rattle.mst_advise.specs.declared.setting.Setting.TheVariants.{Priority}
use Rattle.mst_advise.specs.Advising.{Tells}
use Rattle.mst_advise.specs.declared.advising.Advised.TheVariants as advised
use Rattle.mst_advise.proofs.OneAdvice.{OneOutcome}
use Rattle.mst_advise_laws.specs.Needed.{AreNeeded, TellNeeded}
use Rattle.mst_advise_laws.proofs.Failing.{above_fails, one_fails}
use Rattle.mst_advise_laws.proofs.NoGreater.{Asked, asked, not_first}
use Rattle.mst_advise_laws.proofs.PrioritiesSet.{Spares, in_middle, next, next_made, no_middle, ok_is, once_without, parted, spared, spares_next, with_table}

-- ---- one setting by itself, or none
module _ (goal : Goal) (net : Net) (o : Outcome) (ok : IsNetwork net) (is : IsOutcome net o) (outcomes : OneOutcome) (lacks : Has goal net o → ⊥) where
  -- no settings leave the network as it is
  nothing_has : (now : Net) (r : Outcome) → Make net [] now r → Has goal now r → ⊥
  nothing_has now r made has =
      let same : net ≡ now = ok_is net now made.is in
      let settled : IsOutcome net r = subst (λ n. IsOutcome n r) (sym same) made.is_outcome in
      lacks (subst (λ q. Has goal net q) (outcomes net r o ok settled is) (subst (λ n. Has goal n r) (sym same) has))

  rest_none : (x : Setting) (before : List Setting) (s : Setting) (behind : List Setting) → x ∷ [] ≡ before ++ s ∷ behind → before ++ behind ≡ []
  rest_none x [] s behind e = cc
  rest_none x (y ∷ before) s behind e = let none : [] ≡ before ++ s ∷ behind = cc in absurd (no_middle before s behind none)

  needed_alone : (x : Setting) → AreNeeded goal net (x ∷ [])
  needed_alone x before behind s e now r made has = nothing_has now r (subst (λ (settings : List Setting). Make net settings now r) (rest_none x before s behind e) made) has

  needed_none : AreNeeded goal net []
  needed_none before behind s e now r made has = no_middle before s behind e

-- ---- identifiers
least_id : (p tree mac : ℕ) → bridge_id 0 tree mac ≤ bridge_id p tree mac
least_id p tree mac = omega arith

below : (x id best own : ℕ) → x ≡ id → id < best → best ≤ own → x ≤ own
below x id best own e l m = omega arith

next_low : (was own tree c b : ℕ) → bridge_id was tree c < bridge_id 0 tree b → own ≢ 0 → bridge_id 1 tree c ≤ bridge_id own tree b
next_low was own tree c b l some = omega (arith, l, some)

strict : (a b : ℕ) → a ≤ b → (a ≡ b → ⊥) → a < b
strict a b l other = omega (arith, l, other)

-- ---- names that stand once
once_filtered : {A : Type 0} (test : A → Bool) (xs : List A) → StandOnce xs → StandOnce (filter test xs)
once_filtered test [] h = tt
once_filtered {A} test (x ∷ xs) h = go (test x) (once_filtered test xs h.1)
  where
    go : (t : Bool) → StandOnce (filter test xs) → StandOnce (if t then x ∷ filter test xs else filter test xs)
    go true rest = (λ k. h.0 (from_filter test xs x k).0, rest)
    go false rest = rest

-- ---- the root
module _ (net : Net) (o : Outcome) (ok : IsNetwork net) (is : IsOutcome net o) (tree : ℕ) (b : List ℕ) (row : BridgeRow) (has_row : fin.get net.bridges b ≡ Some row) where
  abbrev all : List (List ℕ)
  all = others net o tree b

  abbrev is_lesser : List ℕ → Bool
  is_lesser c = nat_lt (identifier net tree c) (bridge_id 0 tree row.mac)

  abbrev bests : List (List ℕ)
  bests = before_best net tree row.mac all

  bests_once : StandOnce bests
  bests_once = once_filtered is_lesser all (once_filtered (λ c. not (same_name c b)) (concerned net o tree b) (once_filtered (is_concerned net o tree b) (fin.keys net.bridges) (keys_once net)))

  -- another one that comes before B with these priorities
  never_root : (table : fin.FinMap bridge_tree_cmp ℕ) (c : List ℕ) (a : Asked net o tree b c)
      → bridge_id (priority_in table c tree) tree a.inside.row.mac ≤ bridge_id (priority_in table b tree) tree row.mac
      → (now : Net) (r : Outcome) → now ≡ with_table net table → IsOutcome now r → IsOneRoot now r tree b → ⊥
  never_root table c a low now r same settled one =
      not_first (with_table net table) ok.bridges r (subst (λ n. IsOutcome n r) same settled) tree b row has_row c a.other
      (record { row = a.inside.row; has_row = a.inside.has_row; is_on = a.inside.is_on; has_tree = a.inside.has_tree }) a.near low (subst (λ n. IsOneRoot n r tree b) same one)

  -- one whose priority isn't set
  left_out : (c : List ℕ) → Contains bests c → (settings : List Setting) → AllByRecursion (Spares tree c) settings → (now : Net) (r : Outcome) → Make net settings now r → IsOneRoot now r tree b → ⊥
  left_out c h settings spares now r made one =
      let f = from_filter is_lesser all c h in
      let a = asked net ok o is tree b c f.0 in
      let s = spared tree c settings spares net now made.is in
      let low = below (bridge_id (priority_in s.table c tree) tree a.inside.row.mac) (identifier net tree c) (bridge_id 0 tree row.mac) (bridge_id (priority_in s.table b tree) tree row.mac)
      (ap (λ p. bridge_id p tree a.inside.row.mac) s.stays ∙ sym a.own_id) (ltb-true (identifier net tree c) (bridge_id 0 tree row.mac) f.1) (least_id (priority_in s.table b tree) tree row.mac) in
      never_root s.table c a low now r s.is made.is_outcome one

  -- B itself, where its priority isn't 0
  module _ (none : greatest_priority net tree row.mac all ≡ None) where
    record Lesser : Type 0 where
      name : List ℕ
      is_best : Contains bests name
      asked_of : Asked net o tree b name
      less : identifier net tree name < bridge_id 0 tree row.mac

    lesser : Lesser
    lesser =
        let fails : comes_first net tree row.mac all 0 ≡ false = above_fails (comes_first net tree row.mac all) 15 0 (omega arith) (λ p e. absurd (no_some p (sym none ∙ e))) in
        let f = one_fails (λ c. nat_lt (bridge_id 0 tree row.mac) (identifier net tree c)) all fails in
        let a = asked net ok o is tree b f.0 f.1 in
        let upto : identifier net tree f.0 ≤ bridge_id 0 tree row.mac = ltb-false (bridge_id 0 tree row.mac) (identifier net tree f.0) f.2 in
        let less = strict (identifier net tree f.0) (bridge_id 0 tree row.mac) upto
        (λ same. a.other (ok.bridges.macs_differ f.0 b a.inside.row row a.inside.has_row has_row
        (same_mac tree a.inside.row.mac row.mac (priority_in net.priorities f.0 tree) 0 (ok.bridges.mac_fits f.0 a.inside.row a.inside.has_row) (ok.bridges.mac_fits b row has_row) (sym a.own_id ∙ same)))) in
        record { name = f.0; is_best = in_filter is_lesser all f.0 f.1 (lt-ltb (identifier net tree f.0) (bridge_id 0 tree row.mac) less); asked_of = a; less = less }

    own_left_out : priority_in net.priorities b tree ≢ 0 → (now : Net) (r : Outcome) → Make net (map (next tree) bests) now r → IsOneRoot now r tree b → ⊥
    own_left_out some now r made one =
        let c = lesser in
        let a = c.asked_of in
        let s = spared tree b (map (next tree) bests) (spares_next tree b bests (λ x k. (asked net ok o is tree b x (from_filter is_lesser all x k).0).other)) net now made.is in
        let set : priority_in s.table c.name tree ≡ 1 = ap (λ (n : Net). priority_in n.priorities c.name tree) (sym s.is) ∙ next_made tree c.name bests net now made.is c.is_best in
        let less : bridge_id (priority_in net.priorities c.name tree) tree a.inside.row.mac < bridge_id 0 tree row.mac = subst (λ id. id < bridge_id 0 tree row.mac) a.own_id c.less in
        let low : bridge_id 1 tree a.inside.row.mac ≤ bridge_id (priority_in net.priorities b tree) tree row.mac = next_low (priority_in net.priorities c.name tree) (priority_in net.priorities b tree) tree a.inside.row.mac row.mac less some in
        never_root s.table c.name a
        (subst (λ p. bridge_id (priority_in s.table c.name tree) tree a.inside.row.mac ≤ bridge_id p tree row.mac) (sym s.stays)
        (subst (λ p. bridge_id p tree a.inside.row.mac ≤ bridge_id (priority_in net.priorities b tree) tree row.mac) (sym set) low)) now r s.is made.is_outcome one

  -- one of those in between, with others of them, and maybe B, set
  one_left_out : (before behind : List Setting) (s : Setting) → map (next tree) bests ≡ before ++ s ∷ behind → (first : List Setting) → ((c : List ℕ) → Contains bests c → AllByRecursion (Spares tree c) first)
      → (now : Net) (r : Outcome) → Make net (first ++ (before ++ behind)) now r → IsOneRoot now r tree b → ⊥
  one_left_out before behind s e first spares now r made one =
      let m = parted (next tree) bests before s behind e in
      let there : Contains bests m.it = subst (λ those. Contains those m.it) (sym m.is) (in_middle m.front m.it m.back) in
      let once : StandOnce (m.front ++ m.it ∷ m.back) = subst StandOnce m.is bests_once in
      let those : AllByRecursion (Spares tree m.it) (before ++ behind) = subst (AllByRecursion (Spares tree m.it)) (sym m.rest)
      (spares_next tree m.it (m.front ++ m.back) (λ x k same. once_without m.front m.it m.back once (subst (Contains (m.front ++ m.back)) same k))) in
      left_out m.it there (first ++ (before ++ behind)) (both m.it first (before ++ behind) (spares m.it there) those) now r made one
    where
      both : (c : List ℕ) (xs ys : List Setting) → AllByRecursion (Spares tree c) xs → AllByRecursion (Spares tree c) ys → AllByRecursion (Spares tree c) (xs ++ ys)
      both c [] ys x y = y
      both c (z ∷ xs) ys x y = (x.0, both c xs ys x.1 y)

  needed_best : (t : Bool) → (priority_in net.priorities b tree == 0) ≡ t → greatest_priority net tree row.mac all ≡ None
      → AreNeeded (Root tree b) net ((if t then [] else Priority b tree 0 ∷ []) ++ map (next tree) bests)
  needed_best true e none before behind s is_all now r made has = one_left_out before behind s is_all [] (λ c h. tt) now r made has.0
  needed_best false e none [] behind s is_all now r made has =
      let same : behind ≡ map (next tree) bests = cc in
      own_left_out none (λ zero. true_false (sym (eq-eqb (priority_in net.priorities b tree) 0 zero) ∙ e)) now r (subst (λ (settings : List Setting). Make net settings now r) same made) has.0
    where
      true_false : true ≡ false → ⊥
      true_false h = absurd (cc)
  needed_best false e none (z ∷ before) behind s is_all now r made has =
      let own : z ≡ Priority b tree 0 = cc in
      let more : map (next tree) bests ≡ before ++ s ∷ behind = cc in
      one_left_out before behind s more (Priority b tree 0 ∷ [])
      (λ c h. ((refl, λ same. (asked net ok o is tree b c (from_filter is_lesser all c h).0).other (sym same)), tt)) now r
      (subst (λ (x : Setting). Make net (x ∷ before ++ behind) now r) own made) has.0

module _ (net : Net) (o : Outcome) (ok : IsNetwork net) (is : IsOutcome net o) (outcomes : OneOutcome) where
  needed_set : (tree : ℕ) (b : List ℕ) (p : ℕ) → (Has (Root tree b) net o → ⊥) → (t : Bool) → AreNeeded (Root tree b) net (if t then [] else Priority b tree p ∷ [])
  needed_set tree b p lacks true = needed_none (Root tree b) net o ok is outcomes lacks
  needed_set tree b p lacks false = needed_alone (Root tree b) net o ok is outcomes lacks (Priority b tree p)

  needed_root : (tree : ℕ) (b : List ℕ) → (Has (Root tree b) net o → ⊥) → AreNeeded (Root tree b) net (root_settings net o tree b)
  needed_root tree b lacks = go (fin.get net.bridges b) refl
    where
      by_greatest : (row : BridgeRow) → fin.get net.bridges b ≡ Some row → (g : Option ℕ) → greatest_priority net tree row.mac (others net o tree b) ≡ g → AreNeeded (Root tree b) net (priorities net tree b row.mac (others net o tree b) g)
      by_greatest row e (Some p) is_it = needed_set tree b p lacks (priority_in net.priorities b tree == p)
      by_greatest row e None is_it = needed_best net o ok is tree b row e (priority_in net.priorities b tree == 0) refl is_it

      go : (row : Option BridgeRow) → fin.get net.bridges b ≡ row → AreNeeded (Root tree b) net (option_map_or (λ r. priorities net tree b r.mac (others net o tree b) (greatest_priority net tree r.mac (others net o tree b))) row [])
      go None e = needed_none (Root tree b) net o ok is outcomes lacks
      go (Some row) e = by_greatest row e (greatest_priority net tree row.mac (others net o tree b)) refl

  -- ---- the candidate that is told
  only_one : (only : List Setting) (before : List (List Setting)) (settings : List Setting) (behind : List (List Setting)) → only ∷ [] ≡ before ++ settings ∷ behind → only ≡ settings
  only_one only [] settings behind e = cc
  only_one only (x ∷ before) settings behind e = let none : [] ≡ before ++ settings ∷ behind = cc in absurd (no_middle before settings behind none)

  needed_told : (goal : Goal) → (Has goal net o → ⊥) → (candidates before : List (List Setting)) (settings : List Setting) (behind : List (List Setting)) → AreCandidates net o goal candidates
      → candidates ≡ before ++ settings ∷ behind → AreNeeded goal net settings
  needed_told (Root tree b) lacks candidates before settings behind are among =
      subst (AreNeeded (Root tree b) net) (only_one (root_settings net o tree b) before settings behind (sym are ∙ among)) (needed_root tree b lacks)
  needed_told (Forward tree port) lacks candidates before settings behind are among =
      let m = parted alone are.0 before settings behind (sym are.2 ∙ among) in
      subst (AreNeeded (Forward tree port) net) (sym m.its) (needed_alone (Forward tree port) net o ok is outcomes lacks m.it)

pub tell_needed : (net : Net) → IsNetwork net → (goal : Goal) (o : Outcome) → IsOutcome net o → OneOutcome → (count : ℕ) (rows : List Row) → Tells goal net o (advised.Edits count) rows → TellNeeded goal net count rows
tell_needed net ok goal o is outcomes count rows told =
    let first = told.3 in
    record {
      settings = first.settings;
      counted = sym first.counted;
      behind = first.brings.own ++ count_row (length first.settings) ∷ [];
      tell = first.brings.are ∙ append_assoc (map setting_row first.settings) first.brings.own (count_row (length first.settings) ∷ []);
      needed = needed_told net o ok is outcomes goal told.0 told.1 first.before first.settings first.behind told.2 first.among;
    }

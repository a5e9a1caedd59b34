-- No greater priority than the one that is advised makes a bridge the root of a tree.
use Rattle.std.proofs.Common.{◌≡◌, ◌≢◌, ℕ, ◌<◌, ◌≤◌, ◌==◌, ◌&&◌, ◌||◌, Bool, true, false, not, nat_lt, true≢false, List, [], ◌∷◌, Option, Some, None, is_some, refl, sym, ap, subst, ◌∙◌, arith}
use Rattle.std.specs.Prelude.{if◌then◌else◌}
use Rattle.std.specs.List.{Contains, find}
use Rattle.std.specs.Option.{option_and_then, option_map_or}
use Rattle.std.specs.Cmp.Lexicographic.{bytes_decides}
use Rattle.std.specs.FinMap as fin
use Rattle.std.proofs.lemmas.Bool.{and_parts, eqb-true, ltb-false}
use Rattle.mst_graph.proofs.Members.{from_filter, in_filter}
use Rattle.mst_ids.specs.Identifiers.{bridge_id}
use Rattle.mst_view.specs.Aggregation.{same_name}
use Rattle.mst_lang.specs.declared.line.Edit.TheVariants.{SetByTree}
use Rattle.mst_lang.specs.declared.line.TreeChange.TheVariants as by_tree_change
use Rattle.mst_tables.specs.After.{refusal_of}
use Rattle.mst_tables.specs.ByTree.{by_tree, priority_in}
use Rattle.mst_tables.specs.Tables.{Net, AreBridges, BridgeRow, IsNetwork}
use Rattle.mst_forest.specs.config.Regions.{same_region}
use Rattle.mst_forest.specs.InUse.{id_in}
use Rattle.mst_forest.specs.Outcome.{Outcome, IsOutcome}
use Rattle.mst_forest.proofs.Lists.{all_contained, some_is}
use Rattle.mst_forest.proofs.Views.{bridges_are, same_mac}
use Rattle.mst_advise.specs.verify.summary.facts.Roots.{named_by, root_of}
use Rattle.mst_advise.specs.verify.tree_judges.judged.reasons.Holds.{IsOneRoot}
use Rattle.mst_advise.specs.verify.tree_judges.judged.reasons.Roots.{concerned, identifier, is_concerned}
use Rattle.mst_advise.proofs.tree_judges_lemmas.Keys.{key_there}
use Rattle.mst_forest.proofs.Sights.{changed_from}
use Rattle.mst_advise.specs.Made.{Has}
use Rattle.mst_advise.specs.Priorities.{comes_first, greatest_priority, others, priorities}
use Rattle.mst_advise.specs.declared.goal.Goal.TheVariants.{Root}
use Rattle.mst_advise.specs.declared.setting.Setting.{Setting}
use Rattle.mst_advise.specs.declared.setting.Setting.TheVariants.{Priority}
use Rattle.mst_advise_laws.specs.Greater.{IsAdvised, IsMade, NoGreaterSuffices}
use Rattle.mst_advise_laws.proofs.Failing.{above_fails, found_passes, one_fails}
use Rattle.mst_advise_laws.proofs.OwnRoot.{IsIn, is_in, rooted}
use Rattle.mst_advise_laws.proofs.PrioritySet.{effect_is, others_stay, own_set, stays_in, with_priority}

-- ---- what is there
is_there : {A : Type 0} (x : Option A) → is_some x ≡ true → (y : A) × (x ≡ Some y)
is_there None e = absurd (true≢false (sym e))
is_there (Some y) e = (y, refl)

not_same : (a b : List ℕ) → not (same_name a b) ≡ true → a ≢ b
not_same a b e same = true≢false (sym e ∙ ap not ((bytes_decides a b).1 same))

-- a bridge that is named by an identifier has it
record HasId (net : Net) (tree : ℕ) (name : List ℕ) (id : ℕ) : Type 0 where
  row : BridgeRow
  has_row : fin.get net.bridges name ≡ Some row
  is_id : id_in (by_tree net) tree name row ≡ id

named_has : (net : Net) (tree id : ℕ) (name : List ℕ) → named_by net tree id ≡ Some name → HasId net tree name id
named_has net tree id name e =
    let test : List ℕ × BridgeRow → Bool = λ e. id_in (by_tree net) tree e.0 e.1 == id in
    let f = changed_from (λ (e : List ℕ × BridgeRow). e.0) (find test (fin.entries net.bridges)) name e in
    let p = found_passes test (fin.entries net.bridges) f.0 f.1 in
    let row = all_contained (λ (e : List ℕ × BridgeRow). fin.get net.bridges e.0 ≡ Some e.1) (fin.entries net.bridges) f.0 (bridges_are net) p.0 in
    record {
      row = f.0.1;
      has_row = ap (fin.get net.bridges) (sym f.2) ∙ row;
      is_id = ap (λ n. id_in (by_tree net) tree n f.0.1) (sym f.2) ∙ eqb-true (id_in (by_tree net) tree f.0.0 f.0.1) id p.1;
    }

tied : (own root now : ℕ) → own ≡ root → root ≤ now → now ≤ own → now ≡ own
tied own root now is low upto = omega arith

upto_both : (own own_now was now : ℕ) → own ≡ own_now → was ≡ now → was ≤ own → now ≤ own_now
upto_both own own_now was now e f upto = omega arith

-- ---- a bridge that comes before B
-- another bridge in question whose identifier isn't greater than B's: so B isn't the one root
module _ (now : Net) (macs : AreBridges now.bridges) (r : Outcome) (settled : IsOutcome now r) (tree : ℕ) (b : List ℕ) (own : BridgeRow) (has_row : fin.get now.bridges b ≡ Some own)
    (name : List ℕ) (other : name ≢ b) (inside : IsIn now tree name) (near : (tree == 0 || same_region now b name) ≡ true) (low : id_in (by_tree now) tree name inside.row ≤ id_in (by_tree now) tree b own) where
  pub not_first : IsOneRoot now r tree b → ⊥
  not_first one =
      let root = rooted now r settled tree name inside in
      let asked : is_concerned now r tree b name ≡ true = λ i. is_some (root.is_root i) && near i in
      let there = in_filter (is_concerned now r tree b) (fin.keys now.bridges) name (key_there now name inside.row inside.has_row) asked in
      let named : named_by now tree root.root ≡ Some b = sym (ap (option_and_then (named_by now tree)) root.is_root) ∙ one.each name there in
      let h = named_has now tree root.root b named in
      let row : own ≡ h.row = some_is own h.row (sym has_row ∙ h.has_row) in
      let its : id_in (by_tree now) tree b own ≡ root.root = ap (id_in (by_tree now) tree b) row ∙ h.is_id in
      let one_id = tied (id_in (by_tree now) tree b own) root.root (id_in (by_tree now) tree name inside.row) its root.low low in
      let same = same_mac tree inside.row.mac own.mac (priority_in now.priorities name tree) (priority_in now.priorities b tree) (macs.mac_fits name inside.row inside.has_row) (macs.mac_fits b own has_row) one_id in
      other (macs.macs_differ name b inside.row own inside.has_row has_row same)

-- ---- the priority that is advised
abbrev first_priority : ℕ → List (List Setting) → ℕ
first_priority other ((Priority b tree p ∷ rest) ∷ more) = p
first_priority other _ = other

record HasGreatest (net : Net) (o : Outcome) (tree : ℕ) (b : List ℕ) (p : ℕ) : Type 0 where
  row : BridgeRow
  has_row : fin.get net.bridges b ≡ Some row
  upto : (g : ℕ) → greatest_priority net tree row.mac (others net o tree b) ≡ Some g → g ≡ p

advised : (net : Net) (o : Outcome) (tree : ℕ) (b : List ℕ) (p : ℕ) → IsAdvised net o tree b p → HasGreatest net o tree b p
advised net o tree b p is = go (fin.get net.bridges b) refl is
  where
    some_one : List (List Setting) → Bool
    some_one ((x ∷ xs) ∷ more) = true
    some_one _ = false

    by_own : (g : ℕ) (t : Bool) → (Priority b tree p ∷ []) ∷ [] ≡ (if t then [] else Priority b tree g ∷ []) ∷ [] → g ≡ p
    by_own g true told = absurd (true≢false (ap some_one told))
    by_own g false told = sym (ap (first_priority p) told)

    go : (row : Option BridgeRow) → fin.get net.bridges b ≡ row
        → (Priority b tree p ∷ []) ∷ [] ≡ option_map_or (λ row. priorities net tree b row.mac (others net o tree b) (greatest_priority net tree row.mac (others net o tree b))) row [] ∷ [] → HasGreatest net o tree b p
    go None e none = absurd (true≢false (ap some_one none))
    go (Some row) e told = record {
      row = row;
      has_row = e;
      upto = λ g greatest. by_own g (priority_in net.priorities b tree == g) (told ∙ ap (λ found. priorities net tree b row.mac (others net o tree b) found ∷ []) greatest);
    }

-- ---- a bridge in question
pub record Asked (net : Net) (o : Outcome) (tree : ℕ) (b name : List ℕ) : Type 0 where
  pub other : name ≢ b
  pub inside : IsIn net tree name
  pub near : (tree == 0 || same_region net b name) ≡ true
  pub own_id : identifier net tree name ≡ id_in (by_tree net) tree name inside.row

pub asked : (net : Net) → IsNetwork net → (o : Outcome) → IsOutcome net o → (tree : ℕ) (b name : List ℕ) → Contains (others net o tree b) name → Asked net o tree b name
asked net ok o is tree b name h =
    let kept = from_filter (λ c. not (same_name c b)) (concerned net o tree b) name h in
    let there = (from_filter (is_concerned net o tree b) (fin.keys net.bridges) name kept.0).1 in
    let parts = and_parts (is_some (root_of net o tree name)) (tree == 0 || same_region net b name) there in
    let root = is_there (root_of net o tree name) parts.0 in
    let x = is_in net o is ok tree name root.0 root.1 in
    record { other = not_same name b kept.1; inside = x; near = parts.1; own_id = ap (λ (row : Option BridgeRow). option_map_or (id_in (by_tree net) tree name) row 0) x.has_row }

-- ---- another bridge that comes before B even so
module _ (net : Net) (ok : IsNetwork net) (o : Outcome) (is : IsOutcome net o) (tree : ℕ) (b : List ℕ) (p : ℕ) (advice : IsAdvised net o tree b p) (q : ℕ) (greater : p < q) (few : q ≤ 15) where
  own : HasGreatest net o tree b p
  own = advised net o tree b p advice

  fails : comes_first net tree own.row.mac (others net o tree b) q ≡ false
  fails = above_fails (comes_first net tree own.row.mac (others net o tree b)) 15 q few (λ g e. let same : g ≡ p = own.upto g e in omega arith)

  record Before : Type 0 where
    name : List ℕ
    asked_of : Asked net o tree b name
    low : id_in (by_tree net) tree name asked_of.inside.row ≤ bridge_id q tree own.row.mac

  before : Before
  before =
      let c = one_fails (λ c. nat_lt (bridge_id q tree own.row.mac) (identifier net tree c)) (others net o tree b) fails in
      let x = asked net ok o is tree b c.0 c.1 in
      let upto : identifier net tree c.0 ≤ bridge_id q tree own.row.mac = ltb-false (bridge_id q tree own.row.mac) (identifier net tree c.0) c.2 in
      record { name = c.0; asked_of = x; low = subst (λ id. id ≤ bridge_id q tree own.row.mac) x.own_id upto }

  -- ---- with the greater priority
  abbrev now : Net
  now = with_priority net b tree q

  none_with : (r : Outcome) → IsOutcome now r → IsOneRoot now r tree b → ⊥
  none_with r settled =
      let c = before in
      let a = c.asked_of in
      let its : bridge_id q tree own.row.mac ≡ id_in (by_tree now) tree b own.row = ap (λ n. bridge_id n tree own.row.mac) (sym (own_set net b tree q)) in
      let stays : id_in (by_tree net) tree c.name a.inside.row ≡ id_in (by_tree now) tree c.name a.inside.row = ap (λ n. bridge_id n tree a.inside.row.mac) (sym (others_stay net b tree q c.name a.other)) in
      not_first now ok.bridges r settled tree b own.row own.has_row c.name a.other (stays_in net b tree q tree c.name a.inside) a.near (upto_both (bridge_id q tree own.row.mac) (id_in (by_tree now) tree b own.row) (id_in (by_tree net) tree c.name a.inside.row) (id_in (by_tree now) tree c.name a.inside.row) its stays c.low)

  pub none_greater : (made : Net) (r : Outcome) → IsMade net (Priority b tree q) made r → Has (Root tree b) made r → ⊥
  none_greater made r m holds =
      let same : now ≡ made = effect_is net now made (refusal_of (SetByTree (by_tree_change.Priority b tree q)) net) m.is_made in
      none_with r (subst (λ n. IsOutcome n r) (sym same) m.is_outcome) (subst (λ n. IsOneRoot n r tree b) (sym same) holds.0)

pub no_greater : (net : Net) (o : Outcome) (tree : ℕ) (b : List ℕ) (p : ℕ) → IsNetwork net → IsOutcome net o → IsAdvised net o tree b p → NoGreaterSuffices net tree b p
no_greater net o tree b p ok is advice q greater few now r made holds = none_greater net ok o is tree b p advice q greater few now r made holds

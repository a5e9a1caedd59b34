-- A reason is told just where an expectation doesn't hold: of limits. Each note is of a limit, and has a reason, or is of a restricted role.
use Rattle.std.proofs.Common.{◌≡◌, ◌↔◌, ◌⊎◌, inl, inr, ℕ, ◌==◌, ◌++◌, Bool, true, false, not, true≢false, List, [], ◌∷◌, Option, Some, None, is_some, refl, sym, ap, subst, ◌∙◌}
use Rattle.std.specs.Prelude.{nat_le, nat_lt, if◌then◌else◌}
use Rattle.std.specs.List.{AllByRecursion, Contains, flat_map, range_with_len}
use Rattle.std.specs.Option.{option_map_or}
use Rattle.std.specs.FinMap as fin
use Rattle.mst_rows.specs.Rows.{Row}
use Rattle.mst_graph.proofs.Members.{in_none, in_filter, from_filter}
use Rattle.mst_view.specs.View.{LogicalPort, view_ports}
use Rattle.mst_net.specs.tables.Tables.{Net, BridgeRow}
use Rattle.mst_vector.specs.declared.cist.CistVector.{CistVector}
use Rattle.mst_vector.specs.declared.msti.MstiVector.{MstiVector}
use Rattle.mst_roles.specs.forest.Outcome.{Outcome}
use Rattle.mst_roles.proofs.forest_lemmas.Lists.{all_contained}
use Rattle.mst_island_judges.specs.judged.reasons.note_text.AreDepths.{TreeDepths}
use Rattle.mst_island_judges.specs.judged.reasons.note_text.NotesText.{hops_note, age_note, external_note, internal_note, greatest_cost, hops_notes, age_notes, cist_notes, msti_notes, bridge_notes, tree_notes, trees_notes, restricted_note, restricted_notes, AreNoteRows}
use Rattle.mst_island_judges.specs.judged.reasons.Holds.{is_restricted, limit_notes, NoLimitBinds}
use Rattle.mst_island_judges.specs.judged.reasons.Reasons.{limit_reason, AreFitsReasons}
use Rattle.mst_island_judges.specs.judged.reasons.declared.reason.Reason.{Reason}
use Rattle.mst_island_judges.proofs.judged_lemmas.reasons_lemmas.Things.{no_any, not_any, kept_none, none_kept}

-- a note of a restricted role has no reason, and any other has one
record Whole (row : Row) : Type 0 where
  told : (is_restricted row.kind ≡ false) ⊎ (limit_reason row.kind row.cells ≡ None)
  reason : (is_restricted row.kind ≡ true) ⊎ (is_some (limit_reason row.kind row.cells) ≡ true)

all_append : (xs ys : List Row) → AllByRecursion Whole xs → AllByRecursion Whole ys → AllByRecursion Whole (xs ++ ys)
all_append [] ys h k = k
all_append (x ∷ xs) ys h k = (h.0, all_append xs ys h.1 k)

all_each : {A : Type 0} (f : A → List Row) → ((x : A) → AllByRecursion Whole (f x)) → (xs : List A) → AllByRecursion Whole (flat_map f xs)
all_each f h [] = tt
all_each f h (x ∷ xs) = all_append (f x) (flat_map f xs) (h x) (all_each f h xs)

all_if : (b : Bool) (row : Row) → Whole row → AllByRecursion Whole (if b then row ∷ [] else [])
all_if true row w = (w, tt)
all_if false row w = tt

all_some : {A : Type 0} (f : A → List Row) → ((x : A) → AllByRecursion Whole (f x)) → (x : Option A) → AllByRecursion Whole (option_map_or f x [])
all_some f h None = tt
all_some f h (Some x) = h x

hops_whole : (tree : ℕ) (name : List ℕ) (depth limit : ℕ) → AllByRecursion Whole (hops_note tree name depth limit)
hops_whole tree name depth limit = all_if (nat_le limit depth) _ (record { told = inl refl; reason = inr refl })

age_whole : (name : List ℕ) (depth limit : ℕ) → AllByRecursion Whole (age_note name depth limit)
age_whole name depth limit = all_if (nat_lt limit depth) _ (record { told = inl refl; reason = inr refl })

external_whole : (tree : ℕ) (name : List ℕ) (cost : ℕ) → AllByRecursion Whole (external_note tree name cost)
external_whole tree name cost = all_if (nat_lt greatest_cost cost) _ (record { told = inl refl; reason = inr refl })

internal_whole : (tree : ℕ) (name : List ℕ) (cost : ℕ) → AllByRecursion Whole (internal_note tree name cost)
internal_whole tree name cost = all_if (nat_lt greatest_cost cost) _ (record { told = inl refl; reason = inr refl })

restricted_whole : (p : LogicalPort) → AllByRecursion Whole (restricted_note p)
restricted_whole p = all_if p.settings.is_restricted _ (record { told = inr refl; reason = inl refl })

module _ (net : Net) (o : Outcome) (d : TreeDepths) where
  hops_all : (tree : ℕ) (name : List ℕ) → AllByRecursion Whole (hops_notes net d tree name)
  hops_all tree name = all_some (λ (row : BridgeRow). hops_note tree name (d.internal tree name) row.max_hops) (λ row. hops_whole tree name (d.internal tree name) row.max_hops) (fin.get net.bridges (d.regional_root tree name))

  age_all : (name : List ℕ) → AllByRecursion Whole (age_notes net d name)
  age_all name = all_some (λ (row : BridgeRow). age_note name (d.external name) row.max_age) (λ row. age_whole name (d.external name) row.max_age) (fin.get net.bridges (d.root name))

  cist_all : (name : List ℕ) (x : CistVector) → AllByRecursion Whole (cist_notes net d name x)
  cist_all name x =
      all_append ((hops_notes net d 0 name ++ age_notes net d name) ++ external_note 0 name x.external) (internal_note 0 name x.internal)
      (all_append (hops_notes net d 0 name ++ age_notes net d name) (external_note 0 name x.external) (all_append (hops_notes net d 0 name) (age_notes net d name) (hops_all 0 name) (age_all name)) (external_whole 0 name x.external))
      (internal_whole 0 name x.internal)

  msti_all : (tree : ℕ) (name : List ℕ) (x : MstiVector) → AllByRecursion Whole (msti_notes net d tree name x)
  msti_all tree name x = all_append (hops_notes net d tree name) (internal_note tree name x.internal) (hops_all tree name) (internal_whole tree name x.internal)

  bridge_all : (tree : ℕ) (name : List ℕ) → AllByRecursion Whole (bridge_notes net o d tree name)
  bridge_all tree name = go (tree == 0)
    where
      go : (b : Bool) → AllByRecursion Whole (if b then option_map_or (cist_notes net d name) (o.cist.vector name) [] else option_map_or (msti_notes net d tree name) ((o.msti tree).vector name) [])
      go true = all_some (cist_notes net d name) (cist_all name) (o.cist.vector name)
      go false = all_some (msti_notes net d tree name) (msti_all tree name) ((o.msti tree).vector name)

  trees_all : AllByRecursion Whole (trees_notes net o d)
  unfolding trees_notes
  trees_all = all_each (tree_notes net o d) (λ tree. all_each (bridge_notes net o d tree) (bridge_all tree) (fin.keys net.bridges)) (range_with_len 0 4095)

  notes_all : AllByRecursion Whole (trees_notes net o d ++ restricted_notes net)
  notes_all = all_append (trees_notes net o d) (restricted_notes net) trees_all (all_each restricted_note restricted_whole (view_ports net))

abbrev reason_of : Row → Option Reason
reason_of note = limit_reason note.kind note.cells

pub fits_broken : (net : Net) (o : Outcome) → ((notes other : List Row) → AreNoteRows net o notes → AreNoteRows net o other → notes ≡ other) → (reasons : List Reason) → AreFitsReasons net o reasons
    → (reasons ≡ []) ↔ NoLimitBinds net o
fits_broken net o one reasons r =
    let whole : AllByRecursion Whole r.notes = subst (AllByRecursion Whole) (sym r.are_notes.is_rows) (notes_all net o r.are_notes.depths) in (
      λ e notes are. ap limit_notes (one notes r.notes are r.are_notes) ∙ none_limits whole e,
      λ none. r.are ∙ none_kept reason_of r.notes (none_told whole (none r.notes r.are_notes)),
    )
  where
    none_limits : AllByRecursion Whole r.notes → reasons ≡ [] → limit_notes r.notes ≡ []
    none_limits whole e = no_any (limit_notes r.notes) (not_any (limit_notes r.notes) (λ note k.
        let f = from_filter (λ (n : Row). not (is_restricted n.kind)) r.notes note k in
        let w = all_contained Whole r.notes note whole f.0 in
        let none = kept_none reason_of r.notes (sym r.are ∙ e) note f.0 in
        elim w.reason [
          | inl b ↦ true≢false (sym f.1 ∙ ap not b)
          | inr s ↦ true≢false (sym s ∙ ap is_some none)
        ]))

    none_told : AllByRecursion Whole r.notes → limit_notes r.notes ≡ [] → (note : Row) → Contains r.notes note → reason_of note ≡ None
    none_told whole e note k =
        let w = all_contained Whole r.notes note whole k in
        elim w.told [
          | inl b ↦ absurd (in_none note (subst (λ ns. Contains ns note) e (in_filter (λ (n : Row). not (is_restricted n.kind)) r.notes note k (ap not b))))
          | inr n ↦ n
        ]

-- There is one list of the notes.
use Rattle.std.proofs.Common.{◌≡◌, ℕ, zero, suc, ◌==◌, List, [], ◌∷◌, ◌++◌, Option, Some, None, refl, sym, ap, ◌∙◌, ◌⊎◌, inl, inr}
use Rattle.std.specs.Prelude.{if◌then◌else◌}
use Rattle.std.specs.List.{flat_map, range_with_len}
use Rattle.std.specs.Option.{option_map_or}
use Rattle.std.specs.FinMap as fin
use Rattle.mst_ids.specs.declared.name.PortName.{PortName}
use Rattle.mst_vector.specs.declared.cist.CistVector.{CistVector}
use Rattle.mst_vector.specs.declared.msti.MstiVector.{MstiVector}
use Rattle.mst_tables.specs.Tables.{Net, BridgeRow}
use Rattle.mst_roles.specs.forest.Outcome.{Outcome, trees_of}
use Rattle.mst_roles.specs.forest.nested.Trees.{Trees, IsSettled, HasTree}
use Rattle.mst_rows.specs.Rows.{Row}
use Rattle.mst_note_text.specs.Chains.{InternalChain, ExternalChain}
use Rattle.mst_note_text.specs.Depths.{ParentWithin, ParentBetween}
use Rattle.mst_note_text.proofs.Chains.{one_internal, one_external}
use Rattle.mst_note_text.proofs.Regions.{one_within, cist_sides}
use Rattle.mst_note_text.proofs.Tops.{internal_depth, external_depth}
use Rattle.mst_roles.proofs.forest_lemmas.Lists.{no_some}
use Rattle.mst_note_text.specs.AreDepths.{TreeDepths, AreDepths}
use Rattle.mst_note_text.specs.NotesText.{hops_note, age_note, external_note, internal_note, hops_notes, age_notes, cist_notes, msti_notes, bridge_notes, tree_notes, trees_notes, restricted_notes, notes_rows, AreNoteRows}
use Rattle.mst_note_text.proofs.Names.{name_tests}

all_alike : {A B : Type 0} (f g : A → List B) (xs : List A) → ((x : A) → f x ≡ g x) → flat_map f xs ≡ flat_map g xs
all_alike f g [] h = refl
all_alike f g (x ∷ xs) h = λ i. h x i ++ all_alike f g xs h i

module _ (net : Net) (o : Outcome) (settled : IsSettled (trees_of net o)) where
  abbrev trees : Trees (List ℕ) (List ℕ) PortName
  trees = trees_of net o

  -- ---- some depths
  has_or_not : (tree : ℕ) (name : List ℕ) → HasTree trees tree name ⊎ (HasTree trees tree name → ⊥)
  has_or_not zero name = go (o.cist.vector name) refl
    where
      go : (w : Option CistVector) → o.cist.vector name ≡ w → HasTree trees 0 name ⊎ (HasTree trees 0 name → ⊥)
      go None e = inr (λ h. let x = settled.cist.settled.has_vector name h.0 h.1 in no_some x.0 (sym e ∙ x.1))
      go (Some x) e = inl (settled.cist.settled.is_bridge name x e)
  has_or_not (suc i) name = go ((o.msti (suc i)).vector name) refl
    where
      go : (w : Option MstiVector) → (o.msti (suc i)).vector name ≡ w → HasTree trees (suc i) name ⊎ (HasTree trees (suc i) name → ⊥)
      go None e = inr (λ h. let x = (settled.msti i).settled.has_vector name h.0 h.1 in no_some x.0 (sym e ∙ x.1))
      go (Some x) e = inl ((settled.msti i).settled.is_bridge name x e)

  record Internal (tree : ℕ) (name : List ℕ) : Type 0 where
    depth : ℕ
    root : List ℕ
    chain : HasTree trees tree name → InternalChain (ParentWithin trees tree) root name depth

  record External (name : List ℕ) : Type 0 where
    depth : ℕ
    root : List ℕ
    chain : HasTree trees 0 name → ExternalChain (ParentWithin trees 0) (ParentBetween trees) root name depth

  internal_of : (tree : ℕ) (name : List ℕ) → Internal tree name
  internal_of tree name = elim (has_or_not tree name) [
    | inl h ↦ (let x = internal_depth trees name_tests settled tree name h in record { depth = x.0; root = x.1.root; chain = λ _. x.1.chain })
    | inr none ↦ record { depth = 0; root = name; chain = λ h. absurd (none h) }
  ]

  external_of : (name : List ℕ) → External name
  external_of name = elim (has_or_not 0 name) [
    | inl h ↦ (let x = external_depth trees name_tests settled name h.0 h.1 in record { depth = x.0; root = x.1.root; chain = λ _. x.1.chain })
    | inr none ↦ record { depth = 0; root = name; chain = λ h. absurd (none h) }
  ]

  pub some_depths : (d : TreeDepths) × AreDepths trees d
  some_depths = (
    record {
      internal = λ tree name. (internal_of tree name).depth;
      regional_root = λ tree name. (internal_of tree name).root;
      external = λ name. (external_of name).depth;
      root = λ name. (external_of name).root;
    },
    record { internal = λ tree name h. (internal_of tree name).chain h; external = λ name h. (external_of name).chain h },
  )

  pub some_rows : (notes : List Row) × AreNoteRows net o notes
  some_rows = (notes_rows net o some_depths.0, record { depths = some_depths.0; are_depths = some_depths.1; is_rows = refl })

  -- ---- no others
  module _ (d e : TreeDepths) (are : AreDepths trees d) (too : AreDepths trees e) where
    hops_same : (tree : ℕ) (name : List ℕ) → HasTree trees tree name → hops_notes net d tree name ≡ hops_notes net e tree name
    hops_same tree name h =
        let s = one_internal (one_within trees name_tests settled tree) (are.internal tree name h) (too.internal tree name h) in
        λ i. option_map_or (λ (row : BridgeRow). hops_note tree name (s.steps i) row.max_hops) (fin.get net.bridges (s.ends i)) []

    age_same : (name : List ℕ) → HasTree trees 0 name → age_notes net d name ≡ age_notes net e name
    age_same name h =
        let s = one_external (cist_sides trees name_tests settled) (are.external name h) (too.external name h) in
        λ i. option_map_or (λ (row : BridgeRow). age_note name (s.steps i) row.max_age) (fin.get net.bridges (s.ends i)) []

    cist_same : (name : List ℕ) → option_map_or (cist_notes net d name) (o.cist.vector name) [] ≡ option_map_or (cist_notes net e name) (o.cist.vector name) []
    cist_same name = go (o.cist.vector name) refl
      where
        go : (w : Option CistVector) → o.cist.vector name ≡ w → option_map_or (cist_notes net d name) w [] ≡ option_map_or (cist_notes net e name) w []
        go None f = refl
        go (Some x) f =
            let h = settled.cist.settled.is_bridge name x f in
            λ i. hops_same 0 name h i ++ age_same name h i ++ external_note 0 name x.external ++ internal_note 0 name x.internal

    msti_same : (i : ℕ) (name : List ℕ) → option_map_or (msti_notes net d (suc i) name) ((o.msti (suc i)).vector name) [] ≡ option_map_or (msti_notes net e (suc i) name) ((o.msti (suc i)).vector name) []
    msti_same i name = go ((o.msti (suc i)).vector name) refl
      where
        go : (w : Option MstiVector) → (o.msti (suc i)).vector name ≡ w → option_map_or (msti_notes net d (suc i) name) w [] ≡ option_map_or (msti_notes net e (suc i) name) w []
        go None f = refl
        go (Some x) f = let h = (settled.msti i).settled.is_bridge name x f in λ j. hops_same (suc i) name h j ++ internal_note (suc i) name x.internal

    bridge_same : (tree : ℕ) (name : List ℕ) → bridge_notes net o d tree name ≡ bridge_notes net o e tree name
    bridge_same zero name = cist_same name
    bridge_same (suc i) name = λ j. if suc i == 0 then cist_both j else msti_same i name j
      where
        cist_both : option_map_or (cist_notes net d name) (o.cist.vector name) [] ≡ option_map_or (cist_notes net e name) (o.cist.vector name) []
        cist_both = cist_same name

    tree_same : (tree : ℕ) → tree_notes net o d tree ≡ tree_notes net o e tree
    tree_same tree = all_alike (bridge_notes net o d tree) (bridge_notes net o e tree) (fin.keys net.bridges) (bridge_same tree)

    trees_same : (count : ℕ) → flat_map (tree_notes net o d) (range_with_len 0 count) ≡ flat_map (tree_notes net o e) (range_with_len 0 count)
    trees_same count = all_alike (tree_notes net o d) (tree_notes net o e) (range_with_len 0 count) tree_same

    all_same : trees_notes net o d ≡ trees_notes net o e
    unfolding trees_notes
    all_same = trees_same 4095

    rows_same : notes_rows net o d ≡ notes_rows net o e
    rows_same = ap (λ t. t ++ restricted_notes net) all_same

  pub one_list : (notes other : List Row) → AreNoteRows net o notes → AreNoteRows net o other → notes ≡ other
  one_list notes other a b = a.is_rows ∙ rows_same a.depths b.depths a.are_depths b.are_depths ∙ sym b.is_rows

-- A tree that no bridge has gives no notes, and all trees together give them.
use Rattle.std.proofs.Common.{◌≡◌, ℕ, zero, suc, ◌<◌, ◌==◌, ◌||◌, Bool, true, false, true≢false, List, [], ◌∷◌, ◌++◌, length, get_or, Option, Some, None, refl, sym, ap, subst, ◌∙◌, arith}
use Rattle.std.specs.Prelude.{if◌then◌else◌}
use Rattle.std.specs.List.{Contains, list_any, flat_map, range_with_len}
use Rattle.std.specs.Option.{option_map_or}
use Rattle.std.specs.FinMap as fin
use Rattle.mst_tables.specs.Tables.{Net, Numbers}
use Rattle.mst_vector.specs.declared.msti.MstiVector.{MstiVector}
use Rattle.mst_view.specs.Trees.{is_among}
use Rattle.mst_view.specs.Viewed.{Viewed}
use Rattle.mst_view.specs.declared.in_view.BridgeInView.{BridgeInView}
use Rattle.mst_roles.specs.forest.Agrees.{AreOf}
use Rattle.mst_roles.specs.forest.Forest.{IsForest, Forest}
use Rattle.mst_roles.specs.forest.InUse.{is_in_use}
use Rattle.mst_roles.specs.forest.Seen.{trees_at}
use Rattle.mst_roles.specs.forest.Outcome.{Outcome, trees_of}
use Rattle.mst_roles.proofs.forest_lemmas.Seen.{bridge_seen}
use Rattle.mst_roles.proofs.forest_lemmas.Looking.{has_tree_at}
use Rattle.mst_roles.specs.forest.nested.Trees.{IsSettled}
use Rattle.mst_rows.specs.Rows.{Row}
use Rattle.mst_note_text.specs.AreDepths.{TreeDepths}
use Rattle.mst_note_text.specs.NotesText.{cist_notes, msti_notes, bridge_notes, tree_notes, trees_notes}
use Rattle.mst_note_text.specs.SeenNotes.{is_had}
use Rattle.mst_note_text.proofs.Flat.{all_empty}
use Rattle.mst_note_text.proofs.InTrees.{in_tree, had, not_zero}

any_there : {A : Type 0} (test : A → Bool) (xs : List A) (x : A) → Contains xs x → test x ≡ true → list_any test xs ≡ true
any_there test [] x c t = let l = c.1 in absurd (omega arith)
any_there {A} test (y ∷ xs) x c t = go c.0 c.1 c.2 (any_there test xs x)
  where
    either : (a b : Bool) → b ≡ true → (a || b) ≡ true
    either true b e = refl
    either false b e = e

    go : (k : ℕ) → k < length (y ∷ xs) → get_or (y ∷ xs) k x ≡ x → (Contains xs x → test x ≡ true → list_any test xs ≡ true) → (test y || list_any test xs) ≡ true
    go zero l e rest = ap (λ b. b || list_any test xs) (ap test e ∙ t)
    go (suc k) l e rest = either (test y) (list_any test xs) (rest (k, omega arith, e) t)

module _ (net : Net) (numbers : Numbers) (v : Viewed) (f : Forest) (of : AreOf net numbers v f.regions) (is : IsForest net numbers f) (settled : IsSettled (trees_of net is.outcome)) (d : TreeDepths) where
  abbrev o : Outcome
  o = is.outcome

  -- a bridge with a vector in an MSTI is in the view, and has it there
  is_had_by : (i : ℕ) (name : List ℕ) (x : MstiVector) → (o.msti (suc i)).vector name ≡ Some x → is_in_use v (suc i) ≡ true
  is_had_by i name x e =
      let m = (in_tree net numbers v f of is settled (suc i)).member name ((settled.msti i).settled.is_bridge name x e) in
      let number = (bridge_seen net numbers v of.view m.0 m.1).has_number in
      any_there (λ (b : BridgeInView). is_among (trees_at v b.bridge.number) (suc i)) v.bridges m.0 m.1
      (has_tree_at net numbers v f.regions of (suc i) m.0.name m.0.bridge.number number ∙ had net numbers v f of is i m.0.name x (ap (o.msti (suc i)).vector m.2 ∙ e))

  unhad : (i : ℕ) → is_in_use v (suc i) ≡ false → tree_notes net o d (suc i) ≡ []
  unhad i none = all_empty (bridge_notes net o d (suc i)) (fin.keys net.bridges) (λ name.
      ap (λ (t : Bool). if t then option_map_or (cist_notes net d name) (o.cist.vector name) [] else option_map_or (msti_notes net d (suc i) name) ((o.msti (suc i)).vector name) []) (not_zero i)
      ∙ go name ((o.msti (suc i)).vector name) refl)
    where
      go : (name : List ℕ) (w : Option MstiVector) → (o.msti (suc i)).vector name ≡ w → option_map_or (msti_notes net d (suc i) name) ((o.msti (suc i)).vector name) [] ≡ []
      go name None e = ap (λ (w : Option MstiVector). option_map_or (msti_notes net d (suc i) name) w []) e
      go name (Some x) e = absurd (true≢false (sym (is_had_by i name x e) ∙ none))

  neither : (a b : Bool) → (a || b) ≡ false → b ≡ false
  neither true b e = absurd (true≢false e)
  neither false b e = e

  pub no_notes : (tree : ℕ) → is_had v tree ≡ false → tree_notes net o d tree ≡ []
  no_notes zero none = absurd (true≢false none)
  no_notes (suc i) none = unhad i (neither (suc i == 0) (is_in_use v (suc i)) none)

pub all_trees : (grown : List Row → Type 0) (net : Net) (o : Outcome) (d : TreeDepths) (number : ℕ) (rows : List Row) → number ≡ 4095 → grown (rows ++ flat_map (tree_notes net o d) (range_with_len 0 number)) → grown (rows ++ trees_notes net o d)
unfolding trees_notes
all_trees grown net o d number rows is = subst (λ n. grown (rows ++ flat_map (tree_notes net o d) (range_with_len 0 n))) is

-- Of a list of entries, tree after tree, those of one tree are the ones that have its number.
use Rattle.std.proofs.Common.{◌≡◌, ℕ, zero, suc, ◌+◌, ◌<◌, ◌≤◌, ◌==◌, Bool, true, false, List, [], ◌∷◌, ◌++◌, length, take, get_or, Option, Some, None, refl, sym, ap, subst, ◌∙◌, append_assoc, append-nil, eq-eqb, true≢false, arith}
use Rattle.std.specs.List.{AllByRecursion, filter, filter_map, flat_map, range_with_len, zip}
use Rattle.std.specs.Option.{option_map}
use Rattle.std.proofs.lemmas.Bool.{eqb-true, ne_eqb}
use Rattle.std.proofs.lemmas.List.{take_more, flat_map_more}
use Rattle.std.proofs.lemmas.List.Elements.{filter-append}
use Rattle.mst_ids.specs.declared.name.PortName.{PortName}
use Rattle.mst_tables.specs.Tables.{Net}
use Rattle.mst_roles.specs.declared.kind.Role.{Role}
use Rattle.mst_roles.specs.forest.Outcome.{Outcome}
use Rattle.mst_roles.proofs.forest_lemmas.Lists.{some_is, no_some, all_kept}
use Rattle.mst_roles.proofs.forest_lemmas.Entries.{all_weaker}
use Rattle.mst_changes.specs.declared.subject.Item.{Item}
use Rattle.mst_changes.specs.declared.subject.Item.TheVariants.{Port}
use Rattle.mst_changes.specs.declared.subject.Subject.{Subject}
use Rattle.mst_changes.specs.declared.value.VectorOrRole.{VectorOrRole}
use Rattle.mst_changes.specs.declared.value.VectorOrRole.TheVariants.{HasRole}
use Rattle.mst_changes.specs.declared.subject.Entry.{Entry}
use Rattle.mst_changes.specs.declared.kept.TreeEntries.{TreeEntries}
use Rattle.mst_changes.specs.Subjects.{subjects_in}
use Rattle.mst_view.specs.View.{bridge_names, port_names}
use Rattle.mst_changes.specs.Values.{value_at}
use Rattle.mst_changes.specs.Kept.{entry_at, entries_at, entries_of}
use Rattle.mst_changes.specs.Stored.{bridge_entry, port_entry, kept_in}
use Rattle.mst_roles.proofs.forest_lemmas.Pieces.{all_append}
use Rattle.mst_changes.proofs.Lists.{filter_all, filter_none}
use Rattle.mst_changes.proofs.Changed.{entries_in_trees}
use Rattle.mst_changes.proofs.Orders.{all_in}
use Rattle.mst_roles.proofs.forest_lemmas.AllTrees.{trees_are}

abbrev pub is_of : ℕ → Entry → Bool
is_of tree entry = entry.tree == tree

abbrev pub AllOf : ℕ → List Entry → Type 0
AllOf tree = AllByRecursion (λ (entry : Entry). entry.tree ≡ tree)

-- ---- entries of one tree
of_other : (t k : ℕ) (xs : List Entry) → AllOf k xs → (k ≡ t → ⊥) → filter (is_of t) xs ≡ []
of_other t k xs h other = filter_none (is_of t) xs (all_weaker (λ (entry : Entry). entry.tree ≡ k) (λ entry. is_of t entry ≡ false) (λ entry e. ap (λ n. n == t) e ∙ ne_eqb k t other) xs h)

of_own : (t : ℕ) (xs : List Entry) → AllOf t xs → filter (is_of t) xs ≡ xs
of_own t xs h = filter_all (is_of t) xs (all_weaker (λ (entry : Entry). entry.tree ≡ t) (λ entry. is_of t entry ≡ true) (λ entry e. eq-eqb entry.tree t e) xs h)

-- ---- what is kept of a tree
with_value : (tree : ℕ) (item : Item) (o : Option VectorOrRole) (entry : Entry) → option_map {U = Entry} (λ value. record { tree = tree; item = item; value = value }) o ≡ Some entry → entry.tree ≡ tree
with_value tree item None entry e = absurd (no_some entry e)
with_value tree item (Some value) entry e = sym (ap (λ (q : Entry). q.tree) (some_is (record { tree = tree; item = item; value = value }) entry e))

with_role : (tree : ℕ) (name : PortName) (o : Option Role) (entry : Entry) → option_map {U = Entry} (λ role. record { tree = tree; item = Port name; value = HasRole role }) o ≡ Some entry → entry.tree ≡ tree
with_role tree name None entry e = absurd (no_some entry e)
with_role tree name (Some role) entry e = sym (ap (λ (q : Entry). q.tree) (some_is (record { tree = tree; item = Port name; value = HasRole role }) entry e))

every : {A : Type 0} (xs : List A) → AllByRecursion (λ _. Unit {0}) xs
every [] = tt
every (x ∷ xs) = (tt, every xs)

module _ (bridges : List (List ℕ)) (ports : List PortName) where
  kept_of : (kept : TreeEntries) → AllOf kept.tree (kept_in bridges ports kept)
  kept_of kept =
      let bs = zip bridges kept.vectors.items in
      let ps = zip ports kept.roles.items in
      all_append (λ (entry : Entry). entry.tree ≡ kept.tree) (filter_map (bridge_entry kept.tree) bs) (filter_map (port_entry kept.tree) ps)
      (all_kept (λ _. Unit {0}) (λ (entry : Entry). entry.tree ≡ kept.tree) (bridge_entry kept.tree) (λ b entry u e. with_value kept.tree _ b.1 entry e) bs (every bs))
      (all_kept (λ _. Unit {0}) (λ (entry : Entry). entry.tree ≡ kept.tree) (port_entry kept.tree) (λ p entry u e. with_role kept.tree p.0 p.1 entry e) ps (every ps))

  -- the entries of a tree in what is kept so far
  abbrev pub so_far : ℕ → List TreeEntries → List Entry
  so_far tree trees = filter (is_of tree) (flat_map (kept_in bridges ports) trees)

  one_more : (tree : ℕ) (trees : List TreeEntries) (i : ℕ) (kept : TreeEntries) → i < length trees → kept ≡ get_or trees i kept → so_far tree (take (i + 1) trees) ≡ so_far tree (take i trees) ++ filter (is_of tree) (kept_in bridges ports kept)
  one_more tree trees i kept below here =
      ap (so_far tree) (take_more trees i kept below ∙ ap (λ k. take i trees ++ k ∷ []) (sym here))
      ∙ ap (filter (is_of tree)) (sym (flat_map_more (kept_in bridges ports) [] (take i trees) kept))
      ∙ filter-append (is_of tree) (flat_map (kept_in bridges ports) (take i trees)) (kept_in bridges ports kept)

  module _ (tree : ℕ) (trees : List TreeEntries) (i : ℕ) (kept : TreeEntries) (below : i < length trees) (here : kept ≡ get_or trees i kept) (before now : List Entry) (is : now ≡ before ++ so_far tree (take i trees)) where
    pub one_of_it : kept.tree ≡ tree → (new : List Entry) → new ≡ now ++ kept_in bridges ports kept → new ≡ before ++ so_far tree (take (i + 1) trees)
    one_of_it same new e =
        e ∙ ap (λ l. l ++ kept_in bridges ports kept) is ∙ append_assoc before (so_far tree (take i trees)) (kept_in bridges ports kept)
        ∙ ap (λ l. before ++ (so_far tree (take i trees) ++ l)) (sym (of_own tree (kept_in bridges ports kept) (subst (λ t. AllOf t (kept_in bridges ports kept)) same (kept_of kept))))
        ∙ ap (λ l. before ++ l) (sym (one_more tree trees i kept below here))

    pub one_of_other : (kept.tree ≡ tree → ⊥) → now ≡ before ++ so_far tree (take (i + 1) trees)
    one_of_other other =
        is
        ∙ ap (λ l. before ++ l)
        (sym (one_more tree trees i kept below here ∙ ap (λ l. so_far tree (take i trees) ++ l) (of_other tree kept.tree (kept_in bridges ports kept) (kept_of kept) other) ∙ append-nil (so_far tree (take i trees))))

-- ---- the entries of a network
module _ (f : ℕ → List Entry) (all : (tree : ℕ) → AllOf tree (f tree)) (t : ℕ) where
  none_later : (s n : ℕ) → t < s → filter (is_of t) (flat_map f (range_with_len s n)) ≡ []
  none_later s zero l = refl
  none_later s (suc n) l =
      let other : s ≡ t → ⊥ = λ e. absurd (omega (arith, e, l)) in
      filter-append (is_of t) (f s) (flat_map f (range_with_len (s + 1) n)) ∙ (λ i. of_other t s (f s) (all s) other i ++ none_later (s + 1) n (omega arith) i)

  one_among : (s n : ℕ) → s ≤ t → t < s + n → filter (is_of t) (flat_map f (range_with_len s n)) ≡ f t
  one_among s zero l k = absurd (omega (arith, l, k))
  one_among s (suc n) l k = go (s == t) refl (λ next. one_among (s + 1) n next (omega (arith, k)))
    where
      rest : List Entry
      rest = flat_map f (range_with_len (s + 1) n)

      go : (b : Bool) → (s == t) ≡ b → (s + 1 ≤ t → filter (is_of t) rest ≡ f t) → filter (is_of t) (f s ++ rest) ≡ f t
      go true e later =
          let same : s ≡ t = eqb-true s t e in
          filter-append (is_of t) (f s) rest
          ∙ (λ i. of_own t (f s) (subst (λ (k : ℕ). AllOf k (f s)) same (all s)) i ++ none_later (s + 1) n (omega (arith, same)) i)
          ∙ append-nil (f s) ∙ ap f same
      go false e later =
          let other : s ≡ t → ⊥ = λ same. absurd (true≢false (sym (eq-eqb s t same) ∙ e)) in
          filter-append (is_of t) (f s) rest ∙ (λ i. of_other t s (f s) (all s) other i ++ later (omega (arith, l, other)) i)

pub of_network : (net : Net) (o : Outcome) (t : ℕ) → t < 4095 → filter (is_of t) (entries_of net o) ≡ entries_at (value_at net o) (subjects_in (bridge_names net) (port_names net) t)
of_network net o t l =
    ap (filter (is_of t)) (entries_in_trees (value_at net o) (bridge_names net) (port_names net) ∙ ap (flat_map f) (sym trees_are))
    ∙ one_among f all t 0 4095 (omega arith) (omega arith)
  where
    f : ℕ → List Entry
    f tree = entries_at (value_at net o) (subjects_in (bridge_names net) (port_names net) tree)

    all : (tree : ℕ) → AllOf tree (f tree)
    all tree =
        all_kept (λ (s : Subject). s.tree ≡ tree) (λ (entry : Entry). entry.tree ≡ tree) (entry_at (value_at net o))
        (λ s entry same e. with_value s.tree s.item (value_at net o s) entry e ∙ same) (subjects_in (bridge_names net) (port_names net) tree) (all_in (bridge_names net) (port_names net) tree)

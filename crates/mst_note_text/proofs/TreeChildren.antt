-- The bridges of a tree that are listed with their parents and steps.
use Rattle.std.proofs.Common.{◌≡◌, refl, sym, ap, subst, ◌∙◌, ℕ, zero, suc, ◌+◌, ◌<◌, ◌≤◌, List, [], ◌∷◌, length, get_or, map, Option, Some, None, MatchOption, arith}
use Rattle.std.specs.List.{AllByRecursion, Contains, cons_option, filter_map, range_with_len}
use Rattle.std.specs.Option.{option_map_or}
use Rattle.std.specs.FinMap as fin
use Rattle.std.proofs.lemmas.List.FromFn.{fill_by_all}
use Rattle.mst_graph.specs.Groups.{IsThinned, nothing, kept, left_out}
use Rattle.mst_tables.specs.Tables.{Net, Numbers, BridgeRow}
use Rattle.mst_view.specs.Viewed.{Viewed, named_bridge}
use Rattle.mst_view.specs.declared.in_view.BridgeInView.{BridgeInView}
use Rattle.mst_roles.specs.forest.nested.Trees.{IsSettled}
use Rattle.mst_roles.specs.forest.Agrees.{AreOf}
use Rattle.mst_roles.specs.forest.Forest.{Forest, IsForest}
use Rattle.mst_roles.specs.forest.Outcome.{trees_of}
use Rattle.mst_roles.proofs.forest_lemmas.Lists.{contains_mapped, kept_in, mapped_twice}
use Rattle.mst_note_text.specs.Children.{AreChildren, IsChild}
use Rattle.mst_note_text.specs.Depths.{ParentIn}
use Rattle.mst_note_text.specs.Listed.{IsListed}
use Rattle.mst_note_text.specs.Parents.{AreGiven}
use Rattle.mst_note_text.specs.Placed.{ArePlaces}
use Rattle.mst_note_text.specs.Places.{HasDepths, depths_at}
use Rattle.mst_note_text.specs.Places as by_place
use Rattle.mst_note_text.specs.SeenTree.{all_within, child_at, given, members_in, name_at, parent_name, seen_member}
use Rattle.mst_note_text.specs.declared.children.Child.{Child}
use Rattle.mst_note_text.specs.declared.member.Member.{Member}
use Rattle.mst_note_text.specs.declared.parent.Depths.{Depths}
use Rattle.mst_note_text.specs.declared.parent.Parent.{Parent}
use Rattle.mst_note_text.proofs.AllSteps.{within_forest, steps_are, no_parent}
use Rattle.mst_note_text.proofs.InTrees.{in_tree}
use Rattle.mst_note_text.proofs.Listing.{InTree, is_listed, some_at}
use Rattle.mst_note_text.proofs.Names.{name_tests}

-- ---- lists
all_range : {A : Type 0} (P : A → Type 0) (f : ℕ → A) (a n : ℕ) → ((k : ℕ) → a ≤ k → k < a + n → P (f k)) → AllByRecursion P (map f (range_with_len a n))
all_range P f a zero h = tt
all_range P f a (suc n) h = (h a (omega arith) (omega arith), all_range P f (a + 1) n (λ k l m. h k (omega arith) (omega arith)))

thinned_kept : {A B C : Type 0} (h : A → Option B) (p : A → C) (q : B → C) → ((x : A) (y : B) → h x ≡ Some y → q y ≡ p x) → (xs : List A) → IsThinned (map q (filter_map h xs)) (map p xs)
thinned_kept h p q same [] = nothing
thinned_kept {A} {B} {C} h p q same (x ∷ xs) = go (h x) refl (thinned_kept h p q same xs)
  where
    go : (o : Option B) → h x ≡ o → IsThinned (map q (filter_map h xs)) (map p xs) → IsThinned (map q (cons_option o (filter_map h xs))) (p x ∷ map p xs)
    go None e t = left_out t
    go (Some y) e t = subst (λ z. IsThinned (z ∷ map q (filter_map h xs)) (p x ∷ map p xs)) (sym (same x y e)) (kept t)

-- ---- names
names_at : (members : List Member) → map (λ (m : Member). m.name) members ≡ map (name_at members) (range_with_len 0 (length members))
names_at members = fill_by_all (name_at members) (map (λ (m : Member). m.name) members) (length members) [] (long members) at
  where
    long : (ms : List Member) → length (map (λ (m : Member). m.name) ms) ≡ length ms
    long [] = refl
    long (m ∷ ms) = ap suc (long ms)

    one : (ms : List Member) (k : ℕ) → k < length ms → get_or (map (λ (m : Member). m.name) ms) k [] ≡ name_at ms k
    one [] k l = absurd (omega arith)
    one (m ∷ ms) zero l = refl
    one (m ∷ ms) (suc k) l = one ms k (omega arith)

    at : (k : ℕ) → k < length members → get_or (map (λ (m : Member). m.name) members) k [] ≡ name_at members k
    at k l = one members k l

module _ (v : Viewed) (f : Forest) (tree : ℕ) (members : List Member) (are : members ≡ members_in v f tree) (places : List (ℕ × ℕ)) (placed : ArePlaces (λ (m : Member). m.number) members places)
    (parents : List (Option Parent)) (gave : AreGiven (given v f tree places) v.ports v.ports (length members) parents)
    (net : Net) (numbers : Numbers) (is : IsForest net numbers f) (of : AreOf net numbers v f.regions) (settled : IsSettled (trees_of net is.outcome)) where
  seen : InTree net numbers v f is.outcome of tree
  seen = in_tree net numbers v f of is settled tree

  listed : IsListed (trees_of net is.outcome) tree (name_at members) parents
  listed = is_listed net numbers v f is.outcome of tree seen members are places placed parents gave

  pub counts : by_place.IsForest (all_within parents)
  counts = within_forest (trees_of net is.outcome) name_tests settled (name_at members) parents tree listed

  module _ (depths : List Depths) (each : (n : ℕ) → n < length parents → HasDepths (all_within parents) n (depths_at depths n)) where
    abbrev pub child_of : ℕ → Child
    child_of = child_at members parents depths

    has_parent : (n : ℕ) → n < length parents → (o : Option Parent) → get_or parents n None ≡ o
        → MatchOption (parent_name members o) ((k : List ℕ) → ParentIn (trees_of net is.outcome) tree (name_at members n) k → ⊥) (ParentIn (trees_of net is.outcome) tree (name_at members n))
    has_parent n low None e = no_parent (trees_of net is.outcome) name_tests settled (name_at members) parents tree listed n low e
    has_parent n low (Some p) e =
        let long = gave.long in
        let here = listed.in_list n p e in
        let m = some_at members p.place (omega arith) in
        let named : name_at members p.place ≡ m.0.name = ap (λ (x : Option Member). option_map_or (λ m. m.name) x []) m.1 in
        rw m.1 (subst (ParentIn (trees_of net is.outcome) tree (name_at members n)) named (listed.is_parent n p e))

    is_child : (n : ℕ) → n < length members → IsChild (trees_of net is.outcome) tree (child_of n)
    is_child n low =
        let long = gave.long in
        let below : n < length parents = omega arith in
        record {
          steps = steps_are (trees_of net is.outcome) name_tests settled (name_at members) parents tree listed n (depths_at depths n) below (each n below);
          parent = has_parent n below (get_or parents n None) refl;
        }

    names : map (λ (c : Child). c.name) (map child_of (range_with_len 0 (length members))) ≡ map (λ (m : Member). m.name) members
    names = mapped_twice (λ (c : Child). c.name) child_of (range_with_len 0 (length members)) ∙ sym (names_at members)

    keys : map (λ (b : BridgeInView). b.name) v.bridges ≡ fin.keys net.bridges
    keys = sym (mapped_twice (λ (e : List ℕ × BridgeRow). e.0) named_bridge v.bridges) ∙ ap (map (λ (e : List ℕ × BridgeRow). e.0)) of.view.bridges

    thinned : IsThinned (map (λ (m : Member). m.name) members) (fin.keys net.bridges)
    thinned =
        subst (λ ks. IsThinned (map (λ (m : Member). m.name) members) ks) keys
        (subst (λ ms. IsThinned (map (λ (m : Member). m.name) ms) (map (λ (b : BridgeInView). b.name) v.bridges)) (sym are)
        (thinned_kept (seen_member f tree) (λ (b : BridgeInView). b.name) (λ (m : Member). m.name) (λ b m e. (seen.names b m e).0) v.bridges))

    pub are_children : AreChildren (trees_of net is.outcome) tree (fin.keys net.bridges) (map child_of (range_with_len 0 (length members)))
    are_children = record {
      each = all_range (IsChild (trees_of net is.outcome) tree) child_of 0 (length members) (λ k l m. is_child k (omega arith));
      in_order = subst (λ ns. IsThinned ns (fin.keys net.bridges)) (sym names) thinned;
      all = λ name has.
          let b = seen.member name has in
          let m = b.3.0 in
          let m_in = subst (λ ms. Contains ms m) (sym are) (kept_in (seen_member f tree) v.bridges b.0 m b.1 b.3.1) in
          let is_name : m.name ≡ name = (seen.names b.0 m b.3.1).0 ∙ b.2 in
          subst (λ ns. Contains ns name) (sym names) (subst (Contains (map (λ (x : Member). x.name) members)) is_name (contains_mapped (λ (x : Member). x.name) members m m_in));
    }

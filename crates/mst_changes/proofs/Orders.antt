-- The order of subjects.
use Rattle.std.proofs.Common.{◌≡◌, ℕ, zero, suc, ◌+◌, ◌<◌, List, [], ◌∷◌, map, refl, sym, ap, subst, ◌∙◌, arith, Less, Equal, Greater}
use Rattle.std.specs.List.{AllByRecursion, flat_map, range_with_len}
use Rattle.std.specs.Ordering.{nat_cmp, ordering_then, ordering_reverse}
use Rattle.std.specs.Cmp.{tied_itself, nat_cmp_total, nat_cmp_is, then_flip}
use Rattle.std.specs.Cmp.Lexicographic.{nat_list_cmp_total}
use Rattle.mst_ids.specs.Names.{name_cmp, port_cmp}
use Rattle.mst_ids.specs.declared.name.PortName.{PortName}
use Rattle.mst_roles.specs.forest.Apart.{Apart}
use Rattle.mst_roles.proofs.forest_lemmas.Lists.{all_mapped, apart_mapped}
use Rattle.mst_roles.proofs.forest_lemmas.Entries.{all_weaker}
use Rattle.mst_roles.proofs.forest_lemmas.Views.{ports_total}
use Rattle.mst_changes.specs.declared.subject.Item.{Item}
use Rattle.mst_changes.specs.declared.subject.Item.TheVariants.{Bridge, Port}
use Rattle.mst_changes.specs.declared.subject.Subject.{Subject}
use Rattle.mst_roles.specs.forest.AllTrees.{all_trees}
use Rattle.mst_changes.specs.Subjects.{bridge_in, port_in, subjects_in, subjects, item_cmp, subject_cmp}
use Rattle.mst_changes.specs.Merging.{Rise}
use Rattle.mst_roles.proofs.forest_lemmas.Pieces.{all_append}
use Rattle.mst_changes.proofs.Lists.{apart_append}
use Rattle.mst_roles.proofs.forest_lemmas.AllTrees.{trees_are}

item_turned : (a b : Item) → item_cmp a b ≡ ordering_reverse (item_cmp b a)
item_turned (Bridge a) (Bridge b) = nat_list_cmp_total.antisymm a b
item_turned (Bridge a) (Port q) = refl
item_turned (Port p) (Bridge b) = refl
item_turned (Port p) (Port q) = ports_total.antisymm p q

item_itself : (a : Item) → item_cmp a a ≡ Equal
item_itself (Bridge a) = tied_itself nat_list_cmp_total a
item_itself (Port p) = tied_itself ports_total p

pub turned : (a b : Subject) → subject_cmp a b ≡ Less → subject_cmp b a ≡ Greater
turned a b l =
    (λ i. ordering_then (nat_cmp_total.antisymm b.tree a.tree i) (item_turned b.item a.item i))
    ∙ then_flip (nat_cmp a.tree b.tree) (item_cmp a.item b.item) ∙ ap ordering_reverse l

pub itself : (a : Subject) → subject_cmp a a ≡ Equal
itself a = ap (λ o. ordering_then o (item_cmp a.item a.item)) (tied_itself nat_cmp_total a.tree) ∙ item_itself a.item

-- in one tree by the items, and else by the trees
in_one : (tree : ℕ) (a b : Item) → item_cmp a b ≡ Less → subject_cmp (record { tree = tree; item = a }) (record { tree = tree; item = b }) ≡ Less
in_one tree a b l = ap (λ o. ordering_then o (item_cmp a b)) (tied_itself nat_cmp_total tree) ∙ l

by_trees : (a b : Subject) → a.tree < b.tree → subject_cmp a b ≡ Less
by_trees a b l = ap (λ o. ordering_then o (item_cmp a.item b.item)) (sym (nat_cmp_is a.tree b.tree Less l))

module _ (bridges : List (List ℕ)) (ports : List PortName) where
  pub all_in : (tree : ℕ) → AllByRecursion (λ (p : Subject). p.tree ≡ tree) (subjects_in bridges ports tree)
  all_in tree =
      all_append (λ (p : Subject). p.tree ≡ tree) (map (bridge_in tree) bridges) (map (port_in tree) ports)
      (all_mapped (λ (p : Subject). p.tree ≡ tree) (bridge_in tree) bridges (every bridges)) (all_mapped (λ (p : Subject). p.tree ≡ tree) (port_in tree) ports (every ports))
    where
      every : {A : Type 0} (xs : List A) → AllByRecursion (λ _. tree ≡ tree) xs
      every [] = tt
      every (x ∷ xs) = (refl, every xs)

  module _ (bridges_rise : Apart (λ a b. name_cmp a b ≡ Less) bridges) (ports_rise : Apart (λ p q. port_cmp p q ≡ Less) ports) where
    pub tree_rises : (tree : ℕ) → Rise (subjects_in bridges ports tree)
    tree_rises tree =
        apart_append (λ a b. subject_cmp a b ≡ Less) (map (bridge_in tree) bridges) (map (port_in tree) ports)
        (apart_mapped (λ a b. name_cmp a b ≡ Less) (λ a b. subject_cmp a b ≡ Less) (bridge_in tree) (λ a b l. in_one tree (Bridge a) (Bridge b) l) bridges bridges_rise)
        (apart_mapped (λ p q. port_cmp p q ≡ Less) (λ a b. subject_cmp a b ≡ Less) (port_in tree) (λ p q l. in_one tree (Port p) (Port q) l) ports ports_rise)
        (all_mapped (λ a. AllByRecursion (λ b. subject_cmp a b ≡ Less) (map (port_in tree) ports)) (bridge_in tree) bridges (first bridges))
      where
        below : (a : List ℕ) (ps : List PortName) → AllByRecursion (λ p. subject_cmp (bridge_in tree a) (port_in tree p) ≡ Less) ps
        below a [] = tt
        below a (p ∷ ps) = (in_one tree (Bridge a) (Port p) refl, below a ps)

        first : (bs : List (List ℕ)) → AllByRecursion (λ b. AllByRecursion (λ p. subject_cmp (bridge_in tree b) p ≡ Less) (map (port_in tree) ports)) bs
        first [] = tt
        first (b ∷ bs) = (all_mapped (λ p. subject_cmp (bridge_in tree b) p ≡ Less) (port_in tree) ports (below b ports), first bs)

    later : (t s n : ℕ) → t < s → AllByRecursion (λ (p : Subject). t < p.tree) (flat_map (subjects_in bridges ports) (range_with_len s n))
    later t s zero l = tt
    later t s (suc n) l =
        all_append (λ (p : Subject). t < p.tree) (subjects_in bridges ports s) (flat_map (subjects_in bridges ports) (range_with_len (s + 1) n))
        (all_weaker (λ (p : Subject). p.tree ≡ s) _ (λ p e. subst (λ k. t < k) (sym e) l) (subjects_in bridges ports s) (all_in s)) (later t (s + 1) n (omega arith))

    from : (s n : ℕ) → Rise (flat_map (subjects_in bridges ports) (range_with_len s n))
    from s zero = tt
    from s (suc n) =
        let rest = flat_map (subjects_in bridges ports) (range_with_len (s + 1) n) in
        apart_append (λ a b. subject_cmp a b ≡ Less) (subjects_in bridges ports s) rest (tree_rises s) (from (s + 1) n)
        (all_weaker (λ (a : Subject). a.tree ≡ s) (λ a. AllByRecursion (λ b. subject_cmp a b ≡ Less) rest)
        (λ a e. all_weaker (λ (b : Subject). s < b.tree) (λ b. subject_cmp a b ≡ Less) (λ b l. by_trees a b (subst (λ k. k < b.tree) (sym e) l)) rest (later s (s + 1) n (omega arith)))
        (subjects_in bridges ports s) (all_in s))

    up_to : (n : ℕ) → range_with_len 0 n ≡ all_trees → Rise (subjects bridges ports)
    up_to n e = subst (λ ts. Rise (flat_map (subjects_in bridges ports) ts)) e (from 0 n)

    -- subjects stand in their order
    pub subjects_rise : Rise (subjects bridges ports)
    subjects_rise = up_to 4095 trees_are

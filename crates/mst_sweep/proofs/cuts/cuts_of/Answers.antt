use Rattle.std.proofs.Common.{Vec, Global, ◌≡◌, ℕ, ◌-◌, ◌++◌, nat_eq, Bool, false, List, [], ◌∷◌, get_or, length, map, refl, sym, ap, subst, ◌∙◌}
use Rattle.std.specs.Cmp.Lexicographic.{pointwise}
use Rattle.std.specs.List.{filter, flat_map, list_any}
use Rattle.std.proofs.lemmas.List.{length-map}
use Rattle.mst_vlan.specs.classes.AllVids.{NumberEach}
use Rattle.mst_vlan.specs.classes.AllVids.{all_vids}
use Rattle.mst_vlan.proofs.classes_lemmas.VidPlaces.{vids_long}
use Rattle.mst_vlan.proofs.classes_lemmas.VidPlaces.{numbers_below, each_below}
use Rattle.mst_graph.specs.Lists.{has_any}
use Rattle.mst_rows.specs.Rows.{Row}
use Rattle.mst_sweep.specs.Cuts.{group_rows, names_of, parts_at, AreCutsBy}
use Rattle.mst_sweep.proofs.NoCuts.{none_at, no_cuts}
use Rattle.mst_sweep.proofs.SameParts.{same_parts, by_view, groups_given}
use Rattle.mst_sweep.proofs.cuts.cuts_of.Goals as goal

abbrev Parts : Type 0
Parts = Vec (Vec (List ℕ) Global) Global

-- the rows of groups, by the VIDs in them
by_items : (f : List ℕ → List Row) (groups : List (Vec ℕ Global)) → flat_map (λ (g : Vec ℕ Global). f g.items) groups ≡ flat_map f (map (λ (g : Vec ℕ Global). g.items) groups)
by_items f [] = refl
by_items f (g ∷ groups) = ap (λ l. f g.items ++ l) (by_items f groups)

-- parts are compared by the names in them
abbrev same : Parts → Parts → Bool
same a b = pointwise (λ (x y : Vec (List ℕ) Global). pointwise (pointwise nat_eq) x.items y.items) a.items b.items

same_is : (a b : Parts) → same a b ≡ same_parts (names_of a) (names_of b)
same_is a b = by_view (λ (names : Vec (List ℕ) Global). names.items) (pointwise (pointwise nat_eq)) a.items b.items

pub groups_by_body-requires-clause-as_long : goal.groups_by_body-requires-clause-as_long
groups_by_body-requires-clause-as_long c =
    let s = c.requires.classes in
    ap length c.as_slice-numbers.ensures.value ∙ s.are.as_long ∙ s.as_long ∙ sym (ap length (c.as_slice-5.ensures.value ∙ c.in_ok-all.ensures) ∙ vids_long)

pub groups_by_body-requires-clause-below : goal.groups_by_body-requires-clause-below
groups_by_body-requires-clause-below c =
    let s = c.requires.classes in
    let classes = c.args.classes.now in
    each_below s.numbers classes.numbers.items classes.firsts.items _ s.are c.requires.as_long c.as_slice-numbers.result.now c.as_slice-numbers.ensures.value

pub returns-clause-numbered : goal.returns-clause-numbered
returns-clause-numbered c =
    let s = c.requires.classes in
    let copied = c.in_ok-kept.ensures ∙ ap (map names_of) c.as_slice-2.ensures.value in
    let bodies : List Parts = c.args.parts.items in
    let kept : List Parts = c.in_ok-kept.kept.items in
    let long : length bodies ≡ length c.args.classes.now.firsts.items = ap length (sym c.as_slice.ensures.value) ∙ c.as_slice.ensures.len ∙ c.requires.as_long in
    numbers_below s.numbers c.args.classes.now.numbers.items c.args.classes.now.firsts.items _ s.as_long s.are
    (sym c.as_slice-4.ensures.len ∙ ap length c.as_slice-4.ensures.value ∙ sym (length-map kept names_of) ∙ ap length copied ∙ length-map bodies names_of ∙ long)

pub returns-clause-cut : goal.returns-clause-cut
returns-clause-cut c by =
    let s = c.requires.classes in
    let numbers : List ℕ = c.args.classes.now.numbers.items in
    let firsts : List ℕ = c.args.classes.now.firsts.items in
    let bodies : List Parts = c.args.parts.items in
    let groups : List (Vec ℕ Global) = c.in_ok-groups.groups.items in
    let each : List (List (List (List ℕ))) = map names_of bodies in
    let copied : map names_of c.in_ok-kept.kept.items ≡ each = c.in_ok-kept.ensures ∙ ap (map names_of) c.as_slice-2.ensures.value in
    let counted : map names_of c.as_slice-4.result.now ≡ each = ap (map names_of) c.as_slice-4.ensures.value ∙ copied in
    let long : length bodies ≡ length firsts = ap length (sym c.as_slice.ensures.value) ∙ c.as_slice.ensures.len ∙ c.requires.as_long in
    let numbered : NumberEach numbers (length bodies) = numbers_below s.numbers numbers firsts (length bodies) s.as_long s.are long in
    let all : c.as_slice-3.result.now ≡ all_vids = c.as_slice-3.ensures.value ∙ c.in_ok-all.ensures in
    record {
      parts = parts_at numbers each;
      are_parts = λ vid _. refl;
      groups = map (λ (g : Vec ℕ Global). g.items) groups;
      are_groups = groups_given names_of same same_is numbers bodies numbered c.as_slice-numbers.result.now c.as_slice-5.result.now c.as_slice-numbers.ensures.value (c.as_slice-5.ensures.value ∙ c.in_ok-all.ensures) (map (λ (g : Vec ℕ Global). g.items) groups) c.in_ok-groups.ensures;
      cut = c.in_ok-vids.ensures ∙ (λ j. filter (λ vid. has_any (parts_at (c.as_slice-numbers.ensures.value j) (counted j) vid)) (all j));
      are = (λ j. flat_map (λ (g : Vec ℕ Global). group_rows by (parts_at numbers (copied j)) g.items) groups) ∙ by_items (group_rows by (parts_at numbers each)) groups;
    }

pub returns-then-not-are_any-clause-numbered : goal.returns-then-not-are_any-clause-numbered
returns-then-not-are_any-clause-numbered c =
    let s = c.requires.classes in
    numbers_below s.numbers c.args.classes.now.numbers.items c.args.classes.now.firsts.items _ s.as_long s.are c.requires.as_long

pub returns-then-not-are_any-clause-cut : goal.returns-then-not-are_any-clause-cut
returns-then-not-are_any-clause-cut c by =
    let numbers : List ℕ = c.args.classes.now.numbers.items in
    let bodies : List Parts = c.args.parts.items in
    let each : List (List (List (List ℕ))) = map names_of bodies in
    let R : ℕ → List (List (List ℕ)) → Type 0 = λ vid parts. parts ≡ parts_at numbers each vid in
    let none : list_any (λ (t : Parts). has_any (names_of t)) bodies ≡ false =
    ap (list_any (λ (t : Parts). has_any (names_of t))) (sym c.as_slice.ensures.value) ∙ sym c.are_any.ensures ∙ c.if-not-are_any.true in
    let cuts = no_cuts by (parts_at numbers each) (λ vid. none_at bodies none (get_or numbers (vid - 1) 0)) R c.group_lists.ensures.some (λ vid _. refl) in
    subst (λ (gs : List (Vec ℕ Global)). AreCutsBy R by c.new.result.items (flat_map (λ (g : Vec ℕ Global). group_rows by (parts_at numbers each) g.items) gs)) (sym c.new-then-not-are_any.ensures.items)
    (subst (λ vids. AreCutsBy R by vids []) (sym c.new.ensures.items) cuts)

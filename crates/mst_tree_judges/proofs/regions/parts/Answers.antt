use Rattle.std.proofs.Common.{◌≡◌, ℕ, nat_eq, Vec, Global, true, List, Option, map, refl, sym, ap, subst, ◌∙◌}
use Rattle.std.specs.FinMap as fin
use Rattle.std.specs.Option.{option_eq}
use Rattle.std.proofs.lemmas.Result.{IfOk-weaker}
use Rattle.mst_graph.specs.Adding.{AreKeyed}
use Rattle.mst_graph.specs.Groups.{AreGroups}
use Rattle.mst_graph.proofs.Members.{from_filter}
use Rattle.mst_judged.specs.reasons.Named.{is_named, named}
use Rattle.mst_judged.proofs.NamedIn.{named_seen}
use Rattle.mst_tree_judges.proofs.RegionParts.{are_keyed, first_names, key, region_groups, with_regions}
use Rattle.mst_tree_judges.proofs.regions.parts.Goals as goal

pub returns : goal.returns
returns c = IfOk-weaker c.groups.result _ _
    (λ parts told.
    let s = c.args.judged.now.plan.now in
    let lost = c.args.judged.now.lost.now in
    let names = c.args.names.now in
    let is = c.known.ensures in
    let of = is.of in
    let bridges = named s.net lost names in
    let pairs : List (List ℕ × Option ℕ) = c.in_ok-pairs.pairs.items in
    let pairs_are = c.in_ok-pairs.ensures ∙ ap (with_regions s.forest.regions) (c.as_slice.ensures.value ∙ c.in_ok-bridges.ensures) in
    let firsts : map (λ (p : List ℕ × Option ℕ). p.0) pairs ≡ bridges =
    ap (map (λ (p : List ℕ × Option ℕ). p.0)) pairs_are ∙ first_names s.forest.regions _ ∙ named_seen s.net s.numbers s.view of.view lost names in
    let keyed = subst (AreKeyed (key s.net s.numbers s.view s.forest of)) (sym pairs_are) (are_keyed s.net s.numbers s.view s.forest of (λ b. is_named lost names b.name)) in
    let by = key s.net s.numbers s.view s.forest of in
    region_groups s.net s.numbers s.view s.forest of (option_eq nat_eq) (λ a b. refl) bridges (λ x h. (from_filter (is_named lost names) (fin.keys s.net.bridges) x h).0)
    (map (λ (part : Vec (List ℕ) Global). part.items) parts.items)
    (subst (λ things. AreGroups (λ x y. option_eq nat_eq (by x) (by y) ≡ true) things (map (λ (part : Vec (List ℕ) Global). part.items) parts.items)) firsts (told by keyed))) c.groups.ensures

use Rattle.std.proofs.Common.{◌≡◌, ℕ, Bool, true, List, map, refl, sym, ap, subst, ◌∙◌}
use Rattle.std.proofs.lemmas.Result.{IfOk-weaker}
use Rattle.mst_graph.specs.Adding.{AreKeyed}
use Rattle.mst_graph.specs.Groups.{AreGroups}
use Rattle.mst_judged.specs.reasons.sweep.Cuts.{names_of}
use Rattle.mst_judged.specs.reasons.Seen.{names_in}
use Rattle.mst_judged.specs.declared.homes.Home.{Home}
use Rattle.mst_judged.specs.contracts.homes.HomePartialEq.TheImpl.{ghosts}
use Rattle.mst_judged.proofs.HomeParts.{are_keyed, first_names, key, parts_are, homes_decide}
use Rattle.mst_island_judges.proofs.parting.parts.Goals as goal

pub returns : goal.returns
returns c = IfOk-weaker c.groups.result _ _
    (λ parts told net numbers o vid have tell.
    let homes = c.args.homes.now.entries in
    let bridges = c.args.bridges.now in
    let pairs : List (List ℕ × Home) = c.in_ok-pairs.pairs.items in
    let own = key net numbers o vid homes tell in
    let firsts : map (λ (p : List ℕ × Home). p.0) pairs ≡ names_in bridges = ap (map (λ (p : List ℕ × Home). p.0)) c.in_ok-pairs.ensures ∙ first_names homes bridges in
    let keyed = subst (AreKeyed own) (sym c.in_ok-pairs.ensures) (are_keyed net numbers o vid homes tell bridges have) in
    let same : Home → Home → Bool = ghosts.eq in
    parts_are net numbers o vid homes tell bridges have same (homes_decide same (λ i j. refl) (λ n m. refl) (λ i n. refl) (λ n i. refl)) (names_of parts)
    (subst (λ things. AreGroups (λ x y. same (own x) (own y) ≡ true) things (names_of parts)) firsts (told own keyed))) c.groups.ensures

use Rattle.std.proofs.Common.{◌+◌, List, get_or, sym, subst}
use Rattle.std.specs.List.{filter}
use Rattle.std.specs.Option.{option_copied}
use Rattle.std.proofs.lemmas.Result.{IfOk-weaker}
use Rattle.mst_view.specs.declared.in_view.BridgeInView.{BridgeInView}
use Rattle.mst_forest.specs.Settled.{outcome_of}
use Rattle.mst_judged.specs.reasons.sweep.Cuts.{names_of}
use Rattle.mst_judged.specs.Islands.{AreReachParts, HaveNumbers}
use Rattle.mst_judged.specs.reasons.Seen.{names_in}
use Rattle.mst_judged.specs.reasons.Named.{named}
use Rattle.mst_judged.specs.reasons.Reasons.{AreBoth, Parts}
use Rattle.mst_island_judges.specs.Seen.{others_in, seen_either}
use Rattle.mst_island_judges.proofs.EitherOn.{are_both}
use Rattle.mst_judged.proofs.NamedIn.{have_numbers}
use Rattle.mst_island_judges.proofs.apart.body_at.Goals as goal

pub parts_at-requires-clause-bridges : goal.parts_at-requires-clause-bridges
parts_at-requires-clause-bridges c =
    let s = c.args.judged.now.plan.now in
    subst (HaveNumbers s.numbers) (sym {A = List BridgeInView} c.requires.bridges)
    (have_numbers s.net s.numbers s.view c.known.ensures.of.view (seen_either c.args.judged.now.lost.now c.args.names.now (option_copied c.args.others)))

pub returns : goal.returns
returns c = IfOk-weaker c.of_both.result _ _
    (λ both told flag.
    let s = c.args.judged.now.plan.now in
    let o = outcome_of s in
    let lost = c.args.judged.now.lost.now in
    let names = c.args.names.now in
    let others = option_copied c.args.others in
    let vid = get_or c.args.judged.now.before.now.classes.firsts.items c.args.class 0 + 1 in
    let all : Parts = names_of c.in_ok-parts.parts in
    let are : AreReachParts s.net o (names_in (filter (seen_either lost names others) s.view.bridges)) vid all = subst (λ bs. AreReachParts s.net o (names_in bs) vid all) c.requires.bridges c.in_ok-parts.ensures in
    subst (AreBoth s.net o (named s.net lost names) (others_in s.net lost names others) vid) (sym {A = Parts} told) (are_both s.net s.numbers s.view c.known.ensures.of.view lost names others o vid all are)) c.of_both.ensures

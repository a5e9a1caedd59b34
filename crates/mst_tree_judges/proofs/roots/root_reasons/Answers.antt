use Rattle.std.proofs.Common.{not, true, false, List, refl, sym, ap, ◌∙◌}
use Rattle.std.proofs.lemmas.Result.{IfOk-weaker}
use Rattle.std.specs.List.{filter}
use Rattle.std.specs.Option.{option_map}
use Rattle.mst_view.specs.Aggregation.{same_name}
use Rattle.mst_graph.specs.Lists.{has_any}
use Rattle.mst_judged.specs.reasons.summary.Roots.{least}
use Rattle.mst_roles.specs.forest.Settled.{outcome_of}
use Rattle.mst_judged.specs.reasons.Reasons.{other_next}
use Rattle.mst_judged.specs.reasons.declared.reason.Reason.{Reason}
use Rattle.mst_tree_judges.proofs.RootsSeen.{chosen, others_seen, root_told, seen_others}
use Rattle.mst_tree_judges.proofs.RootsThere.{roots_there}
use Rattle.mst_judged.proofs.reasons_lemmas.Things.{no_any}
use Rattle.mst_tree_judges.proofs.roots.root_reasons.Goals as goal

pub returns-then-not-is_any : goal.returns-then-not-is_any
returns-then-not-is_any c =
    let s = c.args.judged.now.plan.now in
    let is = c.known.ensures in
    let ok = is.of.network in
    let o = outcome_of s in
    let tree = c.args.tree in
    let name = c.args.name.now in
    let wanted = c.args.wanted.now in
    let there = roots_there s.net ok o (c.nested.ensures.settled s.net o ok is.is_outcome) tree in
    let some = ap has_any (sym (c.as_slice.ensures.value ∙ c.in_ok-followers.ensures)) ∙ sym c.is_any.ensures ∙ c.if-not-is_any.true in
    IfOk-weaker c.no_root.result _ _
    (λ reasons told. root_told s.net ok o tree there name wanted reasons.items false (has_any (seen_others s.net ok o tree there name)) some refl told) c.no_root.ensures

pub returns-then-is_told : goal.returns-then-is_told
returns-then-is_told c =
    let s = c.args.judged.now.plan.now in
    let is = c.known.ensures in
    let ok = is.of.network in
    let o = outcome_of s in
    let tree = c.args.tree in
    let name = c.args.name.now in
    let wanted = c.args.wanted.now in
    let there = roots_there s.net ok o (c.nested.ensures.settled s.net o ok is.is_outcome) tree in
    let fs = c.as_slice.ensures.value ∙ c.in_ok-followers.ensures in
    let some = ap has_any (sym fs) ∙ sym c.is_any.ensures ∙ c.if-not-is_any.false in
    let others = c.in_ok-others.ensures ∙ others_seen s.net ok o tree there name s.view.bridges is.of.view.bridges _ (c.as_slice-2.ensures.value ∙ c.in_ok-followers.ensures) in
    let those : List Reason = c.in_ok-others.others.items in
    let told = ap has_any (sym others) ∙ ap has_any (sym c.as_slice-3.ensures.value) ∙ sym c.is_told.ensures ∙ c.if-is_told.true in
    root_told s.net ok o tree there name wanted those true true some told others

pub returns-in-None : goal.returns-in-None
returns-in-None c =
    let s = c.args.judged.now.plan.now in
    let is = c.known.ensures in
    let ok = is.of.network in
    let o = outcome_of s in
    let tree = c.args.tree in
    let name = c.args.name.now in
    let wanted = c.args.wanted.now in
    let there = roots_there s.net ok o (c.nested.ensures.settled s.net o ok is.is_outcome) tree in
    let fs = c.as_slice.ensures.value ∙ c.in_ok-followers.ensures in
    let some = ap has_any (sym fs) ∙ sym c.is_any.ensures ∙ c.if-not-is_any.false in
    let others = c.in_ok-others.ensures ∙ others_seen s.net ok o tree there name s.view.bridges is.of.view.bridges _ (c.as_slice-2.ensures.value ∙ c.in_ok-followers.ensures) in
    let those : List Reason = c.in_ok-others.others.items in
    let any = ap has_any (sym c.as_slice-3.ensures.value) ∙ sym c.is_told.ensures ∙ c.if-is_told.false in
    root_told s.net ok o tree there name wanted those true false some (ap has_any (sym others) ∙ any) (no_any those any ∙ ap (λ w. chosen s.net ok o tree there name w true false) (sym c.in-None.is))

pub returns : goal.returns
returns c =
    let s = c.args.judged.now.plan.now in
    let is = c.known.ensures in
    let ok = is.of.network in
    let o = outcome_of s in
    let tree = c.args.tree in
    let name = c.args.name.now in
    let wanted = c.args.wanted.now in
    let there = roots_there s.net ok o (c.nested.ensures.settled s.net o ok is.is_outcome) tree in
    let fs = c.as_slice.ensures.value ∙ c.in_ok-followers.ensures in
    let some = ap has_any (sym fs) ∙ sym c.is_any.ensures ∙ c.if-not-is_any.false in
    let others = c.in_ok-others.ensures ∙ others_seen s.net ok o tree there name s.view.bridges is.of.view.bridges _ (c.as_slice-2.ensures.value ∙ c.in_ok-followers.ensures) in
    let those : List Reason = c.in_ok-others.others.items in
    let any = ap has_any (sym c.as_slice-3.ensures.value) ∙ sym c.is_told.ensures ∙ c.if-is_told.false in
    IfOk-weaker c.other_next.result _ _
    (λ reasons told.
    root_told s.net ok o tree there name wanted reasons.items true false some (ap has_any (sym others) ∙ any)
    (told
    ∙ ap (other_next tree name c.in-Some.wanted)
    (c.in_ok-next-in-Some.ensures ∙ ap (λ fs. option_map (λ f. f.name) (least (filter (λ f. not (same_name f.name name)) fs))) (c.as_slice-in-Some.ensures.value ∙ c.in_ok-followers.ensures))
    ∙ ap (λ w. chosen s.net ok o tree there name w true false) (sym c.in-Some.is))) c.other_next.ensures

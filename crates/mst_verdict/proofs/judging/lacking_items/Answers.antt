use Rattle.std.proofs.Common.{◌≡◌, ◌∙◌, false, is_none, ap, subst, sym}
use Rattle.mst_policy.specs.declared.risk.RiskItems.{RiskItems}
use Rattle.mst_policy.specs.declared.risk.RiskItems.TheVariants.{Lans, Bridges}
use Rattle.mst_view.specs.Viewed.{Viewed}
use Rattle.mst_verify.specs.tree_judges.judged.reasons.Risks.{items_lack}
use Rattle.mst_verify.specs.tree_judges.judged.reasons.SeenRisks.{seen_have}
use Rattle.mst_verify.proofs.tree_judges_lemmas.judged_lemmas.reasons_lemmas.RisksSeen.{have_seen}
use Rattle.mst_verdict.proofs.RefusedRisks.{bridges_lack, lans_lack, whole_lacks}
use Rattle.mst_verdict.proofs.judging.lacking_items.Goals as goal

pub returns-then-is_whole : goal.returns-then-is_whole
returns-then-is_whole c =
    let s = c.args.plan.now in
    let items = c.args.risk.now.items in
    let whole : c.is_whole.result ≡ is_none (items_lack s.net items) =
    c.is_whole.ensures ∙ ap (λ (v : Viewed). seen_have v items) c.view.ensures ∙ have_seen s.net s.numbers s.view c.known.ensures.of.view items in
    whole_lacks s.net items (sym whole ∙ c.if-is_whole.true)

pub returns-in-Lans : goal.returns-in-Lans
returns-in-Lans c =
    let s = c.args.plan.now in
    let items = c.args.risk.now.items in
    let whole : c.is_whole.result ≡ is_none (items_lack s.net items) =
    c.is_whole.ensures ∙ ap (λ (v : Viewed). seen_have v items) c.view.ensures ∙ have_seen s.net s.numbers s.view c.known.ensures.of.view items in
    let lacks : is_none (items_lack s.net (Lans c.in-Lans.field-0)) ≡ false = subst (λ (own : RiskItems). is_none (items_lack s.net own) ≡ false) c.in-Lans.is (sym whole ∙ c.if-is_whole.false) in
    lans_lack s.net c.in-Lans.field-0 lacks ∙ ap (items_lack s.net) (sym c.in-Lans.is)

pub returns-in-Bridges : goal.returns-in-Bridges
returns-in-Bridges c =
    let s = c.args.plan.now in
    let items = c.args.risk.now.items in
    let whole : c.is_whole.result ≡ is_none (items_lack s.net items) =
    c.is_whole.ensures ∙ ap (λ (v : Viewed). seen_have v items) c.view.ensures ∙ have_seen s.net s.numbers s.view c.known.ensures.of.view items in
    let lacks : is_none (items_lack s.net (Bridges c.in-Bridges.field-0)) ≡ false = subst (λ (own : RiskItems). is_none (items_lack s.net own) ≡ false) c.in-Bridges.is (sym whole ∙ c.if-is_whole.false) in
    bridges_lack s.net c.in-Bridges.field-0 lacks ∙ ap (items_lack s.net) (sym c.in-Bridges.is)

use Rattle.std.proofs.Common.{◌≡◌, ◌∙◌, ◌∷◌, [], List, ap, map, refl, sym, subst, true≢false}
use Rattle.std.proofs.lemmas.Result.{IfOk-weaker}
use Rattle.mst_roles.specs.forest.Outcome.{IsOutcome}
use Rattle.mst_roles.specs.forest.Settled.{SettledNet, outcome_of}
use Rattle.mst_advise.specs.Candidates.{AreCandidates}
use Rattle.mst_advise.specs.Costs.{port_named}
use Rattle.mst_advise.specs.Hindrances.{hindrance_of}
use Rattle.mst_advise.specs.InQuestion.{AreInQuestionOf}
use Rattle.mst_advise.specs.Made.{Has}
use Rattle.mst_advise.specs.Priorities.{root_settings}
use Rattle.mst_advise.specs.Settings.{alone}
use Rattle.mst_advise.specs.Told.{count_row}
use Rattle.mst_advise.specs.declared.goal.Goal.TheVariants.{Root, Forward}
use Rattle.mst_advise.specs.declared.setting.Setting.{Setting}
use Rattle.mst_advise.proofs.Tried.{lacking, told_of}
use Rattle.mst_advise.proofs.advising.advise_network.Goals as goal

pub advise_root-requires-clause-hindrance : goal.advise_root-requires-clause-hindrance
advise_root-requires-clause-hindrance g c =
    c.hindered_by-hindrance.ensures ∙ (λ i. hindrance_of (ap (λ (s : SettledNet). s.net) c.new-settled.ensures i) (c.in-Root.is i))

pub advise_port-requires-clause-hindrance : goal.advise_port-requires-clause-hindrance
advise_port-requires-clause-hindrance g c =
    c.hindered_by-hindrance.ensures ∙ (λ i. hindrance_of (ap (λ (s : SettledNet). s.net) c.new-settled.ensures i) (c.in-Forward.is i))

pub returns-then-branch : goal.returns-then-branch
returns-then-branch g c =
    let network = c.args.network.now in
    let s = c.new-settled.result in
    let o = c.requires.forest.outcome in
    let net : s.net ≡ network.net = ap (λ (s : SettledNet). s.net) c.new-settled.ensures in
    let outcome : outcome_of s ≡ o = c.one_outcome.ensures network.net (outcome_of s) o c.requires.of.network (subst (λ n. IsOutcome n (outcome_of s)) net c.known.ensures.is_outcome) c.requires.forest.is_outcome in
    let has : Has c.args.goal.now network.net o = subst (λ q. Has c.args.goal.now network.net q) outcome (subst (λ n. Has c.args.goal.now n (outcome_of s)) net (c.in_ok-holds.ensures.0 c.if-branch.true)) in
    (count_row 0 ∷ [], record { outcome = o; is_outcome = c.requires.forest.is_outcome; told = (has, refl) }, λ first rows grew. c.in_ok-put_count.ensures first rows grew)

pub returns-in_ok-settings-in-Root : goal.returns-in_ok-settings-in-Root
returns-in_ok-settings-in-Root g c =
    let network = c.args.network.now in
    let s = c.new-settled.result in
    let o = c.requires.forest.outcome in
    let tree = c.in-Root.tree in
    let b = c.in-Root.bridge in
    let net : s.net ≡ network.net = ap (λ (s : SettledNet). s.net) c.new-settled.ensures in
    let outcome : outcome_of s ≡ o = c.one_outcome.ensures network.net (outcome_of s) o c.requires.of.network (subst (λ n. IsOutcome n (outcome_of s)) net c.known.ensures.is_outcome) c.requires.forest.is_outcome in
    let lacks : Has c.args.goal.now network.net o → ⊥ = lacking c.args.goal.now s.net network.net (outcome_of s) o net outcome (λ has. let so = c.in_ok-holds.ensures.1 has in true≢false (sym so ∙ c.if-branch.false)) in
    let are : AreCandidates network.net o (Root tree b) (c.as_slice.result.now ∷ []) = ap (λ (l : List Setting). l ∷ []) (c.as_slice.ensures.value ∙ c.in_ok-settings-in-Root.ensures) ∙ (λ i. root_settings (net i) (outcome i) tree b ∷ []) in
    told_of g.R.Rows.grew c.args.goal.now network.net o c.requires.forest.is_outcome lacks (Root tree b) c.in-Root.is (c.as_slice.result.now ∷ []) are c.args.out.now c.advise_root.new.out c.advise_root.result
    (IfOk-weaker c.advise_root.result _ _ (λ advice said. said c.requires) c.advise_root.ensures)

pub returns-in_ok-settings-in-Forward : goal.returns-in_ok-settings-in-Forward
returns-in_ok-settings-in-Forward g c =
    let network = c.args.network.now in
    let s = c.new-settled.result in
    let o = c.requires.forest.outcome in
    let tree = c.in-Forward.tree in
    let port = c.in-Forward.port in
    let net : s.net ≡ network.net = ap (λ (s : SettledNet). s.net) c.new-settled.ensures in
    let outcome : outcome_of s ≡ o = c.one_outcome.ensures network.net (outcome_of s) o c.requires.of.network (subst (λ n. IsOutcome n (outcome_of s)) net c.known.ensures.is_outcome) c.requires.forest.is_outcome in
    let lacks : Has c.args.goal.now network.net o → ⊥ = lacking c.args.goal.now s.net network.net (outcome_of s) o net outcome (λ has. let so = c.in_ok-holds.ensures.1 has in true≢false (sym so ∙ c.if-branch.false)) in
    let those : AreInQuestionOf s.net (outcome_of s) tree (port_named s.net port) c.as_slice-in-Forward.result.now = subst (AreInQuestionOf s.net (outcome_of s) tree (port_named s.net port)) (sym c.as_slice-in-Forward.ensures.value) c.in_ok-settings-in-Forward.ensures in
    let now : AreInQuestionOf network.net o tree (port_named network.net port) c.as_slice-in-Forward.result.now =
    subst (λ q. AreInQuestionOf network.net q tree (port_named network.net port) c.as_slice-in-Forward.result.now) outcome (subst (λ n. AreInQuestionOf n (outcome_of s) tree (port_named n port) c.as_slice-in-Forward.result.now) net those) in
    told_of g.R.Rows.grew c.args.goal.now network.net o c.requires.forest.is_outcome lacks (Forward tree port) c.in-Forward.is (map alone c.as_slice-in-Forward.result.now) (c.as_slice-in-Forward.result.now, now, refl) c.args.out.now c.advise_port.new.out c.advise_port.result
    (IfOk-weaker c.advise_port.result _ _ (λ advice said. said c.requires) c.advise_port.ensures)

use Rattle.std.proofs.Common.{◌≡◌, ◌∙◌, ◌∷◌, [], ◌++◌, ℕ, Bool, true, false, not, Option, Some, None, ap, is_none, is_some, refl, sym}
use Rattle.std.proofs.lemmas.List.{take_all}
use Rattle.mst_policy.specs.declared.policy.PolicyLine.{PolicyLine}
use Rattle.mst_telling.specs.Judged.{count_by_read, line_lacks, network_counts}
use Rattle.mst_telling.proofs.GoesOn.{each, taken}
use Rattle.mst_telling.proofs.promises.networks.Goals as goal

none_is : {A : Type 0} (o : Option A) (b : Bool) → is_some o ≡ not b → b ≡ is_none o
none_is None true e = refl
none_is None false e = e
none_is (Some x) true e = e
none_is (Some x) false e = refl

pub loop-n-preserved : goal.loop-n-preserved
loop-n-preserved c =
    let n = c.loop-n.n in
    let lines = c.args.lines.now in
    let line : PolicyLine = c.index-lines-n.result in
    let line_is = c.index-lines-n.is in
    let f : ℕ → PolicyLine → ℕ = λ n line. count_by_read line.read (is_none (line_lacks n c.args.judgement.now)) c.args.events.now in
    let here : c.count_networks.result ≡ f n line = c.count_networks.ensures ∙ ap (λ whole. count_by_read line.read whole c.args.events.now) (none_is c.lacks.result c.is_none-is_whole.result c.is_none-is_whole.ensures ∙ ap is_none c.lacks.ensures) in
    c.in_ok-push.ensures.items ∙ (λ i. c.loop-n.invariant i ++ here i ∷ []) ∙ sym (taken (each f) lines n line c.loop-n-test.true line_is)

pub returns : goal.returns
returns c = c.loop-n.invariant ∙ ap (λ l. network_counts l c.args.events.now c.args.judgement.now) (take_all c.loop-n.n c.args.lines.now c.loop-n-test.false)

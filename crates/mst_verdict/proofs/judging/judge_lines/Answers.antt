use Rattle.std.proofs.Common.{List, Option, refl, subst, sym}
use Rattle.mst_verify.specs.tree_judges.judged.reasons.Judged.{places}
use Rattle.mst_verify.specs.tree_judges.judged.reasons.Risks.{events}
use Rattle.mst_verify.specs.tree_judges.judged.reasons.declared.missing.Missing.{Missing}
use Rattle.mst_verdict.specs.Verifying.{AreLacking, FoundIn, Sitting, plan_outcome}
use Rattle.mst_verdict.proofs.Findings.{lines_judged}
use Rattle.mst_verdict.proofs.judging.judge_lines.Goals as goal

pub new-requires : goal.new-requires
new-requires c = record { net = c.args.network.now.net; numbers = c.args.network.now.numbers; of = c.requires.of.of }

pub find_all-requires-clause-judging : goal.find_all-requires-clause-judging
find_all-requires-clause-judging c =
    let opened = c.in_ok-opened.ensures.opened in
    record {
      lacking = subst (λ (l : List (Option Missing)). AreLacking c.args.network.now.net c.args.asking.now.is_last c.args.lines.now l) (sym c.as_slice.ensures.value) opened.lacking;
      carriage = c.in_ok-carriage.ensures;
      classes = opened.classes;
      before = opened.before;
      islands = c.in_ok-opened.ensures.islands;
      same = c.in_ok-opened.ensures.same;
    }

pub returns : goal.returns
returns c = λ prior is.
    let old = c.args.network.now in
    let asking = c.args.asking.now in
    let those = events old.net c.args.lines.now in
    let s : Sitting = record { net = old.net; outcome = plan_outcome old.net old.numbers c.args.plan.now; prior = prior; is_last = asking.is_last; events = those } in
    lines_judged s c.args.lines.now (record { missing = c.in_ok-opened.opened.missing; found = c.in_ok-found.found }) refl c.in_ok-opened.ensures.opened.lacking
    (subst (λ events. FoundIn s c.args.lines.now (places events) c.in_ok-found.found.items) c.requires.events (c.in_ok-found.ensures prior is))

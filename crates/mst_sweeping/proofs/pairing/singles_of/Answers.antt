use Rattle.std.proofs.Common.{◌+◌, ◌∷◌, [], ◌++◌, take, sym, ap, subst, ◌∙◌}
use Rattle.std.proofs.lemmas.List.{take_all, take_more}
use Rattle.mst_sweeping.specs.Pairing.{AreSingles}
use Rattle.mst_sweeping.proofs.Paired.{more_singles}
use Rattle.mst_sweeping.proofs.pairing.singles_of.Goals as goal

pub loop-failure-preserved : goal.loop-failure-preserved
loop-failure-preserved c =
    let network = c.args.network.now in
    let firsts = c.args.baseline.now in
    let i = c.loop-failure.failure-index in
    let fs = c.args.failures.now in
    let f = c.failure-item.result in
    let made = c.in_ok-single_of.ensures in
    record {
      singles = λ is.
          more_singles network.net network.numbers is.outcome firsts (take i fs) c.loop-failure.singles.items f c.in_ok-single_of.field-0 (c.loop-failure.invariant.singles is) made.failure (made.single is)
          (take (i + 1) fs) (take_more fs i f c.loop-failure-test.true ∙ ap (λ x. take i fs ++ x ∷ []) (sym c.failure-item.is)) c.push.new.self.items c.in_ok-push.ensures.items;
      seen = made.seen;
    }

pub returns-clause-singles : goal.returns-clause-singles
returns-clause-singles c = λ is.
    let fs = c.args.failures.now in
    subst (λ l. AreSingles c.args.network.now.net c.args.network.now.numbers is.outcome c.args.baseline.now l c.loop-failure.singles.items) (take_all c.loop-failure.failure-index fs c.loop-failure-test.false) (c.loop-failure.invariant.singles is)

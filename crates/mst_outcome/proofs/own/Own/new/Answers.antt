use Rattle.std.proofs.Common.{◌≡◌, ◌∙◌, sym}
use Rattle.mst_outcome.proofs.Tables.{filled_first, filled_next, all_listed, all_there}
use Rattle.mst_outcome.proofs.own.Own.new.Goals as goal

pub loop-number-init : goal.loop-number-init
loop-number-init g c =
    let left : c.into_iter-number-iterator.result ≡ c.args.own.now.entries = c.into_iter-number-iterator.ensures.into_iter_gives ∙ c.iter-number-items.ensures.rest in
    rw (left, c.new-settings.ensures.items, c.new-flat.ensures) (filled_first c.args.own.now.entries c.iter-number-items.ensures.ordered)

pub loop-number-preserved : goal.loop-number-preserved
loop-number-preserved g c =
    let l = c.loop-number in
    rw c.in_ok-push.ensures.items (filled_next c.args.own.now.entries l.number-iterator c.next.new.self l.settings.items l.flat c.insert.new.self c.in-Some.number.now c.in-Some.port.now c.in-Some.ensures.steps c.in_ok-insert.ensures.ok l.invariant)

pub invariant_of-result : goal.invariant_of-result
invariant_of-result g c =
    let l = c.loop-number in
    let none = c.in-None.ensures.steps.0 in
    all_there c.args.own.now.entries l.number-iterator l.settings.items l.flat none l.invariant c.iter-number-items.ensures.ordered c.known.ensures.ordered
    ∙ sym (all_listed c.args.own.now.entries l.number-iterator l.settings.items l.flat none l.invariant)

pub returns : goal.returns
returns g c =
    let l = c.loop-number in
    all_there c.args.own.now.entries l.number-iterator l.settings.items l.flat c.in-None.ensures.steps.0 l.invariant c.iter-number-items.ensures.ordered c.known.ensures.ordered

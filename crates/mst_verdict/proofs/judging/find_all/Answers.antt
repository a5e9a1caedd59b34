use Rattle.std.proofs.Common.{◌≡◌, ◌+◌, ◌∷◌, [], ◌++◌, List, None, Some, map, take, sym, ap, subst, ◌∙◌}
use Rattle.std.proofs.lemmas.List.{map-append, take_all, take_more}
use Rattle.mst_sweeping.specs.sweep.Failures.{Event}
use Rattle.mst_telling.specs.declared.judgement.Finding.{Finding}
use Rattle.mst_verdict.specs.Verifying.{FindsAt, FoundIn, sitting_of}
use Rattle.mst_verdict.proofs.Findings.{found_more, found_none}
use Rattle.mst_verdict.proofs.judging.find_all.Goals as goal

pub loop-event-init : goal.loop-event-init
loop-event-init c =
    let t = c.args.network.now in
    let j = c.args.judging.now in
    record {
      found = λ prior is.
          let s = sitting_of t.net t.numbers j prior in
          found_more s j.lines.now [] None [] c.find_now.new.found.items (found_none s j.lines.now)
          (subst (λ (l : List Finding). FindsAt s j.lines.now None l c.find_now.new.found.items) c.new-found.ensures.items (c.in_ok-find_now.ensures prior is));
      seen = c.in_ok-seen.ensures;
    }

pub loop-event-preserved : goal.loop-event-preserved
loop-event-preserved c =
    let t = c.args.network.now in
    let j = c.args.judging.now in
    let events = c.args.events.now in
    let i = c.loop-event.event-index in
    let f = c.event-item.result in
    let made = c.in_ok-find_after.ensures in
    let next : None ∷ map Some (take (i + 1) events) ≡ (None ∷ map Some (take i events)) ++ Some f ∷ [] =
    ap (λ l. None ∷ map Some l) (take_more events i f c.loop-event-test.true ∙ ap (λ x. take i events ++ x ∷ []) (sym c.event-item.is)) ∙ ap (λ l. None ∷ l) (map-append Some (take i events) (f ∷ [])) in
    record {
      found = λ prior is.
          let s = sitting_of t.net t.numbers j prior in
          subst (λ some. FoundIn s j.lines.now some c.find_after.new.found.items) (sym next)
          (found_more s j.lines.now (None ∷ map Some (take i events)) (Some f) c.loop-event.found.items c.find_after.new.found.items (c.loop-event.invariant.found prior is) (made.found prior is));
      seen = made.seen;
    }

pub returns : goal.returns
returns c = λ prior is.
    let t = c.args.network.now in
    let j = c.args.judging.now in
    let events = c.args.events.now in
    let all = take_all c.loop-event.event-index events c.loop-event-test.false in
    subst (λ (l : List Event). FoundIn (sitting_of t.net t.numbers j prior) j.lines.now (None ∷ map Some l) c.loop-event.found.items) all (c.loop-event.invariant.found prior is)

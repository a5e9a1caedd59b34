use Rattle.std.proofs.Common.{◌∷◌, None, Some, map, take}
use Rattle.mst_view.specs.Viewed.{IsView}
use Rattle.mst_verdict.specs.Verifying.{FoundIn, OfSittings}
use Rattle.mst_verdict.proofs.judging.find_all.Given as goal

-- what was found in the network itself and in those of the events so far, and the view of the network
abbrev pub invariant-loop-event : goal.invariant-loop-event
invariant-loop-event l = record {
  found : OfSittings l.network.net l.network.numbers l.judging (λ s. FoundIn s l.judging.lines.now (None ∷ map Some (take l.event-index l.events)) l.found.items);
  seen : IsView l.network.net l.network.numbers l.seen;
}

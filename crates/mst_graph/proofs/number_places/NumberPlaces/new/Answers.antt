use Rattle.std.proofs.Common.{◌≡◌, ◌+◌, ◌≤◌, arith}
use Rattle.mst_graph.proofs.Ranges.{met_from, no_greater}
use Rattle.mst_graph.proofs.number_places.NumberPlaces.new.Goals as goal

pub returns-in-Ok : goal.returns-in-Ok
returns-in-Ok c = λ n h.
    let low : n ≤ c.greatest-greatest.result = no_greater n c.greatest-greatest.result c.args.numbers.now c.greatest-greatest.ensures h in
    let same : c.in-Ok.up_to ≡ c.greatest-greatest.result = c.in-Ok.ensures.1 in
    met_from n 0 (c.in-Ok.up_to + 1) (omega arith) (omega arith)

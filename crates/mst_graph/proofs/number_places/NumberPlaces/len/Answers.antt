use Rattle.std.proofs.Common.{◌+◌, length, sym, ap, ◌∙◌}
use Rattle.std.proofs.lemmas.List.FromFn.{length-range_with_len}
use Rattle.mst_graph.specs.Places.{placed}
use Rattle.mst_graph.proofs.number_places.NumberPlaces.len.Goals as goal

pub returns-in-UpTo-clause-len : goal.returns-in-UpTo-clause-len
returns-in-UpTo-clause-len c = sym (ap (λ s. length (placed s)) c.in-UpTo.is ∙ length-range_with_len 0 (c.in-UpTo.greatest + 1))

use Rattle.std.proofs.Common.{◌≡◌, ◌+◌, ◌-◌, min, nat_eq, sym, ap, ◌∙◌, arith}
use Rattle.std.specs.Prelude.{position, unwrap_or}
use Rattle.std.specs.List.{position_or_len}
use Rattle.mst_graph.specs.Places.{placed}
use Rattle.mst_graph.proofs.Placing.{place_or_length}
use Rattle.mst_graph.proofs.Ranges.{place_from}
use Rattle.mst_graph.proofs.number_places.NumberPlaces.place.Goals as goal

pub returns-in-UpTo-clause-place : goal.returns-in-UpTo-clause-place
returns-in-UpTo-clause-place c =
    let whole : c.args.number - 0 ≡ c.args.number = omega arith in
    c.min.ensures
    ∙ sym (ap (λ s. position_or_len (nat_eq c.args.number) (placed s)) c.in-UpTo.is ∙ place_from c.args.number 0 (c.in-UpTo.greatest + 1) (omega arith) ∙ ap (λ n. min n (c.in-UpTo.greatest + 1)) whole)

pub returns-in-Listed-clause-place : goal.returns-in-Listed-clause-place
returns-in-Listed-clause-place c =
    let keys = c.in-Listed.set.keys in
    c.unwrap_or.ensures
    ∙ ap (λ o. unwrap_or o c.len-len.result) c.get_index_of.ensures.index
    ∙ ap (unwrap_or (position (nat_eq c.args.number) keys)) c.len-len.ensures.len
    ∙ place_or_length (nat_eq c.args.number) keys
    ∙ sym (ap (λ s. position_or_len (nat_eq c.args.number) (placed s)) c.in-Listed.is)

use Rattle.std.proofs.Common.{Vec, Global, ◌≡◌, ◌++◌, ℕ, List, map, sym, ap, subst, ◌∙◌}
use Rattle.std.specs.Prelude.{OnOk}
use Rattle.mst_judged.specs.reasons.sweep.Cuts.{names_of, parts_at}
use Rattle.mst_island_judges.specs.Grouping.{tells}
use Rattle.mst_judged.specs.reasons.declared.reason.Reason.{Reason}
use Rattle.mst_island_judges.proofs.ClassParts.{begins, parts_read}
use Rattle.mst_island_judges.proofs.grouping.add_group.Goals as goal

pub returns : goal.returns
returns c =
    let group = c.args.group.now in
    let numbers = c.args.numbers.now in
    let telling = c.args.telling in
    let bodies : List (Vec (Vec (List ℕ) Global) Global) = c.args.bodies.now in
    let vid : ℕ = c.in-Some.vid.now in
    let number : ℕ = c.class_of-number.result in
    let body = c.index-bodies-number.result in
    let read : map (λ part. part.items) c.as_slice.result.now ≡ parts_at numbers (map names_of bodies) vid =
    ap (map (λ part. part.items)) c.as_slice.ensures.value ∙ sym (parts_read numbers bodies vid number body c.class_of-number.ensures.value c.class_of-number.ensures.below c.index-bodies-number.is) in
    subst (λ (l : List Reason). OnOk c.add_parts.result (c.add_parts.new.reasons.items ≡ c.args.reasons.now.items ++ l))
    (ap (tells telling group) read ∙ sym (begins (tells telling) (parts_at numbers (map names_of bodies)) group vid c.in-Some.ensures.value))
    c.add_parts.ensures

use Rattle.std.proofs.Common.{◌∙◌, ◌||◌, ap, is_some, sym}
use Rattle.mst_graph.specs.Lists.{has_any}
use Rattle.mst_telling.specs.Judged.{line_found}
use Rattle.mst_telling.specs.Lines.{unkept_by}
use Rattle.mst_telling.proofs.NewRows.{unkept_is}
use Rattle.mst_telling.proofs.broken.is_unkept.Goals as goal

pub returns : goal.returns
returns c =
    let n = c.args.n in
    let line = c.args.line.now in
    (λ i. (c.is_some.ensures ∙ ap is_some c.lacks.ensures) i || (c.is_line_broken.ensures ∙ ap (λ found. has_any (unkept_by line.number line.read (line_found n found))) c.as_slice.ensures.value) i)
    ∙ sym (unkept_is n line c.args.judgement.now)

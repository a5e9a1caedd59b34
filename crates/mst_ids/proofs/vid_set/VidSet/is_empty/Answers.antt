use Rattle.std.proofs.Common.{sym, ◌∙◌}
use Rattle.std.specs.Cmp.{booleans_Decides}
use Rattle.std.specs.Cmp.Lexicographic.{pointwise_decides}
use Rattle.mst_ids.proofs.vid_set.VidSet.is_empty.Goals as goal

pub returns : goal.returns
returns c =
    let same = pointwise_decides booleans_Decides c.args.self.now c.none.result in
    (λ e. same.0 (sym c.eq.ensures ∙ e) ∙ c.none.ensures, λ e. c.eq.ensures ∙ same.1 (e ∙ sym c.none.ensures))

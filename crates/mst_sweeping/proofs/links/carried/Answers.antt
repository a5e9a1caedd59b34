use Rattle.std.proofs.Common.{map, ap, ◌∙◌}
use Rattle.std.proofs.lemmas.Result.{IfOk-weaker}
use Rattle.mst_sweeping.specs.Seen.{link_by}
use Rattle.mst_sweeping.proofs.CarryAlike.{links_named}
use Rattle.mst_sweeping.proofs.links.carried.Goals as goal

pub returns : goal.returns
returns c = IfOk-weaker c.links_by.result _ _ (λ links told. told ∙ ap (map link_by) (c.as_slice.ensures.value ∙ c.in_ok-carried.ensures) ∙ links_named _) c.links_by.ensures

use Rattle.std.proofs.Common.{filter, ◌∙◌}
use Rattle.std.proofs.lemmas.Result.{IfOk-weaker}
use Rattle.mst_summary.specs.Seen.{seen_joins}
use Rattle.mst_summary.proofs.joining.joining_lans.Goals as goal

pub returns : goal.returns
returns c = IfOk-weaker c.joining.result _ _ (λ _ told. told ∙ (λ i. filter (λ lan. seen_joins (c.requires lan i)) ((c.as_slice.ensures.value ∙ c.in_ok-lans.ensures) i))) c.joining.ensures

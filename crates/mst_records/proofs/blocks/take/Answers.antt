use Rattle.std.proofs.Common.{[], ◌∙◌, ap}
use Rattle.std.specs.Option.{unwrap_or}
use Rattle.mst_records.specs.Blocks.{in_block}
use Rattle.mst_records.proofs.Marks.{flags_or}
use Rattle.mst_records.proofs.blocks.take.Goals as goal

pub returns-clause-blocks : goal.returns-clause-blocks
returns-clause-blocks g c tree =
    ap (λ flags. in_block flags tree) c.unwrap_or.ensures ∙ flags_or c.swap_remove.result c.none.result c.none.ensures.none tree
    ∙ ap (λ o. in_block (unwrap_or o []) tree) c.swap_remove.ensures.value

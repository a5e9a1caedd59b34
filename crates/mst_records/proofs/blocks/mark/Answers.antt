use Rattle.std.proofs.Common.{◌≡◌, List, Bool, [], cond, Some, ◌∙◌, ap}
use Rattle.std.specs.Option.{unwrap_or}
use Rattle.std.specs.Map.{lookup}
use Rattle.mst_records.specs.Blocks.{in_block, is_marked, no_marks, with_tree}
use Rattle.mst_records.proofs.Marks.{flags_or, marked_here, marked_still}
use Rattle.mst_records.proofs.blocks.mark.Goals as goal

pub returns-clause-marks : goal.returns-clause-marks
returns-clause-marks g c q =
    let eq = g.K.PartialEq.eq in
    let had : c.unwrap_or-blocks.result ≡ unwrap_or (lookup (eq c.args.key.now) c.args.marks.now.entries) no_marks =
    c.unwrap_or-blocks.ensures ∙ ap (λ (none : List Bool). unwrap_or c.copied.result none) c.none.ensures.marks
    ∙ ap (λ o. unwrap_or o no_marks) (c.copied.ensures ∙ c.get.ensures.value) in
    c.keep.ensures q ∙ ap (λ flags. cond (eq c.args.key.now q) (Some flags) (lookup (eq q) c.args.marks.now.entries)) (c.with.ensures.marks ∙ ap (λ flags. with_tree flags c.args.tree) had)

pub returns-clause-marked : goal.returns-clause-marked
returns-clause-marked g c q here = marked_here g.K.PartialEq.eq c.args.marks.now.entries c.keep.new.table.entries c.args.key.now q c.with.result (c.keep.ensures q) c.args.tree c.with.ensures.marked here

pub returns-clause-still : goal.returns-clause-still
returns-clause-still g c q other was =
    let eq = g.K.PartialEq.eq in
    let had : in_block c.unwrap_or-blocks.result other ≡ is_marked eq c.args.marks.now.entries c.args.key.now other =
    ap (λ flags. in_block flags other) c.unwrap_or-blocks.ensures ∙ flags_or c.copied.result c.none.result c.none.ensures.none other
    ∙ ap (λ o. in_block (unwrap_or o []) other) (c.copied.ensures ∙ c.get.ensures.value) in
    marked_still eq c.args.marks.now.entries c.keep.new.table.entries c.args.key.now q c.with.result (c.keep.ensures q) other (λ h. c.with.ensures.still other (had ∙ h)) was

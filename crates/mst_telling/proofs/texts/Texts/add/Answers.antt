use Rattle.std.proofs.Common.{Vec, Global, ℕ, ap, ◌∙◌}
use Rattle.std.specs.List.{list_any}
use Rattle.mst_telling.specs.Texts.{same_line}
use Rattle.mst_telling.proofs.TextLines.{told_more}
use Rattle.mst_telling.proofs.texts.Texts.add.Goals as goal

pub returns : goal.returns
returns c rows row are is =
    λ text. ap (list_any (λ (key : Vec ℕ Global). same_line text key.items)) c.in_ok-insert.ensures.keys ∙ told_more rows c.args.self.now.lines.keys are c.args.text row is text

use Rattle.std.proofs.Common.{false}
use Rattle.mst_edits.specs.Edits.{edits}
use Rattle.mst_edit_laws.proofs.ReadAgain.{text_read, text_changes}
use Rattle.mst_edit_laws.proofs.Sayable.{edits_good}
use Rattle.mst_edit_laws.proofs.laws.read_again.Goals as goal

pub returns-clause-read : goal.returns-clause-read
returns-clause-read c a b is_a is_b short = text_read (edits a b) (edits_good false a b is_a is_b) short

pub returns-clause-changed : goal.returns-clause-changed
returns-clause-changed c a b is_a is_b short = text_changes (edits a b) (edits_good false a b is_a is_b) short a b (c.changed.ensures.accepted a b is_a is_b) (c.changed.ensures.made a b is_a is_b)

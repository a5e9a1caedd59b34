use Rattle.std.proofs.Common.{false}
use Rattle.mst_edit_laws.proofs.laws.changed.Goals as goal

pub returns-clause-accepted : goal.returns-clause-accepted
returns-clause-accepted c a b is_a is_b = c.changed_with.ensures.accepted false a b is_a is_b

pub returns-clause-made : goal.returns-clause-made
returns-clause-made c a b is_a is_b = c.changed_with.ensures.made false a b is_a is_b

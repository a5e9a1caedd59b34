use Rattle.mst_note_text.proofs.OneText.{some_rows, one_list}
use Rattle.mst_note_text.proofs.laws.notes.Goals as goal

pub returns-clause-some_rows : goal.returns-clause-some_rows
returns-clause-some_rows c net o ok is = some_rows net o (c.nested.ensures.settled net o ok is)

pub returns-clause-one_list : goal.returns-clause-one_list
returns-clause-one_list c net o notes other ok is a b = one_list net o (c.nested.ensures.settled net o ok is) notes other a b

use Rattle.mst_kinds.proofs.Table.{keys_once, kinds_differ, words_kept}
use Rattle.mst_kinds.proofs.laws.kinds_differ.Goals as goal

pub returns-clause-shape : goal.returns-clause-shape
returns-clause-shape c = kinds_differ

pub returns-clause-once : goal.returns-clause-once
returns-clause-once c = keys_once

pub returns-clause-words : goal.returns-clause-words
returns-clause-words c = words_kept

use Rattle.std.proofs.Common.{◌∙◌}
use Rattle.mst_ask.specs.tracing.Asked.{path_question}
use Rattle.mstplan.proofs.words.path_of.Goals as goal

pub returns : goal.returns
returns c = c.read.ensures ∙ (λ i. path_question (c.wanted_bytes.ensures i) (c.wanted_bytes-2.ensures i) (c.wanted_bytes-3.ensures i) (c.bytes_of.ensures i))

use Rattle.std.proofs.Common.{subst}
use Rattle.mst_tables.specs.Contents.{IsNumbered}
use Rattle.mst_net.proofs.SoundLemmas.{numbered_contents}
use Rattle.mst_net.proofs.network.NetworkContents.known.Goals as goal

pub returns-clause-numbered : goal.returns-clause-numbered
returns-clause-numbered c = subst (λ n. IsNumbered n.net n.numbers) c.self.view_is (numbered_contents c.self.inside c.self.invariant)

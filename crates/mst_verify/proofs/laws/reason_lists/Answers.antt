use Rattle.std.proofs.Common.{Option, Some, None}
use Rattle.std.specs.Prelude.{MatchOption, ⊤}
use Rattle.mst_net.specs.tables.Tables.{IsNetwork, Net}
use Rattle.mst_roles.specs.forest.Outcome.{Outcome}
use Rattle.mst_verify.proofs.OneReasons.{reasons_same}
use Rattle.mst_verify.proofs.ReasonsTogether.{IslandsOf}
use Rattle.mst_verify.proofs.SomeReasons.{some_reasons}
use Rattle.mst_verify.proofs.laws.reason_lists.Goals as goal

pub returns-clause-one : goal.returns-clause-one
returns-clause-one c net o before lost prior e ok is =
    reasons_same net o ok (c.nested.ensures.settled net o ok is) before lost prior c.islands_of_vid.ensures.one (λ notes other a b. c.notes.ensures.one_list net o notes other ok is a b) e

-- there are islands of the network before, if there is one
islands_before : ((net : Net) (o : Outcome) → IsNetwork net → IslandsOf net o) → (before : Option (Net × Outcome)) → MatchOption before ⊤ (λ p. IsNetwork p.0) → MatchOption before ⊤ (λ p. IslandsOf p.0 p.1)
islands_before some None h = tt
islands_before some (Some p) h = some p.0 p.1 h

pub returns-clause-some : goal.returns-clause-some
returns-clause-some c net o before lost prior e ok is had =
    some_reasons net o ok (c.nested.ensures.settled net o ok is) (λ vid. c.islands_of_vid.ensures.some net o vid ok) (c.notes.ensures.some_rows net o ok is) before lost prior
    (islands_before (λ net o ok vid. c.islands_of_vid.ensures.some net o vid ok) prior.before had) e

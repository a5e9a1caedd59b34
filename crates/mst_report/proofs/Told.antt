-- What is said of a settled network answers a query of its tables.
use Rattle.std.proofs.Common.{◌≡◌, List, refl, subst}
use Rattle.std.specs.Prelude.{Ok}
use Rattle.mst_net.specs.tables.Tables.{Net}
use Rattle.mst_rows.specs.Rows.{Row}
use Rattle.mst_plan_text.specs.forest.Outcome.{Outcome}
use Rattle.mst_plan_text.specs.forest.Settled.{SettledNet, outcome_of, IsSettledNet}
use Rattle.mst_report.specs.Answers.{TellsOutcome}

pub tells : (net : Net) (s : SettledNet) → s.net ≡ net → IsSettledNet s → (Says : Net → Outcome → List Row → Type 0) → (said : List Row) → Says s.net (outcome_of s) said → TellsOutcome net (Says net) (Ok said)
tells net s same is Says said says = subst (λ n. TellsOutcome n (Says n) (Ok said)) same (outcome_of s, is.is_outcome, said, says, refl)

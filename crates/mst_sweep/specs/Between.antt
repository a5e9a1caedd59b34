-- What is so of any two networks, by the plans of both.
use Rattle.std.specs.Prelude.{[], ◌∷◌}
use Rattle.mst_graph.specs.declared.keys.Numbering.{Numbering}
use Rattle.mst_net.specs.tables.Tables.{Net, Numbers}
use Rattle.mst_facts.specs.declared.planned.Planned.{Planned}
use Rattle.mst_vlan.specs.forest.Agrees.{AreOf}
use Rattle.mst_vlan.specs.forest.Forest.{IsForest}
use Rattle.mst_vlan.specs.forest.Outcome.{Outcome}
use Rattle.mst_sweep.specs.CutClasses.{AreKeptAlone, kept_of}
use Rattle.mst_sweep.specs.Failures.{failed}
use Rattle.mst_sweep.specs.Pairs.{Pair, Outcomes}
use Rattle.mst_sweep.specs.declared.single.Single.{Single}

-- it is so of all networks that these plans are of, with the numbers of their records and their settled outcomes
abbrev pub OfNumbered : Planned → Planned → (Net → Numbers → Outcome → Net → Numbers → Outcome → Type 0) → Type 0
OfNumbered old new IsSo =
    (a b : Net) (n k : Numbers) (is : IsForest a n old.forest.now) (are : IsForest b k new.forest.now)
    → AreOf a n old.view.now old.forest.now.regions → AreOf b k new.view.now new.forest.now.regions → IsSo a n is.outcome b k are.outcome

-- and whatever those numbers are
abbrev pub OfNetworks : Planned → Planned → (Net → Outcome → Net → Outcome → Type 0) → Type 0
OfNetworks old new IsSo = OfNumbered old new (λ a n before b k afterwards. IsSo a before b afterwards)

-- two failures, each with what it cuts alone
abbrev pub pair_of : Single → Single → Pair
pair_of first second = record { first = first.failure; second = second.failure }

-- it is so of any network of the first plan where the second is that of it with both failures, by outcomes with either alone of which
-- this is kept for these classes
abbrev pub OfPair : Planned → Planned → Single → Single → Numbering → (Net → Outcomes → Type 0) → Type 0
OfPair old new first second classes IsSo =
    (net : Net) (n : Numbers) (is : IsForest net n old.forest.now) (are : IsForest (failed (first.failure ∷ second.failure ∷ []) net) n new.forest.now) (one other : Outcome)
    → AreOf net n old.view.now old.forest.now.regions → AreOf (failed (first.failure ∷ second.failure ∷ []) net) n new.view.now new.forest.now.regions
    → AreKeptAlone net is.outcome (failed (first.failure ∷ []) net) n one classes (kept_of first)
    → AreKeptAlone net is.outcome (failed (second.failure ∷ []) net) n other classes (kept_of second)
    → IsSo net (record { none = is.outcome; first = one; second = other; both = are.outcome })

-- The state of a plan, which queries are asked of.
use Rattle.std.specs.Prelude.{◌≡◌, List, Option, None, Some, MatchOption}
use Rattle.mst_net.specs.tables.Tables.{Net, IsNetwork, empty_net}
use Rattle.mst_plan_text.specs.forest.Outcome.{Outcome, IsOutcome}
use Rattle.mst_changes.specs.Kept.{entries_of}
use Rattle.mst_changes.specs.declared.subject.Entry.{Entry}

-- the network now, and the entries of the network that was marked, if one was
pub record State : Type 0 where
  pub net : Net
  pub mark : Option (List Entry)

-- at first there is no record and no mark
abbrev pub empty_state : State
empty_state = record { net = empty_net; mark = None }

-- these entries are those of a network, in its settled outcome
pub record IsMark (entries : List Entry) : Type 0 where
  pub net : Net
  pub outcome : Outcome
  pub network : IsNetwork net
  pub is_outcome : IsOutcome net outcome
  pub are_entries : entries ≡ entries_of net outcome

-- these entries are those of this network
abbrev pub IsMarkNow : Net → List Entry → Type 0
IsMarkNow net entries = (o : Outcome) × IsOutcome net o × (entries ≡ entries_of net o)

-- there is a mark, of this network
abbrev pub AreEntriesNow : Net → Option (List Entry) → Type 0
AreEntriesNow net mark = (entries : List Entry) × (mark ≡ Some entries) × IsMarkNow net entries

-- the state is one of a network and, if there is a mark, of a marked network
pub record IsState (s : State) : Type 0 where
  pub network : IsNetwork s.net
  pub mark : MatchOption s.mark (Unit {0}) IsMark

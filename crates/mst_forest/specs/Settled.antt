-- A settled network: its tables, its view and its trees, of which it is known that they belong together.
use Rattle.std.specs.Prelude.{ℕ, ◌==◌, List, [], ◌∷◌, Option}
use Rattle.std.specs.List.{find}
use Rattle.std.specs.Option.{option_map, option_and_then}
use Rattle.std.specs.FinMap as fin
use Rattle.mst_ids.specs.declared.name.PortName.{PortName}
use Rattle.mst_lang.specs.declared.line.Edit.{Edit}
use Rattle.mst_outcome.specs.Assignment.{vector_of, designated_of}
use Rattle.mst_net.specs.tables.Tables.{Net, Numbers}
use Rattle.mst_net.specs.tables.After.{effect}
use Rattle.mst_net.specs.tables.Contents.{Contents, PerKind, Tables, numbers_after}
use Rattle.mst_view.specs.Viewed.{Viewed}
use Rattle.mst_forest.specs.Agrees.{Agrees, AreOf}
use Rattle.mst_forest.specs.Forest.{Forest, msti_vector, msti_designated}
use Rattle.mst_forest.specs.Outcome.{TreeOutcome, Outcome, IsOutcome}

-- the tables with the numbers of their records, the view, and the trees under these numbers
pub record SettledNet : Type 0 where
  pub net : Net
  pub numbers : Numbers
  pub view : Viewed
  pub forest : Forest

abbrev pub settled_net : Tables → Viewed → Forest → SettledNet
settled_net t v f = record { net = t.net; numbers = t.numbers; view = v; forest = f }

-- the tables of a network as they will be once edits are made that add no record, one after another: its records keep their numbers
abbrev pub net_with : Net → List Edit → Net
net_with net [] = net
net_with net (edit ∷ edits) = net_with (effect edit net) edits

abbrev pub numbers_with : PerKind → Numbers → List Edit → Numbers
numbers_with next numbers [] = numbers
numbers_with next numbers (edit ∷ edits) = numbers_with next (numbers_after edit next numbers) edits

abbrev pub tables_with : Contents → List Edit → Tables
tables_with c edits = record { net = net_with c.net edits; numbers = numbers_with c.next c.numbers edits }

-- ---- the outcome, by name
-- the name of the port of the view that has a number
abbrev pub name_of_port : Viewed → ℕ → Option PortName
name_of_port v k = option_map (λ p. p.name) (find (λ p. k == p.number) v.ports)

-- of one tree: what stands under the number of a bridge's name and of a LAN's
abbrev pub outcome_by : {V : Type 0} → Numbers → Viewed → (ℕ → Option V) → (ℕ → Option ℕ) → TreeOutcome V
outcome_by numbers v vector designated = record {
  vector = λ a. option_and_then vector (fin.get numbers.bridges a);
  designated = λ l. option_and_then (name_of_port v) (option_and_then designated (fin.get numbers.lans l));
}

-- of all trees
abbrev pub outcome_of : SettledNet → Outcome
outcome_of s = record {
  cist = outcome_by s.numbers s.view (vector_of s.forest.cist) (designated_of s.forest.cist);
  msti = λ tree. outcome_by s.numbers s.view (msti_vector s.forest tree) (msti_designated s.forest tree);
}

-- ---- what is known
-- the view is the network's, and the outcome is settled; the trees have it, number by number
pub record IsSettledNet (s : SettledNet) : Type 0 where
  pub of : AreOf s.net s.numbers s.view s.forest.regions
  pub is_outcome : IsOutcome s.net (outcome_of s)
  pub cist : Agrees s.numbers (outcome_of s).cist (vector_of s.forest.cist) (designated_of s.forest.cist)
  pub mstis : (tree : ℕ) → Agrees s.numbers ((outcome_of s).msti tree) (msti_vector s.forest tree) (msti_designated s.forest tree)

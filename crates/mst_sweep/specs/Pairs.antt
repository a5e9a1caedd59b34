-- What pairs of failures of a network do: the VIDs of which both together part bridges that either alone leaves joined.
use Rattle.std.specs.Prelude.{◌≡◌, ℕ, ◌==◌, ◌&&◌, Bool, false, List, [], ◌∷◌, ◌++◌, length, map, filter_map, Option, if◌then◌else◌}
use Rattle.std.specs.List.{AllZip, position_from, range_with_len}
use Rattle.std.specs.Option.{option_and_then, option_map, option_map_or}
use Rattle.mst_kinds.specs.declared.kind.Kind.TheVariants as kind
use Rattle.mst_kinds.specs.declared.sweep_line.SweepLine.TheVariants as line
use Rattle.mst_rows.specs.Cells as cell
use Rattle.mst_rows.specs.Rows.{Row, row_of}
use Rattle.mst_graph.specs.Islands.{Island}
use Rattle.mst_net.specs.tables.Tables.{Net}
use Rattle.mst_vlan.specs.forest.Outcome.{Outcome, IsOutcome}
use Rattle.mst_vlan.specs.Reach.{AreIslandsOf}
use Rattle.mst_view.specs.View.{bridge_names}
use Rattle.mst_graph.specs.Lists.{has_any}
use Rattle.mst_sweep.specs.declared.failure.Failure.{Failure}
use Rattle.mst_sweep.specs.Failures.{failed, failures}
use Rattle.mst_sweep.specs.Parts.{home, all_parts}
use Rattle.mst_sweep.specs.declared.parts.Stays.{Stays}
use Rattle.mst_sweep.specs.declared.cuts.CutBy.TheVariants.{Both}
use Rattle.mst_sweep.specs.Cuts.{AreCutsBy, failing, runs_of}
use Rattle.mst_sweep.specs.SweepText.{Told, AreRowsOf}
use Rattle.mst_sweep.specs.SweepParts.{PartOf, ToldOfPart, part_of}

-- ---- pairs
pub record Pair : Type 0 where
  pub first : Failure
  pub second : Failure

-- each of some failures with each behind it, by the first and then by the second
abbrev pub with_each : Failure → List Failure → List Pair
with_each first others = map (λ second. record { first = first; second = second }) others

abbrev pub pairs_of : List Failure → List Pair
pairs_of [] = []
pairs_of (first ∷ others) = with_each first others ++ pairs_of others

-- the settled outcomes of a network, of it with the one and with the other failure of a pair, and with both
pub record Outcomes : Type 0 where
  pub none : Outcome
  pub first : Outcome
  pub second : Outcome
  pub both : Outcome

pub record AreOutcomes (net : Net) (pair : Pair) (of : Outcomes) : Type 0 where
  pub none : IsOutcome net of.none
  pub first : IsOutcome (failed (pair.first ∷ []) net) of.first
  pub second : IsOutcome (failed (pair.second ∷ []) net) of.second
  pub both : IsOutcome (failed (pair.first ∷ pair.second ∷ []) net) of.both

-- the islands of a VID in a network, in it with the one and with the other failure of a pair, and with both
pub record PairIslands : Type 0 where
  pub none : List (Island (List ℕ) (List ℕ))
  pub first : List (Island (List ℕ) (List ℕ))
  pub second : List (Island (List ℕ) (List ℕ))
  pub both : List (Island (List ℕ) (List ℕ))

pub record ArePairIslands (net : Net) (pair : Pair) (of : Outcomes) (vid : ℕ) (islands : PairIslands) : Type 0 where
  pub none : AreIslandsOf net of.none vid islands.none
  pub first : AreIslandsOf (failed (pair.first ∷ []) net) of.first vid islands.first
  pub second : AreIslandsOf (failed (pair.second ∷ []) net) of.second vid islands.second
  pub both : AreIslandsOf (failed (pair.first ∷ pair.second ∷ []) net) of.both vid islands.both

-- two bridges are in one island
abbrev pub are_in_one : List (Island (List ℕ) (List ℕ)) → List ℕ → List ℕ → Bool
are_in_one islands x y = option_map_or (λ at. option_map_or (λ other. other == at) (home islands y) false) (home islands x) false

-- two bridges stay joined: they are in one island before, and in one with either failure alone
abbrev pub stay_joined : PairIslands → List ℕ → List ℕ → Bool
stay_joined islands x y = are_in_one islands.none x y && are_in_one islands.first x y && are_in_one islands.second x y

-- a bridge that is on with both failures: by the place of the first of these bridges that stays joined with it, and by its island then
abbrev pub stays_with_both : PairIslands → List (List ℕ) → List ℕ → Option Stays
stays_with_both islands bridges bridge =
    option_and_then (λ first. option_map (λ after. record { name = bridge; before = first; after = after }) (home islands.both bridge)) (position_from (stay_joined islands bridge) 0 bridges)

-- the parts that both failures together make of a VID: of the bridges that either failure alone leaves joined
pub record ArePairParts (net : Net) (pair : Pair) (of : Outcomes) (vid : ℕ) (parts : List (List (List ℕ))) : Type 0 where
  pub islands : PairIslands
  pub are_islands : ArePairIslands net pair of vid islands
  pub are : parts ≡ all_parts (filter_map (stays_with_both islands (bridge_names net)) (bridge_names net))

-- ---- the rows
-- `pair lan L bridge B cut VIDS`, and the rows of the parts of these VIDs: nothing where there is no such VID
abbrev pub pair_row : Pair → List (ℕ × ℕ) → Row
pair_row pair runs = row_of (kind.Sweep line.Pair) (failing pair.first ∷ failing pair.second ∷ cell.vids runs ∷ [])

abbrev pub pair_rows : Pair → List ℕ → List Row → List Row
pair_rows pair vids cut = if has_any vids then pair_row pair (runs_of vids) ∷ cut else []

-- the VIDs that a pair of failures cuts by these outcomes, whether there are some, and the rows of them
pub record ArePairRows (net : Net) (pair : Pair) (of : Outcomes) (rows : List Row) (cuts : Bool) : Type 0 where
  pub vids : List ℕ
  pub cut : List Row
  pub are_cuts : AreCutsBy (ArePairParts net pair of) (Both pair.first pair.second) vids cut
  pub some : cuts ≡ has_any vids
  pub are : rows ≡ pair_rows pair vids cut

-- this is told of a pair of failures of a network with this outcome
pub record IsPairTold (net : Net) (o : Outcome) (pair : Pair) (told : Told) : Type 0 where
  pub outcomes : Outcomes
  pub none : outcomes.none ≡ o
  pub are_outcomes : AreOutcomes net pair outcomes
  pub is : ArePairRows net pair outcomes told.rows told.cuts

-- `sweep pairs N cuts K`
abbrev pub pairs_row : ℕ → ℕ → Row
pairs_row pairs cuts = row_of (kind.Sweep line.PairCounts) (cell.number pairs ∷ cell.number cuts ∷ [])

abbrev pub last_of_pairs : List Pair → ℕ → Row
last_of_pairs all cuts = pairs_row (length all) cuts

-- these are the rows of these pairs, one after another, with a last row that counts them, and this is the number of those that cut
-- some VID together
abbrev pub IsPairsOf : Net → Outcome → List Pair → List Row → ℕ → Type 0
IsPairsOf net o all rows cuts = AreRowsOf (IsPairTold net o) last_of_pairs all rows cuts

-- of all pairs of the failures of a network, and of a part of them
abbrev pub IsPairs : Net → Outcome → List Row → ℕ → Type 0
IsPairs net o rows cuts = IsPairsOf net o (pairs_of (failures net)) rows cuts

abbrev pub IsPairsPart : PartOf → Net → Outcome → List Row → ℕ → Type 0
IsPairsPart part net o rows cuts = IsPairsOf net o (part_of part (pairs_of (failures net))) rows cuts

-- this is told of each of so many parts, by their numbers
abbrev pub ArePairsParts : Net → Outcome → ℕ → List ToldOfPart → Type 0
ArePairsParts net o count parts = AllZip (λ number part. IsPairsPart (record { number = number; count = count }) net o part.rows part.cuts) (range_with_len 1 count) parts

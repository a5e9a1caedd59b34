-- Which bridges are meant to leave which VIDs, by the lines of a policy.
use Rattle.std.specs.Prelude.{ℕ, ◌&&◌, Bool, List, [], ◌∷◌, map, Result, Ok}
use Rattle.std.specs.List.{flat_map, list_any}
use Rattle.mst_ids.specs.Vids.{has}
use Rattle.mst_lang.specs.declared.line.Fault.{Fault}
use Rattle.mst_policy.specs.Items as items
use Rattle.mst_policy.specs.declared.expectation.Expectation.{Expectation}
use Rattle.mst_policy.specs.declared.expectation.Expectation.TheVariants.{Leaves}
use Rattle.mst_policy.specs.declared.item.NameItem.{NameItem}
use Rattle.mst_policy.specs.declared.policy.PolicyLine.{PolicyLine}
use Rattle.mst_policy.specs.declared.risk.Said.{Said}
use Rattle.mst_policy.specs.declared.risk.Said.TheVariants as says

-- sets of VIDs, and of each the bridges that are to leave these
abbrev pub Leaving : Type 0
Leaving = List (List Bool × List NameItem)

-- what an expectation says of it
abbrev pub leaving_by : Expectation → Leaving
leaving_by (Leaves vids names) = (vids, names) ∷ []
leaving_by _ = []

-- what a line says, if it is read and promises
abbrev pub leaving_read : Result Said Fault → Leaving
leaving_read (Ok (says.Promise promise)) = leaving_by promise.expectation
leaving_read _ = []

-- and lines
abbrev pub leaving_of : List PolicyLine → Leaving
leaving_of lines = flat_map (λ line. leaving_read line.read) lines

-- the sets of VIDs
abbrev pub sets_of : Leaving → List (List Bool)
sets_of leaving = map (λ l. l.0) leaving

-- a bridge is to leave a VID
abbrev pub leaves : Leaving → ℕ → List ℕ → Bool
leaves leaving vid bridge = list_any (λ l. has l.0 vid && items.has l.1 bridge) leaving

-- bridges are to leave a VID, be they in the network or not
abbrev pub are_left : Leaving → ℕ → Bool
are_left leaving vid = list_any (λ l. has l.0 vid) leaving

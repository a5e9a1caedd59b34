-- Bridges that enabled ports link, and that stay so.
use Rattle.std.specs.Prelude.{◌≡◌, ◌≢◌, ℕ, true, false, Bool, List, [], ◌∷◌}
use Rattle.std.specs.List.{Contains}
use Rattle.mst_view.specs.View.{IsUnrestricted}
use Rattle.mst_policy.specs.declared.expectation.Expectation.TheVariants as expect
use Rattle.mst_policy.specs.declared.expectation.Promise.{Promise}
use Rattle.mst_policy.specs.declared.expectation.Scope.TheVariants as scope
use Rattle.mst_policy.specs.declared.item.NameItem.{NameItem}
use Rattle.mst_graph.specs.Lists.{has_any}
use Rattle.mst_net.specs.tables.Tables.{Net}
use Rattle.mst_island_judges.specs.judged.reasons.sweep.vlan.Reach.{bridges_on}
use Rattle.mst_island_judges.specs.judged.reasons.sweep.Apart.{AllAreMembers, AreLinked}
use Rattle.mst_island_judges.specs.judged.reasons.sweep.Failures.{failed, failures}
use Rattle.mst_island_judges.specs.judged.reasons.sweep.declared.failure.Failure.{Failure}
use Rattle.mst_island_judges.specs.judged.reasons.Named.{named, vids_in}

-- there are such VIDs, every logical port is a member of each of their VLANs, and no port's role is restricted
pub record AllPass (net : Net) (vids : List Bool) : Type 0 where
  pub some : has_any (vids_in vids) ≡ true
  pub members : (vid : ℕ) → Contains (vids_in vids) vid → AllAreMembers net vid
  pub unrestricted : IsUnrestricted net

-- two bridges are on, and a walk of enabled ports links them
pub record AreLinkedOn (net : Net) (x y : List ℕ) : Type 0 where
  pub first : Contains (bridges_on net) x
  pub second : Contains (bridges_on net) y
  pub linked : AreLinked net x y

-- so are any two different ones of these
abbrev pub AllAreLinked : Net → List (List ℕ) → Type 0
AllAreLinked net bridges = (x y : List ℕ) → Contains bridges x → Contains bridges y → x ≢ y → AreLinkedOn net x y

-- the bridges of NAMES are so in the network itself, and those that are left in that with each failure
pub record StayLinked (net : Net) (names : List NameItem) : Type 0 where
  pub now : AllAreLinked net (named net [] names)
  pub failed : (failure : Failure) → Contains (failures net) failure → (let left = failed (failure ∷ []) net in AllAreLinked left (named left (failure ∷ []) names))

-- `always reach VIDS NAMES`
abbrev pub always_reach : List Bool → List NameItem → Promise
always_reach vids names = record { is_final = false; scope = scope.Always; expectation = expect.Reach vids names }

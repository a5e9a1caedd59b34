-- Which islands bridges are in, as they are kept for the classes of VIDs of a network.
use Rattle.std.specs.Prelude.{◌≡◌, ◌↔◌, ℕ, ◌+◌, ◌<◌, Bool, true, false, List, [], Option, Some, None, MatchOption, length, map, slice_index, slice_index_or, nat_eq, ⊤}
use Rattle.std.specs.List.{AllZip, Contains}
use Rattle.std.specs.Map.{lookup}
use Rattle.std.specs.Option.{option_map, option_map_or}
use Rattle.std.specs.FinMap as fin
use Rattle.std.specs.HashMap.{HashMap}
use Rattle.mst_reasons.specs.sweep.vlan.Carried.{ViewWithTrees, CarryAlike}
use Rattle.mst_graph.specs.Groups.{AreGroups}
use Rattle.mst_view.specs.declared.in_view.BridgeInView.{BridgeInView}
use Rattle.mst_tables.specs.Tables.{Net, Numbers}
use Rattle.mst_roles.specs.forest.Outcome.{Outcome}
use Rattle.mst_roles.specs.forest.Settled.{SettledNet, IsSettledNet, outcome_of}
use Rattle.mst_policy.specs.declared.item.NameItem.{NameItem}
use Rattle.mst_reasons.specs.sweep.Baseline.{AreHomes}
use Rattle.mst_reasons.specs.sweep.Parts.{ArePartsOf}
use Rattle.mst_reasons.specs.sweep.vlan.classes.Classes.{AreClasses}
use Rattle.mst_reasons.specs.Holds.{IsReached}
use Rattle.mst_policy.specs.Leaving.{Leaving}
use Rattle.mst_reasons.specs.sweep.declared.failure.Failure.{Failure}
use Rattle.mst_reasons.specs.Named.{Prior, remaining}
use Rattle.mst_reasons.specs.Reasons.{Parts}
use Rattle.mst_judged.specs.Valued.{AreValuesOf}
use Rattle.mst_judged.specs.declared.beside.Beside.{Beside}
use Rattle.mst_judged.specs.declared.before.Before.{Before}
use Rattle.mst_judged.specs.declared.homes.Homes.{Homes}
use Rattle.mst_judged.specs.declared.homes.Home.{Home}
use Rattle.mst_judged.specs.declared.homes.Home.TheVariants.{Island, Alone}
use Rattle.mst_judged.specs.declared.prior.Prior.{Prior as KeptPrior}
use Rattle.mst_reasons.specs.Seen.{names_in}
use Rattle.mst_reasons.specs.sweep.Cuts.{parts_at}

-- for the first VID of each class, if they are made, the places of islands, by the numbers of bridges
abbrev pub AreMade : {S : Type 0} → SettledNet → List ℕ → List (Option (HashMap ℕ ℕ S)) → Type 0
AreMade s firsts made = AllZip (λ place homes. MatchOption homes ⊤ (λ h. AreHomes s.net s.numbers (outcome_of s) (place + 1) h.entries)) firsts made

-- where a bridge is: in the island of this place, or alone
abbrev pub home_of : List (ℕ × ℕ) → ℕ → Home
home_of homes bridge = option_map_or Island (lookup (nat_eq bridge) homes) (Alone bridge)

-- two bridges are at one place just where frames of a VID reach the one from the other
abbrev pub TellReached : Net → Numbers → Outcome → ℕ → List (ℕ × ℕ) → Type 0
TellReached net numbers o vid homes =
    (x y : List ℕ) (n m : ℕ) → fin.get numbers.bridges x ≡ Some n → fin.get numbers.bridges y ≡ Some m → (home_of homes n ≡ home_of homes m) ↔ IsReached net o vid x y

-- what is kept for a class
abbrev pub kept_in : {S : Type 0} → List (Option (HashMap ℕ ℕ S)) → ℕ → Option (List (ℕ × ℕ))
kept_in kept class = option_map (λ h. h.entries) (slice_index_or kept class None)

-- and for one of the network before a failure
abbrev pub kept_at : Before → ℕ → Option (List (ℕ × ℕ))
kept_at before class = kept_in before.homes.items class

-- it is this, and the flag of the class says that it tells its islands afterwards, too
pub record StillTells (before : Before) (homes : Homes) (class : ℕ) (kept : List (ℕ × ℕ)) : Type 0 where
  pub flag : slice_index_or homes.differ.items class true ≡ false
  pub is : kept_at before class ≡ Some kept

-- and it does
abbrev pub AreStill : SettledNet → Before → Homes → Type 0
AreStill s before homes =
    (class : ℕ) (kept : List (ℕ × ℕ)) → class < length before.classes.firsts.items → StillTells before homes class kept
    → TellReached s.net s.numbers (outcome_of s) (slice_index before.classes.firsts.items class + 1) kept

-- what is kept for a network is right: the classes of its VIDs, and their islands
pub record AreKept (s : SettledNet) (before : Before) (homes : Homes) : Type 0 where
  pub classes : AreClasses s.view before.classes
  pub made : AreMade s before.classes.firsts.items homes.made.items
  pub still : AreStill s before homes

-- the view and the trees are those of a network
abbrev pub IsOfPlan : SettledNet → ViewWithTrees → Type 0
IsOfPlan s c = c ≡ record { view = s.view; forest = s.forest }

-- the places of islands of a VID are these in each network with this view and these trees
abbrev pub HasHomesBy : ViewWithTrees → ℕ → List (ℕ × ℕ) → Type 0
HasHomesBy c vid homes = (s : SettledNet) → IsSettledNet s → IsOfPlan s c → AreHomes s.net s.numbers (outcome_of s) vid homes

-- these are made in each network with this view and these trees
abbrev pub AreMadeBy : {S : Type 0} → ViewWithTrees → List ℕ → List (Option (HashMap ℕ ℕ S)) → Type 0
AreMadeBy c firsts made = (s : SettledNet) → IsSettledNet s → IsOfPlan s c → AreMade s firsts made

-- the islands that are kept are those of each network with this view and these trees, of which there is one whose records have these numbers
pub record HasIslandsOf (c : ViewWithTrees) (numbers : Numbers) (before : Before) : Type 0 where
  pub network : SettledNet
  pub settled : IsSettledNet network
  pub is_of : IsOfPlan network c
  pub have_numbers : network.numbers ≡ numbers
  pub made : AreMadeBy c before.classes.firsts.items before.homes.items

-- ---- the network before
-- a network with its outcome is one with this view and these trees
pub record IsOneOf (net : Net) (o : Outcome) (c : ViewWithTrees) : Type 0 where
  pub network : SettledNet
  pub settled : IsSettledNet network
  pub is_of : IsOfPlan network c
  pub net_is : network.net ≡ net
  pub outcome_is : outcome_of network ≡ o

-- there is a network before where something is kept of one, and it is one of that
abbrev pub IsKeptBefore : Option (Net × Outcome) → Option KeptPrior → Type 0
IsKeptBefore None None = ⊤
IsKeptBefore (Some before) (Some kept) = IsOneOf before.0 before.1 kept.old.now
IsKeptBefore _ _ = ⊥

-- and the same bridges are meant to leave
abbrev pub IsKeptOf : Prior → Option KeptPrior → Leaving → Type 0
IsKeptOf prior kept leaving = IsKeptBefore prior.before kept × (prior.leaving ≡ leaving)

-- where the flag of a class is false the same ports carry its first VID in the network before, on the same LANs
abbrev pub AreAlike : ViewWithTrees → SettledNet → List ℕ → List Bool → Type 0
AreAlike old s firsts flags =
    (class : ℕ) → class < length firsts → slice_index_or flags class true ≡ false → CarryAlike old (record { view = s.view; forest = s.forest }) (slice_index firsts class + 1)

-- what is kept of the network before this one is right: the classes of VIDs of both, and islands of some in each
pub record IsBeside (s : SettledNet) (kept : KeptPrior) : Type 0 where
  pub old_classes : AreClasses kept.old.now.view kept.classes.now
  pub new_classes : AreClasses s.view kept.classes.now
  pub olds : AreMadeBy kept.old.now kept.classes.now.firsts.items kept.olds.now
  pub news : AreMade s kept.classes.now.firsts.items kept.news.now
  pub alike : AreAlike kept.old.now s kept.classes.now.firsts.items kept.differ.now

-- and so is what is kept of two networks that no failure makes of each other
pub record AreBeside (old : ViewWithTrees) (s : SettledNet) (beside : Beside) : Type 0 where
  pub old_classes : AreClasses old.view beside.classes
  pub new_classes : AreClasses s.view beside.classes
  pub olds : AreMadeBy old beside.classes.firsts.items beside.olds.items
  pub news : AreMade s beside.classes.firsts.items beside.news.items
  pub alike : AreAlike old s beside.classes.firsts.items beside.differ.items

-- these are the parts that a VID has of the bridges of NAMES that aren't to leave it, in each network of which this is kept
abbrev pub ArePartsBeside : SettledNet → KeptPrior → Leaving → List Failure → List NameItem → ℕ → Parts → Type 0
ArePartsBeside s kept leaving lost names vid parts = (net : Net) (o : Outcome) → IsOneOf net o kept.old.now → ArePartsOf (remaining leaving vid net lost names) net o s.net (outcome_of s) vid parts

-- ---- parts
-- bridges with where they are
abbrev pub with_homes : List (ℕ × ℕ) → List BridgeInView → List (List ℕ × Home)
with_homes homes bridges = map (λ b. (b.name, home_of homes b.bridge.number)) bridges

-- they have the numbers of their names
abbrev pub HaveNumbers : Numbers → List BridgeInView → Type 0
HaveNumbers numbers bridges = (b : BridgeInView) → Contains bridges b → fin.get numbers.bridges b.name ≡ Some b.bridge.number

-- the parts of these bridges that are in one island of a VID, by their first bridges
abbrev pub AreReachParts : Net → Outcome → List (List ℕ) → ℕ → Parts → Type 0
AreReachParts net o bridges vid parts = AreGroups (IsReached net o vid) bridges parts

-- they are so in each network where these places tell which bridges a VID reaches
abbrev pub ArePartsBy : List (ℕ × ℕ) → List BridgeInView → Parts → Type 0
ArePartsBy homes bridges parts =
    (net : Net) (numbers : Numbers) (o : Outcome) (vid : ℕ) → HaveNumbers numbers bridges → TellReached net numbers o vid homes → AreReachParts net o (names_in bridges) vid parts

-- for each class with a flag, the parts of its first VID
abbrev pub AreOfClasses : (ℕ → Parts → Type 0) → List ℕ → List Bool → List Parts → Type 0
AreOfClasses HasParts firsts flags bodies = AreValuesOf [] HasParts firsts flags bodies

-- a VID has the parts that are kept for its class
abbrev pub HasBody : List ℕ → List Parts → ℕ → Parts → Type 0
HasBody numbers bodies vid parts = parts ≡ parts_at numbers bodies vid

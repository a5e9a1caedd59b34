-- Whether an expectation holds in a network with its settled outcome, by name.
use Rattle.std.specs.Prelude.{◌≡◌, ◌⊎◌, ℕ, ◌≤◌, Bool, true, false, not, List, [], length, Option, Some, None, filter, ⊤}
use Rattle.std.specs.List.{Contains}
use Rattle.std.specs.Option.{ForSome}
use Rattle.mst_kinds.specs.declared.kind.Kind.{Kind}
use Rattle.mst_kinds.specs.declared.kind.Kind.TheVariants as kind
use Rattle.mst_kinds.specs.declared.note_line.NoteLine.TheVariants as note_line
use Rattle.mst_rows.specs.Rows.{Row}
use Rattle.mst_graph.specs.Islands.{AreJoined}
use Rattle.mst_graph.specs.Walks.{bridge_at}
use Rattle.mst_tables.specs.Tables.{Net}
use Rattle.mst_path.specs.Paths.{Hop, IsPathOf, bridges_met}
use Rattle.mst_roles.specs.forest.config.Regions.{same_region}
use Rattle.mst_view.specs.View.{LogicalPort}
use Rattle.mst_note_text.specs.Children.{HasSteps}
use Rattle.mst_note_text.specs.Depths.{ParentIn}
use Rattle.mst_note_text.specs.NotesText.{AreNoteRows}
use Rattle.mst_roles.specs.forest.Outcome.{Outcome, trees_of}
use Rattle.mst_roles.specs.Roles.{role_in}
use Rattle.mst_roles.specs.declared.kind.Role.{Role}
use Rattle.mst_roles.specs.declared.kind.Role.TheVariants.{Root, Designated, Alternate, Backup, Master, Disabled}
use Rattle.mst_sweep.specs.vlan.Reach.{bridges_on, vid_links}
use Rattle.mst_graph.specs.Lists.{has_any}
use Rattle.mst_sweep.specs.facts.Roots.{root_name}
use Rattle.mst_sweep.specs.declared.failure.Failure.{Failure}
use Rattle.mst_policy.specs.declared.expectation.Expectation.{Expectation}
use Rattle.mst_policy.specs.declared.expectation.Expectation.TheVariants as expect
use Rattle.mst_policy.specs.declared.expectation.Roles.{Roles}
use Rattle.mst_policy.specs.declared.item.NameItem.{NameItem}
use Rattle.mst_policy.specs.Leaving.{Leaving}
use Rattle.mst_reasons.specs.Named.{Prior, named, ports_named, remaining, unnamed, vids_in}
use Rattle.mst_reasons.specs.Over.{goes_over}
use Rattle.mst_reasons.specs.Roots.{concerned, IsNextRoot}

-- ---- roots
-- there are such bridges, and B is the root of each
pub record IsOneRoot (net : Net) (o : Outcome) (tree : ℕ) (b : List ℕ) : Type 0 where
  pub some : has_any (concerned net o tree b) ≡ true
  pub each : (bridge : List ℕ) → Contains (concerned net o tree b) bridge → root_name net o tree bridge ≡ Some b

-- ---- regions
abbrev pub AreOneRegion : Net → List (List ℕ) → Type 0
AreOneRegion net bridges = (x y : List ℕ) → Contains bridges x → Contains bridges y → same_region net x y ≡ true

-- ---- roles
-- a role is one of these. A port whose bridge hasn't the tree has none
abbrev pub is_wanted : Roles → Option Role → Bool
is_wanted roles None = false
is_wanted roles (Some Root) = roles.root
is_wanted roles (Some Designated) = roles.designated
is_wanted roles (Some Alternate) = roles.alternate
is_wanted roles (Some Backup) = roles.backup
is_wanted roles (Some Master) = roles.master
is_wanted roles (Some Disabled) = roles.disabled

abbrev pub HaveRoles : Net → Outcome → ℕ → List LogicalPort → Roles → Type 0
HaveRoles net o tree ports roles = (p : LogicalPort) → Contains ports p → is_wanted roles (role_in net o tree p) ≡ true

-- ---- islands of VIDs
-- two bridges are in one island of a VID: both are on, and a walk of active ports that are members joins them
pub record AreTogether (net : Net) (o : Outcome) (vid : ℕ) (x y : List ℕ) : Type 0 where
  pub first : Contains (bridges_on net) x
  pub second : Contains (bridges_on net) y
  pub joined : AreJoined (vid_links net o vid) (bridge_at x) (bridge_at y)

-- a bridge that is off is in no island with another
abbrev pub IsReached : Net → Outcome → ℕ → List ℕ → List ℕ → Type 0
IsReached net o vid x y = (x ≡ y) ⊎ AreTogether net o vid x y

abbrev pub AllReach : Net → Outcome → List Bool → List (List ℕ) → Type 0
AllReach net o vids bridges = (vid : ℕ) → Contains (vids_in vids) vid → (x y : List ℕ) → Contains bridges x → Contains bridges y → IsReached net o vid x y

abbrev pub AreApart : Net → Outcome → List Bool → List (List ℕ) → List (List ℕ) → Type 0
AreApart net o vids bridges others = (vid : ℕ) → Contains (vids_in vids) vid → (x y : List ℕ) → Contains bridges x → Contains others y → AreTogether net o vid x y → ⊥

-- those that were together before and are on here, too, are together here, of these bridges in each VID
abbrev pub AllStayTogether : Net → Outcome → Net → Outcome → List Bool → (ℕ → List (List ℕ)) → Type 0
AllStayTogether a p net o vids bridges =
    (vid : ℕ) → Contains (vids_in vids) vid → (x y : List ℕ) → Contains (bridges vid) x → Contains (bridges vid) y → Contains (bridges_on net) x → Contains (bridges_on net) y → AreTogether a p vid x y → AreTogether net o vid x y

-- where nothing is before, nothing is asked
abbrev pub StayTogether : Option (Net × Outcome) → Leaving → Net → Outcome → List Bool → List Failure → List NameItem → Type 0
StayTogether None leaving net o vids lost names = ⊤
StayTogether (Some before) leaving net o vids lost names = AllStayTogether before.0 before.1 net o vids (λ vid. remaining leaving vid before.0 lost names)

-- ---- parents
abbrev pub AreLeaves : Net → Outcome → ℕ → List (List ℕ) → Type 0
AreLeaves net o tree bridges = (child bridge : List ℕ) → Contains bridges bridge → ParentIn (trees_of net o) tree child bridge → ⊥

-- no bridge has more steps to parents, whatever regions these go through
abbrev pub IsShallow : Net → Outcome → ℕ → ℕ → Type 0
IsShallow net o tree most = (bridge : List ℕ) (steps : ℕ) → HasSteps (trees_of net o) tree bridge steps → steps ≤ most

-- ---- paths of VIDs
-- no path between two of these bridges has more hops
abbrev pub AreNear : Net → Outcome → List Bool → ℕ → List (List ℕ) → Type 0
AreNear net o vids most bridges =
    (vid : ℕ) → Contains (vids_in vids) vid → (a b : List ℕ) → Contains bridges a → Contains bridges b → (path : List Hop) → IsPathOf net o vid a b (Some path) → length path ≤ most

-- where there is a path from a to b, it meets c
abbrev pub AllMeet : Net → Outcome → List Bool → List ℕ → List ℕ → List ℕ → Type 0
AllMeet net o vids a b c =
    (vid : ℕ) → Contains (vids_in vids) vid → (path : List Hop) → IsPathOf net o vid a b (Some path) → Contains (bridges_met a path) c

-- ---- what LANs carry
abbrev pub AllGoOver : Net → Outcome → List ℕ → List Bool → Type 0
AllGoOver net o lan vids = (vid : ℕ) → Contains (vids_in vids) vid → goes_over net o lan vid ≡ true

abbrev pub NoneGoesOver : Net → Outcome → List ℕ → List Bool → Type 0
NoneGoesOver net o lan vids = (vid : ℕ) → Contains (vids_in vids) vid → goes_over net o lan vid ≡ false

-- ---- limits
-- a note that a port's role is restricted
abbrev pub is_restricted : Kind → Bool
is_restricted (kind.Note note_line.Restricted) = true
is_restricted _ = false

-- the other notes
abbrev pub limit_notes : List Row → List Row
limit_notes notes = filter (λ note. not (is_restricted note.kind)) notes

abbrev pub NoLimitBinds : Net → Outcome → Type 0
NoLimitBinds net o = (notes : List Row) → AreNoteRows net o notes → limit_notes notes ≡ []

-- ---- all fourteen
-- an expectation holds in a network with this outcome. It is the one before all failures, or that one, `before`, with these failures,
-- which are lost. What stays together was so in the network that is prior to it, and isn't meant to leave
abbrev pub Holds : Net → Outcome → Net → List Failure → Prior → Expectation → Type 0
Holds net o before lost prior (expect.Root tree b next) = IsOneRoot net o tree b × ForSome next (IsNextRoot net o tree b)
Holds net o before lost prior (expect.Region names) = AreOneRegion net (named net lost names)
Holds net o before lost prior (expect.Role tree ports roles) = HaveRoles net o tree (ports_named net before ports) roles
Holds net o before lost prior (expect.Reach vids names) = AllReach net o vids (named net lost names)
Holds net o before lost prior (expect.Apart vids names others) = AreApart net o vids (named net lost names) (named net lost others)
Holds net o before lost prior (expect.Leaves vids names) = AreApart net o vids (named net lost names) (unnamed net names)
Holds net o before lost prior (expect.Together vids names) = StayTogether prior.before prior.leaving net o vids lost names
Holds net o before lost prior (expect.Leaf tree names) = AreLeaves net o tree (named net lost names)
Holds net o before lost prior (expect.Depth tree steps) = IsShallow net o tree steps
Holds net o before lost prior (expect.Hops vids most names) = AreNear net o vids most (named net lost names)
Holds net o before lost prior (expect.Via vids a b c) = AllMeet net o vids a b c
Holds net o before lost prior (expect.Carries lan vids) = AllGoOver net o lan vids
Holds net o before lost prior (expect.Avoids lan vids) = NoneGoesOver net o lan vids
Holds net o before lost prior expect.Fits = NoLimitBinds net o

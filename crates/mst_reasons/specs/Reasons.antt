-- Why an expectation doesn't hold in a network.
use Rattle.std.specs.Prelude.{◌≡◌, ◌⊎◌, ◌↔◌, ℕ, ◌≤◌, ◌==◌, ◌&&◌, ◌||◌, not, nat_lt, Bool, true, false, List, [], ◌∷◌, length, map, filter, filter_map, Option, Some, None, MatchOption, if◌then◌else◌}
use Rattle.std.specs.List.{Contains, flat_map, list_any}
use Rattle.std.specs.Option.{option_map_or, option_and_then}
use Rattle.std.specs.FinMap as fin
use Rattle.mst_ids.specs.Vids.{set_where}
use Rattle.mst_kinds.specs.declared.kind.Kind.{Kind}
use Rattle.mst_kinds.specs.declared.kind.Kind.TheVariants as kind
use Rattle.mst_kinds.specs.declared.note_line.NoteLine.{NoteLine}
use Rattle.mst_kinds.specs.declared.note_line.NoteLine.TheVariants as note_line
use Rattle.mst_rows.specs.Cells.{Cell, word, number}
use Rattle.mst_rows.specs.Rows.{Row}
use Rattle.mst_graph.specs.Groups.{AreGroups, IsThinned}
use Rattle.mst_tables.specs.Tables.{Net}
use Rattle.mst_roles.specs.forest.config.Regions.{same_region}
use Rattle.mst_view.specs.Aggregation.{same_name}
use Rattle.mst_view.specs.Trees.{is_among}
use Rattle.mst_view.specs.View.{LogicalPort}
use Rattle.mst_note_text.specs.Children.{HasSteps}
use Rattle.mst_note_text.specs.Depths.{ParentIn}
use Rattle.mst_note_text.specs.NotesText.{AreNoteRows}
use Rattle.mst_roles.specs.forest.Outcome.{Outcome, trees_of}
use Rattle.mst_roles.specs.Roles.{role_in}
use Rattle.mst_roles.specs.declared.kind.Role.{Role}
use Rattle.mst_roles.specs.declared.kind.Role.TheVariants as a_role
use Rattle.mst_sweep.specs.vlan.Reach.{bridges_on}
use Rattle.mst_sweep.specs.Parts.{ArePartsOf}
use Rattle.mst_roles.specs.RoleNumbers.{role_number}
use Rattle.mst_graph.specs.Lists.{has_any}
use Rattle.mst_sweep.specs.declared.failure.Failure.{Failure}
use Rattle.mst_policy.specs.declared.expectation.Expectation.{Expectation}
use Rattle.mst_policy.specs.declared.expectation.Expectation.TheVariants as expect
use Rattle.mst_policy.specs.declared.expectation.Roles.{Roles}
use Rattle.mst_policy.specs.declared.item.NameItem.{NameItem}
use Rattle.mst_policy.specs.Leaving.{Leaving}
use Rattle.mst_reasons.specs.Named.{Prior, named, ports_named, remaining, unnamed, vids_in}
use Rattle.mst_reasons.specs.Over.{not_as_wanted}
use Rattle.mst_reasons.specs.Roots.{concerned, is_root_of, IsNextRoot}
use Rattle.mst_reasons.specs.Holds.{is_wanted, AreTogether, IsReached}
use Rattle.mst_reasons.specs.Stretches.{HasLongest, HasStretch, Stretch}
use Rattle.mst_reasons.specs.declared.reason.Reason.{Reason}
use Rattle.mst_reasons.specs.declared.reason.Reason.TheVariants as why

-- ---- roots
-- of how many of these bridges this one is the root
abbrev pub root_count : Net → Outcome → ℕ → List (List ℕ) → List ℕ → ℕ
root_count net o tree bridges root = length (filter (is_root_of net o tree root) bridges)

-- a bridge that isn't B, and is the root of some of these
abbrev pub other_root : Net → Outcome → ℕ → List ℕ → List (List ℕ) → List ℕ → List Reason
other_root net o tree b bridges root =
    let count = root_count net o tree bridges root in if same_name root b || count == 0 then [] else why.OtherRoot tree root count ∷ []

-- the next one, where it isn't C
abbrev pub other_next : ℕ → List ℕ → List ℕ → Option (List ℕ) → List Reason
other_next tree b c next = if option_map_or (same_name c) next false then [] else why.OtherNext tree b next ∷ []

-- no bridge is asked; or else all roots but B; or else, where B is the one root, the next one
abbrev pub root_reasons : Net → Outcome → ℕ → List ℕ → Option (List ℕ) → Option (List ℕ) → List Reason
root_reasons net o tree b wanted next =
    let bridges = concerned net o tree b in
    let others = flat_map (other_root net o tree b bridges) (fin.keys net.bridges) in
    if not (has_any bridges) then why.NoRoot tree ∷ [] else (if has_any others then others else option_map_or (λ c. other_next tree b c next) wanted [])

-- with the next one, if there is one
pub record AreRootReasons (net : Net) (o : Outcome) (tree : ℕ) (b : List ℕ) (wanted : Option (List ℕ)) (reasons : List Reason) : Type 0 where
  pub next : Option (List ℕ)
  pub is_next : MatchOption next ((c : List ℕ) → IsNextRoot net o tree b c → ⊥) (IsNextRoot net o tree b)
  pub are : reasons ≡ root_reasons net o tree b wanted next

-- ---- regions
-- there are two
abbrev pub has_two : {A : Type 0} → List A → Bool
has_two [] = false
has_two (x ∷ xs) = has_any xs

-- the parts of these bridges that are of one region, by their first bridges, where there are two
pub record AreRegionReasons (net : Net) (bridges : List (List ℕ)) (reasons : List Reason) : Type 0 where
  pub parts : List (List (List ℕ))
  pub are_parts : AreGroups (λ x y. same_region net x y ≡ true) bridges parts
  pub are : reasons ≡ (if has_two parts then why.Region parts ∷ [] else [])

-- ---- roles
abbrev pub same_role : Option Role → Option Role → Bool
same_role None None = true
same_role (Some a) (Some b) = role_number a == role_number b
same_role _ _ = false

-- all roles in their order, and none
abbrev pub all_roles : List (Option Role)
all_roles = Some a_role.Root ∷ Some a_role.Designated ∷ Some a_role.Alternate ∷ Some a_role.Backup ∷ Some a_role.Master ∷ Some a_role.Disabled ∷ None ∷ []

-- the names of those of these ports that have a role
abbrev pub ports_of_role : Net → Outcome → ℕ → List LogicalPort → Option Role → List LogicalPort
ports_of_role net o tree ports role = filter (λ p. same_role (role_in net o tree p) role) ports

-- those that have a role which isn't wanted
abbrev pub role_reason : Net → Outcome → ℕ → List LogicalPort → Roles → Option Role → List Reason
role_reason net o tree ports roles role =
    let those = ports_of_role net o tree ports role in if is_wanted roles role || not (has_any those) then [] else why.Role tree (map (λ p. p.name) those) role ∷ []

abbrev pub role_reasons : Net → Outcome → ℕ → List LogicalPort → Roles → List Reason
role_reasons net o tree ports roles = flat_map (role_reason net o tree ports roles) all_roles

-- ---- islands of VIDs
abbrev pub Parts : Type 0
Parts = List (List (List ℕ))

-- of a group of VIDs that have this value, if there is something to tell of them
abbrev pub group_reasons : {B : Type 0} → (List ℕ → B → List Reason) → (ℕ → B) → List ℕ → List Reason
group_reasons tell value [] = []
group_reasons tell value (vid ∷ others) = tell (vid ∷ others) (value vid)

-- where each of the VIDs has a value by this relation, these are the reasons of the groups of VIDs of equal values, by the least VID
pub record AreVidReasons {B : Type 0} (Has : ℕ → B → Type 0) (tell : List ℕ → B → List Reason) (vids : List Bool) (reasons : List Reason) : Type 0 where
  pub value : ℕ → B
  pub has : (vid : ℕ) → Contains (vids_in vids) vid → Has vid (value vid)
  pub groups : List (List ℕ)
  pub are_groups : AreGroups (λ x y. value x ≡ value y) (vids_in vids) groups
  pub are : reasons ≡ flat_map (group_reasons tell value) groups

-- the parts of these bridges that are in one island, by their first bridges, where there are two
abbrev pub reach_reason : List ℕ → Parts → List Reason
reach_reason vids parts = if has_two parts then why.Reach (set_where (is_among vids)) parts ∷ [] else []

abbrev pub AreReachReasons : Net → Outcome → List Bool → List (List ℕ) → List Reason → Type 0
AreReachReasons net o vids bridges reasons = AreVidReasons (λ vid parts. AreGroups (IsReached net o vid) bridges parts) reach_reason vids reasons

-- the bridges of either list that are on
abbrev pub is_in : List (List ℕ) → List ℕ → Bool
is_in bridges bridge = list_any (same_name bridge) bridges

abbrev pub either_on : Net → List (List ℕ) → List (List ℕ) → List (List ℕ)
either_on net bridges others = filter (λ x. is_in bridges x || is_in others x) (bridges_on net)

-- a part has bridges of both lists
abbrev pub has_both : List (List ℕ) → List (List ℕ) → List (List ℕ) → Bool
has_both bridges others part = list_any (is_in bridges) part && list_any (is_in others) part

-- their parts that are in one island, where bridges of both are, by their first bridges
pub record AreBoth (net : Net) (o : Outcome) (bridges others : List (List ℕ)) (vid : ℕ) (parts : Parts) : Type 0 where
  pub all : Parts
  pub are_parts : AreGroups (AreTogether net o vid) (either_on net bridges others) all
  pub are : parts ≡ filter (has_both bridges others) all

abbrev pub apart_reason : List ℕ → Parts → List Reason
apart_reason vids parts = if has_any parts then why.Apart (set_where (is_among vids)) parts ∷ [] else []

abbrev pub AreApartReasons : Net → Outcome → List Bool → List (List ℕ) → List (List ℕ) → List Reason → Type 0
AreApartReasons net o vids bridges others reasons = AreVidReasons (AreBoth net o bridges others) apart_reason vids reasons

-- the parts in which bridges that were to leave are with others
abbrev pub leaves_reason : List ℕ → Parts → List Reason
leaves_reason vids parts = if has_any parts then why.Leaves (set_where (is_among vids)) parts ∷ [] else []

abbrev pub AreLeavesReasons : Net → Outcome → List Bool → List (List ℕ) → List (List ℕ) → List Reason → Type 0
AreLeavesReasons net o vids bridges others reasons = AreVidReasons (AreBoth net o bridges others) leaves_reason vids reasons

-- the parts of these bridges that were in one island before, where they came apart
abbrev pub together_reason : List ℕ → Parts → List Reason
together_reason vids parts = if has_any parts then why.Together (set_where (is_among vids)) parts ∷ [] else []

abbrev pub AreTogetherReasons : Option (Net × Outcome) → Leaving → Net → Outcome → List Bool → List Failure → List NameItem → List Reason → Type 0
AreTogetherReasons None leaving net o vids lost names reasons = reasons ≡ []
AreTogetherReasons (Some before) leaving net o vids lost names reasons =
    AreVidReasons (λ vid parts. ArePartsOf (remaining leaving vid before.0 lost names) before.0 before.1 net o vid parts) together_reason vids reasons

-- ---- parents
-- those of these things for which this holds, in their order
pub record AreThose {A : Type 0} (P : A → Type 0) (things those : List A) : Type 0 where
  pub in_order : IsThinned those things
  pub are : (x : A) → Contains things x → Contains those x ↔ P x

-- a bridge that is the parent of some
abbrev pub leaf_reason : ℕ → List ℕ → List (List ℕ) → List Reason
leaf_reason tree bridge children = if has_any children then why.Leaf tree bridge children ∷ [] else []

pub record AreLeafReasons (net : Net) (o : Outcome) (tree : ℕ) (bridges : List (List ℕ)) (reasons : List Reason) : Type 0 where
  pub children : List ℕ → List (List ℕ)
  pub are_children : (bridge : List ℕ) → Contains bridges bridge → AreThose (λ child. ParentIn (trees_of net o) tree child bridge) (fin.keys net.bridges) (children bridge)
  pub are : reasons ≡ flat_map (λ bridge. leaf_reason tree bridge (children bridge)) bridges

-- the bridges with the most steps, where these are too many
pub record AreDepthReasons (net : Net) (o : Outcome) (tree most : ℕ) (reasons : List Reason) : Type 0 where
  pub greatest : ℕ
  pub none_deeper : (bridge : List ℕ) (steps : ℕ) → HasSteps (trees_of net o) tree bridge steps → steps ≤ greatest
  pub deepest : List (List ℕ)
  pub are_deepest : AreThose (λ bridge. HasSteps (trees_of net o) tree bridge greatest) (fin.keys net.bridges) deepest
  pub some : (greatest ≡ 0) ⊎ (has_any deepest ≡ true)
  pub are : reasons ≡ (if nat_lt most greatest then why.Depth tree greatest deepest ∷ [] else [])

-- ---- paths of VIDs
-- the two of these bridges between which a path has the most hops, where these are too many
abbrev pub hops_reason : ℕ → List ℕ → Option Stretch → List Reason
hops_reason most vids None = []
hops_reason most vids (Some s) = if nat_lt most s.hops then why.TooManyHops (set_where (is_among vids)) s.hops s.bridges ∷ [] else []

abbrev pub AreHopsReasons : Net → Outcome → List Bool → ℕ → List (List ℕ) → List Reason → Type 0
AreHopsReasons net o vids most bridges reasons = AreVidReasons (HasLongest net o bridges) (hops_reason most) vids reasons

-- the bridges that the path from a to b meets, where c is none of them
abbrev pub via_reason : List ℕ → List ℕ → Option Stretch → List Reason
via_reason c vids None = []
via_reason c vids (Some s) = if is_in s.bridges c then [] else why.NotVia (set_where (is_among vids)) s.bridges ∷ []

abbrev pub AreViaReasons : Net → Outcome → List Bool → List ℕ → List ℕ → List ℕ → List Reason → Type 0
AreViaReasons net o vids a b c reasons = AreVidReasons (HasStretch net o a b) (via_reason c) vids reasons

-- ---- what LANs carry
-- of the VIDs that don't go over a LAN, and of those that do, if there are any
abbrev pub carries_reason : List ℕ → List ℕ → List Reason
carries_reason lan vids = if has_any vids then why.Carries lan (set_where (is_among vids)) ∷ [] else []

abbrev pub avoids_reason : List ℕ → List ℕ → List Reason
avoids_reason lan vids = if has_any vids then why.Avoids lan (set_where (is_among vids)) ∷ [] else []

-- ---- limits
-- what there is
abbrev pub some_of : {A : Type 0} → Option A → List A
some_of None = []
some_of (Some x) = x ∷ []

-- a number and a word, if it is one
abbrev pub number_in : Cell → Option ℕ
number_in (number n) = Some n
number_in _ = None

abbrev pub word_in : Cell → Option (List ℕ)
word_in (word w) = Some w
word_in _ = None

-- a note of a limit that binds: its tree, its bridge, and the numbers behind them
abbrev pub limit_of : NoteLine → ℕ → List ℕ → List ℕ → Option Reason
limit_of note_line.Hops tree bridge (depth ∷ limit ∷ []) = Some (why.Hops tree bridge depth limit)
limit_of note_line.Age tree bridge (depth ∷ limit ∷ []) = Some (why.Age tree bridge depth limit)
limit_of note_line.ExternalCost tree bridge (cost ∷ []) = Some (why.ExternalCost tree bridge cost)
limit_of note_line.InternalCost tree bridge (cost ∷ []) = Some (why.InternalCost tree bridge cost)
limit_of _ tree bridge numbers = None

abbrev pub limit_in : NoteLine → List Cell → Option Reason
limit_in line (tree ∷ bridge ∷ others) = option_and_then (λ t. option_and_then (λ b. limit_of line t b (filter_map number_in others)) (word_in bridge)) (number_in tree)
limit_in line _ = None

abbrev pub limit_reason : Kind → List Cell → Option Reason
limit_reason (kind.Note line) cells = limit_in line cells
limit_reason _ cells = None

pub record AreFitsReasons (net : Net) (o : Outcome) (reasons : List Reason) : Type 0 where
  pub notes : List Row
  pub are_notes : AreNoteRows net o notes
  pub are : reasons ≡ filter_map (λ note. limit_reason note.kind note.cells) notes

-- ---- all fourteen
abbrev pub AreReasons : Net → Outcome → Net → List Failure → Prior → Expectation → List Reason → Type 0
AreReasons net o before lost prior (expect.Root tree b next) reasons = AreRootReasons net o tree b next reasons
AreReasons net o before lost prior (expect.Region names) reasons = AreRegionReasons net (named net lost names) reasons
AreReasons net o before lost prior (expect.Role tree ports roles) reasons = reasons ≡ role_reasons net o tree (ports_named net before ports) roles
AreReasons net o before lost prior (expect.Reach vids names) reasons = AreReachReasons net o vids (named net lost names) reasons
AreReasons net o before lost prior (expect.Apart vids names others) reasons = AreApartReasons net o vids (named net lost names) (named net lost others) reasons
AreReasons net o before lost prior (expect.Leaves vids names) reasons = AreLeavesReasons net o vids (named net lost names) (unnamed net names) reasons
AreReasons net o before lost prior (expect.Together vids names) reasons = AreTogetherReasons prior.before prior.leaving net o vids lost names reasons
AreReasons net o before lost prior (expect.Leaf tree names) reasons = AreLeafReasons net o tree (named net lost names) reasons
AreReasons net o before lost prior (expect.Depth tree steps) reasons = AreDepthReasons net o tree steps reasons
AreReasons net o before lost prior (expect.Hops vids most names) reasons = AreHopsReasons net o vids most (named net lost names) reasons
AreReasons net o before lost prior (expect.Via vids a b c) reasons = AreViaReasons net o vids a b c reasons
AreReasons net o before lost prior (expect.Carries lan vids) reasons = reasons ≡ carries_reason lan (not_as_wanted net o lan true vids)
AreReasons net o before lost prior (expect.Avoids lan vids) reasons = reasons ≡ avoids_reason lan (not_as_wanted net o lan false vids)
AreReasons net o before lost prior expect.Fits reasons = AreFitsReasons net o reasons

-- there is at most one list of them
abbrev pub HasOneList : Net → Outcome → Net → List Failure → Prior → Expectation → Type 0
HasOneList net o before lost prior expectation = (reasons other : List Reason) → AreReasons net o before lost prior expectation reasons → AreReasons net o before lost prior expectation other → reasons ≡ other

-- What a promise names and the network hasn't, or that nothing is judged of it there.
use Rattle.std.specs.Prelude.{ℕ, ◌==◌, ◌||◌, ◌&&◌, not, Bool, false, List, [], ◌∷◌, ◌++◌, Option, Some, None, map, codes, if◌then◌else◌}
use Rattle.std.specs.List.{list_all, list_any}
use Rattle.std.specs.Option.{option_map_or}
use Rattle.std.specs.FinMap as fin
use Rattle.mst_ids.specs.declared.name.PortName.{PortName}
use Rattle.mst_tables.specs.Tables.{Net}
use Rattle.mst_roles.specs.forest.Msti.{is_had}
use Rattle.mst_view.specs.View.{port_names}
use Rattle.mst_graph.specs.Lists.{has_any}
use Rattle.mst_sweep.specs.Failures.{Event}
use Rattle.mst_sweep.specs.SweepText.{cause_name}
use Rattle.mst_policy.specs.Items.{item_has, port_item_has}
use Rattle.mst_policy.specs.declared.item.NameItem.{NameItem}
use Rattle.mst_policy.specs.declared.item.NameItem.TheVariants.{Is}
use Rattle.mst_policy.specs.declared.item.PortItem.{PortItem}
use Rattle.mst_policy.specs.declared.expectation.Expectation.{Expectation}
use Rattle.mst_policy.specs.declared.expectation.Expectation.TheVariants as expect
use Rattle.mst_policy.specs.declared.expectation.Promise.{Promise}
use Rattle.mst_policy.specs.declared.expectation.Scope.{Scope}
use Rattle.mst_policy.specs.declared.expectation.Scope.TheVariants as scope
use Rattle.mst_reasons.specs.Judged.{asks}
use Rattle.mst_reasons.specs.Risks.{has_one}
use Rattle.mst_reasons.specs.declared.missing.Missing.{Missing}
use Rattle.mst_reasons.specs.declared.missing.Missing.TheVariants as lacking

-- ---- what a promise names
-- its tree
abbrev pub tree_of : Expectation → Option ℕ
tree_of (expect.Root tree b next) = Some tree
tree_of (expect.Role tree ports roles) = Some tree
tree_of (expect.Leaf tree names) = Some tree
tree_of (expect.Depth tree steps) = Some tree
tree_of _ = None

-- bridges by themselves, as items of a list
abbrev pub next_item : Option (List ℕ) → List NameItem
next_item None = []
next_item (Some c) = Is c ∷ []

-- the bridges of an expectation
abbrev pub bridges_of : Expectation → List NameItem
bridges_of (expect.Root tree b next) = Is b ∷ next_item next
bridges_of (expect.Region names) = names
bridges_of (expect.Role tree ports roles) = map (λ item. item.bridge) ports
bridges_of (expect.Reach vids names) = names
bridges_of (expect.Apart vids names others) = names ++ others
bridges_of (expect.Leaves vids names) = names
bridges_of (expect.Together vids names) = names
bridges_of (expect.Leaf tree names) = names
bridges_of (expect.Hops vids most names) = names
bridges_of (expect.Via vids a b c) = Is a ∷ Is b ∷ Is c ∷ []
bridges_of _ = []

-- its ports
abbrev pub ports_of : Expectation → List PortItem
ports_of (expect.Role tree ports roles) = ports
ports_of _ = []

-- its LAN
abbrev pub lans_of : Expectation → List NameItem
lans_of (expect.Carries lan vids) = Is lan ∷ []
lans_of (expect.Avoids lan vids) = Is lan ∷ []
lans_of _ = []

-- the bridges and the LANs of a scope
abbrev pub scope_bridges : Scope → List NameItem
scope_bridges (scope.AfterBridge names) = names
scope_bridges _ = []

abbrev pub scope_lans : Scope → List NameItem
scope_lans (scope.AfterLan names) = names
scope_lans _ = []

-- ---- what is there
-- the CIST, or a tree that some bridge has, on or off
abbrev pub is_tree : Net → ℕ → Bool
is_tree net tree = tree == 0 || is_had net tree

-- an item of PORTS has one of these ports
abbrev pub has_port : List PortName → PortItem → Bool
has_port ports item = list_any (port_item_has item) ports

-- some event is of a name which an item has, and the promise is judged after it
abbrev pub has_event : List Event → Promise → NameItem → Bool
has_event events promise item = list_any (λ event. item_has item (cause_name event.cause) && asks promise event) events

-- there are items, and each has such an event
abbrev pub have_events : List Event → Promise → List NameItem → Bool
have_events events promise items = has_any items && list_all (has_event events promise) items

-- ---- what is missing, the least first
abbrev pub lacks_tree : Net → Promise → Bool
lacks_tree net promise = option_map_or (λ tree. not (is_tree net tree)) (tree_of promise.expectation) false

-- where there is no bridge at all, nothing is promised
abbrev pub lacks_bridge : Net → Promise → Bool
lacks_bridge net promise = not (has_any (fin.keys net.bridges) && list_all (has_one (fin.keys net.bridges)) (scope_bridges promise.scope ++ bridges_of promise.expectation))

abbrev pub lacks_port : Net → Promise → Bool
lacks_port net promise = not (list_all (has_port (port_names net)) (ports_of promise.expectation))

abbrev pub lacks_lan : Net → Promise → Bool
lacks_lan net promise = not (list_all (has_one (fin.keys net.lans)) (scope_lans promise.scope ++ lans_of promise.expectation))

-- a promise of what comes after events is judged after one of each item of its scope: each bridge of an item may be off, each LAN
-- down, no risk left that has a failure, or all left out because the expectation names what fails
abbrev pub lacks_event_of : List Event → Promise → Scope → Bool
lacks_event_of events promise (scope.AfterLan names) = not (have_events events promise names)
lacks_event_of events promise (scope.AfterBridge names) = not (have_events events promise names)
lacks_event_of events promise (scope.AfterRisk names) = not (have_events events promise names)
lacks_event_of events promise _ = false

abbrev pub lacks_event : List Event → Promise → Bool
lacks_event events promise = lacks_event_of events promise promise.scope

-- by the events of the network
abbrev pub missing : Net → List Event → Promise → Option Missing
missing net events promise =
    if lacks_tree net promise then Some lacking.Tree
    else (if lacks_bridge net promise then Some lacking.Bridge
    else (if lacks_port net promise then Some lacking.Port
    else (if lacks_lan net promise then Some lacking.Lan
    else (if lacks_event events promise then Some lacking.Failure else None))))

-- ---- what is printed
abbrev pub code_of : Missing → List ℕ
code_of lacking.Tree = codes "E03"
code_of lacking.Bridge = codes "E04"
code_of lacking.Port = codes "E05"
code_of lacking.Lan = codes "E06"
code_of lacking.Failure = codes "E17"

-- the first four as in a script
abbrev pub text_of : Missing → List ℕ
text_of lacking.Tree = codes "bad VID or tree"
text_of lacking.Bridge = codes "no such bridge"
text_of lacking.Port = codes "no such port"
text_of lacking.Lan = codes "no such LAN"
text_of lacking.Failure = codes "nothing to judge"

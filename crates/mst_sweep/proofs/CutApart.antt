-- A VID of which every logical port is a member is cut just where failures take apart what enabled ports link.
use Rattle.std.proofs.Common.{◌≡◌, ℕ, ◌==◌, ◌&&◌, not, Bool, true, false, List, [], ◌∷◌, filter, Option, Some, None, refl, sym, ap, subst, ◌∙◌, true≢false}
use Rattle.std.specs.Prelude.{◌↔◌, if◌then◌else◌}
use Rattle.std.specs.Cmp.Lexicographic.{bytes_decides}
use Rattle.std.specs.FinMap as fin
use Rattle.std.specs.List.{Contains, find, list_any}
use Rattle.std.specs.Option.{option_map, option_map_or, option_and_then}
use Rattle.std.proofs.lemmas.Bool.{eqb-true, eq-eqb}
use Rattle.mst_graph.specs.Islands.{Island, Link, AreJoined, link_ends}
use Rattle.mst_graph.specs.Walks.{Walk, Node, bridge_at, lan_at}
use Rattle.mst_graph.proofs.Members.{in_map, from_map, in_filter, from_filter, passing}
use Rattle.mst_net.specs.tables.After.{effect}
use Rattle.mst_net.specs.tables.Tables.{Net, IsNetwork, BridgeRow, port_eq}
use Rattle.mst_view.specs.Aggregation.{plugs, same_name}
use Rattle.mst_view.specs.View.{LogicalPort, IsUnrestricted, logical_port, as_port, view_ports, bridge_names}
use Rattle.mst_vlan.specs.forest.Outcome.{Outcome, IsOutcome}
use Rattle.mst_vlan.proofs.forest_lemmas.Lists.{kept_in, kept_from, no_some, some_is}
use Rattle.mst_vlan.specs.roles.Roles.{forwards_for}
use Rattle.mst_vlan.specs.roles.Active.{active_ports, port_ends, IsEnabled}
use Rattle.mst_vlan.specs.Reach.{bridges_on, is_member, link_of, vid_links, AreIslandsOf}
use Rattle.mst_vlan.proofs.roles_lemmas.ActiveLaw.{active_enabled}
use Rattle.mst_vlan.proofs.roles_lemmas.Carried.{carried}
use Rattle.mst_graph.specs.Lists.{has_any}
use Rattle.mst_facts.proofs.Lists.{find-found}
use Rattle.mst_sweep.specs.Apart.{AllAreMembers, AreLinked, ComeApart}
use Rattle.mst_sweep.specs.Failures.{edit_of, failed}
use Rattle.mst_sweep.specs.Parts.{home, stays_at, staying, are_together, came_apart, leads, part, part_led, all_parts, AreParts}
use Rattle.mst_sweep.specs.declared.failure.Failure.{Failure}
use Rattle.mst_sweep.specs.declared.failure.Failure.TheVariants.{Lan, Bridge}
use Rattle.mst_sweep.specs.declared.parts.Stays.{Stays}
use Rattle.mst_sweep.proofs.Joined.{has_home, home_on, home_joined, joined_home}
use Rattle.mst_sweep.proofs.Together.{failed_network}
use Rattle.mst_sweep.proofs.Positions.{any_passes, has_first, has_text, from_text}

-- ---- booleans
pub both_true : (b c : Bool) → (b && c) ≡ true → (b ≡ true) × (c ≡ true)
both_true true c e = (refl, e)
both_true false c e = absurd (true≢false (sym e))

pub true_both : (b c : Bool) → b ≡ true → c ≡ true → (b && c) ≡ true
true_both b c e f = ap (λ b. b && c) e ∙ f

pub not_true : (b : Bool) → not b ≡ true → b ≡ true → ⊥
not_true true e f = true≢false (sym e)
not_true false e f = true≢false (sym f)

pub true_not : (b : Bool) → (b ≡ true → ⊥) → not b ≡ true
true_not true n = absurd (n refl)
true_not false n = refl

-- ---- parts, and bridges of an island that came apart
module _ (all : List Stays) where
  led_apart : (x : Stays) (b : Bool) (led : List (List (List ℕ))) → has_any (if b then led else []) ≡ true → b ≡ true
  led_apart x true led e = refl
  led_apart x false led e = absurd (true≢false (sym e))

  pub two_apart : has_any (all_parts all) ≡ true → (x : Stays) × (y : Stays) × Contains all x × Contains all y × (came_apart x y ≡ true)
  two_apart e =
      let r = from_text (part_led all) all e in
      let some = (both_true (list_any (came_apart r.0) all) (leads all r.0) (led_apart r.0 (list_any (came_apart r.0) all && leads all r.0) (part all r.0 ∷ []) r.2)).0 in
      let s = passing (came_apart r.0) all some in
      (r.0, s.0, r.1, s.1, s.2)

  module _ (x y : Stays) (one : Contains all x) (other : Contains all y) (e : came_apart x y ≡ true) where
    with_itself : are_together x x ≡ true
    with_itself = true_both (x.before == x.before) (x.after == x.after) (eq-eqb x.before x.before refl) (eq-eqb x.after x.after refl)

    abbrev leader : (l : Stays) × (find (are_together x) all ≡ Some l)
    leader = has_first (are_together x) all x one with_itself

    abbrev first : Stays
    first = leader.0

    found : Contains all first × (are_together x first ≡ true)
    found = find-found (are_together x) all first leader.1

    before : first.before ≡ x.before
    before = eqb-true first.before x.before (both_true (first.before == x.before) (first.after == x.after) found.1).0

    after_is : first.after ≡ x.after
    after_is = eqb-true first.after x.after (both_true (first.before == x.before) (first.after == x.after) found.1).1

    its_leader : find (are_together first) all ≡ Some first
    its_leader = ap (λ n. find (λ (z : Stays). z.before == n && z.after == first.after) all) before ∙ ap (λ n. find (λ (z : Stays). z.before == x.before && z.after == n) all) after_is ∙ leader.1

    is_leader : leads all first ≡ true
    is_leader = ap (λ r. option_map_or (λ n. same_name n first.name) (option_map (λ (z : Stays). z.name) r) false) its_leader ∙ (bytes_decides first.name first.name).1 refl

    is_apart : came_apart first y ≡ true
    is_apart = ap (λ n. y.before == n && not (y.after == first.after)) before ∙ ap (λ n. y.before == x.before && not (y.after == n)) after_is ∙ e

    has_led : has_any (part_led all first) ≡ true
    has_led =
        ap (λ b. has_any (if b then part all first ∷ [] else []))
        (true_both (list_any (came_apart first) all) (leads all first) (any_passes (came_apart first) all y other is_apart) is_leader)

    pub have_parts : has_any (all_parts all) ≡ true
    have_parts = has_text (part_led all) all first found.0 has_led

-- ---- what enabled ports link, the members among the active ones join
module _ (net : Net) (o : Outcome) (vid : ℕ) (members : AllAreMembers net vid) where
  active_member : (p : LogicalPort) → Contains (active_ports net o vid) p → Contains (vid_links net o vid) (link_of p)
  active_member p h =
      let r = from_filter (forwards_for net o vid) (view_ports net) p h in
      in_map link_of (filter (is_member net vid) (active_ports net o vid)) p (in_filter (is_member net vid) (active_ports net o vid) p h (members p r.0))

  pub linked_joined : ((x y : List ℕ) → AreLinked net x y → Walk port_ends (Contains (active_ports net o vid)) (bridge_at x) (bridge_at y)) → (x y : List ℕ) → AreLinked net x y → AreJoined (vid_links net o vid) (bridge_at x) (bridge_at y)
  linked_joined active x y walk =
      carried port_ends link_ends (λ p h. record { edge = link_of p; kind = active_member p h; from = refl; to = refl }) (active x y walk)

  link_enabled : (k : Link (List ℕ) (List ℕ)) → Contains (vid_links net o vid) k → (p : LogicalPort) × IsEnabled net p × (link_of p ≡ k)
  link_enabled k h =
      let r = from_map link_of (filter (is_member net vid) (active_ports net o vid)) k h in
      let s = from_filter (is_member net vid) (active_ports net o vid) r.0 r.1 in
      let t = from_filter (forwards_for net o vid) (view_ports net) r.0 s.0 in
      (r.0, (t.0, active_enabled net o vid r.0 t.1), r.2)

  pub joined_linked : (x y : List ℕ) → AreJoined (vid_links net o vid) (bridge_at x) (bridge_at y) → AreLinked net x y
  joined_linked x y walk =
      carried link_ends port_ends
      (λ k h. let r = link_enabled k h in record { edge = r.0; kind = r.1; from = ap (λ (k : Link (List ℕ) (List ℕ)). bridge_at k.bridge) r.2; to = ap (λ (k : Link (List ℕ) (List ℕ)). lan_at k.lan) r.2 })
      walk

-- ---- what failures leave: all members stay members, and no role is restricted
one_free : (failure : Failure) (a : Net) → IsUnrestricted a → IsUnrestricted (effect (edit_of failure) a)
one_free (Lan lan) a free p h =
    let q = from_map (as_port (effect (edit_of (Lan lan)) a)) (filter (λ p. port_eq (logical_port a p).port p.port) (plugs a)) p h in
    subst (λ (p : LogicalPort). p.settings.is_restricted ≡ false) q.2 (free (as_port a q.0) (in_map (as_port a) (filter (λ p. port_eq (logical_port a p).port p.port) (plugs a)) q.0 q.1))
one_free (Bridge bridge) a free p h =
    let q = from_map (as_port (effect (edit_of (Bridge bridge)) a)) (filter (λ p. port_eq (logical_port a p).port p.port) (plugs a)) p h in
    subst (λ (p : LogicalPort). p.settings.is_restricted ≡ false) q.2 (free (as_port a q.0) (in_map (as_port a) (filter (λ p. port_eq (logical_port a p).port p.port) (plugs a)) q.0 q.1))

one_members : (failure : Failure) (a : Net) (vid : ℕ) → AllAreMembers a vid → AllAreMembers (effect (edit_of failure) a) vid
one_members (Lan lan) a vid all p h =
    let q = from_map (as_port (effect (edit_of (Lan lan)) a)) (filter (λ p. port_eq (logical_port a p).port p.port) (plugs a)) p h in
    subst (λ (p : LogicalPort). is_member a vid p ≡ true) q.2 (all (as_port a q.0) (in_map (as_port a) (filter (λ p. port_eq (logical_port a p).port p.port) (plugs a)) q.0 q.1))
one_members (Bridge bridge) a vid all p h =
    let q = from_map (as_port (effect (edit_of (Bridge bridge)) a)) (filter (λ p. port_eq (logical_port a p).port p.port) (plugs a)) p h in
    subst (λ (p : LogicalPort). is_member a vid p ≡ true) q.2 (all (as_port a q.0) (in_map (as_port a) (filter (λ p. port_eq (logical_port a p).port p.port) (plugs a)) q.0 q.1))

pub kept_free : (those : List Failure) (a : Net) → IsUnrestricted a → IsUnrestricted (failed those a)
kept_free [] a free = free
kept_free (Lan lan ∷ others) a free = kept_free others (effect (edit_of (Lan lan)) a) (one_free (Lan lan) a free)
kept_free (Bridge bridge ∷ others) a free = kept_free others (effect (edit_of (Bridge bridge)) a) (one_free (Bridge bridge) a free)

pub kept_members : (those : List Failure) (a : Net) (vid : ℕ) → AllAreMembers a vid → AllAreMembers (failed those a) vid
kept_members [] a vid all = all
kept_members (Lan lan ∷ others) a vid all = kept_members others (effect (edit_of (Lan lan)) a) vid (one_members (Lan lan) a vid all)
kept_members (Bridge bridge ∷ others) a vid all = kept_members others (effect (edit_of (Bridge bridge)) a) vid (one_members (Bridge bridge) a vid all)

-- ---- the law
pub stays_is : (olds news : List (Island (List ℕ) (List ℕ))) (name : List ℕ) (s : Stays) → stays_at olds news name ≡ Some s → (home olds name ≡ Some s.before) × (home news name ≡ Some s.after)
stays_is olds news name s e = go (home olds name) (home news name) e
  where
    go : (old new : Option ℕ) → option_and_then (λ before. option_map (λ after. let stays : Stays = record { name = name; before = before; after = after } in stays) new) old ≡ Some s → (old ≡ Some s.before) × (new ≡ Some s.after)
    go None new e = absurd (no_some s e)
    go (Some x) None e = absurd (no_some s e)
    go (Some x) (Some y) e = let same = some_is (record { name = name; before = x; after = y }) s e in (ap (λ (s : Stays). Some s.before) same, ap (λ (s : Stays). Some s.after) same)

module _ (a b : Net) (o p : Outcome) (vid : ℕ)
    (olds news : List (Island (List ℕ) (List ℕ)))
    (first_home : (name : List ℕ) → Contains (bridges_on a) name → (at : ℕ) × (home olds name ≡ Some at))
    (second_home : (name : List ℕ) → Contains (bridges_on b) name → (at : ℕ) × (home news name ≡ Some at))
    (first_on : (name : List ℕ) (at : ℕ) → home olds name ≡ Some at → Contains (bridges_on a) name)
    (second_on : (name : List ℕ) (at : ℕ) → home news name ≡ Some at → Contains (bridges_on b) name)
    (first_linked : (x y : List ℕ) (at : ℕ) → home olds x ≡ Some at → home olds y ≡ Some at → AreLinked a x y)
    (second_linked : (x y : List ℕ) (at : ℕ) → home news x ≡ Some at → home news y ≡ Some at → AreLinked b x y)
    (first_same : (x y : List ℕ) → Contains (bridges_on a) x → Contains (bridges_on a) y → AreLinked a x y → home olds x ≡ home olds y)
    (second_same : (x y : List ℕ) → Contains (bridges_on b) x → Contains (bridges_on b) y → AreLinked b x y → home news x ≡ home news y) where
  abbrev all : List Stays
  all = staying olds news (bridge_names a)

  pub cut_apart : has_any (all_parts all) ≡ true → ComeApart a b
  cut_apart e =
      let r = two_apart all e in
      let x = kept_from (stays_at olds news) (bridge_names a) r.0 r.2 in
      let y = kept_from (stays_at olds news) (bridge_names a) r.1 r.3 in
      let at_x = stays_is olds news x.0 r.0 x.2 in
      let at_y = stays_is olds news y.0 r.1 y.2 in
      let places = both_true (r.1.before == r.0.before) (not (r.1.after == r.0.after)) r.4 in
      let before : r.1.before ≡ r.0.before = eqb-true r.1.before r.0.before places.0 in
      record {
        first = x.0;
        second = y.0;
        first_on = first_on x.0 r.0.before at_x.0;
        second_on = first_on y.0 r.1.before at_y.0;
        first_stays = second_on x.0 r.0.after at_x.1;
        second_stays = second_on y.0 r.1.after at_y.1;
        linked = first_linked x.0 y.0 r.0.before at_x.0 (at_y.0 ∙ ap Some before);
        apart = λ walk.
            let same = sym at_x.1 ∙ second_same x.0 y.0 (second_on x.0 r.0.after at_x.1) (second_on y.0 r.1.after at_y.1) walk ∙ at_y.1 in
            not_true (r.1.after == r.0.after) places.1 (eq-eqb r.1.after r.0.after (sym (some_is r.0.after r.1.after same)));
      }

  row_named : (name : List ℕ) → Contains (bridges_on a) name → Contains (bridge_names a) name
  row_named name h =
      let r = from_map (λ (e : List ℕ × BridgeRow). e.0) (filter (λ (e : List ℕ × BridgeRow). e.1.is_on) (fin.entries a.bridges)) name h in
      subst (Contains (bridge_names a)) r.2 (in_map (λ (e : List ℕ × BridgeRow). e.0) (fin.entries a.bridges) r.0 (from_filter (λ (e : List ℕ × BridgeRow). e.1.is_on) (fin.entries a.bridges) r.0 r.1).0)

  there_all : (name : List ℕ) (before after : ℕ) → Contains (bridges_on a) name → home olds name ≡ Some before → home news name ≡ Some after → Contains all (record { name = name; before = before; after = after })
  there_all name before after on e f =
      kept_in (stays_at olds news) (bridge_names a) name (record { name = name; before = before; after = after }) (row_named name on)
      (ap (λ old. option_and_then (λ before. option_map (λ after. let stays : Stays = record { name = name; before = before; after = after } in stays) (home news name)) old) e
      ∙ ap (option_map (λ after. let stays : Stays = record { name = name; before = before; after = after } in stays)) f)

  pub apart_cut : ComeApart a b → has_any (all_parts all) ≡ true
  apart_cut c =
      let x = first_home c.first c.first_on in
      let x' = second_home c.first c.first_stays in
      let y' = second_home c.second c.second_stays in
      let before = sym (first_same c.first c.second c.first_on c.second_on c.linked) ∙ x.1 in
      let sx : Stays = record { name = c.first; before = x.0; after = x'.0 } in
      let sy : Stays = record { name = c.second; before = x.0; after = y'.0 } in
      have_parts all sx sy (there_all c.first x.0 x'.0 c.first_on x.1 x'.1) (there_all c.second x.0 y'.0 c.second_on before y'.1)
      (true_both (x.0 == x.0) (not (y'.0 == x'.0)) (eq-eqb x.0 x.0 refl)
      (true_not (y'.0 == x'.0) (λ same. c.apart (second_linked c.first c.second x'.0 x'.1 (y'.1 ∙ ap Some (eqb-true y'.0 x'.0 same))))))

-- what enabled ports link, active ports do, in any network where no role is restricted
abbrev ActiveLink : Type 0
ActiveLink = (net : Net) (o : Outcome) (vid : ℕ) → IsNetwork net → IsOutcome net o → IsUnrestricted net → (x y : Node (List ℕ) (List ℕ)) → Walk port_ends (IsEnabled net) x y → Walk port_ends (Contains (active_ports net o vid)) x y

module _ (net : Net) (o : Outcome) (vid : ℕ) (active : ActiveLink) (ok : IsNetwork net) (is : IsOutcome net o) (free : IsUnrestricted net) (members : AllAreMembers net vid) (islands : List (Island (List ℕ) (List ℕ))) (are : AreIslandsOf net o vid islands) where
  homes_linked : (x y : List ℕ) (at : ℕ) → home islands x ≡ Some at → home islands y ≡ Some at → AreLinked net x y
  homes_linked x y at e f = joined_linked net o vid members x y (home_joined net o vid islands are x y at e f)

  linked_homes : (x y : List ℕ) → Contains (bridges_on net) x → Contains (bridges_on net) y → AreLinked net x y → home islands x ≡ home islands y
  linked_homes x y first second walk =
      joined_home net o vid islands are x y first second (linked_joined net o vid members (λ x y. active net o vid ok is free (bridge_at x) (bridge_at y)) x y walk)

pub cut_by_failures : (a : Net) (o p : Outcome) (those : List Failure) (vid : ℕ) → ActiveLink → IsNetwork a → IsOutcome a o → IsOutcome (failed those a) p → IsUnrestricted a → AllAreMembers a vid
    → (parts : List (List (List ℕ))) → AreParts a o (failed those a) p vid parts → (has_any parts ≡ true) ↔ ComeApart a (failed those a)
cut_by_failures a o p those vid active ok is are free all parts h =
    let b = failed those a in
    let still = failed_network those a ok in
    let also_free : IsUnrestricted b = kept_free those a free in
    let also_all : AllAreMembers b vid = kept_members those a vid all in
    let olds = h.0 in
    let news = h.1 in
    let cut = cut_apart a b o p vid olds news (has_home a o vid olds h.2) (has_home b p vid news h.3) (home_on a o vid olds h.2) (home_on b p vid news h.3)
    (homes_linked a o vid active ok is free all olds h.2) (homes_linked b p vid active still are also_free also_all news h.3)
    (linked_homes a o vid active ok is free all olds h.2) (linked_homes b p vid active still are also_free also_all news h.3) in
    let apart = apart_cut a b o p vid olds news (has_home a o vid olds h.2) (has_home b p vid news h.3) (home_on a o vid olds h.2) (home_on b p vid news h.3)
    (homes_linked a o vid active ok is free all olds h.2) (homes_linked b p vid active still are also_free also_all news h.3)
    (linked_homes a o vid active ok is free all olds h.2) (linked_homes b p vid active still are also_free also_all news h.3) in
    (λ g. cut (ap has_any (sym h.4) ∙ g), λ g. ap has_any h.4 ∙ apart g)

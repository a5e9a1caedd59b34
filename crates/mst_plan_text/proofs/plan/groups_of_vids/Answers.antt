use Rattle.std.proofs.Common.{Vec, Global, ◌≡◌, ℕ, ◌+◌, ◌<◌, Bool, List, length, map, sym, ap, subst, ◌∙◌}
use Rattle.std.specs.List.{All, Contains}
use Rattle.std.proofs.lemmas.List.{length-map}
use Rattle.std.proofs.lemmas.Result.{IfOk-weaker}
use Rattle.mst_graph.proofs.Alike.{alike_groups}
use Rattle.mst_ids.specs.declared.name.PortName.{PortName}
use Rattle.mst_vlan.specs.forest.Agrees.{AreOf}
use Rattle.mst_vlan.specs.forest.Settled.{outcome_of}
use Rattle.mst_text.specs.VlanText.{ports_of_vid}
use Rattle.mst_text.proofs.vlan_lemmas.classes_lemmas.Firsts.{firsts_below}
use Rattle.mst_plan_text.specs.Bodies.{pair_of, pairs_at, pairs_of}
use Rattle.mst_text.specs.vlan.classes.AllVids.{all_vids, NumberEach}
use Rattle.mst_text.proofs.vlan_lemmas.classes_lemmas.VidPlaces.{vids_long, is_vid_there, numbers_below, each_below}
use Rattle.mst_plan_text.proofs.Classes.{are_pairs}
use Rattle.mst_plan_text.proofs.Grouped.{groups_given}
use Rattle.mst_plan_text.proofs.Pairs.{same_pairs, pairs_decide, ports_from_pairs}
use Rattle.mst_plan_text.proofs.plan.groups_of_vids.Goals as goal

abbrev Pairs : Type 0
Pairs = List (PortName × Bool)

abbrev items : Vec (PortName × Bool) Global → Pairs
items active = active.items

pub actives-requires : goal.actives-requires
actives-requires c =
    let are = c.in_ok-classes.ensures in
    subst (All (λ place. place < 4094)) (sym c.as_slice.ensures.value) (firsts_below are.numbers c.in_ok-classes.classes.numbers.items c.in_ok-classes.classes.firsts.items are.tell.as_long are.classes)

pub groups_by_body-requires-clause-as_long : goal.groups_by_body-requires-clause-as_long
groups_by_body-requires-clause-as_long c =
    let are = c.in_ok-classes.ensures in
    ap length c.as_slice-3.ensures.value ∙ are.classes.as_long ∙ are.tell.as_long ∙ sym (ap length (c.as_slice-2.ensures.value ∙ c.in_ok-vids.ensures) ∙ vids_long)

pub groups_by_body-requires-clause-below : goal.groups_by_body-requires-clause-below
groups_by_body-requires-clause-below c =
    let are = c.in_ok-classes.ensures in
    each_below are.numbers c.in_ok-classes.classes.numbers.items c.in_ok-classes.classes.firsts.items _ are.classes (c.in_ok-actives.ensures.as_long ∙ ap length c.as_slice.ensures.value) c.as_slice-3.result.now
    c.as_slice-3.ensures.value

pub returns : goal.returns
returns c =
    let s = c.args.plan.now in
    let o = outcome_of s in
    let v = c.view.result.now in
    let of : AreOf s.net s.numbers v s.forest.regions = subst (λ w. AreOf s.net s.numbers w s.forest.regions) (sym c.view.ensures) c.known.ensures.of in
    let are = c.in_ok-classes.ensures in
    let classes : List ℕ = c.in_ok-classes.classes.numbers.items in
    let firsts : List ℕ = c.in_ok-classes.classes.firsts.items in
    let f : ℕ → Pairs = λ place. pairs_of s.net o (place + 1) in
    let actives : List (Vec (PortName × Bool) Global) = c.in_ok-actives.actives.items in
    let all : List Pairs = map items actives in
    let all_is : all ≡ map f firsts = c.in_ok-actives.ensures.ports ∙ ap (map f) c.as_slice.ensures.value in
    let long : length actives ≡ length firsts = sym (length-map actives items) ∙ ap length all_is ∙ length-map firsts f in
    let each : NumberEach classes (length actives) = numbers_below are.numbers classes firsts (length actives) are.tell.as_long are.classes long in
    let at : (vid : ℕ) → Contains all_vids vid → pairs_at classes all vid ≡ pairs_of s.net o vid =
    λ vid h. are_pairs s.net s.numbers v s.forest of o are.tables are.sets are.have_tables are.have_sets are.numbers classes firsts are.tell are.classes all all_is vid (is_vid_there vid h) in
    IfOk-weaker c.groups_by_body.result _ _
    (λ groups by.
    alike_groups (λ x y. pairs_at classes all x ≡ pairs_at classes all y) (λ x y. ports_of_vid s.net o x ≡ ports_of_vid s.net o y) all_vids (map (λ (group : Vec ℕ Global). group.items) groups.items)
    (λ x y x_in y_in. (
      λ e. ports_from_pairs (ports_of_vid s.net o x) (ports_of_vid s.net o y) (sym (at x x_in) ∙ e ∙ at y y_in),
      λ e. at x x_in ∙ ap (map pair_of) e ∙ sym (at y y_in),
    ))
    (groups_given items (λ x y. same_pairs x.items y.items) (λ x y. pairs_decide x.items y.items) classes actives each c.as_slice-3.result.now c.as_slice-2.result.now c.as_slice-3.ensures.value
    (c.as_slice-2.ensures.value ∙ c.in_ok-vids.ensures) (map (λ (group : Vec ℕ Global). group.items) groups.items) by))
    c.groups_by_body.ensures

use Rattle.std.proofs.Common.{◌≡◌, ℕ, ◌+◌, ◌<◌, ◌⊎◌, [], ◌∷◌, ◌++◌, length, take, drop, get_or, sym, ap, subst, ◌∙◌}
use Rattle.std.proofs.lemmas.List.{take_more, take_at, take_all}
use Rattle.std.proofs.lemmas.List.Elements.{All-push, All-take, All-contains}
use Rattle.mst_graph.specs.Places.{placed}
use Rattle.mst_graph.specs.Walks.{bridge_at, lan_at}
use Rattle.mst_graph.specs.Islands.{Link}
use Rattle.mst_graph.specs.Labels.{AreParents, HaveLabels}
use Rattle.mst_graph.specs.Labelling.{IsPlaced, place_of, AreLabels}
use Rattle.mst_graph.proofs.Labelled.{none_labelled, more_labelled, place_below}
use Rattle.mst_graph.proofs.Parents.{own_parents, own_labels}
use Rattle.mst_graph.proofs.labelling.labels_by.Goals as goal

pub loop-link-init : goal.loop-link-init
loop-link-init c =
    let parents = c.in_ok-parents.parents.items in
    let bridges = placed c.args.places.now.bridges in
    let lans = placed c.args.places.now.lans in
    let long : length parents ≡ length bridges + length lans = c.in_ok-parents.ensures.count ∙ c.len.ensures in
    let own : (place : ℕ) → place < length parents → get_or parents place 0 ≡ place = λ place below. c.in_ok-parents.ensures.own place (subst (λ n. place < n) c.in_ok-parents.ensures.count below) in
    record {
      parents = own_parents parents own;
      labels = (parents, own_labels parents own, none_labelled bridges lans parents long (λ place below. own place (subst (λ n. place < n) (sym long) below)));
    }

pub join-requires-clause-first : goal.join-requires-clause-first
join-requires-clause-first c =
    let bridges = placed c.args.places.now.bridges in
    let lans = placed c.args.places.now.lans in
    let item = c.link-item.result in
    let at_bridge : c.bridge.result ≡ place_of bridges lans (bridge_at item.bridge) = c.bridge.ensures ∙ ap (λ (k : Link ℕ ℕ). place_of bridges lans (bridge_at k.bridge)) c.link.view_is in
    let placed = subst (λ (k : Link ℕ ℕ). IsPlaced bridges lans (bridge_at k.bridge) × IsPlaced bridges lans (lan_at k.lan)) (sym c.link-item.is) (c.requires c.loop-link.link-index item c.loop-link-test.true) in
    let l = c.loop-link.invariant.labels in
    let long : length c.as_mut_slice.result.now ≡ length bridges + length lans = ap length c.as_mut_slice.ensures.value ∙ sym l.1.as_long ∙ l.2.as_long in
    subst (λ n. c.bridge.result < n) (sym long) (subst (λ n. n < length bridges + length lans) (sym at_bridge) (place_below bridges lans (bridge_at item.bridge) placed.0))

pub join-requires-clause-second : goal.join-requires-clause-second
join-requires-clause-second c =
    let bridges = placed c.args.places.now.bridges in
    let lans = placed c.args.places.now.lans in
    let item = c.link-item.result in
    let at_lan : c.lan.result ≡ place_of bridges lans (lan_at item.lan) = c.lan.ensures ∙ ap (λ (k : Link ℕ ℕ). place_of bridges lans (lan_at k.lan)) c.link.view_is in
    let placed = subst (λ (k : Link ℕ ℕ). IsPlaced bridges lans (bridge_at k.bridge) × IsPlaced bridges lans (lan_at k.lan)) (sym c.link-item.is) (c.requires c.loop-link.link-index item c.loop-link-test.true) in
    let l = c.loop-link.invariant.labels in
    let long : length c.as_mut_slice.result.now ≡ length bridges + length lans = ap length c.as_mut_slice.ensures.value ∙ sym l.1.as_long ∙ l.2.as_long in
    subst (λ n. c.lan.result < n) (sym long) (subst (λ n. n < length bridges + length lans) (sym at_lan) (place_below bridges lans (lan_at item.lan) placed.1))

pub loop-link-preserved : goal.loop-link-preserved
loop-link-preserved c =
    let bridges = placed c.args.places.now.bridges in
    let lans = placed c.args.places.now.lans in
    let links = c.args.links.now in
    let i = c.loop-link.link-index in
    let item = c.link-item.result in
    let at_bridge : c.bridge.result ≡ place_of bridges lans (bridge_at item.bridge) = c.bridge.ensures ∙ ap (λ (k : Link ℕ ℕ). place_of bridges lans (bridge_at k.bridge)) c.link.view_is in
    let at_lan : c.lan.result ≡ place_of bridges lans (lan_at item.lan) = c.lan.ensures ∙ ap (λ (k : Link ℕ ℕ). place_of bridges lans (lan_at k.lan)) c.link.view_is in
    let l = c.loop-link.invariant.labels in
    let old = l.0 in
    let made = c.join.ensures.merged old (subst (λ ps. HaveLabels ps old) (sym c.as_mut_slice.ensures.value) l.1) in
    let new = made.0 in
    let m = made.2 in
    let P : Link ℕ ℕ → Type 0 = λ k. IsPlaced bridges lans (bridge_at k.bridge) × IsPlaced bridges lans (lan_at k.lan) in
    let more = take_more links i item c.loop-link-test.true ∙ ap (λ x. take i links ++ x ∷ []) (sym c.link-item.is) in
    let placed = All-push P (take i links) item (All-take P i links c.requires) (subst P (sym c.link-item.is) (c.requires i item c.loop-link-test.true)) in
    let which = subst (λ p. ((m.few ≡ get_or old p 0) × (m.many ≡ get_or old c.lan.result 0)) ⊎ ((m.few ≡ get_or old c.lan.result 0) × (m.many ≡ get_or old p 0))) at_bridge m.which in
    let which_two = subst (λ p. ((m.few ≡ get_or old (place_of bridges lans (bridge_at item.bridge)) 0) × (m.many ≡ get_or old p 0)) ⊎ ((m.few ≡ get_or old p 0) × (m.many ≡ get_or old (place_of bridges lans (bridge_at item.bridge)) 0))) at_lan which in
    let long : length c.join.new.parents ≡ length c.loop-link.parents.items = c.join.auto.parents ∙ ap length c.as_mut_slice.ensures.value in
    let new_is = take_at c.join.new.parents (drop (length c.join.new.parents) c.loop-link.parents.items) c.loop-link.parents.len (long ∙ sym c.loop-link.parents.ok.0) in
    record {
      parents = subst AreParents (sym new_is) c.join.ensures.parents;
      labels = (
        new,
        subst (λ ps. HaveLabels ps new) (sym new_is) made.1,
        subst (λ ks. AreLabels bridges lans ks new) (sym more)
            (more_labelled bridges lans (take i links) item old new l.2 (λ k h. All-contains P (take i links ++ item ∷ []) k placed h) m.few m.many m.merged which_two),
      );
    }

pub returns : goal.returns
returns c =
    let bridges = placed c.args.places.now.bridges in
    let lans = placed c.args.places.now.lans in
    let links = c.args.links.now in
    let l = c.loop-link.invariant.labels in
    let parents = c.loop-link.parents.items in
    let new = c.settle.new.parents in
    let long : length new ≡ length parents = c.settle.auto.parents ∙ ap length c.as_mut_slice-2.ensures.value in
    let new_is = take_at new (drop (length new) parents) c.loop-link.parents.len (long ∙ sym c.loop-link.parents.ok.0) in
    let settled : new ≡ l.0 = c.settle.ensures.labels l.0 (subst (λ ps. HaveLabels ps l.0) (sym c.as_mut_slice-2.ensures.value) l.1) in
    let all : take c.loop-link.link-index links ≡ links = take_all c.loop-link.link-index links c.loop-link-test.false in
    record {
      below = subst AreParents (sym new_is) c.settle.ensures.parents;
      labels = subst (AreLabels bridges lans links) (sym (new_is ∙ settled)) (subst (λ ks. AreLabels bridges lans ks l.0) all l.2);
    }

use Rattle.std.proofs.Common.{rules, ◌≡◌, ℕ, nat_eq, ◌+◌, ◌≤◌, ◌<◌, List, [], ◌∷◌, ◌++◌, length, map, replicate, take, drop, get_or, set, sym, ap, subst, ◌∙◌, arith}
use Rattle.std.specs.Cmp.{nat_eq_equiv}
use Rattle.std.specs.List.{All}
use Rattle.std.proofs.lemmas.List.{take_more, take_at, take_all, map_push, append-nil, append_assoc, length-replicate, get_or-replicate}
use Rattle.std.proofs.lemmas.List.Elements.{All-nil, All-set}
use Rattle.mst_graph.specs.Places.{placed}
use Rattle.mst_graph.specs.Walks.{Node, bridge_at, lan_at}
use Rattle.mst_graph.specs.Islands.{Island, nodes}
use Rattle.mst_graph.specs.Labels.{AreParents}
use Rattle.mst_graph.specs.Labelling.{IsPlaced, place_of, label_of}
use Rattle.mst_graph.proofs.Grouped.{all_by}
use Rattle.mst_graph.proofs.Labelled as labelled
use Rattle.mst_graph.proofs.Filled.{Filled, none_filled, place_below, one_filled, bridge_member, lan_member, no_lan_more}
use Rattle.mst_graph.proofs.filling.islands_by.Goals as goal

-- a node of a list has a place with a label
placed_below : (bridges lans labels : List ℕ) (node_at : ℕ → Node ℕ ℕ) (numbers : List ℕ) (i number place : ℕ) → length labels ≡ length bridges + length lans
    → All (λ n. IsPlaced bridges lans (node_at n)) numbers → i < length numbers → number ≡ get_or numbers i number → place ≡ place_of bridges lans (node_at number) → place < length labels
placed_below bridges lans labels node_at numbers i number place long placed below is at =
    subst (λ n. place < n) (sym long)
    (subst (λ n. n < length bridges + length lans) (sym at)
    (labelled.place_below bridges lans (node_at number) (subst (λ n. IsPlaced bridges lans (node_at n)) (sym is) (placed i number below))))

-- a label is below the number of labels
label_below : (labels : List ℕ) (place count : ℕ) → AreParents labels → place < length labels → count ≡ length labels → get_or labels place 0 < count
label_below labels place count are below e = let low : get_or labels place 0 ≤ place = are place below in omega arith

pub loop-bridge-init : goal.loop-bridge-init
loop-bridge-init c =
    let counts = c.in_ok-counts.counts.items in
    let count = length c.args.labels.now in
    let are : counts ≡ replicate count 0 = c.in_ok-counts.ensures.items_if_clones_equal (λ y h. h) in
    let long : length counts ≡ count = ap length are ∙ length-replicate count 0 in
    record {
      counts = long;
      filled = rw c.new-islands.ensures.items (none_filled _ counts (λ l below. ap (λ cs. get_or cs l 0) are ∙ get_or-replicate count l 0 0 (subst (λ n. l < n) long below)));
      no_lan = rw c.new-islands.ensures.items (All-nil (λ (i : Island ℕ ℕ). i.lans ≡ []));
    }

pub loop-lan-init : goal.loop-lan-init
loop-lan-init c =
    let inv = c.loop-bridge.invariant in
    let bridges = c.args.bridges.now in
    let label = label_of (placed c.args.places.now.bridges) (placed c.args.places.now.lans) c.args.labels.now in
    let all : take c.loop-bridge.bridge-index bridges ≡ bridges = take_all c.loop-bridge.bridge-index bridges c.loop-bridge-test.false in
    record {
      counts = inv.counts;
      filled = subst (λ ns. Filled label ns c.loop-bridge.counts.items c.loop-bridge.islands.items) (ap (map bridge_at) all ∙ sym (append-nil (map bridge_at bridges))) inv.filled;
    }

pub returns : goal.returns
returns c =
    let f = c.loop-lan.invariant.filled in
    let bridges = c.args.bridges.now in
    let lans = c.args.lans.now in
    let label = label_of (placed c.args.places.now.bridges) (placed c.args.places.now.lans) c.args.labels.now in
    let all : take c.loop-lan.lan-index lans ≡ lans = take_all c.loop-lan.lan-index lans c.loop-lan-test.false in
    let done = subst (λ ls. Filled label (nodes bridges ls) c.loop-lan.counts.items c.loop-lan.islands.items) all f in
    all_by nat_eq nat_eq_equiv label (nodes bridges lans) done.met _ done.grouped

pub bounds-labels-bridge : goal.bounds-labels-bridge
bounds-labels-bridge c =
    let bridges = placed c.args.places.now.bridges in
    let lans = placed c.args.places.now.lans in
    placed_below bridges lans c.args.labels.now bridge_at c.args.bridges.now c.loop-bridge.bridge-index c.bridge-item.result c.bridge.result c.requires.as_long c.requires.bridges c.loop-bridge-test.true c.bridge-item.is c.bridge.ensures

pub offset_bounds-labels-bridge : goal.offset_bounds-labels-bridge
offset_bounds-labels-bridge c =
    let bridges = placed c.args.places.now.bridges in
    let lans = placed c.args.places.now.lans in
    let below = placed_below bridges lans c.args.labels.now bridge_at c.args.bridges.now c.loop-bridge.bridge-index c.bridge-item.result c.bridge.result c.requires.as_long c.requires.bridges c.loop-bridge-test.true c.bridge-item.is c.bridge.ensures in
    search (rules, below)

pub island_of-requires : goal.island_of-requires
island_of-requires c =
    let bridges = placed c.args.places.now.bridges in
    let lans = placed c.args.places.now.lans in
    let below = placed_below bridges lans c.args.labels.now bridge_at c.args.bridges.now c.loop-bridge.bridge-index c.bridge-item.result c.bridge.result c.requires.as_long c.requires.bridges c.loop-bridge-test.true c.bridge-item.is c.bridge.ensures in
    label_below c.args.labels.now c.bridge.result (length c.as_mut_slice.result.now) c.requires.labels below (ap length c.as_mut_slice.ensures.value ∙ c.loop-bridge.invariant.counts)

pub index_mut-requires : goal.index_mut-requires
index_mut-requires c =
    let bridges = placed c.args.places.now.bridges in
    let lans = placed c.args.places.now.lans in
    let below = placed_below bridges lans c.args.labels.now bridge_at c.args.bridges.now c.loop-bridge.bridge-index c.bridge-item.result c.bridge.result c.requires.as_long c.requires.bridges c.loop-bridge-test.true c.bridge-item.is c.bridge.ensures in
    let labels = c.args.labels.now in
    let counts = c.as_mut_slice.result.now in
    let islands = c.loop-bridge.islands.items in
    let item = c.bridge-item.result in
    let l = get_or labels c.bridge.result 0 in
    let label = label_of bridges lans labels in
    let things = map bridge_at (take c.loop-bridge.bridge-index c.args.bridges.now) in
    let l_below = label_below labels c.bridge.result (length counts) c.requires.labels below (ap length c.as_mut_slice.ensures.value ∙ c.loop-bridge.invariant.counts) in
    let before = subst (λ cs. Filled label things cs islands) (sym c.as_mut_slice.ensures.value) c.loop-bridge.invariant.filled in
    let of_item : l ≡ label (bridge_at item) = ap (λ p. get_or labels p 0) c.bridge.ensures in
    let p = c.in_ok-place.place in
    let new_counts = c.island_of.new.counts in
    let new_islands = c.island_of.new.islands.items in
    let within = place_below label things counts islands before (bridge_at item) l of_item l_below new_counts new_islands p c.in_ok-place.ensures.place c.in_ok-place.ensures.islands in
    subst (λ n. p < n) (sym c.island_of.new.islands.ok.0) within

pub loop-bridge-preserved : goal.loop-bridge-preserved
loop-bridge-preserved c =
    let bridges = placed c.args.places.now.bridges in
    let lans = placed c.args.places.now.lans in
    let below = placed_below bridges lans c.args.labels.now bridge_at c.args.bridges.now c.loop-bridge.bridge-index c.bridge-item.result c.bridge.result c.requires.as_long c.requires.bridges c.loop-bridge-test.true c.bridge-item.is c.bridge.ensures in
    let labels = c.args.labels.now in
    let counts = c.as_mut_slice.result.now in
    let islands = c.loop-bridge.islands.items in
    let item = c.bridge-item.result in
    let l = get_or labels c.bridge.result 0 in
    let label = label_of bridges lans labels in
    let things = map bridge_at (take c.loop-bridge.bridge-index c.args.bridges.now) in
    let l_below = label_below labels c.bridge.result (length counts) c.requires.labels below (ap length c.as_mut_slice.ensures.value ∙ c.loop-bridge.invariant.counts) in
    let before = subst (λ cs. Filled label things cs islands) (sym c.as_mut_slice.ensures.value) c.loop-bridge.invariant.filled in
    let of_item : l ≡ label (bridge_at item) = ap (λ p. get_or labels p 0) c.bridge.ensures in
    let p = c.in_ok-place.place in
    let new_counts = c.island_of.new.counts in
    let new_islands = c.island_of.new.islands.items in
    let within = place_below label things counts islands before (bridge_at item) l of_item l_below new_counts new_islands p c.in_ok-place.ensures.place c.in_ok-place.ensures.islands in
    let old = c.index_mut.result.now in
    let new = c.add_bridge.new.self in
    let long : length new_counts ≡ length c.loop-bridge.counts.items = c.island_of.auto.counts ∙ ap length c.as_mut_slice.ensures.value in
    let counts_are = take_at new_counts (drop (length new_counts) c.loop-bridge.counts.items) c.loop-bridge.counts.len (long ∙ sym c.loop-bridge.counts.ok.0) in
    let more = take_more c.args.bridges.now c.loop-bridge.bridge-index item c.loop-bridge-test.true ∙ ap (λ x. take c.loop-bridge.bridge-index c.args.bridges.now ++ x ∷ []) (sym c.bridge-item.is) in
    let things_then : List (Node ℕ ℕ) = map bridge_at (take (c.loop-bridge.bridge-index + 1) c.args.bridges.now) in
    let things_are : things_then ≡ things ++ bridge_at item ∷ [] = ap (map bridge_at) more ∙ map_push bridge_at (take c.loop-bridge.bridge-index c.args.bridges.now) item in
    let none = no_lan_more _ islands c.loop-bridge.invariant.no_lan in
    let none_new = subst (All (λ (i : Island ℕ ℕ). i.lans ≡ [])) (sym c.in_ok-place.ensures.islands) none in
    let none_old : old.lans ≡ [] = ap (λ (i : Island ℕ ℕ). i.lans) c.index_mut.ensures.value ∙ none_new p old within in
    let filled = one_filled label things counts islands before (bridge_at item) l of_item l_below new_counts new_islands p c.in_ok-place.ensures.place c.in_ok-place.ensures.islands c.in_ok-place.ensures.counts
    old new c.index_mut.ensures.value (bridge_member old new item none_old c.in_ok-add_bridge.ensures.bridges c.in_ok-add_bridge.ensures.lans) in
    record {
      counts = ap length counts_are ∙ long ∙ c.loop-bridge.invariant.counts;
      filled =
          subst (λ cs. Filled label things_then cs (set new_islands p new)) (sym counts_are)
          (subst (λ ns. Filled label ns new_counts (set new_islands p new)) (sym things_are) filled);
      no_lan = All-set (λ (i : Island ℕ ℕ). i.lans ≡ []) new_islands p new (c.in_ok-add_bridge.ensures.lans ∙ none_old) none_new;
    }

pub bounds-labels-lan : goal.bounds-labels-lan
bounds-labels-lan c =
    let bridges = placed c.args.places.now.bridges in
    let lans = placed c.args.places.now.lans in
    placed_below bridges lans c.args.labels.now lan_at c.args.lans.now c.loop-lan.lan-index c.lan-item.result c.lan.result c.requires.as_long c.requires.lans c.loop-lan-test.true c.lan-item.is c.lan.ensures

pub offset_bounds-labels-lan : goal.offset_bounds-labels-lan
offset_bounds-labels-lan c =
    let bridges = placed c.args.places.now.bridges in
    let lans = placed c.args.places.now.lans in
    let below = placed_below bridges lans c.args.labels.now lan_at c.args.lans.now c.loop-lan.lan-index c.lan-item.result c.lan.result c.requires.as_long c.requires.lans c.loop-lan-test.true c.lan-item.is c.lan.ensures in
    search (rules, below)

pub island_of-requires-in-loop-lan : goal.island_of-requires-in-loop-lan
island_of-requires-in-loop-lan c =
    let bridges = placed c.args.places.now.bridges in
    let lans = placed c.args.places.now.lans in
    let below = placed_below bridges lans c.args.labels.now lan_at c.args.lans.now c.loop-lan.lan-index c.lan-item.result c.lan.result c.requires.as_long c.requires.lans c.loop-lan-test.true c.lan-item.is c.lan.ensures in
    label_below c.args.labels.now c.lan.result (length c.as_mut_slice-in-loop-lan.result.now) c.requires.labels below (ap length c.as_mut_slice-in-loop-lan.ensures.value ∙ c.loop-lan.invariant.counts)

pub index_mut-requires-in-loop-lan : goal.index_mut-requires-in-loop-lan
index_mut-requires-in-loop-lan c =
    let bridges = placed c.args.places.now.bridges in
    let lans = placed c.args.places.now.lans in
    let below = placed_below bridges lans c.args.labels.now lan_at c.args.lans.now c.loop-lan.lan-index c.lan-item.result c.lan.result c.requires.as_long c.requires.lans c.loop-lan-test.true c.lan-item.is c.lan.ensures in
    let labels = c.args.labels.now in
    let counts = c.as_mut_slice-in-loop-lan.result.now in
    let islands = c.loop-lan.islands.items in
    let item = c.lan-item.result in
    let l = get_or labels c.lan.result 0 in
    let label = label_of bridges lans labels in
    let things = nodes c.args.bridges.now (take c.loop-lan.lan-index c.args.lans.now) in
    let l_below = label_below labels c.lan.result (length counts) c.requires.labels below (ap length c.as_mut_slice-in-loop-lan.ensures.value ∙ c.loop-lan.invariant.counts) in
    let before = subst (λ cs. Filled label things cs islands) (sym c.as_mut_slice-in-loop-lan.ensures.value) c.loop-lan.invariant.filled in
    let of_item : l ≡ label (lan_at item) = ap (λ p. get_or labels p 0) c.lan.ensures in
    let p = c.in_ok-place-2.place in
    let new_counts = c.island_of-in-loop-lan.new.counts in
    let new_islands = c.island_of-in-loop-lan.new.islands.items in
    let within = place_below label things counts islands before (lan_at item) l of_item l_below new_counts new_islands p c.in_ok-place-2.ensures.place c.in_ok-place-2.ensures.islands in
    subst (λ n. p < n) (sym c.island_of-in-loop-lan.new.islands.ok.0) within

pub loop-lan-preserved : goal.loop-lan-preserved
loop-lan-preserved c =
    let bridges = placed c.args.places.now.bridges in
    let lans = placed c.args.places.now.lans in
    let below = placed_below bridges lans c.args.labels.now lan_at c.args.lans.now c.loop-lan.lan-index c.lan-item.result c.lan.result c.requires.as_long c.requires.lans c.loop-lan-test.true c.lan-item.is c.lan.ensures in
    let labels = c.args.labels.now in
    let counts = c.as_mut_slice-in-loop-lan.result.now in
    let islands = c.loop-lan.islands.items in
    let item = c.lan-item.result in
    let l = get_or labels c.lan.result 0 in
    let label = label_of bridges lans labels in
    let things = nodes c.args.bridges.now (take c.loop-lan.lan-index c.args.lans.now) in
    let l_below = label_below labels c.lan.result (length counts) c.requires.labels below (ap length c.as_mut_slice-in-loop-lan.ensures.value ∙ c.loop-lan.invariant.counts) in
    let before = subst (λ cs. Filled label things cs islands) (sym c.as_mut_slice-in-loop-lan.ensures.value) c.loop-lan.invariant.filled in
    let of_item : l ≡ label (lan_at item) = ap (λ p. get_or labels p 0) c.lan.ensures in
    let p = c.in_ok-place-2.place in
    let new_counts = c.island_of-in-loop-lan.new.counts in
    let new_islands = c.island_of-in-loop-lan.new.islands.items in
    let within = place_below label things counts islands before (lan_at item) l of_item l_below new_counts new_islands p c.in_ok-place-2.ensures.place c.in_ok-place-2.ensures.islands in
    let old = c.index_mut-in-loop-lan.result.now in
    let new = c.add_lan.new.self in
    let long : length new_counts ≡ length c.loop-lan.counts.items = c.island_of-in-loop-lan.auto.counts ∙ ap length c.as_mut_slice-in-loop-lan.ensures.value in
    let counts_are = take_at new_counts (drop (length new_counts) c.loop-lan.counts.items) c.loop-lan.counts.len (long ∙ sym c.loop-lan.counts.ok.0) in
    let more = take_more c.args.lans.now c.loop-lan.lan-index item c.loop-lan-test.true ∙ ap (λ x. take c.loop-lan.lan-index c.args.lans.now ++ x ∷ []) (sym c.lan-item.is) in
    let things_then : List (Node ℕ ℕ) = nodes c.args.bridges.now (take (c.loop-lan.lan-index + 1) c.args.lans.now) in
    let things_are : things_then ≡ things ++ lan_at item ∷ [] =
    ap (nodes c.args.bridges.now) more ∙ ap (λ xs. map bridge_at c.args.bridges.now ++ xs) (map_push lan_at (take c.loop-lan.lan-index c.args.lans.now) item)
    ∙ sym (append_assoc (map bridge_at c.args.bridges.now) (map lan_at (take c.loop-lan.lan-index c.args.lans.now)) (lan_at item ∷ [])) in
    let filled = one_filled label things counts islands before (lan_at item) l of_item l_below new_counts new_islands p c.in_ok-place-2.ensures.place c.in_ok-place-2.ensures.islands c.in_ok-place-2.ensures.counts
    old new c.index_mut-in-loop-lan.ensures.value (lan_member old new item c.in_ok-add_lan.ensures.bridges c.in_ok-add_lan.ensures.lans) in
    record {
      counts = ap length counts_are ∙ long ∙ c.loop-lan.invariant.counts;
      filled =
          subst (λ cs. Filled label things_then cs (set new_islands p new)) (sym counts_are)
          (subst (λ ns. Filled label ns new_counts (set new_islands p new)) (sym things_are) filled);
    }

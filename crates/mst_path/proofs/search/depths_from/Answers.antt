use Rattle.std.proofs.Common.{◌≡◌, ◌<◌, ◌≤◌, ◌+◌, ℕ, List, Vec, Global, map, length, [], ◌∷◌, ◌++◌, get_or, set, sym, ap, ◌∙◌, subst, arith}
use Rattle.std.specs.List.{Contains}
use Rattle.std.proofs.lemmas.List.{get_or_read, get_or-map, length-map}
use Rattle.mst_path.specs.Places.{AreNodes, Reaches}
use Rattle.mst_path.proofs.Ended.{begun, next_reached, next_near, ended}
use Rattle.mst_path.proofs.search.depths_from.Goals as goal

pub loop-next-init : goal.loop-next-init
loop-next-init c =
    let root : ℕ = c.args.root in
    let depths = ap (λ (r : List ℕ). set r root 1) (c.in_ok-vec.ensures.items_if_clones_equal (λ y e. e)) in
    let queue : c.push.new.self.items ≡ root ∷ [] = c.in_ok-push.ensures.items ∙ ap (λ (q : List ℕ). q ++ root ∷ []) c.new.ensures.items in
    let h = begun c.args.bridges.now c.args.lans.now c.args.count root c.requires.root (set c.in_ok-vec.field-0.items root 1) c.push.new.self.items depths queue in
    record {
      searched = h.searched;
      as_long = h.as_long;
      first = h.first;
      near = λ k x. h.near x;
      reaches = λ i h. absurd (omega arith);
    }

pub loop-next-preserved : goal.loop-next-preserved
loop-next-preserved c =
    let b = c.args.bridges.now in
    let l = c.args.lans.now in
    let items : Vec ℕ Global → List ℕ = λ v. v.items in
    let lists : List (Vec ℕ Global) = c.in_ok-lists.lists.items in
    let inv = c.loop-next.invariant in
    let depths : List ℕ = c.loop-next.search.depths.items in
    let queue : List ℕ = c.loop-next.search.queue.items in
    let new_depths : List ℕ = c.visit.new.self.depths.items in
    let new_queue : List ℕ = c.visit.new.self.queue.items in
    let next : ℕ = c.loop-next.next in
    let below : next < length queue = (let a = c.loop-next-test.true in let b = c.len.ensures in omega (arith, c.loop-next.search.queue.ok.0)) in
    let at : c.index-at.result.now ≡ get_or queue next 0 = get_or_read queue next c.index-at.result.now below c.index-at.ensures 0 in
    let node = inv.searched.nodes next below in
    let at_below : c.index-at.result.now < length lists = (let long : length (map items lists) ≡ length lists = length-map lists items in let t : length (map items lists) ≡ c.args.count = c.in_ok-lists.ensures.as_long in let e = inv.as_long in omega arith) in
    let places : get_or (map items lists) (get_or queue next 0) [] ≡ c.as_slice.result.now =
    ap (λ n. get_or (map items lists) n []) (sym at) ∙ get_or-map items lists c.index-at.result.now c.index.result.now [] at_below ∙ ap items (sym c.index.ensures) ∙ sym c.as_slice.ensures.value in
    let grown = c.in_ok-visit.ensures.grown in
    let near : (x : ℕ) → get_or new_depths x 0 ≤ get_or new_depths (get_or queue next 0) 0 + 1 = λ x. subst (λ n. get_or new_depths x 0 ≤ get_or new_depths n 0 + 1) at (c.in_ok-visit.ensures.near x) in
    record {
      searched = c.in_ok-visit.ensures.searched;
      as_long = grown.as_long ∙ inv.as_long;
      first = grown.front 0 inv.searched.some ∙ inv.first;
      near = next_near b l depths queue new_depths new_queue grown c.in_ok-visit.ensures.searched next below near;
      reaches = next_reached b l c.args.count (map items lists) c.in_ok-lists.ensures depths queue new_depths new_queue grown next below inv.searched.ranked inv.reaches
          (λ place h. subst (λ n. Reaches b l new_depths n place) at (c.in_ok-visit.ensures.reaches place (subst (λ ps. Contains ps place) places h)));
    }

pub loop-next-smaller : goal.loop-next-smaller
loop-next-smaller c =
    let room = c.loop-next.invariant.searched.room in
    let long = c.loop-next.invariant.as_long in
    let a = c.loop-next-test.true in
    let b = c.len.ensures in
    omega (arith, room, long, c.loop-next.search.queue.ok.0)

pub visit-requires-clause-nodes : goal.visit-requires-clause-nodes
visit-requires-clause-nodes c = subst (AreNodes c.args.bridges.now c.args.lans.now) (sym c.loop-next.invariant.as_long) c.requires.nodes

pub visit-requires-clause-places : goal.visit-requires-clause-places
visit-requires-clause-places c =
    let items : Vec ℕ Global → List ℕ = λ v. v.items in
    let lists : List (Vec ℕ Global) = c.in_ok-lists.lists.items in
    let inv = c.loop-next.invariant in
    let queue : List ℕ = c.loop-next.search.queue.items in
    let next : ℕ = c.loop-next.next in
    let below : next < length queue = (let a = c.loop-next-test.true in let b = c.len.ensures in omega (arith, c.loop-next.search.queue.ok.0)) in
    let at : c.index-at.result.now ≡ get_or queue next 0 = get_or_read queue next c.index-at.result.now below c.index-at.ensures 0 in
    let node = inv.searched.nodes next below in
    let at_below : c.index-at.result.now < length lists = (let long : length (map items lists) ≡ length lists = length-map lists items in let t : length (map items lists) ≡ c.args.count = c.in_ok-lists.ensures.as_long in let e = inv.as_long in omega arith) in
    let places : get_or (map items lists) c.index-at.result.now [] ≡ c.as_slice.result.now = get_or-map items lists c.index-at.result.now c.index.result.now [] at_below ∙ ap items (sym c.index.ensures) ∙ sym c.as_slice.ensures.value in
    λ place h. c.in_ok-lists.ensures.own c.index-at.result.now place (subst (λ ps. Contains ps place) (sym places) h)

pub visit-requires-clause-at : goal.visit-requires-clause-at
visit-requires-clause-at c =
    let queue : List ℕ = c.loop-next.search.queue.items in
    let below : c.loop-next.next < length queue = (let a = c.loop-next-test.true in let b = c.len.ensures in omega (arith, c.loop-next.search.queue.ok.0)) in
    let at : c.index-at.result.now ≡ get_or queue c.loop-next.next 0 = get_or_read queue c.loop-next.next c.index-at.result.now below c.index-at.ensures 0 in
    subst (λ n. 0 < get_or c.loop-next.search.depths.items n 0) (sym at) (c.loop-next.invariant.searched.ranked c.loop-next.next below)

pub visit-requires-clause-near : goal.visit-requires-clause-near
visit-requires-clause-near c =
    let queue : List ℕ = c.loop-next.search.queue.items in
    let below : c.loop-next.next < length queue = (let a = c.loop-next-test.true in let b = c.len.ensures in omega (arith, c.loop-next.search.queue.ok.0)) in
    let at : c.index-at.result.now ≡ get_or queue c.loop-next.next 0 = get_or_read queue c.loop-next.next c.index-at.result.now below c.index-at.ensures 0 in
    λ x. subst (λ n. get_or c.loop-next.search.depths.items x 0 ≤ get_or c.loop-next.search.depths.items n 0 + 1) (sym at) (c.loop-next.invariant.near below x)

pub returns-clause-low : goal.returns-clause-low
returns-clause-low c = λ x.
    let s = c.loop-next.invariant.searched in
    let low = s.low x in
    let room = s.room in
    let long = c.loop-next.invariant.as_long in
    omega arith

pub returns-clause-tree : goal.returns-clause-tree
returns-clause-tree c =
    let inv = c.loop-next.invariant in
    let end : length c.loop-next.search.queue.items ≤ c.loop-next.next = (let a = c.loop-next-test.false in let b = c.len.ensures in omega (arith, c.loop-next.search.queue.ok.0)) in
    ended c.args.bridges.now c.args.lans.now c.args.root c.loop-next.next c.loop-next.search.depths.items c.loop-next.search.queue.items inv.searched inv.first end inv.reaches

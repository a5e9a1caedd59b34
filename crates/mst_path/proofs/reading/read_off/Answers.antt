use Rattle.std.proofs.Common.{◌≡◌, ◌≢◌, ◌<◌, ℕ, List, length, get_or, refl, sym, ap, ◌∙◌, subst, arith}
use Rattle.std.proofs.lemmas.List.{get_or_read}
use Rattle.mst_path.specs.Places.{AreApart, AreWaysOn, IsTree, IsBridgeNode}
use Rattle.mst_path.proofs.Following.{IsFollowed, IsLeading, followed_on, followed_first, leading, leading_read}
use Rattle.mst_path.proofs.Searched.{reached_below}
use Rattle.mst_path.proofs.reading.read_off.Goals as goal

-- the port by which frames leave a bridge, and the one by which they arrive at the next
module _ (b l depths ups : List ℕ) (root : ℕ) (apart : AreApart b l) (tree : IsTree b l root depths) (ways : AreWaysOn b l depths ups) (root_on : IsBridgeNode b l root) (at : ℕ) (on : IsBridgeNode b l at) (reached : 0 < get_or depths at 0) (apart_from : at ≢ root) where
  leaves_by : (leaving : ℕ) → leaving ≡ get_or ups at leaving → leaving < length b
  leaves_by leaving e =
      let below : at < length ups = subst (λ k. at < k) (sym ways.as_long) (reached_below depths at reached) in
      subst (λ n. n < length b) (sym (read below)) (leading b l depths ups root apart tree ways root_on at on reached apart_from).leaving_below
    where
      read : at < length ups → leaving ≡ get_or ups at 0
      read below = get_or_read ups at leaving below e 0

  lan_below : (leaving : ℕ) → leaving ≡ get_or ups at leaving → get_or l leaving 0 < length ups
  lan_below leaving e =
      let below : at < length ups = subst (λ k. at < k) (sym ways.as_long) (reached_below depths at reached) in
      let is : leaving ≡ get_or ups at 0 = get_or_read ups at leaving below e 0 in
      let lead = leading b l depths ups root apart tree ways root_on at on reached apart_from in
      let reached_lan : 0 < get_or depths (get_or l (get_or ups at 0) 0) 0 = (let a = lead.less in omega arith) in
      subst (λ n. get_or l n 0 < length ups) (sym is) (subst (λ k. get_or l (get_or ups at 0) 0 < k) (sym ways.as_long) (reached_below depths (get_or l (get_or ups at 0) 0) reached_lan))

  goes_by : (leaving arriving lan : ℕ) → leaving ≡ get_or ups at leaving → lan ≡ get_or l leaving 0 → arriving ≡ get_or ups lan arriving
      → (leaving ≡ get_or ups at 0) × (arriving ≡ get_or ups (get_or l leaving 0) 0) × IsLeading b l depths ups root apart tree ways root_on at leaving arriving
  goes_by leaving arriving lan e f g = leading_read b l depths ups root apart tree ways root_on ways.as_long at on reached apart_from leaving arriving e (g ∙ ap (λ n. get_or ups n arriving) f)

pub loop-at-init : goal.loop-at-init
loop-at-init c = record {
  followed = subst (IsFollowed c.args.bridges.now c.args.lans.now c.args.ways.now.depths.items c.args.ways.now.ups.items c.args.root c.args.start c.args.start) (sym c.new-hops.ensures.items) refl;
  on_bridge = c.requires.start;
  reached = c.requires.reached;
}

pub entry-lan-requires : goal.entry-lan-requires
entry-lan-requires c =
    let below = leaves_by c.args.bridges.now c.args.lans.now c.args.ways.now.depths.items c.args.ways.now.ups.items c.args.root c.requires.apart c.requires.tree c.requires.ways c.requires.root
    c.loop-at.at c.loop-at.invariant.on_bridge c.loop-at.invariant.reached c.loop-at-test.true c.index-leaving.result.now c.index-leaving.ensures in
    subst (λ k. c.index-leaving.result.now < k) (sym c.requires.nodes.as_long) below

pub index-arriving-requires : goal.index-arriving-requires
index-arriving-requires c =
    let below = lan_below c.args.bridges.now c.args.lans.now c.args.ways.now.depths.items c.args.ways.now.ups.items c.args.root c.requires.apart c.requires.tree c.requires.ways c.requires.root
    c.loop-at.at c.loop-at.invariant.on_bridge c.loop-at.invariant.reached c.loop-at-test.true c.index-leaving.result.now c.index-leaving.ensures in
    let is = c.entry-lan.ensures in
    omega (arith, c.args.ways.now.ups.ok.0, below, is)

pub entry-next-requires : goal.entry-next-requires
entry-next-requires c =
    (goes_by c.args.bridges.now c.args.lans.now c.args.ways.now.depths.items c.args.ways.now.ups.items c.args.root c.requires.apart c.requires.tree c.requires.ways c.requires.root
    c.loop-at.at c.loop-at.invariant.on_bridge c.loop-at.invariant.reached c.loop-at-test.true c.index-leaving.result.now c.index-arriving.result.now c.entry-lan.result c.index-leaving.ensures c.entry-lan.ensures c.index-arriving.ensures).2.arriving_below

pub loop-at-preserved : goal.loop-at-preserved
loop-at-preserved c =
    let b : List ℕ = c.args.bridges.now in
    let l : List ℕ = c.args.lans.now in
    let depths : List ℕ = c.args.ways.now.depths.items in
    let ups : List ℕ = c.args.ways.now.ups.items in
    let leaving : ℕ = c.index-leaving.result.now in
    let arriving : ℕ = c.index-arriving.result.now in
    let h = goes_by b l depths ups c.args.root c.requires.apart c.requires.tree c.requires.ways c.requires.root
    c.loop-at.at c.loop-at.invariant.on_bridge c.loop-at.invariant.reached c.loop-at-test.true leaving arriving c.entry-lan.result c.index-leaving.ensures c.entry-lan.ensures c.index-arriving.ensures in
    let next : c.entry-next.result ≡ get_or b arriving 0 = c.entry-next.ensures in
    record {
      followed = subst (λ n. IsFollowed b l depths ups c.args.root c.args.start n c.push.new.self.items) (sym next)
          (subst (IsFollowed b l depths ups c.args.root c.args.start (get_or b arriving 0)) (sym c.in_ok-push.ensures.items)
          (followed_on b l depths ups c.args.root c.loop-at.hops.items c.args.start c.loop-at.at (record { leaving = leaving; arriving = arriving }) c.loop-at.invariant.followed h.0 h.1 c.loop-at-test.true));
      on_bridge = (arriving, h.2.arriving_below, sym next);
      reached = subst (λ n. 0 < get_or depths n 0) (sym next) h.2.reached;
    }

pub loop-at-smaller : goal.loop-at-smaller
loop-at-smaller c =
    let b : List ℕ = c.args.bridges.now in
    let l : List ℕ = c.args.lans.now in
    let depths : List ℕ = c.args.ways.now.depths.items in
    let h = (goes_by b l depths c.args.ways.now.ups.items c.args.root c.requires.apart c.requires.tree c.requires.ways c.requires.root
    c.loop-at.at c.loop-at.invariant.on_bridge c.loop-at.invariant.reached c.loop-at-test.true c.index-leaving.result.now c.index-arriving.result.now c.entry-lan.result c.index-leaving.ensures c.entry-lan.ensures c.index-arriving.ensures).2 in
    let low : get_or depths (get_or b c.index-arriving.result.now 0) 0 < get_or depths c.loop-at.at 0 = (let x = h.less in let y = h.lan_less in omega arith) in
    subst (λ n. get_or depths n 0 < get_or depths c.loop-at.at 0) (sym c.entry-next.ensures) low

pub returns : goal.returns
returns c =
    let inv = c.loop-at.invariant in
    let b : List ℕ = c.args.bridges.now in
    let l : List ℕ = c.args.lans.now in
    let depths : List ℕ = c.args.ways.now.depths.items in
    let ups : List ℕ = c.args.ways.now.ups.items in
    followed_first b l depths ups c.args.root c.requires.apart c.requires.tree c.requires.ways c.requires.root c.loop-at.hops.items c.args.start c.requires.start c.requires.reached
    (subst (λ y. IsFollowed b l depths ups c.args.root c.args.start y c.loop-at.hops.items) c.loop-at-test.false inv.followed)

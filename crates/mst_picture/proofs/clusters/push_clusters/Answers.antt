use Rattle.std.proofs.Common.{◌≡◌, ℕ, ◌+◌, ◌++◌, Bool, List, take, sym, ap, subst, ◌∙◌, arith}
use Rattle.std.specs.List.{filter}
use Rattle.std.proofs.lemmas.List.{take_all}
use Rattle.mst_graph.specs.Lists.{has_any}
use Rattle.mst_summary.specs.vlan.declared.island.Island.{Island}
use Rattle.mst_picture.specs.InView.{cluster_of}
use Rattle.mst_picture.specs.VlanPicture.{numbered}
use Rattle.mst_picture.proofs.Numbered.{AreDrawn, one_drawn, none_drawn}
use Rattle.mst_picture.proofs.clusters.push_clusters.Goals as goal
use Rattle.mst_picture.proofs.clusters.push_clusters.Goals.{then-has_bridge+in_ok-push_cluster, else-has_bridge}

pub loop-island-preserved : goal.loop-island-preserved
loop-island-preserved c =
    let l = c.loop-island in
    let text : ℕ → Island → List ℕ = cluster_of c.args.plan.now c.args.vid in
    let test : Island → Bool = λ island. has_any island.bridges in
    let islands = c.args.islands.now in
    let i = l.island-index in
    let x = c.island-item.result in
    let first : List ℕ = c.args.out.now.items in
    let last : List ℕ = c.if-has_bridge.out.items in
    elim c.if-has_bridge.branch [
      | then-has_bridge+in_ok-push_cluster w ↦
          let out : List ℕ = w.push_cluster.new.out.items in
          let same : last ≡ out = ap (λ v. v.items) w.out-is in
          let one : AreDrawn text test (take (i + 1) islands) first out (l.count + 1) =
          one_drawn text test islands i x c.loop-island-test.true c.island-item.is first l.out.items l.count l.invariant.drawn (sym c.has_bridge.ensures ∙ w.if-has_bridge.true) out (w.in_ok-push_cluster.ensures {u = tt}) in
          record {
            few = omega (arith, w.count-is, l.invariant.few);
            drawn = subst (AreDrawn text test (take (i + 1) islands) first last) (sym w.count-is) (subst (λ (out : List ℕ). AreDrawn text test (take (i + 1) islands) first out (l.count + 1)) (sym same) one);
          }
      | else-has_bridge w ↦
          let out : List ℕ = l.out.items in
          let same : last ≡ out = ap (λ v. v.items) w.out-is in
          let none : AreDrawn text test (take (i + 1) islands) first out l.count =
          none_drawn text test islands i x c.loop-island-test.true c.island-item.is first out l.count l.invariant.drawn (sym c.has_bridge.ensures ∙ w.if-has_bridge.false) in
          record {
            few = omega (arith, w.count-is, l.invariant.few);
            drawn = subst (AreDrawn text test (take (i + 1) islands) first last) (sym w.count-is) (subst (λ (out : List ℕ). AreDrawn text test (take (i + 1) islands) first out l.count) (sym same) none);
          }
    ]

pub returns : goal.returns
returns c =
    let l = c.loop-island in
    l.invariant.drawn.drawn
    ∙ ap (λ (islands : List Island). c.args.out.now.items ++ numbered (cluster_of c.args.plan.now c.args.vid) 1 (filter (λ (island : Island). has_any island.bridges) islands)) (take_all l.island-index c.args.islands.now c.loop-island-test.false)

use Rattle.std.proofs.Common.{◌≡◌, ◌+◌, ◌<◌, ℕ, List, Option, [], ◌∷◌, ◌++◌, length, map, take, get_or, sym, ap, ◌∙◌}
use Rattle.std.proofs.lemmas.List.{map_push, take_all, take_more}
use Rattle.mst_path.specs.Counts.{hops_at}
use Rattle.mst_path.proofs.counting.counted.Goals as goal

-- the hops of one bridge more
one_more : (f : ℕ → Option ℕ) (bridges : List ℕ) (i : ℕ) (counts new : List (Option ℕ)) (count : Option ℕ) → i < length bridges → new ≡ counts ++ count ∷ [] → counts ≡ map f (take i bridges) → count ≡ f (get_or bridges i 0) → new ≡ map f (take (i + 1) bridges)
one_more f bridges i counts new count below pushed so_far one = pushed ∙ (λ j. so_far j ++ one j ∷ []) ∙ sym (map_push f (take i bridges) (get_or bridges i 0)) ∙ ap (map f) (sym (take_more bridges i 0 below))

pub loop-bridge-preserved : goal.loop-bridge-preserved
loop-bridge-preserved c =
    let f : ℕ → Option ℕ = λ x. hops_at (get_or c.args.depths.now x 0) in
    one_more f c.args.bridges.now c.loop-bridge.bridge-index c.loop-bridge.counts.items _ c.hops_at.result c.loop-bridge-test.true c.in_ok-push.ensures.items c.loop-bridge.invariant c.hops_at.ensures

pub returns : goal.returns
returns c =
    let f : ℕ → Option ℕ = λ x. hops_at (get_or c.args.depths.now x 0) in
    c.loop-bridge.invariant ∙ ap (map f) (take_all c.loop-bridge.bridge-index c.args.bridges.now c.loop-bridge-test.false)

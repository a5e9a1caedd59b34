use Rattle.std.proofs.Common.{sym, ap, subst, ◌∙◌}
use Rattle.std.specs.List.{AllByRecursion, flat_map}
use Rattle.std.proofs.lemmas.Result.{IfOk-weaker}
use Rattle.mst_facts.specs.Both.{IsBoth}
use Rattle.mst_diff.specs.Seen.{region_of}
use Rattle.mst_diff.proofs.Shared.{are_both, regions_named}
use Rattle.mst_diff.proofs.regions.changed_regions.Goals as goal

pub changed-requires : goal.changed-requires
changed-requires c = let h = c.args.change.now in subst (AllByRecursion (IsBoth h.old.now.view h.new.now.view)) (sym h.are_both) (are_both h.old.now.view h.new.now.view)

pub returns : goal.returns
returns c =
    let h = c.args.change.now in
    let s = h.old.now in
    let t = h.new.now in
    IfOk-weaker c.changed.result _ _ (λ changes e. e ∙ ap (flat_map (region_of s.net t.net)) h.are_both ∙ regions_named s t c.known.ensures c.known-2.ensures) c.changed.ensures

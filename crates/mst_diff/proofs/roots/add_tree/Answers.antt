use Rattle.std.proofs.Common.{◌++◌, map, sym, ap, subst, ◌∙◌}
use Rattle.std.specs.List.{AllByRecursion, filter_map, flat_map}
use Rattle.std.proofs.lemmas.Result.{on_ok_weaker}
use Rattle.mst_graph.specs.Lists.{each_once}
use Rattle.mst_diff.specs.Roots.{same_pair, root_unless}
use Rattle.mst_facts.specs.Both.{IsBoth}
use Rattle.mst_diff.specs.Seen.{pair_of, row_of_root}
use Rattle.mst_diff.proofs.Shared.{are_both, roots_named}
use Rattle.mst_diff.proofs.roots.add_tree.Goals as goal

pub pairs-requires : goal.pairs-requires
pairs-requires c = let h = c.args.change.now in subst (AllByRecursion (IsBoth h.old.now.view h.new.now.view)) (sym h.are_both) (are_both h.old.now.view h.new.now.view)

pub returns : goal.returns
returns c =
    let h = c.args.change.now in
    let s = h.old.now in
    let t = h.new.now in
    let tree = c.args.tree in
    let all = c.as_slice-3.ensures.value ∙ c.in_ok-pairs.ensures ∙ ap (λ both. each_once same_pair (filter_map (pair_of s t tree) both)) h.are_both in
    on_ok_weaker c.add_changes.result (λ e. e ∙ ap (λ l. map row_of_root c.args.changes.now.items ++ l) (ap (flat_map (root_unless tree)) all ∙ roots_named s t c.known.ensures c.known-2.ensures tree)) c.add_changes.ensures

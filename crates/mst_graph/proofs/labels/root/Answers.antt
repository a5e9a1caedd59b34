use Rattle.std.proofs.Common.{◌<◌, get_or, sym, ◌∙◌, subst, arith}
use Rattle.std.proofs.lemmas.List.{length-set}
use Rattle.mst_graph.proofs.Parents.{both_changed, one_up, above_low, above_label, parent_below}
use Rattle.mst_graph.proofs.labels.root.Goals as goal

pub up-preserved : goal.up-preserved
up-preserved c =
    let inv = c.up.invariant in
    let parents = c.up.parents in
    let at = c.up.at in
    let are = inv.kept.parents in
    let low = above_low parents at inv.below are in
    let below = parent_below parents at inv.below are in
    record {
      kept = both_changed c.args.parents.now parents _ inv.kept (one_up parents at inv.below are);
      below = subst (λ n. get_or parents (get_or parents at 0) 0 < n) (sym (length-set parents at (get_or parents (get_or parents at 0) 0))) (omega (arith, low, below));
      leads = λ labels have. above_label parents at inv.below are labels (inv.kept.labels labels have) ∙ inv.leads labels have;
    }

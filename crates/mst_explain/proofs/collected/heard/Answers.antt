use Rattle.std.proofs.Common.{sym, ◌∙◌, ap}
use Rattle.std.specs.Option.{option_copied}
use Rattle.mst_explain.proofs.SeenTrees.{designated_there}
use Rattle.mst_explain.proofs.collected.heard.Goals as goal

pub root_path_vector_from-requires-clause-from : goal.root_path_vector_from-requires-clause-from
root_path_vector_from-requires-clause-from g c =
    let s = c.args.plan.now in
    designated_there g.M.Metric.rules s.view (g.M.InTree.seen s c.args.tree) c.args.port.now.lan_number c.in_ok-from.from.now (sym c.designated_on.ensures ∙ ap option_copied c.in_ok-from.was)

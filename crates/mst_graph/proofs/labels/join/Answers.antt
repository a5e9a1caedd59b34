use Rattle.std.proofs.Common.{◌<◌, length, sym, ◌∙◌, arith}
use Rattle.mst_graph.proofs.Parents.{joined_roots}
use Rattle.mst_graph.proofs.labels.join.Goals as goal

pub returns-clause-merged : goal.returns-clause-merged
returns-clause-merged c = λ labels have.
    let one = c.root-one in
    let other = c.root-other in
    let first_have = one.ensures.kept.labels labels have in
    let last_have = other.ensures.kept.labels labels first_have in
    let one_own = other.ensures.kept.roots one.result one.ensures.root.1 in
    let one_below : one.result < length other.new.parents = omega arith in
    let other_below : other.result < length other.new.parents = omega arith in
    joined_roots other.new.parents c.args.first c.args.second one.result other.result c.min.result c.max.result other.ensures.kept.parents
    one_below other_below one_own other.ensures.root.1 c.min.ensures c.max.ensures labels last_have
    (sym (last_have.own one.result one_below one_own) ∙ one.ensures.leads labels have)
    (sym (last_have.own other.result other_below other.ensures.root.1) ∙ other.ensures.leads labels first_have)

use Rattle.mst_forest.specs.Outcome.{trees_of}
use Rattle.mst_roles.proofs.Restricted.{name_tests, restricted_role}
use Rattle.mst_roles.proofs.laws.restricted.Goals as goal

pub returns : goal.returns
returns c net o ok is p there restricted tree role e =
    let settled = c.nested.ensures.settled net o ok is in
    restricted_role net ok o (λ q r. c.restricted.ensures.cist (trees_of net o) name_tests settled q r) (λ i q r. c.restricted.ensures.msti (trees_of net o) name_tests settled i q r) p there restricted tree role e

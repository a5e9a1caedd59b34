use Rattle.std.proofs.Common.{ap, ◌∙◌}
use Rattle.std.specs.Option.{unwrap_or}
use Rattle.mst_facts.specs.Named.{seen_found}
use Rattle.mst_facts.proofs.Named.{first_named}
use Rattle.mst_diff.proofs.regions.first_of.Goals as goal

pub returns : goal.returns
returns c =
    let s = c.args.plan.now in
    let b = c.args.bridge.now in
    let found = c.found_first.ensures ∙ (λ i. seen_found (c.view.ensures i) (c.forest.ensures i).regions b) in
    c.unwrap_or.ensures ∙ ap (λ o. unwrap_or o b.name) found ∙ first_named s.net s.numbers s.view s.forest c.known.ensures.of b c.requires

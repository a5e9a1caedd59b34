use Rattle.std.proofs.Common.{ap, ◌∙◌}
use Rattle.std.specs.Option.{option_and_then}
use Rattle.mst_facts.specs.Roots.{named_by}
use Rattle.mst_facts.specs.Named.{name_by}
use Rattle.mst_facts.proofs.Named.{id_named}
use Rattle.mst_diff.proofs.roots.root_name.Goals as goal

pub returns : goal.returns
returns c =
    let s = c.args.plan.now in
    let tree = c.args.tree in
    let id = c.in_ok-id.id in
    c.name_of.ensures ∙ ap (λ named. name_by named id) c.requires.named ∙ id_named s.net s.numbers s.view s.forest c.known.ensures.of tree id ∙ ap (option_and_then (named_by s.net tree)) c.in_ok-id.ensures

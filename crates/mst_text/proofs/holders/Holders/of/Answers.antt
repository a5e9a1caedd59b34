use Rattle.std.proofs.Common.{ap, ◌∙◌}
use Rattle.mst_ids.specs.Identifiers.{mac_of}
use Rattle.mst_text.specs.Held.{name_with}
use Rattle.mst_text.proofs.Holding.{holder_seen}
use Rattle.mst_text.proofs.holders.Holders.of.Goals as goal

pub returns : goal.returns
returns c id =
    let s = c.args.plan.now in
    c.in_ok-names.ensures (mac_of id)
    ∙ ap (λ bridges. name_with bridges (mac_of id)) (c.bridges.ensures ∙ ap (λ v. v.bridges) c.view.ensures)
    ∙ holder_seen s.net s.numbers s.view c.known.ensures.of.view id

use Rattle.std.proofs.Common.{get_or, sym, ap, ◌∙◌}
use Rattle.mst_view.proofs.Placing.{place_kept}
use Rattle.mst_view.proofs.listed.Listed.write.Goals as goal

pub invariant_of-self : goal.invariant_of-self
invariant_of-self g c = λ n.
    let same = c.requires.number ∙ ap (λ l. g.T.Numbered.number (get_or l c.args.place c.args.item)) (sym c.self.view_is) in
    c.self.invariant n ∙ sym (place_kept g.T.Numbered.number n c.self.inside.items.items c.args.place c.args.item c.args.item same)

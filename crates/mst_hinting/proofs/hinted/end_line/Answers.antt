use Rattle.std.proofs.Common.{◌∷◌, [], ◌++◌, refl, sym, subst, ap, ◌∙◌}
use Rattle.mst_hinting.specs.Kept.{IsKept}
use Rattle.mst_hinting.specs.Lines.{past_after, hint_after}
use Rattle.mst_hinting.specs.Hinted.{IsTold}
use Rattle.mst_hinting.proofs.Tells.{told_line}
use Rattle.mst_hinting.proofs.hinted.end_line.Goals as goal

pub returns-in-Ok-clause-told : goal.returns-in-Ok-clause-told
returns-in-Ok-clause-told c past kept =
    let held = c.args.held.now in
    let hints = c.push_hint.new.self in
    let old = c.args.out.now.items in
    let new = c.push_hint.new.out.items in
    subst (λ left. IsTold past held (10 ∷ []) hints left old new) (sym c.clear.ensures)
    (told_line past held 10 hints old new refl
    (subst (λ line. IsKept (past_after past line) hints) c.line.ensures (c.in-Ok.ensures.kept past kept))
    (c.in-Ok.ensures.text past kept ∙ ap (λ line. old ++ hint_after past line) c.line.ensures))

use Rattle.std.proofs.Common.{◌≡◌, ◌<◌, length, get_or, true, false, sym, subst, ◌∙◌}
use Rattle.std.proofs.lemmas.List.{get_or_default}
use Rattle.mst_sweep.proofs.Untouched.{not_moved}
use Rattle.mst_sweep.proofs.ports.moved_at.Goals as goal

pub returns-else-touched-place : goal.returns-else-touched-place
returns-else-touched-place c a b n k is are of so e name named =
    let v = c.args.old.now.view.now in
    let flags = c.args.touched.now in
    let i = c.args.place in
    let l : i < length flags = subst (λ m. i < m) (sym c.requires.as_long) c.requires.place in
    let off : get_or flags i true ≡ false = get_or_default flags i true false l ∙ c.if-touched-place.false in
    sym (not_moved a b n k v c.args.new.now.view.now c.args.old.now.forest.now c.args.new.now.forest.now of so is are c.args.tree e.ports flags c.requires.touched c.requires.tree i c.requires.place off name named)

use Rattle.std.proofs.Common.{◌∙◌, sym, ap}
use Rattle.std.specs.Option.{option_copied_mut}
use Rattle.mst_text.proofs.Keeping.{first_kept}
use Rattle.mst_text.proofs.members.add.Goals as goal

pub returns-in_ok-insert-in-None : goal.returns-in_ok-insert-in-None
returns-in_ok-insert-in-None c =
    first_kept c.args.members.now c.get_mut.follows.lender-at-none c.insert.new.self c.args.region c.args.name c.in_ok-names-in-None.names
    (sym c.get_mut.ensures.value ∙ ap option_copied_mut c.in-None.is) c.get_mut.follows.holds-at-none c.in_ok-insert-in-None.ensures.updates.0 c.in_ok-names-in-None.ensures.items

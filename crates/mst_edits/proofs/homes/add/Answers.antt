use Rattle.std.proofs.Common.{◌++◌, ◌∷◌, [], IsSome, refl, sym, ap, subst, ◌∙◌}
use Rattle.std.specs.Option.{option_copied_mut, option_map_or}
use Rattle.mst_edits.proofs.Keeping.{one_kept}
use Rattle.mst_edits.proofs.homes.add.Goals as goal

pub returns-in_ok-push-in-Some : goal.returns-in_ok-push-in-Some
returns-in_ok-push-in-Some c =
    let there = sym c.get_mut.ensures.value ∙ ap option_copied_mut c.in-Some.is in
    let wrote = c.get_mut.follows.holds c.push.new.self in
    one_kept c.args.homes.now c.args.homes.now (c.get_mut.follows.lender c.push.new.self) c.args.port.now.bridge c.push.new.self c.args.port.now
    refl (wrote.3 (subst IsSome (sym there) refl)).0 (c.in_ok-push-in-Some.ensures.items ∙ ap (λ o. option_map_or (λ ports. ports.items) o [] ++ c.args.port.now ∷ []) (sym there))

pub returns-in_ok-insert-in-None : goal.returns-in_ok-insert-in-None
returns-in_ok-insert-in-None c =
    let there = sym c.get_mut.ensures.value ∙ ap option_copied_mut c.in-None.is in
    one_kept c.args.homes.now c.get_mut.follows.lender-at-none c.insert.new.self c.args.port.now.bridge c.in_ok-ports-in-None.ports c.args.port.now
    c.get_mut.follows.holds-at-none c.in_ok-insert-in-None.ensures.updates.0 (c.in_ok-ports-in-None.ensures.items ∙ ap (λ o. option_map_or (λ ports. ports.items) o [] ++ c.args.port.now ∷ []) (sym there))

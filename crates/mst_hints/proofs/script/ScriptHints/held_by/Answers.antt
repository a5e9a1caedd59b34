use Rattle.std.proofs.Common.{sym, ap, ◌∙◌}
use Rattle.mst_hints.specs.Puts.{held_by, is_held}
use Rattle.mst_hints.proofs.Held.{held_first, held_none}
use Rattle.mst_hints.proofs.script.ScriptHints.held_by.Goals as goal

pub returns-in_err-first : goal.returns-in_err-first
returns-in_err-first c past kept = c.from_residual.ensures ∙ held_none past.puts past.net c.args.holder.now (c.in_err-first.ensures past.puts kept.puts)

pub returns-then-is_held : goal.returns-then-is_held
returns-then-is_held c past kept =
    held_first past.puts past.net c.args.holder.now c.in_ok-first.first (c.in_ok-first.ensures past.puts kept.puts)
    (ap (λ net. is_held net c.args.holder.now c.in_ok-first.first) (sym kept.net) ∙ sym c.is_held.ensures ∙ c.if-is_held.true)

pub returns-else-is_held : goal.returns-else-is_held
returns-else-is_held c past kept =
    c.first_held.ensures
    ∙ ap (λ puts. held_by puts c.args.self.now.network.net c.args.holder.now) c.as_slice.ensures.value
    ∙ ap (λ net. held_by c.args.self.now.puts.all.items net c.args.holder.now) kept.net
    ∙ ap (λ puts. held_by puts past.net c.args.holder.now) kept.puts.all

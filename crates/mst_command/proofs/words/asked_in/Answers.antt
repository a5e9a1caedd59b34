use Rattle.std.proofs.Common.{ap, ap₂, sym, ◌∙◌}
use Rattle.mst_command.specs.Words.{Placed, Request, asked_of}
use Rattle.mst_command.specs.declared.table.Verb.{Verb}
use Rattle.mst_command.proofs.Entered.{both_parts}
use Rattle.mst_command.proofs.words.asked_in.Goals as goal

pub returns-in-Some : goal.returns-in-Some
returns-in-Some c =
    ap₂ (λ (verb : Verb) (words : Placed). let asked : Request = record { verb = verb; words = words } in asked) c.verb_or_run.ensures c.behind_in.ensures
    ∙ ap asked_of (sym (both_parts _ _ _ _ _ c.in-Some.ensures.name c.in-Some.ensures.rows))

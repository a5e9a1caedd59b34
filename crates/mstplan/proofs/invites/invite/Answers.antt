use Rattle.std.proofs.Common.{◌≡◌, ℕ, Bool, true, false, not, cond, [], Result, Ok, length, ap, subst, sym, ◌∙◌}
use Rattle.std.specs.Prelude.{codes}
use Rattle.std.specs.Str.{bytes_eq}
use Rattle.mst_io.specs.Devices.{seen_by}
use Rattle.mstplan.specs.Invites.{invitation, waits_by, waits_for}
use Rattle.mstplan.specs.Said.{IsSaid}
use Rattle.mst_command.specs.declared.stop.Stop.{Stop}
use Rattle.mst_command.specs.declared.table.Verb.{Verb}
use Rattle.mst_command.specs.declared.table.Verb.TheVariants.{Ask}
use Rattle.mst_command.specs.declared.words.Asked.{Asked}
use Rattle.mstplan.proofs.invites.invite.Goals as goal

is_other : (same other : Bool) → other ≡ true → other ≡ not same → same ≡ false
is_other true other is e = cc
is_other false other is e = cc

-- for questions, where they don't come behind the script
for_questions : (is_terminal other : Bool) (words : ℕ) (asked : Result Asked Stop) (it : Asked) → is_terminal ≡ true → asked ≡ Ok it → it.verb ≡ Ask → other ≡ true → other ≡ not (bytes_eq it.behind.first.now (codes "-"))
    → invitation is_terminal words asked ≡ codes "mstplan: reading questions from the terminal, until Ctrl-D; --help tells of them\n"
for_questions is_terminal other words asked it terminal is verb apart e =
    ap (λ t. cond t (waits_for words asked) []) terminal
    ∙ ap (waits_for words) is
    ∙ ap (λ (v : Verb). waits_by words v it.behind) verb
    ∙ ap (λ t. cond t [] (codes "mstplan: reading questions from the terminal, until Ctrl-D; --help tells of them\n")) (is_other (bytes_eq it.behind.first.now (codes "-")) other apart e)

pub returns-in-Ask : goal.returns-in-Ask
returns-in-Ask g c =
    let look = seen_by g.K.Sink.told g.K.Sink.contents g.K.Sink.lent in
    subst (IsSaid (look c.args.errors.now) (look c.say-in-Ask.new.errors)) (sym (for_questions c.args.is_terminal c.ne.result (length c.args.words.now) c.args.asked.now c.in-Ok.asked c.if-not-is_terminal.false c.in-Ok.is c.in-Ask.is c.if-ne.true c.ne.ensures)) c.say-in-Ask.ensures

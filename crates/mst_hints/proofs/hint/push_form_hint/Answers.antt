use Rattle.std.proofs.Common.{◌∙◌, ◌++◌, ℕ, List, ap, arith, eq-eqb, length}
use Rattle.mst_lang.specs.Words.{words}
use Rattle.mst_lang.specs.declared.form.Argument.{Argument}
use Rattle.mst_hints.specs.Hints.{hint_line, wrong_text}
use Rattle.mst_hints.proofs.Lined.{lined}
use Rattle.mst_hints.proofs.Wrong.{of_wrong}
use Rattle.mst_hints.proofs.hint.push_form_hint.Goals as goal

pub returns-in_ok-push_end-in-Some-clause-text : goal.returns-in_ok-push_end-in-Some-clause-text
returns-in_ok-push_end-in-Some-clause-text c =
    let out = c.args.out.now.items in let form = c.args.form.now in let found = words c.args.arguments.now in
    let wrong : Argument × List ℕ = (c.in-Some.argument, c.in-Some.wrong.now) in
    lined c.args.of.now c.args.number (wrong_text c.args.version c.args.word.now form found wrong) out c.push_start-in-Some.new.out.items c.push_wrong.new.out.items c.push_end-in-Some.new.out.items
    c.in_ok-push_start-in-Some.ensures c.in_ok-push_wrong-in-Some.ensures c.in_ok-push_end-in-Some.ensures
    ∙ ap (λ hint. out ++ hint_line c.args.of.now c.args.number hint)
    (of_wrong c.args.version c.args.word.now form found wrong (eq-eqb (length found) (length form) (omega (arith, c.if-count-form.false, c.word_count-count.ensures))) c.in-Some.ensures)

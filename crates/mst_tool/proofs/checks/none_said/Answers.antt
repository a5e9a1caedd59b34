use Rattle.std.proofs.Common.{◌≡◌, ◌∷◌, [], ◌∙◌, codes, refl, sym, ap}
use Rattle.std.specs.Fmt.{digits}
use Rattle.json.specs.Print.{escape_byte}
use Rattle.mst_engine.specs.print.Shape.{listed}
use Rattle.mst_engine.specs.print.declared.form.Form.TheVariants.{Text, Json}
use Rattle.mst_rows.specs.Answers.{named}
use Rattle.mst_tool.specs.Check.{none_row}
use Rattle.mst_tool.proofs.checks.none_said.Goals as goal

text_is : codes "check captures 0 agree 0\n" ≡ listed Text (none_row ∷ [])
unfolding digits
text_is = refl

record_is : codes "{\"kind\":\"check\",\"capture_count\":0,\"agree_count\":0}\n" ≡ listed Json (none_row ∷ [])
unfolding named escape_byte digits
record_is = refl

pub returns-in-Text : goal.returns-in-Text
returns-in-Text c = text_is ∙ ap (λ form. listed form (none_row ∷ [])) (sym c.in-Text.is)

pub returns-in-Json : goal.returns-in-Json
returns-in-Json c = record_is ∙ ap (λ form. listed form (none_row ∷ [])) (sym c.in-Json.is)

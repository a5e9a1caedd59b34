-- The parts of `done STATUS`, as a record.
use Rattle.std.proofs.Common.{◌≡◌, ℕ, List, [], ◌∷◌, ◌++◌, codes, decimal, refl, ap, append-nil, append_assoc}
use Rattle.json.specs.Print.{escape_byte}
use Rattle.mst_questions.specs.tool.engine.print.declared.form.Form.TheVariants.{Json}
use Rattle.mst_rows.specs.Answers.{named}
use Rattle.mst_ask.specs.Standing.{done}

-- the end of a record on a line of its own
record_end : (status : List ℕ) → status ++ (codes "}\n" ++ []) ≡ (((status ++ []) ++ 125 ∷ []) ++ 10 ∷ []) ++ []
record_end status = simp append_assoc (simp append-nil refl)

pub record_is : (status : ℕ) → codes "{\"kind\":\"done\",\"status\":" ++ (decimal status ++ (codes "}\n" ++ [])) ≡ done Json status
unfolding named escape_byte
record_is status = ap (λ l. codes "{\"kind\":\"done\",\"status\":" ++ l) (record_end (decimal status))

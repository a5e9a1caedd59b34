use Rattle.std.proofs.Common.{◌≡◌, ℕ, List, ◌++◌, decimal, append_assoc, ◌∙◌}
use Rattle.std.proofs.lemmas.Result.{on_ok_weaker}
use Rattle.mst_picture.specs.Lans.{role_letter}
use Rattle.mst_picture.proofs.ends.push_label.Goals as goal

regrouped : (out a b : List ℕ) → (out ++ a) ++ b ≡ out ++ (a ++ b)
regrouped out a b = simp append_assoc

pub returns : goal.returns
returns c =
    let end = c.args.end.now in
    on_ok_weaker c.push_bytes.result
    (λ last. last ∙ (λ i. c.in_ok-push_text.ensures.ok i ++ (c.as_bytes.ensures.value ∙ c.role_letter.ensures) i) ∙ regrouped c.args.out.now.items (decimal end.port.number) (role_letter end)) c.push_bytes.ensures.ok

use Rattle.std.proofs.Common.{◌≡◌, ◌+◌, get_or, ap, ◌∙◌, arith, rules}
use Rattle.std.proofs.lemmas.Grind.{common_steps}
use Rattle.mst_sweep.proofs.baseline.first_vid.Goals as goal

pub returns : goal.returns
returns c =
    let read : c.unwrap.result ≡ get_or c.as_slice-firsts.result.now c.args.class 0 + 1 = first_of (grind (arith, common_steps), search (rules, common_steps)) in
    read ∙ ap (λ xs. get_or xs c.args.class 0 + 1) c.as_slice-firsts.ensures.value

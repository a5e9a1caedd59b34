use Rattle.std.proofs.Common.{ap, ◌∙◌}
use Rattle.std.proofs.lemmas.Result.{IfOk-weaker}
use Rattle.mst_sweep.specs.Seen.{seen_home}
use Rattle.mst_sweep.proofs.HomesNamed.{homes_same}
use Rattle.mst_sweep.proofs.homes.homes_by.Goals as goal

pub returns : goal.returns
returns c =
    IfOk-weaker c.places.result _ _
    (λ homes told net numbers is of.
    let r = c.in_ok-islands.ensures net numbers is of in
    (r.named, r.are_islands, λ name n has. told n ∙ ap (λ islands. seen_home islands n) c.as_slice.ensures.value ∙ homes_same net numbers of.numbered name n has 0 c.in_ok-islands.islands.items r.named r.bridges))
    c.places.ensures

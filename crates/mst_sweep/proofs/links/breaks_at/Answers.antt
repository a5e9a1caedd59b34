use Rattle.std.proofs.Common.{◌≡◌, ◌<◌, length, get_or, sym, ap, subst, ◌∙◌}
use Rattle.std.proofs.lemmas.Bool.{ltb-true}
use Rattle.mst_sweep.specs.Touched.{seen_breaks}
use Rattle.mst_sweep.proofs.Untouched.{one_at}
use Rattle.mst_sweep.proofs.links.breaks_at.Goals as goal

pub returns : goal.returns
returns c e x y l is_x is_y =
    let v = c.args.old.now.view.now in
    let f = c.args.old.now.forest.now in
    let w = c.args.new.now.view.now in
    let g = c.args.new.now.forest.now in
    let i = c.args.place in
    let u = c.in-Some.before.now in
    let z = c.in-Some-get.afterwards.now in
    let is_u : u ≡ get_or v.ports i u = c.in-Some.ensures.lookup.1 ∙ ap (λ ps. get_or ps i u) c.ports.ensures in
    let is_z : z ≡ get_or w.ports i z = c.in-Some-get.ensures.lookup.1 ∙ ap (λ ps. get_or ps i z) c.ports-2.ensures in
    let m : i < length w.ports = subst (λ ps. i < length ps) c.ports-2.ensures (ltb-true i (length c.ports-2.result.now) (sym c.in-Some-get.ensures.lookup.0)) in
    let first : u ≡ x = one_at v.ports i u x l is_u is_x in
    let second : z ≡ y = one_at w.ports i z y m is_z is_y in
    (λ j. seen_breaks v f w g c.args.vid (sym first j) (sym second j)) ∙ sym c.breaks.ensures ∙ e

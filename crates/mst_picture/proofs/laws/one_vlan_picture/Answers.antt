use Rattle.std.proofs.Common.{◌≡◌, refl, sym, ap, subst, ◌∙◌}
use Rattle.mst_roles.specs.forest.Outcome.{Outcome}
use Rattle.mst_picture.specs.VlanPicture.{IsVlanPicture, vlan_picture}
use Rattle.mst_picture.proofs.laws.one_vlan_picture.Goals as goal

pub returns-clause-some : goal.returns-clause-some
returns-clause-some g net o vid ok =
    let i = g.islands_of_vid.ensures.some net o vid ok in
    (vlan_picture net o vid i.0, record { islands = i.0; are_islands = i.1; is = refl })

pub returns-clause-one : goal.returns-clause-one
returns-clause-one g net o q vid text other ok oo oq a b =
    let same : q ≡ o = g.one_outcome.ensures net q o ok oq oo in
    let z : IsVlanPicture net o vid other = subst (λ (q : Outcome). IsVlanPicture net q vid other) same b in
    a.is ∙ ap (vlan_picture net o vid) (g.islands_of_vid.ensures.one net o vid a.islands z.islands a.are_islands z.are_islands) ∙ sym z.is

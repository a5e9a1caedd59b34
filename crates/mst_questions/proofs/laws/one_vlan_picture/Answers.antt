use Rattle.mst_questions.proofs.laws.one_vlan_picture.Goals as goal

pub returns-clause-some : goal.returns-clause-some
returns-clause-some g net vid ok =
    let o = g.has_outcome.ensures net ok in
    let drawn = g.one_vlan_picture.ensures.some net o.0 vid ok in
    (drawn.0, record { outcome = o.0; is_outcome = o.1; drawn = drawn.1 })

pub returns-clause-one : goal.returns-clause-one
returns-clause-one g net vid text other ok a b = g.one_vlan_picture.ensures.one net a.outcome b.outcome vid text other ok a.is_outcome b.is_outcome a.drawn b.drawn

use Rattle.mst_between.proofs.laws.one_difference.Goals as goal

pub returns-clause-one : goal.returns-clause-one
returns-clause-one g a b c d rows other na nb x y = g.one_diff.ensures.one a b x.old x.new y.old y.new na nb x.is_old x.is_new y.is_old y.is_new c d rows other x.told y.told

pub returns-clause-some : goal.returns-clause-some
returns-clause-some g a b na nb =
    let o = g.has_outcome.ensures a na in
    let p = g.has_outcome.ensures b nb in
    let told = g.one_diff.ensures.some a b o.0 p.0 na nb in
    (told.0, told.1, record { old = o.0; is_old = o.1; new = p.0; is_new = p.1; told = told.2 })

use Rattle.mst_questions.proofs.laws.one_summary.Goals as goal

pub returns-clause-some : goal.returns-clause-some
returns-clause-some g net ok =
    let o = g.has_outcome.ensures net ok in
    let told = g.one_summary.ensures.some_rows net o.0 ok in
    (told.0, record { outcome = o.0; is_outcome = o.1; told = told.1 })

pub returns-clause-one : goal.returns-clause-one
returns-clause-one g net rows other ok a b = g.one_summary.ensures.one_list net a.outcome b.outcome ok a.is_outcome b.is_outcome rows other a.told b.told

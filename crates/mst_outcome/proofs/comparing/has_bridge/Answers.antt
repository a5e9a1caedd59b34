use Rattle.mst_outcome.proofs.comparing.has_bridge.Goals as goal

pub returns-in-None-clause-no : goal.returns-in-None-clause-no
returns-in-None-clause-no g c = λ h. absurd (c.bridge.ensures.none c.in-None.is c.args.bridge.now h)

pub returns-in-Some-clause-no : goal.returns-in-Some-clause-no
returns-in-Some-clause-no g c = λ h. c.same_bridge.ensures.no (c.known.ensures.one_bridge c.args.number c.in-Some.there.now c.args.bridge.now (c.bridge.ensures.some c.in-Some.there c.in-Some.is) h)

use Rattle.mst_step_laws.proofs.Unkept.{news_once, unkept_to_unkept}
use Rattle.mst_step_laws.proofs.laws.unkept_to_unkept.Goals as goal

pub returns-clause-count : goal.returns-clause-count
returns-clause-count c = unkept_to_unkept c.networks.ensures.after c.one_judgement.ensures.one

pub returns-clause-once : goal.returns-clause-once
returns-clause-once c = news_once c.networks.ensures.after c.one_judgement.ensures.one

use Rattle.std.proofs.Common.{[]}
use Rattle.mst_step_laws.specs.Together.{prior_but, together_all}
use Rattle.mst_step_laws.proofs.StepTogether.{together_cut}
use Rattle.mst_step_laws.proofs.laws.together_is_uncut.Goals as goal

pub returns : goal.returns
returns c leaving a b o p step vids cut rows reasons is settled every cuts r =
    together_cut leaving a b o p step vids every cut rows cuts reasons r (c.reason_lists.ensures.one b p b [] (prior_but leaving a o) (together_all vids) is settled)

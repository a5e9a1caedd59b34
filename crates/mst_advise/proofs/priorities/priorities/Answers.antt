use Rattle.std.proofs.Common.{◌++◌, List, sym, ap, ◌∙◌}
use Rattle.std.specs.List.{filter_map}
use Rattle.std.proofs.lemmas.Result.{IfOk-weaker}
use Rattle.mst_ids.specs.Identifiers.{bridge_id}
use Rattle.mst_roles.specs.forest.Settled.{outcome_of}
use Rattle.mst_advise.specs.Priorities.{others, priorities, set_priority}
use Rattle.mst_advise.specs.Seen.{seen_next}
use Rattle.mst_advise.specs.declared.setting.Setting.{Setting}
use Rattle.mst_advise.proofs.OthersSeen.{next_same}
use Rattle.mst_advise.proofs.priorities.priorities.Goals as goal

pub returns-in-None : goal.returns-in-None
returns-in-None c =
    let s = c.args.plan.now in
    let o = outcome_of s in
    let tree = c.args.tree in
    let b = c.args.name.now in
    let mac = c.args.mac in
    IfOk-weaker c.best_priorities.result _ _
    (λ settings told.
    told
    ∙ ap (λ (next : List Setting). set_priority s.net tree b 0 ++ next) (ap (filter_map (seen_next tree (bridge_id 0 tree mac))) c.requires ∙ next_same s.net o tree b mac)
    ∙ ap (priorities s.net tree b mac (others s.net o tree b)) (sym c.in-None.is)) c.best_priorities.ensures

use Rattle.std.proofs.Common.{◌≡◌, ◌++◌, [], List, Option, sym, ap, subst, ◌∙◌, append-nil}
use Rattle.std.specs.Prelude.{OnOk}
use Rattle.std.specs.Option.{option_map_or}
use Rattle.mst_ids.specs.declared.name.PortName.{PortName}
use Rattle.mst_view.specs.Viewed.{named_port}
use Rattle.mst_roles.specs.forest.Settled.{outcome_of}
use Rattle.mst_advise.specs.InQuestion.{beside}
use Rattle.mst_advise.specs.declared.setting.Setting.{Setting}
use Rattle.mst_advise.proofs.in_question.add_by_designated.Goals as goal

pub returns-in-None : goal.returns-in-None
returns-in-None c =
    let s = c.args.plan.now in
    let old : List Setting = c.args.found.now.items in
    sym (append-nil old)
    ∙ ap (λ (q : Option PortName). old ++ option_map_or (beside s.net (outcome_of s) c.args.tree (named_port c.args.port.now) c.args.lost.now) q []) (sym c.in-None.is ∙ c.designated_beside.ensures)

pub returns-in-Some : goal.returns-in-Some
returns-in-Some c =
    let s = c.args.plan.now in
    subst (λ (q : Option PortName). OnOk c.add_beside.result (c.add_beside.new.found.items ≡ c.args.found.now.items ++ option_map_or (beside s.net (outcome_of s) c.args.tree (named_port c.args.port.now) c.args.lost.now) q []))
    (sym c.in-Some.is ∙ c.designated_beside.ensures) c.add_beside.ensures

use Rattle.std.proofs.Common.{[], ◌++◌, sym, ap, ◌∙◌, append-nil}
use Rattle.std.proofs.lemmas.Result.{IfOk-weaker}
use Rattle.mst_view.specs.Viewed.{named_port}
use Rattle.mst_roles.specs.forest.Settled.{outcome_of}
use Rattle.mst_roles.proofs.forest_lemmas.Seen.{port_of_net}
use Rattle.mst_graph.specs.Lists.{each_once}
use Rattle.mst_advise.specs.Contests.{contests_in, lost_by}
use Rattle.mst_advise.specs.InQuestion.{in_question}
use Rattle.mst_advise.specs.Settings.{same_setting}
use Rattle.mst_advise.proofs.PortsNamed.{tree_among}
use Rattle.mst_advise.proofs.in_question.settings_by.Goals as goal

pub put_explanation-requires-clause-tree : goal.put_explanation-requires-clause-tree
put_explanation-requires-clause-tree c = tree_among c.args.plan.now.net c.args.port.now.name.bridge c.args.tree c.requires.tree

pub returns : goal.returns
returns c =
    let s = c.args.plan.now in
    let is = c.known.ensures in
    let p = named_port c.args.port.now in
    let there = port_of_net s.net s.numbers s.view is.of.view c.args.port.now c.requires.port in
    let said = c.some_explained.ensures.one s.net (outcome_of s) is.of.network is.is_outcome p there c.args.tree c.requires.tree in
    let found =
    c.in_ok-put_explanation.ensures said.0 said.1 (record { found = c.new.result }) [] (sym (append-nil c.new.result.items)) ∙ ap (λ l. l ++ contests_in said.0) c.new.ensures.items in
    let lost = c.lost_by-lost.ensures ∙ ap (lost_by p.name) (c.as_slice.ensures.value ∙ found) in
    let those = c.as_slice-2.ensures.value ∙ c.in_ok-settings.ensures ∙ ap (in_question s.net (outcome_of s) c.args.tree p) lost in
    IfOk-weaker c.once.result _ _ (λ settings told. record { explanation = said.0; is_explained = said.1; are = told ∙ ap (each_once same_setting) those }) c.once.ensures

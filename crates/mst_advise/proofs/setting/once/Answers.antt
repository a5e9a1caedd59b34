use Rattle.std.proofs.Common.{[], ap, sym, ◌∙◌}
use Rattle.std.proofs.lemmas.List.{take_all}
use Rattle.mst_graph.specs.Lists.{each_once, with_new}
use Rattle.mst_verify.proofs.summary_lemmas.Lists.{fold_more}
use Rattle.mst_advise.specs.Settings.{same_setting}
use Rattle.mst_advise.proofs.setting.once.Goals as goal

pub loop-setting-preserved : goal.loop-setting-preserved
loop-setting-preserved c =
    let l = c.loop-setting in
    c.in_ok-add_new.ensures ∙ ap (λ kept. with_new same_setting kept c.setting-item.result) l.invariant
    ∙ sym (fold_more (with_new same_setting) [] c.args.settings.now l.setting-index c.setting-item.result c.loop-setting-test.true c.setting-item.is)

pub returns : goal.returns
returns c = c.loop-setting.invariant ∙ ap (each_once same_setting) (take_all c.loop-setting.setting-index c.args.settings.now c.loop-setting-test.false)

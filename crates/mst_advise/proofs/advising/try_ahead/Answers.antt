use Rattle.std.proofs.Common.{◌≡◌, List, Ok, ap, subst, sym, ◌∙◌}
use Rattle.std.proofs.lemmas.Result.{IfOk-weaker}
use Rattle.mst_net.specs.tables.Contents.{ahead_of}
use Rattle.mst_rows.specs.Rows.{Row}
use Rattle.mst_roles.specs.forest.Settled.{SettledNet}
use Rattle.mst_advise.specs.Made.{after_settings}
use Rattle.mst_advise.specs.Advising.{Tries}
use Rattle.mst_sweeping.specs.Sweeping.{Puts}
use Rattle.mst_advise.specs.declared.setting.Setting.{Setting}
use Rattle.mst_advise.proofs.advising.try_ahead.Goals as goal

pub returns : goal.returns
returns g c = IfOk-weaker c.put_if_had.result _ _
    (λ found said is.
    let network = c.args.network.now in
    let edit : c.args.ready.now ≡ c.edit_of.result = c.requires.edit ∙ sym c.edit_of.ensures in
    subst (λ (settings : List Setting). (x : List Row) × Tries c.args.goal.now network.net is.forest.outcome settings found x × Puts g.R.Rows.grew c.args.out.now c.put_if_had.new.out x) c.from_ref.ensures.value
    (said network.net network.numbers is (ap (after_settings network.net) c.from_ref.ensures.value ∙ c.requires.made ∙ ap (λ e. Ok (ahead_of network e).net) edit ∙ ap (λ (s : SettledNet). Ok s.net) (sym c.ahead-settled.ensures))))
    c.put_if_had.ensures

use Rattle.std.proofs.Common.{◌≡◌, ◌++◌, None, List, sym, subst}
use Rattle.std.specs.Prelude.{OnOk}
use Rattle.mst_net.specs.tables.Tables.{Net}
use Rattle.mst_rows.specs.Rows.{Row}
use Rattle.mst_questions.specs.Explaining.{Explains, unexplained_of}
use Rattle.mst_questions.proofs.explaining.put_explanation_of.Goals as goal

pub put_explained-requires : goal.put_explained-requires
put_explained-requires g c = subst (λ (net : Net). unexplained_of net c.args.port.now c.args.tree ≡ None) (sym c.settled-plan.ensures) c.requires.explained

pub returns : goal.returns
returns g c first before grew =
    subst (λ (net : Net). OnOk c.put_explained.result ((rows : List Row) × Explains net c.args.port.now c.args.tree rows × g.R.Rows.grew first c.put_explained.new.out (before ++ rows))) c.settled-plan.ensures
    (c.put_explained.ensures first before grew)

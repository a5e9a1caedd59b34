use Rattle.std.proofs.Common.{Bool, List, ℕ, subst}
use Rattle.std.proofs.lemmas.Result.{IfOk-weaker}
use Rattle.mst_tables.specs.ByTree.{vlans_in}
use Rattle.mst_view.specs.declared.in_view.PortInView.{PortInView}
use Rattle.mst_classes.specs.Alike.{TellApart}
use Rattle.mst_view.proofs.Lists.{all_weaker}
use Rattle.mst_classes.proofs.InSame.{in_same}
use Rattle.mst_classes.proofs.classes.classes_of_vids_in.Goals as goal

pub returns-clause-classes : goal.returns-clause-classes
returns-clause-classes c =
    let told : List ℕ = c.in_ok-numbers.numbers.items in
    let tables : List (List ℕ) = c.in_ok-tables.tables.items in
    let sets : List (List Bool) = c.meet_all.new.met.keys in
    let v = c.args.view.now in
    let tell : TellApart tables sets told = subst (λ ts. TellApart ts sets told) c.as_slice.ensures.value (subst (λ ss. TellApart c.as_slice.result.now ss told) c.as_slice-2.ensures.keys c.in_ok-numbers.ensures) in
    IfOk-weaker c.number_keys.result _ _
    (λ r are. record {
      tables = tables;
      sets = sets;
      have_tables = c.in_ok-tables.ensures;
      have_sets = all_weaker _ _ (λ (p : PortInView). c.in_ok-meet_all.ensures.before (vlans_in v.settings.vlans p.name)) v.ports c.in_ok-meet_sets.ensures.there;
      numbers = told;
      tell = tell;
      classes = are;
    }) c.number_keys.ensures

pub returns-clause-same : goal.returns-clause-same
returns-clause-same c =
    let told : List ℕ = c.in_ok-numbers.numbers.items in
    let sets : List (List Bool) = c.meet_all.new.met.keys in
    let tell : TellApart c.as_slice.result.now sets told = subst (λ ss. TellApart c.as_slice.result.now ss told) c.as_slice-2.ensures.keys c.in_ok-numbers.ensures in
    IfOk-weaker c.number_keys.result _ _ (λ r are. in_same c.as_slice.result.now sets c.args.others.now told r tell c.in_ok-meet_all.ensures.there are) c.number_keys.ensures

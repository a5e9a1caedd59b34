use Rattle.std.proofs.Common.{Bool, List, ℕ, subst}
use Rattle.std.proofs.lemmas.Result.{IfOk-weaker}
use Rattle.mst_tables.specs.ByTree.{table_in, vlans_in}
use Rattle.mst_view.specs.declared.in_view.BridgeInView.{BridgeInView}
use Rattle.mst_view.specs.declared.in_view.PortInView.{PortInView}
use Rattle.mst_classes.specs.Alike.{TellApart}
use Rattle.mst_view.proofs.Lists.{all_weaker}
use Rattle.mst_classes.proofs.Firsts.{firsts_below}
use Rattle.mst_classes.proofs.InSame.{in_same}
use Rattle.mst_classes.proofs.classes.classes_of_both_in.Goals as goal

pub returns-clause-classes : goal.returns-clause-classes
returns-clause-classes c = IfOk-weaker c.number_keys.result _ _
    (λ classes are.
    let told : List ℕ = c.in_ok-numbers.numbers.items in
    let tables : List (List ℕ) = c.meet_tables-2.new.met.keys in
    let sets : List (List Bool) = c.meet_all.new.met.keys in
    let v = c.args.old.now in
    let w = c.args.new.now in
    record {
      tables = tables;
      sets = sets;
      old = record {
        tables_there = all_weaker _ _ (λ (b : BridgeInView). c.in_ok-meet_tables-2.ensures.before (table_in v.settings.tables b.name)) v.bridges c.in_ok-meet_tables.ensures.there;
        sets_there = all_weaker _ _ (λ (p : PortInView) h. c.in_ok-meet_all.ensures.before (vlans_in v.settings.vlans p.name) (c.in_ok-meet_sets-2.ensures.before (vlans_in v.settings.vlans p.name) h)) v.ports c.in_ok-meet_sets.ensures.there;
      };
      new = record {
        tables_there = c.in_ok-meet_tables-2.ensures.there;
        sets_there = all_weaker _ _ (λ (p : PortInView). c.in_ok-meet_all.ensures.before (vlans_in w.settings.vlans p.name)) w.ports c.in_ok-meet_sets-2.ensures.there;
      };
      numbers = told;
      tell = subst (λ ts. TellApart ts sets told) c.as_slice.ensures.keys (subst (λ ss. TellApart c.as_slice.result.now ss told) c.as_slice-2.ensures.keys c.in_ok-numbers.ensures);
      are = are;
    }) c.number_keys.ensures

pub returns-clause-same : goal.returns-clause-same
returns-clause-same c =
    let told : List ℕ = c.in_ok-numbers.numbers.items in
    let sets : List (List Bool) = c.meet_all.new.met.keys in
    let tell : TellApart c.as_slice.result.now sets told = subst (λ ss. TellApart c.as_slice.result.now ss told) c.as_slice-2.ensures.keys c.in_ok-numbers.ensures in
    IfOk-weaker c.number_keys.result _ _ (λ r are. in_same c.as_slice.result.now sets c.args.others.now told r tell c.in_ok-meet_all.ensures.there are) c.number_keys.ensures

pub returns-clause-vids : goal.returns-clause-vids
returns-clause-vids c = IfOk-weaker c.number_keys.result _ _ (λ classes are. firsts_below c.in_ok-numbers.numbers.items classes.numbers.items classes.firsts.items c.in_ok-numbers.ensures.as_long are) c.number_keys.ensures

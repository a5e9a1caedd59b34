use Rattle.std.proofs.Common.{◌≡◌, ◌==◌, length, false, Some, sym, ◌∙◌, rules, tests}
use Rattle.std.proofs.lemmas.List.{length_push}
use Rattle.std.proofs.lemmas.Iterator.Splits.{YieldsList-from_slice_split}
use Rattle.std.proofs.lemmas.Iterator.Consumers.{YieldsList-turn, YieldsList-end}
use Rattle.mst_ids.specs.Vids.{range_of}
use Rattle.mst_ids.proofs.VidListLemmas.{with_items-none, bad_item, good_item, all_items, kept_from}
use Rattle.mst_ids.proofs.vid_list.parse_vids.Goals as goal

pub loop-item-init : goal.loop-item-init
loop-item-init c = record {
  kept = kept_from c.none-vids.result (λ _. false) c.none-vids.ensures;
  whole = with_items-none c.none-vids.result c.args.text.now c.none-vids.ensures;
}

pub returns-in_default : goal.returns-in_default
returns-in_default c =
    let turn = YieldsList-turn (YieldsList-from_slice_split _ (λ b. b == 44) c.args.text.now (cc) (cc) (cc) (λ x b q k. search (rules, tests))) c.loop-item.yielded _ c.loop-item.yielded_by _ _ c.in-Some.item c.in-Some.is c.next.ensures.steps in
    sym (bad_item c.loop-item.vids c.args.text.now c.in-Some.item.now (length c.loop-item.yielded) turn (sym c.range.ensures.value ∙ c.in_default.is) c.loop-item.invariant.whole)

pub loop-item-preserved : goal.loop-item-preserved
loop-item-preserved c =
    let turn = YieldsList-turn (YieldsList-from_slice_split _ (λ b. b == 44) c.args.text.now (cc) (cc) (cc) (λ x b q k. search (rules, tests))) c.loop-item.yielded _ c.loop-item.yielded_by _ _ c.in-Some.item c.in-Some.is c.next.ensures.steps in
    let named : range_of c.in-Some.item.now ≡ Some (c.in-Some-range.first, c.in-Some-range.last) = sym c.range.ensures.value ∙ c.in-Some-range.is in
    record {
      kept = kept_from _ _ c.insert_all.ensures;
      whole = good_item c.loop-item.vids _ c.args.text.now c.in-Some.item.now (c.in-Some-range.first, c.in-Some-range.last) (length c.loop-item.yielded) _ (length_push c.loop-item.yielded c.in-Some.item) turn named c.insert_all.ensures c.loop-item.invariant.whole;
    }

pub returns : goal.returns
returns c =
    let end = YieldsList-end (YieldsList-from_slice_split _ (λ b. b == 44) c.args.text.now (cc) (cc) (cc) (λ x b q k. search (rules, tests))) c.loop-item.yielded _ c.loop-item.yielded_by _ _ c.in-None.is c.next.ensures.steps in
    sym (all_items c.loop-item.vids c.args.text.now (length c.loop-item.yielded) end.1 c.loop-item.invariant.kept c.loop-item.invariant.whole)

use Rattle.std.proofs.Common.{◌≡◌, ◌==◌, length, Some, sym, ◌∙◌, rules, tests}
use Rattle.std.proofs.lemmas.List.{length_push}
use Rattle.std.proofs.lemmas.Iterator.Splits.{YieldsList-from_slice_split}
use Rattle.std.proofs.lemmas.Iterator.Consumers.{YieldsList-turn, YieldsList-end}
use Rattle.mst_policy.specs.Arguments.{items_of, name_item}
use Rattle.mst_policy.proofs.ListLemmas.{with_values-none, bad_item, good_item, all_items}
use Rattle.mst_policy.proofs.arguments.names.Goals as goal

pub loop-part-init : goal.loop-part-init
loop-part-init c = with_values-none name_item c.new-items.result (items_of c.args.word.now) c.new-items.ensures

pub returns-in_default : goal.returns-in_default
returns-in_default c =
    let turn = YieldsList-turn (YieldsList-from_slice_split _ (λ b. b == 44) c.args.word.now (cc) (cc) (cc) (λ x b q k. search (rules, tests))) c.loop-part.yielded _ c.loop-part.yielded_by _ _ c.in-Some.part c.in-Some.is c.next.ensures.steps in
    sym (bad_item name_item c.loop-part.items (items_of c.args.word.now) c.in-Some.part.now (length c.loop-part.yielded) turn (sym c.name_item.ensures ∙ c.in_default.is) c.loop-part.invariant)

pub loop-part-preserved : goal.loop-part-preserved
loop-part-preserved c =
    let turn = YieldsList-turn (YieldsList-from_slice_split _ (λ b. b == 44) c.args.word.now (cc) (cc) (cc) (λ x b q k. search (rules, tests))) c.loop-part.yielded _ c.loop-part.yielded_by _ _ c.in-Some.part c.in-Some.is c.next.ensures.steps in
    let has : name_item c.in-Some.part.now ≡ Some c.in-Some-name_item.item = sym c.name_item.ensures ∙ c.in-Some-name_item.is in
    good_item name_item c.loop-part.items _ c.in-Some-name_item.item (items_of c.args.word.now) c.in-Some.part.now (length c.loop-part.yielded) _ (length_push c.loop-part.yielded c.in-Some.part) turn has c.in_ok-push.ensures.ok c.loop-part.invariant

pub returns : goal.returns
returns c =
    let end = YieldsList-end (YieldsList-from_slice_split _ (λ b. b == 44) c.args.word.now (cc) (cc) (cc) (λ x b q k. search (rules, tests))) c.loop-part.yielded _ c.loop-part.yielded_by _ _ c.in-None.is c.next.ensures.steps in
    sym (all_items name_item c.loop-part.items (items_of c.args.word.now) (length c.loop-part.yielded) end.1 c.loop-part.invariant)

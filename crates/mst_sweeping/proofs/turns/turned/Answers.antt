use Rattle.std.proofs.Common.{◌≡◌, Bool, List, ℕ, ap, map, sym, ◌∙◌}
use Rattle.std.specs.HashSet.{contains}
use Rattle.std.specs.List.{filter}
use Rattle.std.proofs.lemmas.Result.{IfOk-weaker}
use Rattle.mst_plan.proofs.forest_lemmas.NotInUse.{unused, unused_by}
use Rattle.mst_view.specs.Aggregation.{same_name}
use Rattle.mst_sweep.specs.facts.declared.both.Both.{Both}
use Rattle.mst_sweeping.specs.Seen.{seen_turns, seen_ways_out}
use Rattle.mst_sweeping.specs.Turns.{has_other_way}
use Rattle.mst_sweeping.proofs.Turned.{none_turned, turned_named}
use Rattle.mst_sweeping.proofs.turns.turned.Goals as goal

pub returns-then-not-is_had : goal.returns-then-not-is_had
returns-then-not-is_had c a b n k is are of so =
    let tree = c.args.tree in
    let v = c.args.old.now.view.now in
    let x = unused_by v tree (sym (c.is_had.ensures v c.requires.used) ∙ c.if-not-is_had.true) in
    c.new.ensures.items ∙ sym (none_turned a b is.outcome are.outcome tree x.other (unused a n v c.args.old.now.forest.now.regions of tree x.none))

pub returns : goal.returns
returns c = IfOk-weaker c.turned_of.result _ _
    (λ names told a b n k is are of so.
    let tree = c.args.tree in
    let v = c.args.old.now.view.now in
    let w = c.args.new.now.view.now in
    let f = c.args.old.now.forest.now in
    let g = c.args.new.now.forest.now in
    let has_other : List ℕ → Bool = contains same_name c.in_ok-others.others in
    let before : c.as_slice.result.now ≡ seen_ways_out v f tree = c.as_slice.ensures.value ∙ c.in_ok-before.ensures in
    let afterwards : c.as_slice-2.result.now ≡ seen_ways_out w g tree = c.as_slice-2.ensures.value ∙ c.in_ok-afterwards.ensures in
    told ∙ ap (λ (bs : List Both). map (λ (both : Both). both.old.name) (filter (seen_turns has_other v w tree) bs)) c.requires.both
    ∙ turned_named a b n k v w f g of so is are tree has_other (λ name. c.in_ok-others.ensures name ∙ (λ i. has_other_way (before i) (afterwards i) name))) c.turned_of.ensures

use Rattle.std.proofs.Common.{ℕ, List, not, sym, ap, ◌∙◌}
use Rattle.std.specs.List.{filter, filter_map}
use Rattle.std.proofs.lemmas.Result.{IfOk-weaker}
use Rattle.mst_policy.specs.Leaving.{leaves}
use Rattle.mst_view.specs.View.{bridge_names}
use Rattle.mst_sweep.specs.facts.Both.{seen_both}
use Rattle.mst_sweep.specs.facts.declared.both.Both.{Both}
use Rattle.mst_sweep.specs.declared.parts.Stays.{Stays}
use Rattle.mst_sweep.specs.Parts.{all_parts}
use Rattle.mst_sweep.specs.Seen.{seen_stays}
use Rattle.mst_sweep.proofs.Stay.{all_stay}
use Rattle.mst_sweeping.proofs.Remaining.{seen_tested, staying_tested}
use Rattle.mst_sweeping.proofs.parts.parts_but.Goals as goal

pub returns : goal.returns
returns c = IfOk-weaker c.all_parts.result _ _
    (λ parts told a b n k is are of so homes others.
    let v = c.args.old.now.view.now in
    let f = c.args.old.now.forest.now in
    let w = c.args.new.now.view.now in
    let g = c.args.new.now.forest.now in
    let befores : List (ℕ × ℕ) = c.args.olds.now.entries in
    let afters : List (ℕ × ℕ) = c.args.news.now.entries in
    let keep = λ (bridge : List ℕ). not (leaves c.args.leaving.now c.args.vid bridge) in
    let rest = c.as_slice.ensures.value ∙ c.in_ok-rest.ensures ∙ ap (filter (λ (b : Both). keep b.old.name)) c.requires in
    let all = c.as_slice-2.ensures.value ∙ c.in_ok-all.ensures ∙ ap (filter_map (seen_stays befores afters)) rest
    ∙ seen_tested keep befores afters (seen_both v w)
    ∙ ap (filter (λ (s : Stays). keep s.name)) (all_stay a b n k v w f g of so is.outcome are.outcome c.args.vid homes.0 others.0 others.1 befores afters homes.2 others.2)
    ∙ sym (staying_tested keep homes.0 others.0 (bridge_names a)) in
    (homes.0, others.0, homes.1, others.1, told ∙ ap all_parts all)) c.all_parts.ensures

use Rattle.std.proofs.Common.{Vec, Global, ◌≡◌, ℕ, ◌++◌, List, map, refl, sym, ap, subst, ◌∙◌}
use Rattle.std.specs.List.{flat_map}
use Rattle.std.proofs.lemmas.List.Folds.{flat_map-map}
use Rattle.std.proofs.lemmas.Result.{on_ok_weaker}
use Rattle.mst_graph.proofs.Alike.{alike_groups}
use Rattle.mst_rows.specs.Rows.{Row}
use Rattle.mst_vlan.specs.forest.Settled.{outcome_of}
use Rattle.mst_text.specs.VlanText.{ports_of_vid}
use Rattle.mst_text.specs.vlan.classes.AllVids.{all_vids}
use Rattle.mst_plan_text.specs.PlanText.{group_rows, AreIslandsOfEach, HaveOneBody, Islands}
use Rattle.mst_plan_text.proofs.PortLinks.{one_body}
use Rattle.mst_plan_text.proofs.plan.put_vids.Goals as goal

abbrev items : Vec ℕ Global → List ℕ
items group = group.items

pub returns : goal.returns
returns g c first before grew =
    let s = c.args.plan.now in
    let o = outcome_of s in
    let islands : ℕ → Islands = λ vid. (c.islands_of_vid.ensures.some s.net o vid c.known.ensures.of.network).0 in
    let are : AreIslandsOfEach s.net o islands = λ vid. (c.islands_of_vid.ensures.some s.net o vid c.known.ensures.of.network).1 in
    let made : List (Vec ℕ Global) = c.in_ok-groups.groups.items in
    let groups : List (List ℕ) = map items made in
    on_ok_weaker c.put_groups.result
    (λ grown. (
      flat_map (group_rows s.net o islands) groups,
      record {
        islands = islands;
        are_islands = are;
        groups = groups;
        are_groups = alike_groups (λ x y. ports_of_vid s.net o x ≡ ports_of_vid s.net o y) (HaveOneBody s.net o islands) all_vids groups
            (λ x y _ _. (one_body s.net o (λ vid. c.islands_of_vid.ensures.one s.net o vid) islands are x y, λ h. h.0)) c.in_ok-groups.ensures;
        is = refl;
      },
      subst (λ (own : List Row). g.R.Rows.grew first c.put_groups.new.out (before ++ own))
          (ap (flat_map (λ (group : Vec ℕ Global). group_rows s.net o islands group.items)) c.as_slice.ensures.value ∙ sym (flat_map-map (group_rows s.net o islands) items made)) grown,
    ))
    (c.put_groups.ensures islands are first before grew)

-- Groups depend on which things are related, and on nothing else of the relation.
use Rattle.std.proofs.Common.{◌↔◌, List}
use Rattle.std.specs.List.{Contains}
use Rattle.mst_graph.specs.Groups.{AreGroups}
use Rattle.mst_graph.proofs.Members.{in_whole}

pub alike_groups : {A : Type 0} (R S : A → A → Type 0) (things : List A) (groups : List (List A)) → ((x y : A) → Contains things x → Contains things y → R x y ↔ S x y)
    → AreGroups R things groups → AreGroups S things groups
alike_groups R S things groups alike a = record {
  each = a.each;
  related = λ group x y group_in x_in y_in.
      let same = alike x y (in_whole (a.in_order group group_in) x x_in) y_in in
      let before = a.related group x y group_in x_in y_in in
      (λ h. same.0 (before.0 h), λ r. before.1 (same.1 r));
  in_order = a.in_order;
  firsts = a.firsts;
  begin_with = a.begin_with;
  by_firsts = a.by_firsts;
}

-- The groups of renamed things are the groups, renamed.
use Rattle.std.proofs.Common.{◌≡◌, ◌↔◌, List, map, sym, subst, ◌∙◌}
use Rattle.std.specs.List.{Contains}
use Rattle.mst_graph.specs.Groups.{IsThinned, nothing, kept, left_out, BeginWith, no_groups, one_more, AreGroups}
use Rattle.mst_graph.proofs.Members.{in_map, from_map, in_whole}

module _ {A B : Type 0} (f : A → B) where
  thinned_map : {xs ys : List A} → IsThinned xs ys → IsThinned (map f xs) (map f ys)
  thinned_map nothing = nothing
  thinned_map (kept t) = kept (thinned_map t)
  thinned_map (left_out t) = left_out (thinned_map t)

  begin_map : {firsts : List A} {groups : List (List A)} → BeginWith firsts groups → BeginWith (map f firsts) (map (map f) groups)
  begin_map no_groups = no_groups
  begin_map (one_more b) = one_more (begin_map b)

  -- no two things have one new name, and new names are related just where the things are
  pub renamed_groups : (R : A → A → Type 0) (S : B → B → Type 0) (things : List A) (groups : List (List A))
      → ((x y : A) → Contains things x → Contains things y → f x ≡ f y → x ≡ y) → ((x y : A) → Contains things x → Contains things y → R x y ↔ S (f x) (f y))
      → AreGroups R things groups → AreGroups S (map f things) (map (map f) groups)
  renamed_groups R S things groups one same a = record {
    each = λ z z_in.
        let x = from_map f things z z_in in
        let g = a.each x.0 x.1 in
        (map f g.0, in_map (map f) groups g.0 g.1, subst (Contains (map f g.0)) x.2 (in_map f g.0 x.0 g.2));
    related = λ h u v h_in u_in v_in.
        let g = from_map (map f) groups h h_in in
        let x = from_map f g.0 u (subst (λ k. Contains k u) (sym g.2) u_in) in
        let y = from_map f things v v_in in
        let x_in = in_whole (a.in_order g.0 g.1) x.0 x.1 in
        let before = a.related g.0 x.0 y.0 g.1 x.1 y.1 in
        let alike = same x.0 y.0 x_in y.1 in (
          λ v_in_h.
              let w = from_map f g.0 v (subst (λ k. Contains k v) (sym g.2) v_in_h) in
              let w_is : w.0 ≡ y.0 = one w.0 y.0 (in_whole (a.in_order g.0 g.1) w.0 w.1) y.1 (w.2 ∙ sym y.2) in
              subst (λ t. S t v) x.2 (subst (λ t. S (f x.0) t) y.2 (alike.0 (before.0 (subst (Contains g.0) w_is w.1)))),
          λ s. subst (λ k. Contains k v) g.2
              (subst (Contains (map f g.0)) y.2 (in_map f g.0 y.0 (before.1 (alike.1 (subst (λ t. S t (f y.0)) (sym x.2) (subst (λ t. S u t) (sym y.2) s)))))),
        );
    in_order = λ h h_in. let g = from_map (map f) groups h h_in in subst (λ k. IsThinned k (map f things)) g.2 (thinned_map (a.in_order g.0 g.1));
    firsts = map f a.firsts;
    begin_with = begin_map a.begin_with;
    by_firsts = thinned_map a.by_firsts;
  }

-- There is a list of groups.
use Rattle.std.proofs.Common.{◌≡◌, Bool, true, false, List, [], ◌∷◌, ◌++◌, refl, sym, subst}
use Rattle.std.specs.Cmp.{IsEquivalence}
use Rattle.std.specs.List.{list_any}
use Rattle.std.proofs.lemmas.List.{append-nil, append_assoc}
use Rattle.mst_graph.specs.Groups.{AreGroups}
use Rattle.mst_graph.proofs.Grouped.{Grouped, none_grouped, add_known, add_new, all_grouped}

module _ {A : Type 0} (same : A → A → Bool) (laws : IsEquivalence same) where
  record Groups (xs : List A) : Type 0 where
    leaders : List A
    groups : List (List A)
    grouped : Grouped same xs leaders groups

  one_more : (xs : List A) (x : A) → Groups xs → Groups (xs ++ x ∷ [])
  one_more xs x g = go (list_any (same x) g.leaders) refl
    where
      go : (b : Bool) → list_any (same x) g.leaders ≡ b → Groups (xs ++ x ∷ [])
      go true e = record { leaders = _; groups = _; grouped = add_known same laws xs g.leaders g.groups x e g.grouped }
      go false e = record { leaders = _; groups = _; grouped = add_new same laws xs g.leaders g.groups x e g.grouped }

  more : (xs ys : List A) → Groups xs → Groups (xs ++ ys)
  more xs [] g = subst Groups (sym (append-nil xs)) g
  more xs (y ∷ ys) g = subst Groups (append_assoc xs (y ∷ []) ys) (more (xs ++ y ∷ []) ys (one_more xs y g))

  pub has_groups : (things : List A) → (groups : List (List A)) × AreGroups (λ x y. same x y ≡ true) things groups
  has_groups things =
      let g = more [] things (record { leaders = []; groups = []; grouped = none_grouped same }) in
      (g.groups, all_grouped same laws things g.leaders g.groups g.grouped)

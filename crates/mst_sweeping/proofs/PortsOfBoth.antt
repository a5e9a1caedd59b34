-- The logical ports that two networks have, and their roles, under names.
use Rattle.std.proofs.Common.{◌≡◌, ℕ, ◌+◌, ◌≤◌, Bool, false, cond, List, [], ◌∷◌, length, map, Option, Some, None, refl, sym, ap, ◌∙◌, arith}
use Rattle.std.specs.List.{AllByRecursion, Contains, filter_map, find, count_by, cons_option}
use Rattle.std.specs.Option.{option_map, option_map_or, option_and_then}
use Rattle.std.proofs.lemmas.List.Sums.{sum_by-cons}
use Rattle.mst_ids.specs.declared.name.PortName.{PortName}
use Rattle.mst_net.specs.tables.Tables.{Net, Numbers, port_eq}
use Rattle.mst_view.specs.View.{LogicalPort, port_names}
use Rattle.mst_view.specs.Viewed.{Viewed, named_port}
use Rattle.mst_view.specs.declared.in_view.PortInView.{PortInView}
use Rattle.mst_plan.specs.forest.Agrees.{AreOf}
use Rattle.mst_plan.specs.forest.Forest.{Forest, IsForest}
use Rattle.mst_roles.specs.Roles.{role_of, role_in}
use Rattle.mst_roles.specs.SeenRoles.{seen_role}
use Rattle.mst_roles.specs.declared.kind.Role.{Role}
use Rattle.mst_plan.proofs.forest_lemmas.Entries.{all_weaker}
use Rattle.mst_plan.proofs.forest_lemmas.Lists.{all_there, mapped_twice}
use Rattle.mst_roles.proofs.Named.{own_role, port_is}
use Rattle.mst_sweep.proofs.facts_lemmas.Lists.{find-found, find-map}
use Rattle.mst_sweep.specs.Moved.{is_other_role, port_moved}
use Rattle.mst_sweep.proofs.Moved.{few_ports}
use Rattle.mst_sweeping.specs.declared.ports.BothPorts.{BothPorts}
use Rattle.mst_sweeping.specs.Seen.{seen_port_in_both, seen_both_ports, seen_moved}

-- ---- counts
count_cons : {A : Type 0} (test : A → Bool) (x : A) (xs : List A) → count_by test (x ∷ xs) ≡ cond (test x) 1 0 + count_by test xs
count_cons test x xs = sum_by-cons (λ y. cond (test y) 1 0) x xs

-- of what is made of things
count_made : {A B : Type 0} (test : B → Bool) (h : A → Option B) (xs : List A) → count_by test (filter_map h xs) ≡ count_by (λ x. option_map_or test (h x) false) xs
count_made test h [] = refl
count_made {A} {B} test h (x ∷ xs) = go (h x) (count_made test h xs) ∙ sym (count_cons (λ x. option_map_or test (h x) false) x xs)
  where
    go : (o : Option B) → count_by test (filter_map h xs) ≡ count_by (λ x. option_map_or test (h x) false) xs
        → count_by test (cons_option o (filter_map h xs)) ≡ cond (option_map_or test o false) 1 0 + count_by (λ x. option_map_or test (h x) false) xs
    go None rest = let none : count_by test (filter_map h xs) ≡ 0 + count_by test (filter_map h xs) = omega arith in none ∙ ap (λ n. 0 + n) rest
    go (Some y) rest = count_cons test y (filter_map h xs) ∙ ap (λ n. cond (test y) 1 0 + n) rest

count_alike : {A : Type 0} (f g : A → Bool) (xs : List A) → AllByRecursion (λ x. f x ≡ g x) xs → count_by f xs ≡ count_by g xs
count_alike f g [] h = refl
count_alike f g (x ∷ xs) h = count_cons f x xs ∙ (λ i. cond (h.0 i) 1 0 + count_alike f g xs h.1 i) ∙ sym (count_cons g x xs)

count_mapped : {A B : Type 0} (test : B → Bool) (f : A → B) (xs : List A) → count_by test (map f xs) ≡ count_by (λ x. test (f x)) xs
count_mapped test f [] = refl
count_mapped test f (x ∷ xs) = count_cons test (f x) (map f xs) ∙ ap (λ n. cond (test (f x)) 1 0 + n) (count_mapped test f xs) ∙ sym (count_cons (λ x. test (f x)) x xs)

few_made : {A B : Type 0} (h : A → Option B) (xs : List A) → length (filter_map h xs) ≤ length xs
few_made h [] = let none : 0 ≤ 0 = omega arith in none
few_made {A} {B} h (x ∷ xs) = go (h x) (few_made h xs)
  where
    go : (o : Option B) → length (filter_map h xs) ≤ length xs → length (cons_option o (filter_map h xs)) ≤ length (x ∷ xs)
    go None l = omega arith
    go (Some y) l = omega arith

-- ---- roles
none_other : (o : Option Role) → is_other_role o None ≡ false
none_other None = refl
none_other (Some x) = refl

module _ (a : Net) (n : Numbers) (v : Viewed) (f : Forest) (of : AreOf a n v f.regions) where
  -- they are few
  pub few_of_both : (w : Viewed) → length (seen_both_ports v w) ≤ 16384
  few_of_both w =
      let made : length (seen_both_ports v w) ≤ length v.ports = few_made (seen_port_in_both w.ports) v.ports in
      let few : length v.ports ≤ 16384 = few_ports a n v f.regions of in
      omega arith

  names_named : map (λ (x : PortInView). x.name) v.ports ≡ port_names a
  names_named = sym (mapped_twice (λ (q : LogicalPort). q.name) named_port v.ports) ∙ ap (map (λ (q : LogicalPort). q.name)) of.view.ports

module _ (a b : Net) (n k : Numbers) (v w : Viewed) (f g : Forest) (of : AreOf a n v f.regions) (so : AreOf b k w g.regions) where
  module _ (is : IsForest a n f) (are : IsForest b k g) (tree : ℕ) where
    abbrev moved : BothPorts → Bool
    moved = seen_moved v f w g tree

    -- a name that no port of the view has, has no role
    no_role : (name : PortName) → find (λ (y : PortInView). port_eq y.name name) w.ports ≡ None → role_of b are.outcome tree name ≡ None
    no_role name e =
        ap (option_and_then (role_in b are.outcome tree))
        (ap (find (λ (p : LogicalPort). port_eq p.name name)) (sym so.view.ports)
        ∙ find-map (λ (p : LogicalPort). port_eq p.name name) named_port w.ports ∙ ap (option_map named_port) e)

    each_moved : (x : PortInView) → Contains v.ports x → option_map_or moved (seen_port_in_both w.ports x) false ≡ port_moved a is.outcome b are.outcome tree x.name
    each_moved x there = go (find (λ (y : PortInView). port_eq y.name x.name) w.ports) refl
      where
        go : (o : Option PortInView) → find (λ (y : PortInView). port_eq y.name x.name) w.ports ≡ o
            → option_map_or moved (option_map (λ y. record { old = x; new = y }) o) false ≡ port_moved a is.outcome b are.outcome tree x.name
        go None e = sym (ap (is_other_role (role_of a is.outcome tree x.name)) (no_role x.name e) ∙ none_other (role_of a is.outcome tree x.name))
        go (Some y) e =
            let found = find-found (λ (y : PortInView). port_eq y.name x.name) w.ports y e in
            let name : y.name ≡ x.name = port_is y.name x.name found.1 in
            let old : seen_role v f tree x ≡ role_of a is.outcome tree x.name = own_role a n v f of is tree x there in
            let new : seen_role w g tree y ≡ role_of b are.outcome tree x.name = own_role b k w g so are tree y found.0 ∙ ap (role_of b are.outcome tree) name in
            λ i. is_other_role (old i) (new i)

    -- how many ports have another role
    pub moved_counted : count_by moved (seen_both_ports v w) ≡ count_by (port_moved a is.outcome b are.outcome tree) (port_names a)
    moved_counted =
        count_made moved (seen_port_in_both w.ports) v.ports
        ∙ count_alike _ (λ (x : PortInView). port_moved a is.outcome b are.outcome tree x.name) v.ports (all_weaker (Contains v.ports) _ each_moved v.ports (all_there v.ports))
        ∙ sym (count_mapped (port_moved a is.outcome b are.outcome tree) (λ (x : PortInView). x.name) v.ports)
        ∙ ap (count_by (port_moved a is.outcome b are.outcome tree)) (names_named a n v f of)

-- The reasons of roles that are seen are those of the ports under names.
use Rattle.std.proofs.Common.{◌≡◌, ℕ, ◌||◌, not, List, [], ◌∷◌, ◌++◌, map, Option, refl, sym, ap, ◌∙◌}
use Rattle.std.specs.Prelude.{if◌then◌else◌}
use Rattle.std.specs.List.{Contains, filter, flat_map}
use Rattle.mst_ids.specs.declared.name.PortName.{PortName}
use Rattle.mst_view.specs.View.{LogicalPort}
use Rattle.mst_view.specs.Viewed.{named_port}
use Rattle.mst_view.specs.declared.in_view.PortInView.{PortInView}
use Rattle.mst_policy.specs.declared.expectation.Roles.{Roles}
use Rattle.mst_graph.specs.Lists.{has_any}
use Rattle.mst_roles.specs.Roles.{role_in}
use Rattle.mst_roles.specs.SeenRoles.{seen_role}
use Rattle.mst_roles.specs.declared.kind.Role.{Role}
use Rattle.mst_roles.specs.forest.Settled.{SettledNet, IsSettledNet, outcome_of}
use Rattle.mst_roles.proofs.Named.{each_same}
use Rattle.mst_roles.proofs.forest_lemmas.Entries.{all_weaker}
use Rattle.mst_roles.proofs.forest_lemmas.Lists.{all_there, filter_mapped, mapped_twice}
use Rattle.mst_roles.proofs.forest_lemmas.Looking.{filter_alike}
use Rattle.mst_roles.proofs.forest_lemmas.Seen.{port_seen}
use Rattle.mst_roles.proofs.forest_lemmas.SettledNet.{forest_of}
use Rattle.mst_judged.specs.reasons.Holds.{is_wanted}
use Rattle.mst_judged.specs.reasons.Reasons.{all_roles, ports_of_role, role_reason, role_reasons, same_role}
use Rattle.mst_tree_judges.specs.Seen.{seen_role_reason, seen_with_role}
use Rattle.mst_judged.specs.reasons.declared.reason.Reason.TheVariants as why

module _ (s : SettledNet) (is : IsSettledNet s) (tree : ℕ) (ports : List PortInView) (there : (p : PortInView) → Contains ports p → Contains s.view.ports p) (roles : Roles) where
  open s use {net, numbers, view, forest}

  those_named : (role : Option Role) → map named_port (filter (λ (p : PortInView). same_role (seen_role view forest tree p) role) ports) ≡ ports_of_role net (outcome_of s) tree (map named_port ports) role
  those_named role =
      ap (map named_port)
      (filter_alike (λ (p : PortInView). same_role (seen_role view forest tree p) role) (λ (p : PortInView). same_role (role_in net (outcome_of s) tree (named_port p)) role) ports
      (all_weaker (Contains ports) _
      (λ p h. ap (λ r. same_role r role) (each_same net numbers view forest is.of (forest_of s is) tree p (port_seen net numbers view is.of.view p (there p h)))) ports (all_there ports)))
      ∙ sym (filter_mapped (λ (p : LogicalPort). same_role (role_in net (outcome_of s) tree p) role) named_port ports)

  names : (role : Option Role) → seen_with_role view forest tree ports role ≡ map (λ (p : LogicalPort). p.name) (ports_of_role net (outcome_of s) tree (map named_port ports) role)
  names role =
      sym (mapped_twice (λ (p : LogicalPort). p.name) named_port (filter (λ (p : PortInView). same_role (seen_role view forest tree p) role) ports)) ∙ ap (map (λ (p : LogicalPort). p.name)) (those_named role)

  any_mapped : {A B : Type 0} (f : A → B) (xs : List A) → has_any (map f xs) ≡ has_any xs
  any_mapped f [] = refl
  any_mapped f (x ∷ xs) = refl

  reason_named : (role : Option Role) → seen_role_reason view forest tree ports roles role ≡ role_reason net (outcome_of s) tree (map named_port ports) roles role
  reason_named role =
      let those : List LogicalPort = ports_of_role net (outcome_of s) tree (map named_port ports) role in
      ap (λ (names : List PortName). if is_wanted roles role || not (has_any names) then [] else why.Role tree names role ∷ []) (names role)
      ∙ ap (λ any. if is_wanted roles role || not any then [] else why.Role tree (map (λ (p : LogicalPort). p.name) those) role ∷ []) (any_mapped (λ (p : LogicalPort). p.name) those)

  flat_same : {A B : Type 0} (f g : A → List B) → ((x : A) → f x ≡ g x) → (xs : List A) → flat_map f xs ≡ flat_map g xs
  flat_same f g same [] = refl
  flat_same f g same (x ∷ xs) = λ i. same x i ++ flat_same f g same xs i

  pub reasons_named : flat_map (seen_role_reason view forest tree ports roles) all_roles ≡ role_reasons net (outcome_of s) tree (map named_port ports) roles
  reasons_named = flat_same (seen_role_reason view forest tree ports roles) (role_reason net (outcome_of s) tree (map named_port ports) roles) reason_named all_roles

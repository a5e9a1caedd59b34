-- A reason is told just where an expectation doesn't hold: of what LANs carry, of roles, and of limits.
use Rattle.std.proofs.Common.{◌≡◌, ◌↔◌, ◌⊎◌, inl, inr, ℕ, ◌||◌, Bool, true, false, not, true≢false, List, [], ◌∷◌, map, Option, Some, None, refl, sym, ap, ◌∙◌, arith}
use Rattle.std.specs.Prelude.{if◌then◌else◌}
use Rattle.std.specs.List.{Contains, filter, flat_map}
use Rattle.std.proofs.lemmas.Bool.{eqb-true}
use Rattle.mst_ids.specs.Vids.{set_where}
use Rattle.mst_graph.proofs.Members.{in_filter, from_filter}
use Rattle.mst_net.specs.tables.Tables.{Net}
use Rattle.mst_view.specs.Trees.{is_among}
use Rattle.mst_view.specs.View.{LogicalPort}
use Rattle.mst_roles.specs.forest.Outcome.{Outcome}
use Rattle.mst_roles.specs.Roles.{role_in}
use Rattle.mst_roles.specs.declared.kind.Role.{Role}
use Rattle.mst_roles.specs.declared.kind.Role.TheVariants.{Root, Designated, Alternate, Backup, Master, Disabled}
use Rattle.mst_roles.specs.RoleNumbers.{role_number}
use Rattle.mst_graph.specs.Lists.{has_any}
use Rattle.mst_policy.specs.declared.expectation.Roles.{Roles}
use Rattle.mst_island_judges.specs.judged.reasons.Named.{vids_in}
use Rattle.mst_island_judges.specs.judged.reasons.Over.{goes_over, not_as_wanted}
use Rattle.mst_island_judges.specs.judged.reasons.Holds.{is_wanted, HaveRoles, AllGoOver, NoneGoesOver}
use Rattle.mst_island_judges.specs.judged.reasons.Reasons.{same_role, all_roles, ports_of_role, role_reason, role_reasons, carries_reason, avoids_reason}
use Rattle.mst_island_judges.specs.judged.reasons.declared.reason.Reason.{Reason}
use Rattle.mst_island_judges.specs.judged.reasons.declared.reason.Reason.TheVariants as why
use Rattle.mst_island_judges.proofs.judged_lemmas.reasons_lemmas.Things.{there_any, not_any, told_if, passes_none, none_passes, each_none, none_each}

-- ---- what LANs carry
not_wrong : (b : Bool) → not b ≡ false → b ≡ true
not_wrong true e = refl
not_wrong false e = absurd (true≢false e)

-- of the things that pass a test one reason is told, if there are any
told_of : {A : Type 0} (test : ℕ → Bool) (vids : List ℕ) (x : A) → ((if has_any (filter test vids) then x ∷ [] else []) ≡ []) ↔ ((vid : ℕ) → Contains vids vid → test vid ≡ false)
told_of test vids x =
    let t = told_if (has_any (filter test vids)) x in
    (λ e. passes_none test vids (t.0 e), λ h. t.1 (none_passes test vids h))

pub carries_broken : (net : Net) (o : Outcome) (lan : List ℕ) (vids : List Bool) (reasons : List Reason) → reasons ≡ carries_reason lan (not_as_wanted net o lan true vids)
    → (reasons ≡ []) ↔ AllGoOver net o lan vids
carries_broken net o lan vids reasons are =
    let wrong = not_as_wanted net o lan true vids in
    let t = told_of (λ vid. not (goes_over net o lan vid)) (vids_in vids) (why.Carries lan (set_where (is_among wrong))) in
    (λ e vid h. not_wrong (goes_over net o lan vid) (t.0 (sym are ∙ e) vid h), λ all. are ∙ t.1 (λ vid h. ap not (all vid h)))

pub avoids_broken : (net : Net) (o : Outcome) (lan : List ℕ) (vids : List Bool) (reasons : List Reason) → reasons ≡ avoids_reason lan (not_as_wanted net o lan false vids)
    → (reasons ≡ []) ↔ NoneGoesOver net o lan vids
avoids_broken net o lan vids reasons are =
    let wrong = not_as_wanted net o lan false vids in
    let t = told_of (goes_over net o lan) (vids_in vids) (why.Avoids lan (set_where (is_among wrong))) in
    (λ e. t.0 (sym are ∙ e), λ none. are ∙ t.1 none)

-- ---- roles
role_itself : (r : Option Role) → same_role r r ≡ true
role_itself None = refl
role_itself (Some Root) = refl
role_itself (Some Designated) = refl
role_itself (Some Alternate) = refl
role_itself (Some Backup) = refl
role_itself (Some Master) = refl
role_itself (Some Disabled) = refl

-- roles of one number are one, as far as these go by them
same_wanted : (roles : Roles) (a b : Role) → role_number a ≡ role_number b → is_wanted roles (Some a) ≡ is_wanted roles (Some b)
same_wanted roles Root Root e = refl
same_wanted roles Designated Designated e = refl
same_wanted roles Alternate Alternate e = refl
same_wanted roles Backup Backup e = refl
same_wanted roles Master Master e = refl
same_wanted roles Disabled Disabled e = refl
same_wanted roles a b e = absurd (omega arith)

wanted_alike : (roles : Roles) (a b : Option Role) → same_role a b ≡ true → is_wanted roles a ≡ is_wanted roles b
wanted_alike roles None None e = refl
wanted_alike roles None (Some b) e = absurd (true≢false (sym e))
wanted_alike roles (Some a) None e = absurd (true≢false (sym e))
wanted_alike roles (Some a) (Some b) e = same_wanted roles a b (eqb-true (role_number a) (role_number b) e)

any_role : (r : Option Role) → Contains all_roles r
any_role (Some Root) = (0, omega arith, refl)
any_role (Some Designated) = (1, omega arith, refl)
any_role (Some Alternate) = (2, omega arith, refl)
any_role (Some Backup) = (3, omega arith, refl)
any_role (Some Master) = (4, omega arith, refl)
any_role (Some Disabled) = (5, omega arith, refl)
any_role None = (6, omega arith, refl)

module _ (net : Net) (o : Outcome) (tree : ℕ) (ports : List LogicalPort) (roles : Roles) where
  -- nothing is told of a role just where it is wanted or no port has it
  quiet : (b : Bool) (those : Bool) (x : Reason) → (if b || not those then [] else x ∷ []) ≡ [] → (b ≡ true) ⊎ (those ≡ false)
  quiet true those x e = inl refl
  quiet false true x e = absurd (cc)
  quiet false false x e = inr refl

  silent : (b : Bool) (those : Bool) (x : Reason) → (b ≡ true) ⊎ (those ≡ false) → (if b || not those then [] else x ∷ []) ≡ []
  silent true those x h = refl
  silent false true x (inl e) = absurd (true≢false (sym e))
  silent false true x (inr e) = absurd (true≢false e)
  silent false false x h = refl

  wanted_there : flat_map (role_reason net o tree ports roles) all_roles ≡ [] → (p : LogicalPort) → Contains ports p → is_wanted roles (role_in net o tree p) ≡ true
  wanted_there e p h =
      let r : Option Role = role_in net o tree p in
      let those = ports_of_role net o tree ports r in
      elim (quiet (is_wanted roles r) (has_any those) (why.Role tree (map (λ p. p.name) those) r) (each_none (role_reason net o tree ports roles) all_roles e r (any_role r))) [
        | inl w ↦ w
        | inr n ↦ absurd (true≢false (sym (there_any those p (in_filter (λ q. same_role (role_in net o tree q) r) ports p h (role_itself r))) ∙ n))
      ]

  pub role_broken : (reasons : List Reason) → reasons ≡ role_reasons net o tree ports roles → (reasons ≡ []) ↔ HaveRoles net o tree ports roles
  role_broken reasons are = (
    λ e. wanted_there (sym are ∙ e),
    λ all. are ∙ none_each (role_reason net o tree ports roles) all_roles (λ r h. one r (is_wanted roles r) refl all),
  )
    where
      one : (r : Option Role) (b : Bool) → is_wanted roles r ≡ b → HaveRoles net o tree ports roles → role_reason net o tree ports roles r ≡ []
      one r true w all =
          let those = ports_of_role net o tree ports r in
          silent (is_wanted roles r) (has_any those) (why.Role tree (map (λ p. p.name) those) r) (inl w)
      one r false w all =
          let those = ports_of_role net o tree ports r in
          silent (is_wanted roles r) (has_any those) (why.Role tree (map (λ p. p.name) those) r)
          (inr (not_any those (λ p k.
          let q = from_filter (λ q. same_role (role_in net o tree q) r) ports p k in
          true≢false (sym (all p q.0) ∙ wanted_alike roles (role_in net o tree p) r q.1 ∙ w))))

-- Why bridges don't stay together: a reason is told just where they don't, there is one list of reasons, and there is one.
use Rattle.std.proofs.Common.{◌≡◌, ◌↔◌, ℕ, List, [], Option, Some, None, Bool, refl, sym, ap, ◌∙◌}
use Rattle.std.specs.Prelude.{MatchOption, ⊤}
use Rattle.mst_graph.specs.Islands.{Island}
use Rattle.mst_ids.specs.Vids.{set_where}
use Rattle.mst_view.specs.Trees.{is_among}
use Rattle.mst_policy.specs.Leaving.{Leaving}
use Rattle.mst_policy.specs.declared.item.NameItem.{NameItem}
use Rattle.mst_graph.specs.Lists.{has_any}
use Rattle.mst_net.specs.tables.Tables.{Net}
use Rattle.mst_roles.specs.forest.Outcome.{Outcome}
use Rattle.mst_island_judges.specs.judged.reasons.sweep.vlan.Reach.{AreIslandsOf}
use Rattle.mst_island_judges.specs.judged.reasons.sweep.Parts.{all_parts, staying, ArePartsOf}
use Rattle.mst_island_judges.specs.judged.reasons.Holds.{StayTogether}
use Rattle.mst_island_judges.specs.judged.reasons.sweep.declared.failure.Failure.{Failure}
use Rattle.mst_island_judges.specs.judged.reasons.Named.{remaining}
use Rattle.mst_island_judges.specs.judged.reasons.Reasons.{AreTogetherReasons, Parts, together_reason}
use Rattle.mst_island_judges.specs.judged.reasons.declared.reason.Reason.{Reason}
use Rattle.mst_island_judges.specs.judged.reasons.declared.reason.Reason.TheVariants as why
use Rattle.mst_verify.proofs.BrokenParts.{vids_broken}
use Rattle.mst_island_judges.proofs.judged_lemmas.OfVids.{one_of_vids, some_of_parts}
use Rattle.mst_island_judges.proofs.StayTogether.{stay_whole, whole_stay}
use Rattle.mst_island_judges.proofs.judged_lemmas.reasons_lemmas.Things.{told_if}

abbrev pub IslandsOf : Net → Outcome → Type 0
IslandsOf net o = (vid : ℕ) → (islands : List (Island (List ℕ) (List ℕ))) × AreIslandsOf net o vid islands

-- there is one list of islands
abbrev pub OneIslands : Type 0
OneIslands = (net : Net) (o : Outcome) (vid : ℕ) (islands others : List (Island (List ℕ) (List ℕ))) → AreIslandsOf net o vid islands → AreIslandsOf net o vid others → islands ≡ others

pub one_parts : OneIslands → (bridges : List (List ℕ)) (a b : Net) (o p : Outcome) (vid : ℕ) (parts other : Parts) → ArePartsOf bridges a o b p vid parts → ArePartsOf bridges a o b p vid other → parts ≡ other
one_parts one bridges a b o p vid parts other s t =
    let olds = one a o vid s.0 t.0 s.2 t.2 in
    let news = one b p vid s.1 t.1 s.3 t.3 in
    s.4 ∙ (λ i. all_parts (staying (olds i) (news i) bridges)) ∙ sym t.4

module _ (net : Net) (o : Outcome) (vids : List Bool) (lost : List Failure) (names : List NameItem) (leaving : Leaving) where
  -- the bridges that aren't to leave a VID
  abbrev left : Net → ℕ → List (List ℕ)
  left a vid = remaining leaving vid a lost names

  -- their parts, of bridges that were in one island before
  abbrev HasParts : Net → Outcome → ℕ → Parts → Type 0
  HasParts a q vid parts = ArePartsOf (left a vid) a q net o vid parts

  pub together_broken : (before : Option (Net × Outcome)) (reasons : List Reason) → AreTogetherReasons before leaving net o vids lost names reasons → (reasons ≡ []) ↔ StayTogether before leaving net o vids lost names
  together_broken None reasons r = (λ e. tt, λ _. r)
  together_broken (Some prior) reasons r =
      let a = prior.0 in
      let q = prior.1 in
      let b = vids_broken (HasParts a q) together_reason has_any (λ group parts. told_if (has_any parts) (why.Together (set_where (is_among group)) parts)) vids reasons r in (
        λ e vid h. (let p = r.has vid h in whole_stay a net q o vid p.0 p.1 p.2 p.3 (left a vid) (ap has_any (sym p.4) ∙ b.0 e vid h)),
        λ all. b.1 (λ vid h. let p = r.has vid h in ap has_any p.4 ∙ stay_whole a net q o vid p.0 p.1 p.2 p.3 (left a vid) (all vid h)),
      )

  pub one_together : OneIslands → (before : Option (Net × Outcome)) (reasons others : List Reason) → AreTogetherReasons before leaving net o vids lost names reasons → AreTogetherReasons before leaving net o vids lost names others
      → reasons ≡ others
  one_together one None reasons others x y = x ∙ sym y
  one_together one (Some prior) reasons others x y =
      one_of_vids (HasParts prior.0 prior.1) (λ vid parts other s t. one_parts one (left prior.0 vid) prior.0 net prior.1 o vid parts other s t) together_reason vids reasons others x y

  pub some_together : IslandsOf net o → (before : Option (Net × Outcome)) → MatchOption before ⊤ (λ p. IslandsOf p.0 p.1) → (reasons : List Reason) × AreTogetherReasons before leaving net o vids lost names reasons
  some_together news None olds = ([], refl)
  some_together news (Some prior) olds =
      some_of_parts (HasParts prior.0 prior.1) together_reason
      (λ vid. (all_parts (staying (olds vid).0 (news vid).0 (left prior.0 vid)), ((olds vid).0, (news vid).0, (olds vid).1, (news vid).1, refl))) vids

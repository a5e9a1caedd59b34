-- A reason is told just where an expectation doesn't hold: of paths.
use Rattle.std.proofs.Common.{◌≡◌, ◌↔◌, inl, inr, ℕ, ◌≤◌, not, Bool, true, false, true≢false, List, [], ◌∷◌, length, Option, Some, None, refl, sym, ap, ◌∙◌, subst, arith}
use Rattle.std.specs.Prelude.{nat_lt, if◌then◌else◌}
use Rattle.std.specs.Cmp.Lexicographic.{bytes_decides}
use Rattle.std.specs.List.{Contains}
use Rattle.std.specs.Option.{option_map}
use Rattle.mst_graph.specs.Lists.{has_any}
use Rattle.mst_graph.proofs.Members.{passing}
use Rattle.mst_ids.specs.Vids.{set_where}
use Rattle.mst_net.specs.tables.Tables.{Net}
use Rattle.mst_roles.specs.forest.Outcome.{Outcome}
use Rattle.mst_view.specs.Aggregation.{same_name}
use Rattle.mst_view.specs.Trees.{is_among}
use Rattle.mst_path.specs.Paths.{Hop, IsPathOf, bridges_met, carrying, ends_of}
use Rattle.mst_path.proofs.Apart.{one_first}
use Rattle.mst_path.proofs.Ways.{last_end}
use Rattle.mst_island_judges.specs.judged.reasons.Holds.{AllMeet, AreNear}
use Rattle.mst_island_judges.specs.judged.reasons.Reasons.{AreHopsReasons, AreViaReasons, hops_reason, is_in, via_reason}
use Rattle.mst_island_judges.specs.judged.reasons.Stretches.{HasLongest, HasStretch, LieApart, Stretch, stretch_of}
use Rattle.mst_island_judges.specs.judged.reasons.declared.reason.Reason.{Reason}
use Rattle.mst_island_judges.specs.judged.reasons.declared.reason.Reason.TheVariants as why
use Rattle.mst_island_judges.proofs.judged_lemmas.reasons_lemmas.Things.{any_passes, told_if}
use Rattle.mst_verify.proofs.BrokenParts.{vids_broken}
use Rattle.mst_verify.proofs.BrokenTrees.{less_not, not_less}
use Rattle.mst_verify.proofs.ReachLinked.{same_or_not}

-- ---- hops
-- a stretch is too long
abbrev too_long : ℕ → Option Stretch → Bool
too_long most None = false
too_long most (Some s) = nat_lt most s.hops

hops_told : (most : ℕ) (group : List ℕ) (s : Option Stretch) → (hops_reason most group s ≡ []) ↔ (too_long most s ≡ false)
hops_told most group None = (λ e. refl, λ e. refl)
hops_told most group (Some s) = told_if (nat_lt most s.hops) (why.TooManyHops (set_where (is_among group)) s.hops s.bridges)

module _ (net : Net) (o : Outcome) (most : ℕ) (bridges : List (List ℕ)) (vid : ℕ) where
  abbrev Near : Type 0
  Near = (a b : List ℕ) → Contains bridges a → Contains bridges b → (path : List Hop) → IsPathOf net o vid a b (Some path) → length path ≤ most

  -- the path from a bridge to itself has no hops
  pub none_itself : (a b : List ℕ) (path : List Hop) → IsPathOf net o vid a b (Some path) → a ≡ b → length path ≡ 0
  none_itself a b [] is e = refl
  none_itself a b (h ∷ hops) is e = absurd (is.1.path.bridges_once.0 (subst (Contains (ends_of (h ∷ hops))) (sym e) (last_end (carrying net o vid) b h hops a is.1.path.way)))

  near_quiet : (s : Option Stretch) → HasLongest net o bridges vid s → Near → too_long most s ≡ false
  near_quiet None x near = refl
  near_quiet (Some s) x near = less_not most s.hops (let l = near x.from x.to x.lie.first x.lie.second x.lie.path x.lie.is_path in let m = x.lie.as_many in omega arith)

  quiet_near : (s : Option Stretch) → HasLongest net o bridges vid s → too_long most s ≡ false → Near
  quiet_near s x quiet a b ha hb path is = elim (same_or_not a b) [
    | inl e ↦ (let none = none_itself a b path is e in omega arith)
    | inr n ↦ far s x quiet (record { first = ha; second = hb; two = n; path = path; is_path = is; as_many = refl })
  ]
    where
      far : (s : Option Stretch) → HasLongest net o bridges vid s → too_long most s ≡ false → LieApart net o bridges vid a b (length path) → length path ≤ most
      far None x quiet l = absurd (x a b (length path) l)
      far (Some s) x quiet l = let low = not_less most s.hops quiet in let high = x.most a b (length path) l in omega arith

pub hops_broken : (net : Net) (o : Outcome) (vids : List Bool) (most : ℕ) (bridges : List (List ℕ)) (reasons : List Reason) → AreHopsReasons net o vids most bridges reasons → (reasons ≡ []) ↔ AreNear net o vids most bridges
hops_broken net o vids most bridges reasons r =
    let b = vids_broken (HasLongest net o bridges) (hops_reason most) (too_long most) (hops_told most) vids reasons r in (
      λ e vid h. quiet_near net o most bridges vid (r.value vid) (r.has vid h) (b.0 e vid h),
      λ near. b.1 (λ vid h. near_quiet net o most bridges vid (r.value vid) (r.has vid h) (near vid h)),
    )

-- ---- bridges that a path meets
abbrev misses : List ℕ → Option Stretch → Bool
misses c None = false
misses c (Some s) = not (is_in s.bridges c)

via_told : (c : List ℕ) (group : List ℕ) (s : Option Stretch) → (via_reason c group s ≡ []) ↔ (misses c s ≡ false)
via_told c group None = (λ e. refl, λ e. refl)
via_told c group (Some s) = go (is_in s.bridges c)
  where
    reason : Reason
    reason = why.NotVia (set_where (is_among group)) s.bridges

    go : (b : Bool) → ((if b then [] else reason ∷ []) ≡ []) ↔ (not b ≡ false)
    go true = (λ e. refl, λ e. refl)
    go false = (λ e. absurd (true≢false (ap has_any e)), λ e. absurd (true≢false e))

module _ (net : Net) (o : Outcome) (a b c : List ℕ) (vid : ℕ) where
  abbrev Meets : Type 0
  Meets = (path : List Hop) → IsPathOf net o vid a b (Some path) → Contains (bridges_met a path) c

  met_in : (xs : List (List ℕ)) → Contains xs c → is_in xs c ≡ true
  met_in xs h = any_passes (same_name c) xs c h ((bytes_decides c c).1 refl)

  in_met : (xs : List (List ℕ)) → is_in xs c ≡ true → Contains xs c
  in_met xs e = let p = passing (same_name c) xs e in subst (Contains xs) (sym ((bytes_decides c p.0).0 p.2)) p.1

  quiet_meets : (s : Option Stretch) → HasStretch net o a b vid s → misses c s ≡ false → Meets
  quiet_meets s x quiet path is =
      let same : s ≡ Some (stretch_of a path) = x.are ∙ ap (option_map (stretch_of a)) (one_first net o vid a b x.path (Some path) x.is_path is) in
      in_met (bridges_met a path) (not_false (is_in (bridges_met a path) c) (ap (misses c) (sym same) ∙ quiet))
    where
      not_false : (b : Bool) → not b ≡ false → b ≡ true
      not_false true e = refl
      not_false false e = absurd (true≢false e)

  meets_quiet : (path : Option (List Hop)) → IsPathOf net o vid a b path → Meets → misses c (option_map (stretch_of a) path) ≡ false
  meets_quiet None is meets = refl
  meets_quiet (Some path) is meets = ap not (met_in (bridges_met a path) (meets path is))

pub via_broken : (net : Net) (o : Outcome) (vids : List Bool) (a b c : List ℕ) (reasons : List Reason) → AreViaReasons net o vids a b c reasons → (reasons ≡ []) ↔ AllMeet net o vids a b c
via_broken net o vids a b c reasons r =
    let v = vids_broken (HasStretch net o a b) (via_reason c) (misses c) (via_told c) vids reasons r in (
      λ e vid h. quiet_meets net o a b c vid (r.value vid) (r.has vid h) (v.0 e vid h),
      λ meets. v.1 (λ vid h. let x = r.has vid h in ap (misses c) x.are ∙ meets_quiet net o a b c vid x.path x.is_path (meets vid h)),
    )

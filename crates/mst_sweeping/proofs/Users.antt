-- Links to whose LANs another bridge has one, too, by one bridge that is kept for each LAN.
use Rattle.std.proofs.Common.{◌≡◌, inl, inr, ℕ, ◌+◌, ◌<◌, ◌&&◌, not, Bool, true, false, cond, List, [], ◌∷◌, ◌++◌, length, take, get_or, Some, refl, sym, ap, subst, ◌∙◌, true≢false}
use Rattle.std.specs.Cmp.Lexicographic.{bytes_decides}
use Rattle.std.specs.List.{Contains, filter, list_any}
use Rattle.std.specs.Map.{lookup}
use Rattle.std.specs.Option.{option_map_or}
use Rattle.std.proofs.lemmas.List.{take_more}
use Rattle.std.proofs.lemmas.List.Elements.{Contains-append_cases, Contains-append_left, Contains-append_right}
use Rattle.mst_graph.proofs.Members.{cases, here, in_none, passing}
use Rattle.mst_view.specs.Aggregation.{same_name}
use Rattle.mst_plan.proofs.forest_lemmas.Entries.{all_weaker}
use Rattle.mst_plan.proofs.forest_lemmas.Lists.{all_there}
use Rattle.mst_plan.proofs.forest_lemmas.Looking.{filter_alike}
use Rattle.mst_sweep.proofs.CutApart.{both_true, not_true}
use Rattle.mst_sweep.proofs.Positions.{any_passes}
use Rattle.mst_sweeping.specs.declared.links.Link.{Link}
use Rattle.mst_sweeping.specs.Links.{is_beside, shared}
use Rattle.mst_sweeping.specs.Seen.{is_other, AreUsers}

-- ---- one more link
only : (x k : Link) → Contains (x ∷ []) k → x ≡ k
only x k h = elim (cases x k [] h) [ inl e ↦ e | inr none ↦ absurd (in_none k none) ]

module _ (links : List Link) (i : ℕ) (x : Link) (l : i < length links) (is : x ≡ get_or links i x) (old new : List (List ℕ × List ℕ)) (before : AreUsers (take i links) old)
    (put : (q : List ℕ) → lookup (same_name q) new ≡ cond (same_name x.lan q) (Some x.port.bridge) (lookup (same_name q) old)) where
  abbrev all : List Link
  all = take i links ++ x ∷ []

  more : take (i + 1) links ≡ all
  more = take_more links i x l ∙ ap (λ y. take i links ++ y ∷ []) (sym is)

  users_of : AreUsers all new
  users_of k h = go (same_name x.lan k.lan) refl
    where
      go : (b : Bool) → same_name x.lan k.lan ≡ b → (j : Link) × Contains all j × (j.lan ≡ k.lan) × (lookup (same_name k.lan) new ≡ Some j.port.bridge)
      go true e =
          (x, Contains-append_right (take i links) (x ∷ []) x (here x []), (bytes_decides x.lan k.lan).0 e, put k.lan ∙ ap (λ b. cond b (Some x.port.bridge) (lookup (same_name k.lan) old)) e)
      go false e = elim (Contains-append_cases (take i links) (x ∷ []) k h) [
        | inl c ↦
            let u = before k c in
            (u.0, Contains-append_left (take i links) (x ∷ []) u.0 u.1, u.2, put k.lan ∙ ap (λ b. cond b (Some x.port.bridge) (lookup (same_name k.lan) old)) e ∙ u.3)
        | inr c ↦ absurd (true≢false (sym ((bytes_decides x.lan k.lan).1 (ap (λ (m : Link). m.lan) (only x k c))) ∙ e))
      ]

  pub users_more : AreUsers (take (i + 1) links) new
  users_more = subst (λ ks. AreUsers ks new) (sym more) users_of

-- ---- what they tell
not_so : (b : Bool) → b ≡ false → not b ≡ true
not_so true e = absurd (true≢false e)
not_so false e = refl

module _ (links : List Link) (users : List (List ℕ × List ℕ)) (are : AreUsers links users) where
  abbrev differs : Link → Link → Bool
  differs k j = is_other users j && same_name j.lan k.lan

  -- by the bridge that is kept for its LAN
  other_by : (k : Link) (bridge : List ℕ) → lookup (same_name k.lan) users ≡ Some bridge → is_other users k ≡ not (same_name k.port.bridge bridge)
  other_by k bridge e = ap (λ o. option_map_or (λ bridge. not (same_name k.port.bridge bridge)) o false) e

  module _ (k : Link) (there : Contains links k) where
    first : (j : Link) → Contains links j → differs k j ≡ true → list_any (is_beside k) links ≡ true
    first j h e =
        let parts = both_true (is_other users j) (same_name j.lan k.lan) e in
        let lan : j.lan ≡ k.lan = (bytes_decides j.lan k.lan).0 parts.1 in
        let u = are k there in
        let kept : lookup (same_name j.lan) users ≡ Some u.0.port.bridge = ap (λ n. lookup (same_name n) users) lan ∙ u.3 in
        let other : not (same_name j.port.bridge u.0.port.bridge) ≡ true = sym (other_by j u.0.port.bridge kept) ∙ parts.0 in
        go j h parts.1 u.0 u.1 u.2 other (same_name u.0.port.bridge k.port.bridge) refl
      where
        go : (j : Link) → Contains links j → same_name j.lan k.lan ≡ true → (m : Link) → Contains links m → m.lan ≡ k.lan → not (same_name j.port.bridge m.port.bridge) ≡ true
            → (b : Bool) → same_name m.port.bridge k.port.bridge ≡ b → list_any (is_beside k) links ≡ true
        go j h lan m c lan_too other true f =
            let one : m.port.bridge ≡ k.port.bridge = (bytes_decides m.port.bridge k.port.bridge).0 f in
            any_passes (is_beside k) links j h (ap (λ b. b && not (same_name j.port.bridge k.port.bridge)) lan ∙ ap (λ n. not (same_name j.port.bridge n)) (sym one) ∙ other)
        go j h lan m c lan_too other false f =
            any_passes (is_beside k) links m c (λ i. (bytes_decides m.lan k.lan).1 lan_too i && not_so (same_name m.port.bridge k.port.bridge) f i)

    second : (j : Link) → Contains links j → is_beside k j ≡ true → list_any (differs k) links ≡ true
    second j h e =
        let parts = both_true (same_name j.lan k.lan) (not (same_name j.port.bridge k.port.bridge)) e in
        let u = are k there in
        go j h parts.0 parts.1 u.0.port.bridge u.3 (same_name j.port.bridge u.0.port.bridge) refl
      where
        go : (j : Link) → Contains links j → same_name j.lan k.lan ≡ true → not (same_name j.port.bridge k.port.bridge) ≡ true → (bridge : List ℕ) → lookup (same_name k.lan) users ≡ Some bridge
            → (b : Bool) → same_name j.port.bridge bridge ≡ b → list_any (differs k) links ≡ true
        go j h lan other bridge kept false f =
            let same : j.lan ≡ k.lan = (bytes_decides j.lan k.lan).0 lan in
            let is : is_other users j ≡ true = other_by j bridge (ap (λ n. lookup (same_name n) users) same ∙ kept) ∙ not_so (same_name j.port.bridge bridge) f in
            any_passes (differs k) links j h (λ i. is i && lan i)
        go j h lan other bridge kept true f =
            let one : j.port.bridge ≡ bridge = (bytes_decides j.port.bridge bridge).0 f in
            let own : same_name k.lan k.lan ≡ true = (bytes_decides k.lan k.lan).1 refl in
            any_passes (differs k) links k there (λ i. (other_by k bridge kept ∙ not_so (same_name k.port.bridge bridge) (apart bridge one (same_name k.port.bridge bridge) refl)) i && own i)
          where
            apart : (bridge : List ℕ) → j.port.bridge ≡ bridge → (b : Bool) → same_name k.port.bridge bridge ≡ b → same_name k.port.bridge bridge ≡ false
            apart bridge one false g = g
            apart bridge one true g =
                let same : k.port.bridge ≡ bridge = (bytes_decides k.port.bridge bridge).0 g in
                absurd (not_true (same_name j.port.bridge k.port.bridge) other ((bytes_decides j.port.bridge k.port.bridge).1 (one ∙ sym same)))

    same_bool : (b c : Bool) → (b ≡ true → c ≡ true) → (c ≡ true → b ≡ true) → b ≡ c
    same_bool true c f g = sym (f refl)
    same_bool false true f g = absurd (true≢false (sym (g refl)))
    same_bool false false f g = refl

    other_beside : list_any (differs k) links ≡ list_any (is_beside k) links
    other_beside =
        same_bool (list_any (differs k) links) (list_any (is_beside k) links)
        (λ e. let r = passing (differs k) links e in first r.0 r.1 r.2)
        (λ e. let r = passing (is_beside k) links e in second r.0 r.1 r.2)

  pub shared_by : (on : List ℕ → Bool) → ((lan : List ℕ) → on lan ≡ list_any (λ j. is_other users j && same_name j.lan lan) links) → filter (λ k. on k.lan) links ≡ shared links
  shared_by on told =
      filter_alike (λ k. on k.lan) (λ k. list_any (is_beside k) links) links
      (all_weaker (Contains links) _ (λ k there. told k.lan ∙ other_beside k there) links (all_there links))

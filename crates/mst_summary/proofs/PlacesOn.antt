-- The ports at the places of a logical LAN are its ports.
use Rattle.std.proofs.Common.{◌≡◌, ℕ, ◌+◌, ◌<◌, ◌≤◌, ◌&&◌, ◌||◌, Bool, true, false, not, cond, List, [], ◌∷◌, ◌++◌, length, get_or, map, filter, fold, Option, Some, None, suc, zero, refl, sym, ap, subst, ◌∙◌, append_assoc, arith, take, slice_get, length-append}
use Rattle.std.specs.Prelude.{if◌then◌else◌}
use Rattle.std.specs.List.{AllByRecursion, list_any, range_with_len}
use Rattle.std.specs.Option.{option_map_or}
use Rattle.std.proofs.lemmas.List.{get_or-map}
use Rattle.std.proofs.lemmas.Option.{get_or_from_slice_get, slice_get-get_or}
use Rattle.mst_view.specs.Aggregation.{same_name}
use Rattle.mst_view.specs.Viewed.{Viewed, named_port}
use Rattle.mst_view.specs.View.{LogicalPort}
use Rattle.mst_view.specs.declared.in_view.PortInView.{PortInView}
use Rattle.mst_vlan.specs.forest.Forest.{Forest}
use Rattle.mst_vlan.specs.roles.SeenRoles.{seen_forwards}
use Rattle.mst_vlan.specs.Seen.{seen_member}
use Rattle.mst_vlan.specs.Carried.{seen_is_link}
use Rattle.mst_vlan.proofs.forest_lemmas.Looking.{filter_alike}
use Rattle.mst_summary.specs.Carries.{are_of_two}
use Rattle.mst_summary.specs.declared.crossing.Crossing.{Crossing}
use Rattle.mst_summary.specs.Places.{is_on, places_on, no_port, with_bridge, with_place, with_places}
use Rattle.mst_summary.specs.Seen.{seen_on, seen_carries, seen_over}
use Rattle.mst_summary.proofs.Lists.{any_mapped}
use Rattle.mst_summary.proofs.VidClasses.{each_is}

or_more : (a b c : Bool) → ((a || b) || c) ≡ (a || (b || c))
or_more true b c = refl
or_more false b c = refl

and_turned : (a b : Bool) → (a && b) ≡ (b && a)
and_turned true true = refl
and_turned true false = refl
and_turned false true = refl
and_turned false false = refl

-- the element behind some
at_length : {A : Type 0} (before : List A) (x : A) (xs : List A) → slice_get (before ++ x ∷ xs) (length before) ≡ Some x
at_length [] x xs = refl
at_length (y ∷ before) x xs = at_length before x xs

-- to go over those that pass
fold_passing : {A B : Type 0} (test : A → Bool) (g : B → A → B) (b : B) (xs : List A) → fold (λ b x. if test x then g b x else b) b xs ≡ fold g b (filter test xs)
fold_passing test g b [] = refl
fold_passing {A} {B} test g b (x ∷ xs) = go (test x) (λ b. fold_passing test g b xs)
  where
    go : (t : Bool) → ((b : B) → fold (λ b x. if test x then g b x else b) b xs ≡ fold g b (filter test xs))
        → fold (λ b x. if test x then g b x else b) (if t then g b x else b) xs ≡ fold g b (cond t (x ∷ filter test xs) (filter test xs))
    go true rest = rest (g b x)
    go false rest = rest b

-- ---- the bridges of ports
abbrev with_port : Crossing → PortInView → Crossing
with_port c p = with_bridge c p.name.bridge

abbrev begun : List ℕ → Bool → Crossing
begun bridge two = record { first = Some bridge; is_of_two = two }

others_met : (bridge : List ℕ) (two : Bool) (ports : List PortInView) → (fold with_port (begun bridge two) ports).is_of_two ≡ (two || list_any (λ (p : PortInView). not (same_name p.name.bridge bridge)) ports)
others_met bridge true [] = refl
others_met bridge false [] = refl
others_met bridge two (p ∷ ports) =
    others_met bridge (two || not (same_name p.name.bridge bridge)) ports ∙ or_more two (not (same_name p.name.bridge bridge)) (list_any (λ (p : PortInView). not (same_name p.name.bridge bridge)) ports)

two_met : (ports : List PortInView) → (fold with_port no_port ports).is_of_two ≡ are_of_two (map named_port ports)
two_met [] = refl
two_met (p ∷ ports) = others_met p.name.bridge false ports ∙ sym (any_mapped (λ (q : LogicalPort). not (same_name q.name.bridge p.name.bridge)) named_port ports)

-- ---- the places
module _ (v : Viewed) (f : Forest) (vid : ℕ) (lan : List ℕ) where
  abbrev on_lan : PortInView → Bool
  on_lan p = same_name p.lan lan

  abbrev if_link : Crossing → PortInView → Crossing
  if_link c p = if seen_is_link v f vid p then with_port c p else c

  abbrev by_place : Crossing → ℕ → Crossing
  by_place = with_place v f vid

  rest_met : (before ports : List PortInView) → v.ports ≡ before ++ ports → (c : Crossing) → fold by_place c (filter (is_on v lan) (range_with_len (length before) (length ports))) ≡ fold if_link c (filter on_lan ports)
  rest_met before [] e c = refl
  rest_met before (p ∷ ports) e c = go (on_lan p) refl (rest_met (before ++ p ∷ []) ports (e ∙ sym (append_assoc before (p ∷ []) ports)))
    where
      here : slice_get v.ports (length before) ≡ Some p
      here = ap (λ ps. slice_get ps (length before)) e ∙ at_length before p ports

      next : ((c : Crossing) → fold by_place c (filter (is_on v lan) (range_with_len (length (before ++ p ∷ [])) (length ports))) ≡ fold if_link c (filter on_lan ports)) → (c : Crossing) → fold by_place c (filter (is_on v lan) (range_with_len (length before + 1) (length ports))) ≡ fold if_link c (filter on_lan ports)
      next rest c = ap (λ n. fold by_place c (filter (is_on v lan) (range_with_len n (length ports)))) (sym (length-append before (p ∷ []))) ∙ rest c

      on : is_on v lan (length before) ≡ on_lan p
      on = ap (λ o. option_map_or on_lan o false) here

      place_met : by_place c (length before) ≡ if_link c p
      place_met = ap (λ o. option_map_or (if_link c) o c) here

      go : (b : Bool) → on_lan p ≡ b → ((c : Crossing) → fold by_place c (filter (is_on v lan) (range_with_len (length (before ++ p ∷ [])) (length ports))) ≡ fold if_link c (filter on_lan ports)) → fold by_place c (filter (is_on v lan) (range_with_len (length before) (length (p ∷ ports)))) ≡ fold if_link c (filter on_lan (p ∷ ports))
      go true k rest =
          ap (λ b. fold by_place c (cond b (length before ∷ filter (is_on v lan) (range_with_len (length before + 1) (length ports))) (filter (is_on v lan) (range_with_len (length before + 1) (length ports))))) (on ∙ k)
          ∙ ap (λ d. fold by_place d (filter (is_on v lan) (range_with_len (length before + 1) (length ports)))) place_met
          ∙ next rest (if_link c p)
          ∙ sym (ap (λ b. fold if_link c (cond b (p ∷ filter on_lan ports) (filter on_lan ports))) k)
      go false k rest =
          ap (λ b. fold by_place c (cond b (length before ∷ filter (is_on v lan) (range_with_len (length before + 1) (length ports))) (filter (is_on v lan) (range_with_len (length before + 1) (length ports))))) (on ∙ k)
          ∙ next rest c
          ∙ sym (ap (λ b. fold if_link c (cond b (p ∷ filter on_lan ports) (filter on_lan ports))) k)

  pub over_places : (with_places v f vid (places_on v lan)).is_of_two ≡ seen_over v f (seen_on v lan) vid
  over_places =
      ap (λ (c : Crossing). c.is_of_two) (rest_met [] v.ports refl no_port ∙ fold_passing (seen_is_link v f vid) with_port no_port (seen_on v lan))
      ∙ two_met (filter (seen_is_link v f vid) (seen_on v lan))
      ∙ ap (λ ports. are_of_two (map named_port ports))
      (filter_alike (seen_is_link v f vid) (seen_carries v f vid) (seen_on v lan) (each_is _ (λ (p : PortInView). and_turned (seen_member v vid p) (seen_forwards v f vid p)) (seen_on v lan)))

-- each of these places is below the number of ports
below_range : (test : ℕ → Bool) (first n bound : ℕ) → first + n ≤ bound → AllByRecursion (λ place. place < bound) (filter test (range_with_len first n))
below_range test first zero bound l = tt
below_range test first (suc n) bound l = go (test first) (below_range test (first + 1) n bound (omega arith))
  where
    go : (t : Bool) → AllByRecursion (λ place. place < bound) (filter test (range_with_len (first + 1) n)) → AllByRecursion (λ place. place < bound) (cond t (first ∷ filter test (range_with_len (first + 1) n)) (filter test (range_with_len (first + 1) n)))
    go true rest = (omega arith, rest)
    go false rest = rest

pub places_below : (v : Viewed) (lan : List ℕ) → AllByRecursion (λ place. place < length v.ports) (places_on v lan)
places_below v lan = below_range (is_on v lan) 0 (length v.ports) (length v.ports) (omega arith)

-- ---- one more place
port_at : (v : Viewed) (place : ℕ) → place < length v.ports → (p : PortInView) × (slice_get v.ports place ≡ Some p)
port_at v place below = go (v.ports) place below
  where
    go : (ports : List PortInView) (place : ℕ) → place < length ports → (p : PortInView) × (slice_get ports place ≡ Some p)
    go [] place l = absurd (omega arith)
    go (p ∷ ports) zero l = (p, refl)
    go (p ∷ ports) (suc place) l = go ports place (omega arith)

pub place_met : (v : Viewed) (f : Forest) (vid : ℕ) (c : Crossing) (place : ℕ) (p : PortInView) → slice_get v.ports place ≡ Some p → place < length v.ports → (carries : Bool)
    → carries ≡ get_or (map (seen_is_link v f vid) v.ports) place false → with_place v f vid c place ≡ (if carries then with_bridge c p.name.bridge else c)
place_met v f vid c place p at below carries is =
    let link : carries ≡ seen_is_link v f vid p = is ∙ get_or-map (seen_is_link v f vid) v.ports place p false below ∙ ap (seen_is_link v f vid) (get_or_from_slice_get v.ports place p p at) in
    ap (λ o. option_map_or (λ p. if seen_is_link v f vid p then with_bridge c p.name.bridge else c) o c) at ∙ ap (λ b. if b then with_bridge c p.name.bridge else c) (sym link)

pub place_left : (v : Viewed) (f : Forest) (vid : ℕ) (c : Crossing) (place : ℕ) → place < length v.ports → get_or (map (seen_is_link v f vid) v.ports) place false ≡ false → with_place v f vid c place ≡ c
place_left v f vid c place below e = let p = port_at v place below in place_met v f vid c place p.0 p.1 below false (sym e)

pub on_at : (v : Viewed) (lan : List ℕ) (place : ℕ) (p : PortInView) → place < length v.ports → p ≡ get_or v.ports place p → is_on v lan place ≡ same_name p.lan lan
on_at v lan place p below is = ap (λ o. option_map_or (λ p. same_name p.lan lan) o false) (slice_get-get_or v.ports place p below ∙ ap Some (sym is))

-- The bridges of a list and others that are on, as they are seen in a view, and which parts have some of both.
use Rattle.std.proofs.Common.{◌≡◌, inl, inr, ℕ, ◌&&◌, ◌||◌, Bool, true, false, true≢false, List, [], ◌∷◌, map, Option, refl, sym, ap, subst, ◌∙◌}
use Rattle.std.specs.List.{Contains, filter, list_any}
use Rattle.std.specs.Cmp.Lexicographic.{bytes_decides}
use Rattle.std.specs.FinMap as fin
use Rattle.mst_graph.specs.Groups.{AreGroups}
use Rattle.mst_graph.specs.Islands.{AreJoined}
use Rattle.mst_graph.specs.Walks.{bridge_at, stay}
use Rattle.mst_graph.proofs.Alike.{alike_groups}
use Rattle.mst_graph.proofs.Members.{here, there, from_filter, from_map, in_filter, in_map, in_whole, passing}
use Rattle.mst_view.specs.Aggregation.{same_name}
use Rattle.mst_view.specs.Viewed.{Viewed, IsView, named_bridge}
use Rattle.mst_view.specs.declared.in_view.BridgeInView.{BridgeInView}
use Rattle.mst_policy.specs.declared.item.NameItem.{NameItem}
use Rattle.mst_tables.specs.Seen.{bridge_row}
use Rattle.mst_tables.specs.Tables.{Net, Numbers, BridgeRow}
use Rattle.mst_forest.specs.Outcome.{Outcome}
use Rattle.mst_forest.proofs.Entries.{all_weaker}
use Rattle.mst_forest.proofs.Lists.{all_there, filter_mapped, mapped_twice}
use Rattle.mst_forest.proofs.Looking.{filter_alike}
use Rattle.mst_judged.specs.reasons.sweep.vlan.Reach.{bridges_on, vid_links}
use Rattle.mst_judged.specs.reasons.Holds.{AreTogether, IsReached}
use Rattle.mst_judged.specs.reasons.Seen.{names_in}
use Rattle.mst_judged.specs.Islands.{AreReachParts}
use Rattle.mst_judged.specs.reasons.sweep.declared.failure.Failure.{Failure}
use Rattle.mst_judged.specs.reasons.Named.{is_named, named}
use Rattle.mst_judged.specs.reasons.Reasons.{AreBoth, Parts, either_on, has_both, is_in}
use Rattle.mst_island_judges.specs.Seen.{are_of_both, is_other, others_in, seen_either}
use Rattle.mst_judged.proofs.reasons_lemmas.Things.{any_passes, filter_twice}
use Rattle.mst_judged.proofs.NamedIn.{name_there}

-- ---- tests of lists
any_alike : {A : Type 0} (p q : A → Bool) (xs : List A) → ((x : A) → Contains xs x → p x ≡ q x) → list_any p xs ≡ list_any q xs
any_alike p q [] h = refl
any_alike p q (x ∷ xs) h = λ i. h x (here x xs) i || any_alike p q xs (λ y k. h y (there x y xs k)) i

module _ (net : Net) where
  abbrev those : (List ℕ → Bool) → List (List ℕ)
  those test = filter test (fin.keys net.bridges)

  -- a bridge of the network is in the list of those that pass a test just where it passes
  in_those : (test : List ℕ → Bool) (x : List ℕ) → Contains (fin.keys net.bridges) x → is_in (those test) x ≡ test x
  in_those test x h = go (test x) refl
    where
      none : (c : Bool) → is_in (those test) x ≡ c → test x ≡ false → is_in (those test) x ≡ test x
      none false f e = f ∙ sym e
      none true f e =
          let p = passing (same_name x) (those test) f in
          let q = from_filter test (fin.keys net.bridges) p.0 p.1 in
          absurd (true≢false (sym q.1 ∙ ap test (sym ((bytes_decides x p.0).0 p.2)) ∙ e))

      go : (b : Bool) → test x ≡ b → is_in (those test) x ≡ test x
      go true e = any_passes (same_name x) (those test) x (in_filter test (fin.keys net.bridges) x h e) ((bytes_decides x x).1 refl) ∙ sym e
      go false e = none (is_in (those test) x) refl e

  on_there : (x : List ℕ) → Contains (bridges_on net) x → Contains (fin.keys net.bridges) x
  on_there x h =
      let e = from_map (λ (e : List ℕ × BridgeRow). e.0) (filter (λ (e : List ℕ × BridgeRow). e.1.is_on) (fin.entries net.bridges)) x h in
      let k = from_filter (λ (e : List ℕ × BridgeRow). e.1.is_on) (fin.entries net.bridges) e.0 e.1 in
      subst (Contains (fin.keys net.bridges)) e.2 (in_map (λ (e : List ℕ × BridgeRow). e.0) (fin.entries net.bridges) e.0 k.0)

module _ (net : Net) (numbers : Numbers) (v : Viewed) (view : IsView net numbers v) (lost : List Failure) (names : List NameItem) (others : Option (List NameItem)) where
  abbrev one : List ℕ → Bool
  one = is_named lost names

  abbrev other : List ℕ → Bool
  other = is_other lost names others

  abbrev ones : List (List ℕ)
  ones = named net lost names

  abbrev rest : List (List ℕ)
  rest = others_in net lost names others

  abbrev listed : List ℕ → Bool
  listed x = is_in ones x || is_in rest x

  abbrev on : BridgeInView → Bool
  on b = (bridge_row b.bridge).is_on

  on_names : bridges_on net ≡ names_in (filter on v.bridges)
  on_names =
      ap (λ (es : List (List ℕ × BridgeRow)). map (λ (e : List ℕ × BridgeRow). e.0) (filter (λ (e : List ℕ × BridgeRow). e.1.is_on) es)) (sym view.bridges)
      ∙ ap (map (λ (e : List ℕ × BridgeRow). e.0)) (filter_mapped (λ (e : List ℕ × BridgeRow). e.1.is_on) named_bridge v.bridges)
      ∙ mapped_twice (λ (e : List ℕ × BridgeRow). e.0) named_bridge (filter on v.bridges)

  same_test : (b : BridgeInView) → Contains v.bridges b → (on b && listed b.name) ≡ seen_either lost names others b
  same_test b h = let k = name_there net numbers v view b h in λ i. on b && (in_those net one b.name k i || in_those net other b.name k i)

  pub either_seen : names_in (filter (seen_either lost names others) v.bridges) ≡ either_on net ones rest
  either_seen =
      ap names_in
      (sym
      (filter_twice (λ (b : BridgeInView). listed b.name) on v.bridges
      ∙ filter_alike (λ (b : BridgeInView). on b && listed b.name) (seen_either lost names others) v.bridges (all_weaker (Contains v.bridges) _ same_test v.bridges (all_there v.bridges))))
      ∙ sym (filter_mapped listed (λ (b : BridgeInView). b.name) (filter on v.bridges))
      ∙ ap (filter listed) (sym on_names)

  module _ (o : Outcome) (vid : ℕ) (all : Parts) (are : AreReachParts net o (names_in (filter (seen_either lost names others) v.bridges)) vid all) where
    abbrev either : List (List ℕ)
    either = either_on net ones rest

    is_on : (x : List ℕ) → Contains either x → Contains (bridges_on net) x
    is_on x h = (from_filter listed (bridges_on net) x h).0

    together : (x y : List ℕ) → Contains either x → Contains either y → IsReached net o vid x y → AreTogether net o vid x y
    together x y hx hy (inr t) = t
    together x y hx hy (inl e) = record { first = is_on x hx; second = is_on y hy; joined = subst (λ z. AreJoined (vid_links net o vid) (bridge_at x) (bridge_at z)) e stay }

    groups : AreGroups (AreTogether net o vid) either all
    groups =
        alike_groups (IsReached net o vid) (AreTogether net o vid) either all (λ x y hx hy. (together x y hx hy, λ t. inr t))
        (subst (λ bridges. AreGroups (IsReached net o vid) bridges all) either_seen are)

    -- which parts have bridges of both lists
    same_both : (part : List (List ℕ)) → Contains all part → are_of_both lost names others part ≡ has_both ones rest part
    same_both part k =
        let in_net = λ (x : List ℕ) (h : Contains part x). on_there net x (is_on x (in_whole (groups.in_order part k) x h)) in
        λ i. any_alike one (is_in ones) part (λ x h. sym (in_those net one x (in_net x h))) i
        && any_alike other (is_in rest) part (λ x h. sym (in_those net other x (in_net x h))) i

    pub are_both : AreBoth net o ones rest vid (filter (are_of_both lost names others) all)
    are_both = record {
      all = all;
      are_parts = groups;
      are = filter_alike (are_of_both lost names others) (has_both ones rest) all (all_weaker (Contains all) _ same_both all (all_there all));
    }

-- The parts of the bridges of NAMES that a network and the one before have.
use Rattle.std.proofs.Common.{◌≡◌, ℕ, ◌+◌, ◌<◌, ◌&&◌, not, Bool, List, [], get_or, Option, Some, None, refl, sym, ap, subst, ◌∙◌}
use Rattle.std.specs.List.{filter, filter_map}
use Rattle.std.specs.Option.{option_and_then, option_map}
use Rattle.mst_judged.specs.reasons.sweep.vlan.Carried.{CarryAlike, ViewWithTrees}
use Rattle.mst_judged.specs.reasons.sweep.vlan.classes.Classes.{AreClasses, AreInSame}
use Rattle.mst_judged.specs.reasons.sweep.facts.Both.{seen_both}
use Rattle.mst_judged.specs.reasons.sweep.facts.declared.both.Both.{Both}
use Rattle.mst_graph.specs.Islands.{AreIslands, AreJoined, Island}
use Rattle.mst_graph.specs.Walks.{bridge_at}
use Rattle.mst_graph.specs.declared.keys.Numbering.{Numbering}
use Rattle.mst_view.specs.Viewed.{Viewed}
use Rattle.mst_policy.specs.Leaving.{Leaving, leaves, sets_of}
use Rattle.mst_policy.specs.declared.item.NameItem.{NameItem}
use Rattle.mst_view.specs.View.{bridge_names}
use Rattle.mst_tables.specs.Tables.{IsNetwork, Net}
use Rattle.mst_forest.specs.Outcome.{Outcome}
use Rattle.mst_forest.specs.Settled.{IsSettledNet, outcome_of, SettledNet}
use Rattle.mst_forest.proofs.Lists.{no_some, some_is}
use Rattle.mst_judged.specs.reasons.sweep.vlan.Reach.{AreIslandsOf, bridges_on, lans_up, vid_links}
use Rattle.mst_judged.specs.reasons.sweep.Baseline.{AreHomes}
use Rattle.mst_judged.specs.reasons.sweep.Parts.{all_parts, ArePartsOf, staying, stays_at}
use Rattle.mst_judged.specs.reasons.sweep.Seen.{seen_stays}
use Rattle.mst_judged.specs.reasons.sweep.declared.parts.Stays.{Stays}
use Rattle.mst_judged.proofs.reasons_lemmas.sweep_lemmas.Stay.{all_stay}
use Rattle.mst_judged.specs.Islands.{ArePartsBeside, HasHomesBy, IsKeptBefore, IsKeptOf, IsOneOf}
use Rattle.mst_judged.specs.reasons.sweep.declared.failure.Failure.{Failure}
use Rattle.mst_judged.specs.reasons.Named.{is_named, Prior, remaining}
use Rattle.mst_judged.specs.reasons.Reasons.{AreTogetherReasons, AreVidReasons, Parts, together_reason}
use Rattle.mst_judged.specs.declared.prior.Prior.{Prior as KeptPrior}
use Rattle.mst_judged.specs.reasons.declared.reason.Reason.{Reason}
use Rattle.mst_judged.proofs.OfVids.{so_of_vids}
use Rattle.mst_island_judges.proofs.StayTogether.{stay_whole}
use Rattle.mst_judged.proofs.StillReached.{links_alike}
use Rattle.mst_judged.proofs.reasons_lemmas.Remaining.{same_remaining}
use Rattle.mst_judged.proofs.reasons_lemmas.Things.{filter_twice, kept_named, no_any}
use Rattle.mst_judged.proofs.VidParts.{one_alike, same_links}

-- a bridge that stays keeps its name
named_by : (name : List ℕ) (old new : Option ℕ) (x : Stays) → option_and_then (λ before. option_map (λ after. let stays : Stays = record { name = name; before = before; after = after } in stays) new) old ≡ Some x → x.name ≡ name
named_by name None new x e = absurd (no_some x e)
named_by name (Some i) None x e = absurd (no_some x e)
named_by name (Some i) (Some j) x e = sym (ap (λ (s : Stays). s.name) (some_is (record { name = name; before = i; after = j }) x e))

-- ---- one network before
module _ (t s : SettledNet) (is : IsSettledNet t) (are : IsSettledNet s) (leaving : Leaving) (lost : List Failure) (names : List NameItem) (vid : ℕ) where
  abbrev Are : Parts → Type 0
  Are parts = ArePartsOf (remaining leaving vid t.net lost names) t.net (outcome_of t) s.net (outcome_of s) vid parts

  -- a bridge of NAMES that isn't to leave
  abbrev rests : List ℕ → Bool
  rests name = is_named lost names name && not (leaves leaving vid name)

  -- by the places of islands
  homes_parts : (olds news : List (ℕ × ℕ)) → AreHomes t.net t.numbers (outcome_of t) vid olds → AreHomes s.net s.numbers (outcome_of s) vid news
      → Are (all_parts (filter_map (seen_stays olds news) (filter (λ (b : Both). not (leaves leaving vid b.old.name)) (filter (λ (b : Both). is_named lost names b.old.name) (seen_both t.view s.view)))))
  homes_parts olds news h k = (
    h.0,
    k.0,
    h.1,
    k.1,
    ap all_parts
        (ap (filter_map (seen_stays olds news)) (filter_twice (λ (b : Both). not (leaves leaving vid b.old.name)) (λ (b : Both). is_named lost names b.old.name) (seen_both t.view s.view))
        ∙ kept_named (seen_stays olds news) (λ (b : Both). b.old.name) (λ (x : Stays). x.name) (λ b x e. named_by b.old.name _ _ x e) rests (seen_both t.view s.view)
        ∙ ap (filter (λ (x : Stays). rests x.name))
        (all_stay t.net s.net t.numbers s.numbers t.view s.view t.forest s.forest is.of are.of (outcome_of t) (outcome_of s) vid h.0 k.0 k.1 olds news h.2 k.2)
        ∙ sym (kept_named (stays_at h.0 k.0) (λ (n : List ℕ). n) (λ (x : Stays). x.name) (λ n x e. named_by n _ _ x e) rests (bridge_names t.net))
        ∙ ap (filter_map (stays_at h.0 k.0)) (sym (filter_twice (λ (n : List ℕ). not (leaves leaving vid n)) (is_named lost names) (bridge_names t.net)))),
  )

  -- where the same ports carry the VID
  none_parts : (olds : (islands : List (Island (List ℕ) (List ℕ))) × AreIslandsOf t.net (outcome_of t) vid islands) (news : (islands : List (Island (List ℕ) (List ℕ))) × AreIslandsOf s.net (outcome_of s) vid islands)
      → vid_links t.net (outcome_of t) vid ≡ vid_links s.net (outcome_of s) vid → Are []
  none_parts olds news same = (
    olds.0,
    news.0,
    olds.1,
    news.1,
    sym (no_any (all_parts (staying olds.0 news.0 (remaining leaving vid t.net lost names)))
        (stay_whole t.net s.net (outcome_of t) (outcome_of s) vid olds.0 news.0 olds.1 news.1 (remaining leaving vid t.net lost names)
        (λ x y hx hy on_x on_y were. record { first = on_x; second = on_y; joined = subst (λ links. AreJoined links (bridge_at x) (bridge_at y)) same were.joined }))),
  )

-- ---- each network of which something is kept
module _ (s : SettledNet) (are : IsSettledNet s) (old : ViewWithTrees) (leaving : Leaving) (lost : List Failure) (names : List NameItem) where
  abbrev Each : ℕ → Parts → Type 0
  Each vid parts = (net : Net) (o : Outcome) → IsOneOf net o old → ArePartsOf (remaining leaving vid net lost names) net o s.net (outcome_of s) vid parts

  -- what is so of its settled network is so of a network
  by_one : (net : Net) (o : Outcome) (one : IsOneOf net o old) (vid : ℕ) (parts : Parts) → ArePartsOf (remaining leaving vid one.network.net lost names) one.network.net (outcome_of one.network) s.net (outcome_of s) vid parts
      → ArePartsOf (remaining leaving vid net lost names) net o s.net (outcome_of s) vid parts
  by_one net o one vid parts h =
      subst (λ q. ArePartsOf (remaining leaving vid net lost names) net q s.net (outcome_of s) vid parts) one.outcome_is
      (subst (λ n. ArePartsOf (remaining leaving vid n lost names) n (outcome_of one.network) s.net (outcome_of s) vid parts) one.net_is h)

  beside_parts : (vid : ℕ) (olds news : List (ℕ × ℕ)) → HasHomesBy old vid olds → AreHomes s.net s.numbers (outcome_of s) vid news
      → (both : List Both) → both ≡ filter (λ (b : Both). is_named lost names b.old.name) (seen_both old.view s.view)
      → (parts : Parts) → parts ≡ all_parts (filter_map (seen_stays olds news) (filter (λ (b : Both). not (leaves leaving vid b.old.name)) both)) → Each vid parts
  beside_parts vid olds news had has both both_are parts parts_are net o one =
      let t = one.network in
      let view : old.view ≡ t.view = ap (λ (c : ViewWithTrees). c.view) one.is_of in
      let same : parts ≡ all_parts (filter_map (seen_stays olds news) (filter (λ (b : Both). not (leaves leaving vid b.old.name)) (filter (λ (b : Both). is_named lost names b.old.name) (seen_both t.view s.view)))) =
      parts_are ∙ ap (λ (bs : List Both). all_parts (filter_map (seen_stays olds news) (filter (λ (b : Both). not (leaves leaving vid b.old.name)) bs))) (both_are ∙ ap (λ (v : Viewed). filter (λ (b : Both). is_named lost names b.old.name) (seen_both v s.view)) view) in
      by_one net o one vid parts
      (subst (ArePartsOf (remaining leaving vid t.net lost names) t.net (outcome_of t) s.net (outcome_of s) vid) (sym same) (homes_parts t s one.settled are leaving lost names vid olds news (had t one.settled one.is_of) has))

  -- where those that are to leave a VID were left out, which is this one
  pub beside_parts_of : (of vid : ℕ) → of ≡ vid → (olds news : List (ℕ × ℕ)) → HasHomesBy old vid olds → AreHomes s.net s.numbers (outcome_of s) vid news
      → (both : List Both) → both ≡ filter (λ (b : Both). is_named lost names b.old.name) (seen_both old.view s.view)
      → (parts : Parts) → parts ≡ all_parts (filter_map (seen_stays olds news) (filter (λ (b : Both). not (leaves leaving of b.old.name)) both)) → Each vid parts
  beside_parts_of of vid same olds news had has both both_are parts told =
      beside_parts vid olds news had has both both_are parts (subst (λ v. parts ≡ all_parts (filter_map (seen_stays olds news) (filter (λ (b : Both). not (leaves leaving v b.old.name)) both))) same told)

  pub beside_none : ((net : Net) (o : Outcome) (vid : ℕ) → IsNetwork net → (islands : List (Island (List ℕ) (List ℕ))) × AreIslandsOf net o vid islands) → (vid : ℕ) → CarryAlike old (record { view = s.view; forest = s.forest }) vid → Each vid []
  beside_none some vid alike net o one =
      let t = one.network in
      let carried = subst (λ (c : ViewWithTrees). CarryAlike c (record { view = s.view; forest = s.forest }) vid) one.is_of alike in
      by_one net o one vid []
      (none_parts t s one.settled are leaving lost names vid (some t.net (outcome_of t) vid one.settled.of.network) (some s.net (outcome_of s) vid are.of.network) (links_alike t s one.settled are vid carried))

  -- VIDs of one class of both networks, which are in the same sets, have one list of parts
  pub beside_moved : (c : Numbering) → AreClasses old.view c → AreClasses s.view c → AreInSame (sets_of leaving) c → (i j : ℕ) → i < 4094 → j < 4094 → get_or c.numbers.items i 0 ≡ get_or c.numbers.items j 0 → (parts : Parts) → Each (i + 1) parts → Each (j + 1) parts
  beside_moved c had has alike i j li lj same parts each net o one =
      let t = one.network in
      let known : AreClasses t.view c = subst (λ (v : Viewed). AreClasses v c) (ap (λ (c : ViewWithTrees). c.view) one.is_of) had in
      let h = each t.net (outcome_of t) (record { network = t; settled = one.settled; is_of = one.is_of; net_is = refl; outcome_is = refl }) in
      by_one net o one (j + 1) parts (
        h.0,
        h.1,
        subst (λ ks. AreIslands (bridges_on t.net) (lans_up t.net) ks h.0) (same_links t one.settled c known (i + 1) (j + 1) (one_alike t.view c known i j li lj same)) h.2,
        subst (λ ks. AreIslands (bridges_on s.net) (lans_up s.net) ks h.1) (same_links s are c has (i + 1) (j + 1) (one_alike s.view c has i j li lj same)) h.3,
        h.4 ∙ ap (λ bridges. all_parts (staying h.0 h.1 bridges)) (same_remaining leaving (i + 1) (j + 1) (alike i j li lj same) t.net lost names),
      )

-- ---- and what is told of them
module _ (s : SettledNet) (leaving : Leaving) (lost : List Failure) (names : List NameItem) (vids : List Bool) (reasons : List Reason) where
  abbrev AreTold : Option (Net × Outcome) → Leaving → Type 0
  AreTold before left = AreTogetherReasons before left s.net (outcome_of s) vids lost names reasons

  -- by what is meant to leave, which is the same
  by_leaving : (kept : Option KeptPrior) → ((before : Option (Net × Outcome)) → IsKeptBefore before kept → AreTold before leaving) → (prior : Prior) → IsKeptOf prior kept leaving → AreTold prior.before prior.leaving
  by_leaving kept told prior h = subst (AreTold prior.before) (sym h.1) (told prior.before h.0)

  pub told_beside : (kept : KeptPrior) → AreVidReasons (ArePartsBeside s kept leaving lost names) together_reason vids reasons → (prior : Prior) → IsKeptOf prior (Some kept) leaving → AreTold prior.before prior.leaving
  told_beside kept told = by_leaving (Some kept) go
    where
      go : (before : Option (Net × Outcome)) → IsKeptBefore before (Some kept) → AreTold before leaving
      go None h = absurd h
      go (Some p) one =
          so_of_vids (ArePartsBeside s kept leaving lost names) (λ vid parts. ArePartsOf (remaining leaving vid p.0 lost names) p.0 p.1 s.net (outcome_of s) vid parts) together_reason vids reasons (λ vid _ parts each. each p.0 p.1 one) told

  pub told_alone : reasons ≡ [] → (prior : Prior) → IsKeptOf prior None leaving → AreTold prior.before prior.leaving
  told_alone none = by_leaving None go
    where
      go : (before : Option (Net × Outcome)) → IsKeptBefore before None → AreTold before leaving
      go None h = none
      go (Some p) h = absurd h

-- The parts that a VID has but for the bridges that are meant to leave it.
use Rattle.std.proofs.Common.{◌≡◌, ℕ, ◌&&◌, ◌||◌, nat_eq, not, Bool, true, false, cond, List, [], ◌∷◌, Option, Some, None, refl, sym, ap, ◌∙◌, true≢false}
use Rattle.std.specs.List.{AllByRecursion, Contains, cons_option, filter, filter_map}
use Rattle.std.specs.Map.{lookup}
use Rattle.std.specs.Option.{option_map, option_and_then}
use Rattle.mst_ids.specs.Vids.{has}
use Rattle.mst_graph.specs.Islands.{Island}
use Rattle.mst_graph.specs.Lists.{has_any}
use Rattle.mst_graph.proofs.Members.{from_filter}
use Rattle.mst_net.specs.tables.Tables.{Net}
use Rattle.mst_plan.specs.forest.Outcome.{Outcome}
use Rattle.mst_plan.proofs.forest_lemmas.Lists.{no_some, some_is}
use Rattle.mst_policy.specs.Items as items
use Rattle.mst_policy.specs.Leaving.{Leaving, are_left, leaves, sets_of}
use Rattle.mst_view.specs.View.{bridge_names}
use Rattle.mst_sweep.specs.facts.declared.both.Both.{Both}
use Rattle.mst_sweep.specs.declared.parts.Stays.{Stays}
use Rattle.mst_sweep.specs.Parts.{all_parts, home, stays_at, staying, AreParts}
use Rattle.mst_sweep.specs.Seen.{seen_stays}
use Rattle.mst_sweep.proofs.CutApart.{have_parts, two_apart}
use Rattle.mst_sweep.proofs.vlan_lemmas.OneList.{OneList}
use Rattle.mst_sweeping.specs.MovedVids.{remaining, ArePartsBut}

-- ---- what comes of those that pass a test
module _ {A B : Type 0} (f : A → Option B) (test : A → Bool) (tested : B → Bool) (same : (x : A) (y : B) → f x ≡ Some y → test x ≡ tested y) where
  pub kept_tested : (xs : List A) → filter_map f (filter test xs) ≡ filter tested (filter_map f xs)
  kept_tested [] = refl
  kept_tested (x ∷ xs) = go (test x) refl (f x) refl (kept_tested xs)
    where
      go : (b : Bool) → test x ≡ b → (r : Option B) → f x ≡ r → filter_map f (filter test xs) ≡ filter tested (filter_map f xs)
          → filter_map f (cond b (x ∷ filter test xs) (filter test xs)) ≡ filter tested (cons_option r (filter_map f xs))
      go true b None e rest = ap (λ r. cons_option r (filter_map f (filter test xs))) e ∙ rest
      go true b (Some y) e rest =
          ap (λ r. cons_option r (filter_map f (filter test xs))) e ∙ ap (λ ys. y ∷ ys) rest
          ∙ sym (ap (λ t. cond t (y ∷ filter tested (filter_map f xs)) (filter tested (filter_map f xs))) (sym (same x y e) ∙ b))
      go false b None e rest = rest
      go false b (Some y) e rest = rest ∙ sym (ap (λ t. cond t (y ∷ filter tested (filter_map f xs)) (filter tested (filter_map f xs))) (sym (same x y e) ∙ b))

-- all are kept where each passes
pub all_pass : {A : Type 0} (test : A → Bool) → ((x : A) → test x ≡ true) → (xs : List A) → filter test xs ≡ xs
all_pass test h [] = refl
all_pass test h (x ∷ xs) = λ i. cond (h x i) (x ∷ all_pass test h xs i) (all_pass test h xs i)

-- ---- which bridges are meant to leave
-- none where no line has the VID
none_left : (leaving : Leaving) (vid : ℕ) → are_left leaving vid ≡ false → (bridge : List ℕ) → leaves leaving vid bridge ≡ false
none_left [] vid e bridge = refl
none_left (l ∷ leaving) vid e bridge = go (has l.0 vid) (are_left leaving vid) e (none_left leaving vid)
  where
    go : (first others : Bool) → (first || others) ≡ false → (others ≡ false → (bridge : List ℕ) → leaves leaving vid bridge ≡ false) → ((first && items.has l.1 bridge) || leaves leaving vid bridge) ≡ false
    go true others e rest = absurd (true≢false e)
    go false others e rest = rest e bridge

pub all_remain : (leaving : Leaving) (vid : ℕ) (net : Net) → are_left leaving vid ≡ false → remaining leaving vid net ≡ bridge_names net
all_remain leaving vid net none = all_pass (λ bridge. not (leaves leaving vid bridge)) (λ bridge. ap not (none_left leaving vid none bridge)) (bridge_names net)

-- the same, where each line has two VIDs or neither
abbrev pub InSame : Leaving → ℕ → ℕ → Type 0
InSame leaving x y = AllByRecursion (λ set. has set x ≡ has set y) (sets_of leaving)

same_left : (leaving : Leaving) (x y : ℕ) → InSame leaving x y → (bridge : List ℕ) → leaves leaving x bridge ≡ leaves leaving y bridge
same_left [] x y same bridge = refl
same_left (l ∷ leaving) x y same bridge = λ i. (same.0 i && items.has l.1 bridge) || same_left leaving x y same.1 bridge i

pub same_remain : (leaving : Leaving) (x y : ℕ) (net : Net) → InSame leaving x y → remaining leaving x net ≡ remaining leaving y net
same_remain leaving x y net same = λ i. filter (λ bridge. not (same_left leaving x y same bridge i)) (bridge_names net)

-- ---- those of them that stay
named_at : (name : List ℕ) (old new : Option ℕ) (s : Stays) → option_and_then (λ before. option_map (λ after. let stays : Stays = record { name = name; before = before; after = after } in stays) new) old ≡ Some s → name ≡ s.name
named_at name None new s e = absurd (no_some s e)
named_at name (Some x) None s e = absurd (no_some s e)
named_at name (Some x) (Some y) s e = ap (λ (s : Stays). s.name) (some_is (record { name = name; before = x; after = y }) s e)

module _ (keep : List ℕ → Bool) where
  pub staying_tested : (olds news : List (Island (List ℕ) (List ℕ))) (bridges : List (List ℕ)) → staying olds news (filter keep bridges) ≡ filter (λ (s : Stays). keep s.name) (staying olds news bridges)
  staying_tested olds news bridges = kept_tested (stays_at olds news) keep (λ (s : Stays). keep s.name) (λ bridge s e. ap keep (named_at bridge (home olds bridge) (home news bridge) s e)) bridges

  pub seen_tested : (olds news : List (ℕ × ℕ)) (both : List Both) → filter_map (seen_stays olds news) (filter (λ (b : Both). keep b.old.name) both) ≡ filter (λ (s : Stays). keep s.name) (filter_map (seen_stays olds news) both)
  seen_tested olds news both =
      kept_tested (seen_stays olds news) (λ (b : Both). keep b.old.name) (λ (s : Stays). keep s.name)
      (λ b s e. ap keep (named_at b.old.name (lookup (nat_eq b.old.bridge.number) olds) (lookup (nat_eq b.new.bridge.number) news) s e)) both

-- ---- their parts
-- what comes apart among some comes apart among more
more_apart : (some all : List Stays) → ((s : Stays) → Contains some s → Contains all s) → has_any (all_parts some) ≡ true → has_any (all_parts all) ≡ true
more_apart some all among e = let r = two_apart some e in have_parts all r.0 r.1 (among r.0 r.2) (among r.1 r.3) r.4

pub apart_of_all : (keep : List ℕ → Bool) (olds news : List (Island (List ℕ) (List ℕ))) (bridges : List (List ℕ)) → has_any (all_parts (staying olds news (filter keep bridges))) ≡ true → has_any (all_parts (staying olds news bridges)) ≡ true
apart_of_all keep olds news bridges e =
    more_apart (filter (λ (s : Stays). keep s.name) (staying olds news bridges)) (staying olds news bridges) (λ s h. (from_filter (λ (s : Stays). keep s.name) (staying olds news bridges) s h).0)
    (sym (ap (λ (all : List Stays). has_any (all_parts all)) (staying_tested keep olds news bridges)) ∙ e)

-- so there are none where none of all came apart
pub none_of_all : (keep : List ℕ → Bool) (olds news : List (Island (List ℕ) (List ℕ))) (bridges : List (List ℕ)) → all_parts (staying olds news bridges) ≡ [] → all_parts (staying olds news (filter keep bridges)) ≡ []
none_of_all keep olds news bridges none = go (all_parts (staying olds news (filter keep bridges))) refl
  where
    go : (parts : List (List (List ℕ))) → all_parts (staying olds news (filter keep bridges)) ≡ parts → all_parts (staying olds news (filter keep bridges)) ≡ []
    go [] e = e
    go (c ∷ cs) e = absurd (true≢false (sym (apart_of_all keep olds news bridges (ap has_any e)) ∙ ap has_any none))

module _ (leaving : Leaving) (a b : Net) (o p : Outcome) (vid : ℕ) (parts : List (List (List ℕ))) where
  -- where no line has the VID these are the parts that it has
  pub parts_of_all : are_left leaving vid ≡ false → AreParts a o b p vid parts → ArePartsBut leaving a o b p vid parts
  parts_of_all none s = (s.0, s.1, s.2, s.3, s.4 ∙ ap (λ bridges. all_parts (staying s.0 s.1 bridges)) (sym (all_remain leaving vid a none)))

  pub parts_for_all : are_left leaving vid ≡ false → ArePartsBut leaving a o b p vid parts → AreParts a o b p vid parts
  parts_for_all none s = (s.0, s.1, s.2, s.3, s.4 ∙ ap (λ bridges. all_parts (staying s.0 s.1 bridges)) (all_remain leaving vid a none))

  module _ (one : OneList) (other : List (List (List ℕ))) where
    -- there is one list of them
    pub one_parts_but : ArePartsBut leaving a o b p vid parts → ArePartsBut leaving a o b p vid other → parts ≡ other
    one_parts_but s t =
        let olds = one a o vid s.0 t.0 s.2 t.2 in
        let news = one b p vid s.1 t.1 s.3 t.3 in
        s.4 ∙ (λ i. all_parts (staying (olds i) (news i) (remaining leaving vid a))) ∙ sym t.4

    -- a VID that has some so has parts
    pub cut_at_all : ArePartsBut leaving a o b p vid parts → AreParts a o b p vid other → has_any parts ≡ true → has_any other ≡ true
    cut_at_all s t e =
        let olds = one a o vid s.0 t.0 s.2 t.2 in
        let news = one b p vid s.1 t.1 s.3 t.3 in
        let so : has_any (all_parts (staying t.0 t.1 (remaining leaving vid a))) ≡ true = (λ i. has_any (all_parts (staying (sym olds i) (sym news i) (remaining leaving vid a)))) ∙ sym (ap has_any s.4) ∙ e in
        ap has_any t.4 ∙ apart_of_all (λ bridge. not (leaves leaving vid bridge)) t.0 t.1 (bridge_names a) so

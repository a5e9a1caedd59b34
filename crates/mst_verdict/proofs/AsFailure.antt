-- What is promised after a risk of one failure is told as it is after that failure.
use Rattle.std.proofs.Common.{◌≡◌, ◌∙◌, ◌⊎◌, ◌↔◌, ℕ, ◌++◌, ◌∷◌, ◌&&◌, ◌||◌, not, Bool, true, false, true≢false, [], List, cond, filter, map, append-nil, Option, Some, None, is_none, refl, sym, ap, subst, inl, inr}
use Rattle.std.specs.Prelude.{MatchOption, T, fold}
use Rattle.std.specs.Cmp.Lexicographic.{nat_list_eq_equiv, texts_ties}
use Rattle.std.specs.FinMap as fin
use Rattle.std.specs.FinMap.{is_sorted}
use Rattle.std.specs.FinMap.Entries.{below_all}
use Rattle.std.specs.List.{AllZip, Contains, list_all, list_any}
use Rattle.std.specs.Option.{option_and_then}
use Rattle.std.specs.Ordering.{is_eq, is_lt}
use Rattle.std.specs.declared.cmp.Ordering.{Ordering}
use Rattle.std.specs.declared.cmp.Ordering.TheVariants.{Less, Equal, Greater}
use Rattle.std.proofs.lemmas.List.{map-append}
use Rattle.std.proofs.lemmas.List.Elements.{Contains-append_cases, Contains-append_left, Contains-append_right, filter-append}
use Rattle.mst_graph.specs.Lists.{each_once, has_any, with_new}
use Rattle.mst_graph.proofs.Members.{cases, from_filter, from_map, here, in_filter, in_map, in_none}
use Rattle.mst_ids.specs.Names.{name_cmp}
use Rattle.mst_view.specs.Aggregation.{same_name}
use Rattle.mst_view.proofs.Names.{same_names}
use Rattle.mst_net.specs.tables.Tables.{Net, IsNetwork, LanRow, BridgeRow}
use Rattle.mst_net.proofs.tables_lemmas.Changed.{both_hold}
use Rattle.mst_policy.specs.Items.{item_has}
use Rattle.mst_policy.specs.declared.expectation.Expectation.{Expectation}
use Rattle.mst_policy.specs.declared.expectation.Promise.{Promise}
use Rattle.mst_policy.specs.declared.item.NameItem.TheVariants.{Is}
use Rattle.mst_policy.specs.declared.policy.PolicyLine.{PolicyLine}
use Rattle.mst_policy.specs.declared.risk.RiskLine.{RiskLine}
use Rattle.mst_rows.specs.Rows.{Row}
use Rattle.mst_forest.specs.Outcome.{Outcome, IsOutcome}
use Rattle.mst_sweeping.specs.sweep.vlan.Reach.{bridges_on}
use Rattle.mst_sweeping.specs.sweep.Failures.{Event, alone, failures, single_events}
use Rattle.mst_sweeping.specs.sweep.SweepText.{cause_name}
use Rattle.mst_sweeping.specs.sweep.declared.event.Cause.{Cause}
use Rattle.mst_sweeping.specs.sweep.declared.event.Cause.TheVariants as cause
use Rattle.mst_sweeping.specs.sweep.declared.failure.Failure.{Failure}
use Rattle.mst_sweeping.specs.sweep.declared.failure.Failure.TheVariants.{Lan, Bridge}
use Rattle.mst_verify.specs.tree_judges.judged.reasons.Judged.{IsKept, asks, asks_at, has_now, is_its_own, looks_back, places}
use Rattle.mst_verify.specs.tree_judges.judged.reasons.Missing.{bridges_of, lacks_bridge, lacks_event, lacks_lan, lacks_port, lacks_tree, lans_of, missing}
use Rattle.mst_verify.specs.tree_judges.judged.reasons.Named.{Prior, nothing_before}
use Rattle.mst_verify.specs.tree_judges.judged.reasons.Placed.{AreReasonsAfter, AreReasonsAt}
use Rattle.mst_verify.specs.tree_judges.judged.reasons.Reasons.{HasOneList}
use Rattle.mst_verify.specs.tree_judges.judged.reasons.Risks.{events as events_of, fails_by, has_one, lines_of, risk_lines, risk_of, risks}
use Rattle.mst_verify.specs.tree_judges.judged.reasons.declared.missing.Missing.{Missing}
use Rattle.mst_verify.specs.tree_judges.judged.reasons.declared.missing.Missing.TheVariants as lacking
use Rattle.mst_verify.specs.tree_judges.judged.reasons.declared.reason.Reason.{Reason}
use Rattle.mst_telling.specs.Once.{once_rows, rows_now}
use Rattle.mst_telling.specs.Rows.{reason_row}
use Rattle.mst_telling.specs.Told.{AreFound, Found, IsFoundAt, expected_at, found_rows, has_reason, is_now, judged, looks_at, reason_rows, tells_once}
use Rattle.mst_telling.specs.Verified.{IsToldWhereBroken, IsVerdict}
use Rattle.mst_verdict.specs.AsFailure.{IsToldAfter, line_after, promise_after, risk_of_one, row_after, scope_after}
use Rattle.mst_verdict.proofs.OneTold.{after_same}

-- ---- a name among names
module _ (name : List ℕ) where
  abbrev own : List ℕ → Bool
  own = same_name name

  -- there once at most
  abbrev AtMost : List (List ℕ) → Type 0
  AtMost names = (filter own names ≡ []) ⊎ (filter own names ≡ name ∷ [])

  none_own : (names : List (List ℕ)) → list_any own names ≡ false → filter own names ≡ []
  none_own [] e = refl
  none_own (x ∷ names) e = go (none_own names) (own x) refl e
    where
      go : (list_any own names ≡ false → filter own names ≡ []) → (b : Bool) → own x ≡ b → (b || list_any own names) ≡ false → filter own (x ∷ names) ≡ []
      go rest true k e = absurd (true≢false e)
      go rest false k e = ap (λ b. cond b (x ∷ filter own names) (filter own names)) k ∙ rest e

  -- one more, if it is new
  one_new : (kept : List (List ℕ)) (x : List ℕ) → AtMost kept → AtMost (with_new same_name kept x)
  one_new kept x h = go (list_any (λ y. same_name y x) kept) refl (own x) refl
    where
      only : (b : Bool) → own x ≡ b → filter own (kept ++ x ∷ []) ≡ filter own kept ++ cond b (x ∷ []) []
      only b e = filter-append own kept (x ∷ []) ∙ ap (λ b. filter own kept ++ cond b (x ∷ []) []) e

      go : (old : Bool) → list_any (λ y. same_name y x) kept ≡ old → (b : Bool) → own x ≡ b → AtMost (cond old kept (kept ++ x ∷ []))
      go true e b k = h
      go false e true k =
          let is : name ≡ x = same_names name x k in
          let none : list_any own kept ≡ false = (λ i. list_any (λ y. nat_list_eq_equiv.symm (is i) y i) kept) ∙ e in
          inr (only true k ∙ (λ i. none_own kept none i ++ sym is i ∷ []))
      go false e false k = elim h [ inl none ↦ inl (only false k ∙ append-nil (filter own kept) ∙ none) | inr one ↦ inr (only false k ∙ append-nil (filter own kept) ∙ one) ]

  all_new : (kept names : List (List ℕ)) → AtMost kept → AtMost (fold (with_new same_name) kept names)
  all_new kept [] h = h
  all_new kept (x ∷ names) h = all_new (with_new same_name kept x) names (one_new kept x h)

  -- one that is there is the only one
  only_one : (names : List (List ℕ)) → AtMost names → Contains names name → filter own names ≡ name ∷ []
  only_one names (inl none) there = absurd (in_none name (subst (λ l. Contains l name) none (in_filter own names name there (nat_list_eq_equiv.refl name))))
  only_one names (inr one) there = one

  pub once : (names : List (List ℕ)) → Contains (each_once same_name names) name → filter own (each_once same_name names) ≡ name ∷ []
  once names there = only_one (each_once same_name names) (all_new [] names (inl refl)) there

-- ---- lists
first_is : {A : Type 0} (x y : A) (xs ys : List A) → x ∷ xs ≡ y ∷ ys → x ≡ y
first_is x y xs ys e = cc

rest_is : {A : Type 0} (x y : A) (xs ys : List A) → x ∷ xs ≡ y ∷ ys → xs ≡ ys
rest_is x y xs ys e = cc

nothing_first : {A : Type 0} (x : A) (xs : List A) → x ∷ xs ≡ [] → ⊥
nothing_first x xs e = absurd (cc)

twice : {A B C : Type 0} (g : B → C) (f : A → B) (xs : List A) → map g (map f xs) ≡ map (λ x. g (f x)) xs
twice g f [] = refl
twice {A} {B} {C} g f (x ∷ xs) = ap (λ (l : List C). g (f x) ∷ l) (twice g f xs)

filter_mapped : {A B : Type 0} (test : B → Bool) (f : A → B) (own : A → Bool) → ((x : A) → test (f x) ≡ own x) → (xs : List A) → filter test (map f xs) ≡ map f (filter own xs)
filter_mapped test f own same [] = refl
filter_mapped {A} {B} test f own same (x ∷ xs) = ap (λ b. cond b (f x ∷ filter test (map f xs)) (filter test (map f xs))) (same x) ∙ go (own x) (filter_mapped test f own same xs)
  where
    go : (b : Bool) → filter test (map f xs) ≡ map f (filter own xs) → cond b (f x ∷ filter test (map f xs)) (filter test (map f xs)) ≡ map f (cond b (x ∷ filter own xs) (filter own xs))
    go true rest = ap (λ (l : List B). f x ∷ l) rest
    go false rest = rest

none_mapped : {A B : Type 0} (test : B → Bool) (f : A → B) → ((x : A) → test (f x) ≡ false) → (xs : List A) → filter test (map f xs) ≡ []
none_mapped test f none [] = refl
none_mapped {A} {B} test f none (x ∷ xs) = ap (λ b. cond b (f x ∷ filter test (map f xs)) (filter test (map f xs))) (none x) ∙ none_mapped test f none xs

-- of two tests either may come first
filter_turned : {A : Type 0} (s t : A → Bool) (xs : List A) → filter s (filter t xs) ≡ filter t (filter s xs)
filter_turned s t [] = refl
filter_turned {A} s t (x ∷ xs) = go (s x) (t x) refl refl (filter_turned s t xs)
  where
    go : (b c : Bool) → s x ≡ b → t x ≡ c → filter s (filter t xs) ≡ filter t (filter s xs)
        → filter s (cond c (x ∷ filter t xs) (filter t xs)) ≡ filter t (cond b (x ∷ filter s xs) (filter s xs))
    go true true e k rest =
        ap (λ b. cond b (x ∷ filter s (filter t xs)) (filter s (filter t xs))) e ∙ ap (λ (l : List A). x ∷ l) rest
        ∙ sym (ap (λ b. cond b (x ∷ filter t (filter s xs)) (filter t (filter s xs))) k)
    go true false e k rest = rest ∙ sym (ap (λ b. cond b (x ∷ filter t (filter s xs)) (filter t (filter s xs))) k)
    go false true e k rest = ap (λ b. cond b (x ∷ filter s (filter t xs)) (filter s (filter t xs))) e ∙ rest
    go false false e k rest = rest

any_there : {A : Type 0} (test : A → Bool) (xs : List A) (x : A) → Contains xs x → test x ≡ true → list_any test xs ≡ true
any_there test [] x h e = absurd (in_none x h)
any_there {A} test (y ∷ ys) x h e = elim (cases y x ys h) [
  | inl same ↦ ap (λ b. b || list_any test ys) (ap test same ∙ e)
  | inr rest ↦ ap (λ b. test y || b) (any_there test ys x rest e) ∙ or_true (test y)
]
  where
    or_true : (b : Bool) → (b || true) ≡ true
    or_true true = refl
    or_true false = refl

-- ---- entries by name
not_same : (o : Ordering) → T (is_lt o) → is_eq o ≡ false
not_same Less h = refl
not_same Equal h = absurd h
not_same Greater h = absurd h

module _ {X : Type 0} (name : List ℕ) (kept : X → Bool) where
  abbrev names_kept : List (List ℕ × X) → List (List ℕ)
  names_kept es = map (λ (e : List ℕ × X). e.0) (filter (λ (e : List ℕ × X). kept e.1) es)

  -- entries behind a name haven't it
  behind_none : (es : List (List ℕ × X)) → T (below_all name_cmp name es) → filter (own name) (names_kept es) ≡ []
  behind_none [] h = refl
  behind_none (e ∷ es) h = go (kept e.1) (behind_none es (both_hold _ _ h).1)
    where
      other : own name e.0 ≡ false
      other = texts_ties name e.0 ∙ not_same (name_cmp name e.0) (both_hold _ _ h).0

      go : (b : Bool) → filter (own name) (names_kept es) ≡ [] → filter (own name) (map (λ (e : List ℕ × X). e.0) (cond b (e ∷ filter (λ (e : List ℕ × X). kept e.1) es) (filter (λ (e : List ℕ × X). kept e.1) es))) ≡ []
      go true rest = ap (λ b. cond b (e.0 ∷ filter (own name) (names_kept es)) (filter (own name) (names_kept es))) other ∙ rest
      go false rest = rest

  -- so it is there once at most
  once_kept : (es : List (List ℕ × X)) → T (is_sorted name_cmp es) → AtMost name (names_kept es)
  once_kept [] h = inl refl
  once_kept (e ∷ es) h = go (kept e.1) (own name e.0) refl (once_kept es (both_hold _ _ h).1)
    where
      go : (b c : Bool) → own name e.0 ≡ c → AtMost name (names_kept es) → AtMost name (map (λ (e : List ℕ × X). e.0) (cond b (e ∷ filter (λ (e : List ℕ × X). kept e.1) es) (filter (λ (e : List ℕ × X). kept e.1) es)))
      go false c k rest = rest
      go true false k rest =
          let off : filter (own name) (e.0 ∷ names_kept es) ≡ filter (own name) (names_kept es) = ap (λ b. cond b (e.0 ∷ filter (own name) (names_kept es)) (filter (own name) (names_kept es))) k in
          elim rest [ inl none ↦ inl (off ∙ none) | inr one ↦ inr (off ∙ one) ]
      go true true k rest =
          let is : name ≡ e.0 = same_names name e.0 k in
          let none : filter (own name) (names_kept es) ≡ [] = behind_none es (subst (λ n. T (below_all name_cmp n es)) (sym is) (both_hold _ _ h).0) in
          inr (ap (λ b. cond b (e.0 ∷ filter (own name) (names_kept es)) (filter (own name) (names_kept es))) k ∙ (λ i. sym is i ∷ none i))

-- ---- what a promise asks for
asks_name : (s is_own : Bool) → ((s || false) && (not is_own || (s || false))) ≡ s
asks_name true true = refl
asks_name true false = refl
asks_name false is_own = refl

or_not : (b : Bool) → (not b || true) ≡ true
or_not true = refl
or_not false = refl

asked_itself : (s is_own : Bool) → s ≡ true → (s && ((s || false) && (not is_own || (s || false)))) ≡ true
asked_itself s is_own e = (λ i. e i && ((e i || false) && (not is_own || (e i || false)))) ∙ or_not is_own

of_one : (c : Cause) → tells_once (scope_after c) ≡ false
of_one (cause.One (Lan lan)) = refl
of_one (cause.One (Bridge bridge)) = refl
of_one (cause.Risk name) = refl

not_now : (c : Cause) → has_now (scope_after c) ≡ false
not_now (cause.One (Lan lan)) = refl
not_now (cause.One (Bridge bridge)) = refl
not_now (cause.Risk name) = refl

lan_is : (a b : List ℕ) → Lan a ≡ Lan b → a ≡ b
lan_is a b e = cc

bridge_is : (a b : List ℕ) → Bridge a ≡ Bridge b → a ≡ b
bridge_is a b e = cc

no_lan : (a b : List ℕ) → Bridge a ≡ Lan b → ⊥
no_lan a b e = absurd (cc)

risk_is : (a b : List ℕ) → cause.Risk a ≡ cause.Risk b → a ≡ b
risk_is a b e = cc

-- ---- what is asked for of events
module _ (net : Net) (promise : Promise) where
  abbrev asks_after : Cause → Event → Bool
  asks_after c event = asks (promise_after c promise) event

  abbrev up_entries : List (List ℕ × LanRow)
  up_entries = filter (λ (e : List ℕ × LanRow). e.1.is_up) (fin.entries net.lans)

  abbrev lans : List Failure
  lans = map (λ (e : List ℕ × LanRow). Lan e.0) up_entries

  abbrev bridges : List Failure
  bridges = map Bridge (bridges_on net)

  lan_there : (lan : List ℕ) → Contains (failures net) (Lan lan) → Contains (map (λ (e : List ℕ × LanRow). e.0) up_entries) lan
  lan_there lan h = elim (Contains-append_cases lans bridges (Lan lan) h) [
    | inl l ↦ let r = from_map (λ (e : List ℕ × LanRow). Lan e.0) up_entries (Lan lan) l in subst (Contains (map (λ (e : List ℕ × LanRow). e.0) up_entries)) (lan_is r.0.0 lan r.2) (in_map (λ (e : List ℕ × LanRow). e.0) up_entries r.0 r.1)
    | inr b ↦ let r = from_map Bridge (bridges_on net) (Lan lan) b in absurd (no_lan r.0 lan r.2)
  ]

  bridge_there : (bridge : List ℕ) → Contains (failures net) (Bridge bridge) → Contains (bridges_on net) bridge
  bridge_there bridge h = elim (Contains-append_cases lans bridges (Bridge bridge) h) [
    | inl l ↦ let r = from_map (λ (e : List ℕ × LanRow). Lan e.0) up_entries (Bridge bridge) l in absurd (no_lan bridge r.0.0 (sym r.2))
    | inr b ↦ let r = from_map Bridge (bridges_on net) (Bridge bridge) b in subst (Contains (bridges_on net)) (bridge_is r.0 bridge r.2) r.1
  ]

  -- after a failure of the network a promise is asked for once
  lan_asked : (lan : List ℕ) → Contains (failures net) (Lan lan) → filter (asks_after (cause.One (Lan lan))) (single_events net) ≡ alone (Lan lan) ∷ []
  lan_asked lan h =
      let test : Event → Bool = asks_after (cause.One (Lan lan)) in
      let names : List (List ℕ) = map (λ (e : List ℕ × LanRow). e.0) up_entries in
      let by_name : map alone lans ≡ map (λ name. alone (Lan name)) names =
      twice alone (λ (e : List ℕ × LanRow). Lan e.0) up_entries ∙ sym (twice (λ name. alone (Lan name)) (λ (e : List ℕ × LanRow). e.0) up_entries) in
      let one : filter (own lan) names ≡ lan ∷ [] = only_one lan names (once_kept lan (λ (row : LanRow). row.is_up) (fin.entries net.lans) (fin.entries_sorted net.lans)) (lan_there lan h) in
      let first : filter test (map alone lans) ≡ alone (Lan lan) ∷ [] =
      ap (filter test) by_name ∙ filter_mapped test (λ name. alone (Lan name)) (own lan) (λ name. asks_name (own lan name) (is_its_own promise.expectation (alone (Lan name)))) names ∙ ap (map (λ name. alone (Lan name))) one in
      let rest : filter test (map alone bridges) ≡ [] = ap (filter test) (twice alone Bridge (bridges_on net)) ∙ none_mapped test (λ name. alone (Bridge name)) (λ name. refl) (bridges_on net) in
      ap (filter test) (map-append alone lans bridges) ∙ filter-append test (map alone lans) (map alone bridges) ∙ (λ i. first i ++ rest i)

  bridge_asked : (bridge : List ℕ) → Contains (failures net) (Bridge bridge) → filter (asks_after (cause.One (Bridge bridge))) (single_events net) ≡ alone (Bridge bridge) ∷ []
  bridge_asked bridge h =
      let test : Event → Bool = asks_after (cause.One (Bridge bridge)) in
      let names : List (List ℕ) = bridges_on net in
      let one : filter (own bridge) names ≡ bridge ∷ [] = only_one bridge names (once_kept bridge (λ (row : BridgeRow). row.is_on) (fin.entries net.bridges) (fin.entries_sorted net.bridges)) (bridge_there bridge h) in
      let first : filter test (map alone lans) ≡ [] = ap (filter test) (twice alone (λ (e : List ℕ × LanRow). Lan e.0) up_entries) ∙ none_mapped test (λ (e : List ℕ × LanRow). alone (Lan e.0)) (λ e. refl) up_entries in
      let rest : filter test (map alone bridges) ≡ alone (Bridge bridge) ∷ [] =
      ap (filter test) (twice alone Bridge names) ∙ filter_mapped test (λ name. alone (Bridge name)) (own bridge) (λ name. asks_name (own bridge name) (is_its_own promise.expectation (alone (Bridge name)))) names ∙ ap (map (λ name. alone (Bridge name))) one in
      ap (filter test) (map-append alone lans bridges) ∙ filter-append test (map alone lans) (map alone bridges) ∙ (λ i. first i ++ rest i)

  module _ (lines : List PolicyLine) where
    abbrev those : List RiskLine
    those = risk_lines net lines

    abbrev names : List (List ℕ)
    names = each_once same_name (map (λ (line : RiskLine). line.name) those)

    abbrev has_failures : Event → Bool
    has_failures event = has_any event.failures

    -- no risk is one
    no_risk : (failure : Failure) → filter (asks_after (cause.One failure)) (risks net lines) ≡ []
    no_risk failure =
        filter_turned (asks_after (cause.One failure)) has_failures (map (risk_of net those) names)
        ∙ ap (filter has_failures) (none_mapped (asks_after (cause.One failure)) (risk_of net those) (by failure) names)
      where
        by : (failure : Failure) (name : List ℕ) → asks_after (cause.One failure) (risk_of net those name) ≡ false
        by (Lan lan) name = refl
        by (Bridge bridge) name = refl

    failure_asked : (failure : Failure) → Contains (failures net) failure → filter (asks_after (cause.One failure)) (events_of net lines) ≡ alone failure ∷ []
    failure_asked failure h = filter-append (asks_after (cause.One failure)) (single_events net) (risks net lines) ∙ (λ i. by failure h i ++ no_risk failure i)
      where
        by : (failure : Failure) → Contains (failures net) failure → filter (asks_after (cause.One failure)) (single_events net) ≡ alone failure ∷ []
        by (Lan lan) h = lan_asked lan h
        by (Bridge bridge) h = bridge_asked bridge h

    -- and of a risk no failure is
    module _ (name : List ℕ) (failure : Failure) (there : Contains (risks net lines) (risk_of_one name failure)) where
      abbrev risk : Event
      risk = risk_of_one name failure

      named : (n : List ℕ) × Contains names n × (risk_of net those n ≡ risk)
      named = from_map (risk_of net those) names risk (from_filter has_failures (map (risk_of net those) names) risk there).0

      name_is : named.0 ≡ name
      name_is = risk_is named.0 name (ap (λ (event : Event). event.cause) named.2)

      is_risk : risk_of net those name ≡ risk
      is_risk = subst (λ n. risk_of net those n ≡ risk) name_is named.2

      is_failure : Contains (failures net) failure
      is_failure = (from_filter (fails_by (lines_of name those)) (failures net) failure (subst (λ l. Contains l failure) (sym (ap (λ (event : Event). event.failures) is_risk)) (here failure []))).0

      no_failure : (fs : List Failure) → filter (asks_after (cause.Risk name)) (map alone fs) ≡ []
      no_failure fs = none_mapped (asks_after (cause.Risk name)) alone (λ f. refl) fs

      risk_asked : filter (asks_after (cause.Risk name)) (events_of net lines) ≡ risk ∷ []
      risk_asked =
          let one : filter (own name) names ≡ name ∷ [] = once name (map (λ (line : RiskLine). line.name) those) (subst (Contains names) name_is named.1) in
          filter-append (asks_after (cause.Risk name)) (single_events net) (risks net lines)
          ∙ (λ i. no_failure (failures net) i ++ filter_turned (asks_after (cause.Risk name)) has_failures (map (risk_of net those) names) i)
          ∙ ap (filter has_failures) (filter_mapped (asks_after (cause.Risk name)) (risk_of net those) (own name) (λ n. asks_name (own name n) (is_its_own promise.expectation (risk_of net those n))) names ∙ ap (map (risk_of net those)) one)
          ∙ ap (λ (event : Event). filter has_failures (event ∷ [])) is_risk

      -- ---- what is missing
      -- an event is among those of the network, and is asked for
      risk_among : Contains (events_of net lines) risk
      risk_among = Contains-append_right (single_events net) (risks net lines) risk there

      failure_among : Contains (events_of net lines) (alone failure)
      failure_among = Contains-append_left (single_events net) (risks net lines) (alone failure) (in_map alone (failures net) failure is_failure)

      own_name : (n : List ℕ) → own n n ≡ true
      own_name n = nat_list_eq_equiv.refl n

      none_lacks : (test : Event → Bool) (event : Event) → Contains (events_of net lines) event → test event ≡ true → not (list_any test (events_of net lines) && true) ≡ false
      none_lacks test event h e = ap (λ b. not (b && true)) (any_there test (events_of net lines) event h e)

      risk_lacks : lacks_event (events_of net lines) (promise_after (cause.Risk name) promise) ≡ false
      risk_lacks = none_lacks (λ event. item_has (Is name) (cause_name event.cause) && asks_after (cause.Risk name) event) risk risk_among (asked_itself (own name name) (is_its_own promise.expectation risk) (own_name name))

      failure_lacks : lacks_event (events_of net lines) (promise_after (cause.One failure) promise) ≡ false
      failure_lacks = by failure failure_among
        where
          by : (f : Failure) → Contains (events_of net lines) (alone f) → lacks_event (events_of net lines) (promise_after (cause.One f) promise) ≡ false
          by (Lan lan) h = none_lacks (λ event. item_has (Is lan) (cause_name event.cause) && asks_after (cause.One (Lan lan)) event) (alone (Lan lan)) h (asked_itself (own lan lan) (is_its_own promise.expectation (alone (Lan lan))) (own_name lan))
          by (Bridge bridge) h = none_lacks (λ event. item_has (Is bridge) (cause_name event.cause) && asks_after (cause.One (Bridge bridge)) event) (alone (Bridge bridge)) h (asked_itself (own bridge bridge) (is_its_own promise.expectation (alone (Bridge bridge))) (own_name bridge))

      key_there : {X : Type 0} (kept : List ℕ × X → Bool) (es : List (List ℕ × X)) (n : List ℕ) → Contains (map (λ (e : List ℕ × X). e.0) (filter kept es)) n → list_any (own n) (map (λ (e : List ℕ × X). e.0) es) ≡ true
      key_there {X} kept es n h =
          let r = from_map (λ (e : List ℕ × X). e.0) (filter kept es) n h in
          any_there (own n) (map (λ (e : List ℕ × X). e.0) es) n (subst (Contains (map (λ (e : List ℕ × X). e.0) es)) r.2 (in_map (λ (e : List ℕ × X). e.0) es r.0 (from_filter kept es r.0 r.1).0)) (own_name n)

      bridges_same : (f : Failure) → Contains (failures net) f → lacks_bridge net (promise_after (cause.Risk name) promise) ≡ lacks_bridge net (promise_after (cause.One f) promise)
      bridges_same (Lan lan) h = refl
      bridges_same (Bridge bridge) h =
          let has : has_one (fin.keys net.bridges) (Is bridge) ≡ true = key_there (λ (e : List ℕ × BridgeRow). e.1.is_on) (fin.entries net.bridges) bridge (bridge_there bridge h) in
          λ i. not (has_any (fin.keys net.bridges) && (sym has i && list_all (has_one (fin.keys net.bridges)) (bridges_of promise.expectation)))

      lans_same : (f : Failure) → Contains (failures net) f → lacks_lan net (promise_after (cause.Risk name) promise) ≡ lacks_lan net (promise_after (cause.One f) promise)
      lans_same (Lan lan) h =
          let has : has_one (fin.keys net.lans) (Is lan) ≡ true = key_there (λ (e : List ℕ × LanRow). e.1.is_up) (fin.entries net.lans) lan (lan_there lan h) in
          λ i. not (sym has i && list_all (has_one (fin.keys net.lans)) (lans_of promise.expectation))
      lans_same (Bridge bridge) h = refl

      -- both lack the same
      missing_same : missing net (events_of net lines) (promise_after (cause.Risk name) promise) ≡ missing net (events_of net lines) (promise_after (cause.One failure) promise)
      missing_same =
          λ i. cond (lacks_tree net (promise_after (cause.Risk name) promise)) (Some lacking.Tree) (cond (bridges_same failure is_failure i) (Some lacking.Bridge)
          (cond (lacks_port net (promise_after (cause.Risk name) promise)) (Some lacking.Port) (cond (lans_same failure is_failure i) (Some lacking.Lan) (cond ((risk_lacks ∙ sym failure_lacks) i) (Some lacking.Failure) None))))

-- ---- what is found of a line that is asked for after one event
one_place : (n : ℕ) (place : Option Cause) (reasons : List Reason) → found_rows n (filter has_reason (record { place = place; reasons = reasons } ∷ [])) ≡ reason_rows n place reasons
one_place n place [] = refl
one_place n place (reason ∷ reasons) = append-nil (reason_rows n place (reason ∷ reasons))

module _ (net : Net) (o : Outcome) (events : List Event) (line : PolicyLine) (promise : Promise) (its : judged net events line ≡ Some promise) (once : tells_once promise.scope ≡ false) (now : has_now promise.scope ≡ false) where
  abbrev IsFound : Option Event → Found → Type 0
  IsFound place f = IsFoundAt net o nothing_before events line place f

  expected : (place : Option Event) → expected_at net events false line place ≡ cond (asks_at false promise place) (Some promise.expectation) None
  expected place =
      ap (option_and_then (λ (promise : Promise). cond (looks_at false promise place) (Some promise.expectation) None)) its
      ∙ ap (λ t. cond ((t && is_now place) || asks_at false promise place) (Some promise.expectation) None) once

  reasons_at : (place : Option Event) (b : Bool) → asks_at false promise place ≡ b → (f : Found) → IsFound place f
      → MatchOption (cond b (Some promise.expectation) None) (f.reasons ≡ []) (λ e. AreReasonsAt net o nothing_before place e f.reasons)
  reasons_at place b e f x =
      subst (λ expected. MatchOption expected (f.reasons ≡ []) (λ e. AreReasonsAt net o nothing_before place e f.reasons)) (expected place ∙ ap (λ b. cond b (Some promise.expectation) None) e) x.are

  unasked : (place : Option Event) (f : Found) → IsFound place f → asks_at false promise place ≡ false → has_reason f ≡ false
  unasked place f x e = ap has_any (reasons_at place false e f x)

  none_asked : (es : List Event) (all : List Found) → AllZip IsFound (map Some es) all → filter (asks promise) es ≡ [] → filter has_reason all ≡ []
  none_asked [] [] h e = refl
  none_asked [] (f ∷ all) h e = absurd h
  none_asked (x ∷ es) [] h e = absurd h
  none_asked (x ∷ es) (f ∷ all) h e = go (none_asked es all h.1) (asks promise x) refl e
    where
      go : (filter (asks promise) es ≡ [] → filter has_reason all ≡ []) → (b : Bool) → asks promise x ≡ b → cond b (x ∷ filter (asks promise) es) (filter (asks promise) es) ≡ [] → filter has_reason (f ∷ all) ≡ []
      go rest true k e = absurd (nothing_first x (filter (asks promise) es) e)
      go rest false k e = ap (λ b. cond b (f ∷ filter has_reason all) (filter has_reason all)) (unasked (Some x) f h.0 k) ∙ rest e

  module _ (event : Event) where
    -- those are found of it, and their reasons in its place are all that is
    pub record Only (found : List Found) : Type 0 where
      pub reasons : List Reason
      pub are : AreReasonsAfter net o nothing_before event.failures promise.expectation reasons
      pub only : filter has_reason found ≡ filter has_reason (record { place = Some event.cause; reasons = reasons } ∷ [])

    one_asked : (es : List Event) (all : List Found) → AllZip IsFound (map Some es) all → filter (asks promise) es ≡ event ∷ [] → Only all
    one_asked [] all h e = absurd (nothing_first event [] (sym e))
    one_asked (x ∷ es) [] h e = absurd h
    one_asked (x ∷ es) (f ∷ all) h e = go (one_asked es all h.1) (asks promise x) refl e
      where
        go : (filter (asks promise) es ≡ event ∷ [] → Only all) → (b : Bool) → asks promise x ≡ b → cond b (x ∷ filter (asks promise) es) (filter (asks promise) es) ≡ event ∷ [] → Only (f ∷ all)
        go later true k e =
            let same : x ≡ event = first_is x event (filter (asks promise) es) [] e in
            let at : f.place ≡ Some event.cause = h.0.at ∙ ap (λ (event : Event). Some event.cause) same in record {
              reasons = f.reasons;
              are = subst (λ (event : Event). AreReasonsAfter net o nothing_before event.failures promise.expectation f.reasons) same (reasons_at (Some x) true k f h.0);
              only =
                  ap (λ (more : List Found). cond (has_reason f) (f ∷ more) more) (none_asked es all h.1 (rest_is x event (filter (asks promise) es) [] e))
                  ∙ (λ i. filter has_reason (record { place = at i; reasons = f.reasons } ∷ []));
            }
        go later false k e = let r = later e in record { reasons = r.reasons; are = r.are; only = ap (λ b. cond b (f ∷ filter has_reason all) (filter has_reason all)) (unasked (Some x) f h.0 k) ∙ r.only }

    -- the rows are those of the reasons after that event
    rows_asked : (n : ℕ) (found : List Found) → AreFound net o nothing_before events line found → filter (asks promise) events ≡ event ∷ []
        → (reasons : List Reason) × AreReasonsAfter net o nothing_before event.failures promise.expectation reasons × (found_rows n found ≡ reason_rows n (Some event.cause) reasons)
    rows_asked n found x e = go x.all x.each x.are
      where
        none : asks_at false promise None ≡ false
        none = ap (λ b. b && (false || not (looks_back promise.expectation))) now

        go : (all : List Found) → AllZip IsFound (places events) all → found ≡ filter has_reason all
            → (reasons : List Reason) × AreReasonsAfter net o nothing_before event.failures promise.expectation reasons × (found_rows n found ≡ reason_rows n (Some event.cause) reasons)
        go [] h k = absurd h
        go (f ∷ all) h k =
            let r = one_asked events all h.1 e in
            let only : found ≡ filter has_reason (record { place = Some event.cause; reasons = r.reasons } ∷ []) =
            k ∙ ap (λ b. cond b (f ∷ filter has_reason all) (filter has_reason all)) (unasked None f h.0 none) ∙ r.only in
            (r.reasons, r.are, ap (found_rows n) only ∙ one_place n (Some event.cause) r.reasons)

-- ---- both lines
pub rows_turned : (n : ℕ) (c d : Cause) (reasons : List Reason) → reason_rows n (Some d) reasons ≡ map (row_after d) (reason_rows n (Some c) reasons)
rows_turned n c d [] = refl
rows_turned n c d (reason ∷ reasons) = ap (λ (rows : List Row). reason_row n (Some d) reason ∷ rows) (rows_turned n c d reasons)

module _ (net : Net) (o : Outcome) (is : IsNetwork net) (are : IsOutcome net o)
    (single : (net : Net) (o p : Outcome) → IsNetwork net → IsOutcome net o → IsOutcome net p → o ≡ p)
    (one : (net : Net) (o : Outcome) (before : Net) (lost : List Failure) (prior : Prior) (e : Expectation) → IsNetwork net → IsOutcome net o → HasOneList net o before lost prior e)
    (lines : List PolicyLine) (name : List ℕ) (failure : Failure) (there : Contains (risks net lines) (risk_of_one name failure))
    (n : ℕ) (words others : List ℕ) (promise : Promise) where
  abbrev those_events : List Event
  those_events = events_of net lines

  abbrev Tells : List ℕ → Cause → List Row → Type 0
  Tells words c rows = IsToldAfter net o lines n words promise c rows

  -- where nothing is lacked
  told_both : missing net those_events (promise_after (cause.Risk name) promise) ≡ None → missing net those_events (promise_after (cause.One failure) promise) ≡ None
      → (rows like : List Row) → Tells words (cause.One failure) rows → Tells others (cause.Risk name) like → like ≡ map (row_after (cause.Risk name)) rows
  told_both none nothing rows like x y =
      let own : Promise = promise_after (cause.One failure) promise in
      let other : Promise = promise_after (cause.Risk name) promise in
      let alone_rows = rows_asked net o those_events (line_after n words promise (cause.One failure)) own (ap (λ what. cond (is_none what) (Some own) None) nothing) (of_one (cause.One failure)) (not_now (cause.One failure)) (alone failure) n x.found x.are_found (failure_asked net promise lines failure (is_failure net promise lines name failure there)) in
      let risk_rows = rows_asked net o those_events (line_after n others promise (cause.Risk name)) other (ap (λ what. cond (is_none what) (Some other) None) none) refl refl (risk_of_one name failure) n y.found y.are_found (risk_asked net promise lines name failure there) in
      let same : risk_rows.0 ≡ alone_rows.0 = after_same net o is are nothing_before those_events single one (failure ∷ []) promise.expectation risk_rows.0 alone_rows.0 risk_rows.1 alone_rows.1 in
      let rows_are : rows ≡ reason_rows n (Some (cause.One failure)) alone_rows.0 =
      x.are ∙ ap (λ b. cond b (once_rows n own.scope (rows_now n x.found) x.found) (found_rows n x.found)) (of_one (cause.One failure)) ∙ alone_rows.2 in
      y.are ∙ risk_rows.2 ∙ ap (reason_rows n (Some (cause.Risk name))) same ∙ rows_turned n (cause.One failure) (cause.Risk name) alone_rows.0 ∙ ap (map (row_after (cause.Risk name))) (sym rows_are)

  -- and where something is, neither has a row
  pub told_alike : ((line : PolicyLine) (rows : List Row) → IsVerdict net o those_events line rows → IsToldWhereBroken net o those_events line rows)
      → (rows like : List Row) → Tells words (cause.One failure) rows → Tells others (cause.Risk name) like → like ≡ map (row_after (cause.Risk name)) rows
  told_alike broken rows like x y = go (missing net those_events (promise_after (cause.One failure) promise)) refl
    where
      silent : (c : Cause) (what : Missing) → missing net those_events (promise_after c promise) ≡ Some what → judged net those_events (line_after n words promise c) ≡ None
      silent c what e = ap (λ what. cond (is_none what) (Some (promise_after c promise)) None) e

      no_rows : (words : List ℕ) (c : Cause) (what : Missing) → missing net those_events (promise_after c promise) ≡ Some what → (rows : List Row) → Tells words c rows → rows ≡ []
      no_rows words c what e rows x = subst (λ said. MatchOption said (rows ≡ []) (λ promise. (rows ≡ []) ↔ IsKept net o nothing_before those_events promise)) (silent c what e) (broken (line_after n words promise c) rows x)

      go : (what : Option Missing) → missing net those_events (promise_after (cause.One failure) promise) ≡ what → like ≡ map (row_after (cause.Risk name)) rows
      go None e = told_both (missing_same net promise lines name failure there ∙ e) e rows like x y
      go (Some what) e = no_rows others (cause.Risk name) what (missing_same net promise lines name failure there ∙ e) like y ∙ sym (ap (map (row_after (cause.Risk name))) (no_rows words (cause.One failure) what e rows x))

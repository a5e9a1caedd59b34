-- That what the tables of a network tell to be in the way of a question is in its way, and which trees they give to a bridge.
use Rattle.std.proofs.Common.{◌≡◌, ℕ, zero, suc, ◌+◌, ◌<◌, ◌≤◌, Bool, true, false, cond, not, ◌&&◌, ◌||◌, nat_eq, nat_le, List, [], ◌∷◌, map, Option, Some, None, is_some, Result, Ok, Err, refl, sym, ap, subst, ◌∙◌, ◌⊎◌, inl, inr, true≢false, arith, eq-eqb}
use Rattle.std.specs.Prelude.{OnErr}
use Rattle.std.specs.List.{AllByRecursion, filter, filter_map, cons_option, find, range_with_len}
use Rattle.std.specs.Option.{option_map, option_map_or}
use Rattle.std.specs.Ordering.{is_eq, nat_cmp, ordering_then}
use Rattle.std.specs.declared.cmp.Ordering.{Ordering}
use Rattle.std.specs.declared.cmp.Ordering.TheVariants.{Less, Equal, Greater}
use Rattle.std.specs.Cmp.Lexicographic.{nat_list_eq_equiv}
use Rattle.std.specs.FinMap as fin
use Rattle.std.specs.FinMap.{find as find_entry, get-entries, nat_cmp-IsAntisymmetric}
use Rattle.std.proofs.lemmas.Bool.{cases_Bool, eqb-true, ne_eqb}
use Rattle.std.proofs.lemmas.Grind.{common_steps}
use Rattle.mst_ids.specs.Names.{name_cmp, port_cmp}
use Rattle.mst_ids.specs.declared.name.PortName.{PortName}
use Rattle.mst_net.specs.tables.After.{has_bridge, is_plugged, table_of}
use Rattle.mst_net.specs.tables.Table.{has_tree as is_mapped, mstis_in}
use Rattle.mst_net.specs.tables.Tables.{BridgeRow, Net, PortRow, port_eq}
use Rattle.mst_view.specs.Aggregation.{Plug, can_aggregate, plug_of, plugs, plugs_in, ports_as_one, same_name, same_sides, side_of, sides, sides_of}
use Rattle.mst_view.specs.Trees.{is_among, mstis_of}
use Rattle.mst_view.specs.View.{LogicalPort, as_port, logical_port, view_ports}
use Rattle.mst_view.proofs.Entries.{entries_found}
use Rattle.mst_view.proofs.Lists.{all_filtered, all_kept, all_mapped, all_weaker, found_passes, no_some, some_is}
use Rattle.mst_view.proofs.Names.{name_is, own_port, same_ports, tied}
use Rattle.mst_view.proofs.Orders.{ports_total}
use Rattle.mst_advise.specs.declared.goal.Goal.{Goal}
use Rattle.mst_advise.specs.declared.goal.Goal.TheVariants as goal
use Rattle.mst_questions.specs.Unadvised.{unadvised_of}
use Rattle.mst_questions.specs.Explaining.{has_asked, logical_port_of, unexplained_of}
use Rattle.mst_questions.specs.Explaining as unexplained
use Rattle.mst_questions.specs.declared.explaining.Unexplained.{Unexplained}
use Rattle.mst_questions.specs.declared.explaining.Unexplained.TheVariants.{NoBridge, NoPort, NoTree}
use Rattle.mst_roles.specs.forest.Msti.{has_msti}
use Rattle.mst_lang.specs.Faults as fault
use Rattle.mst_tool.specs.engine.print.declared.form.Form.{Form}
use Rattle.mst_questions.specs.Ask.{IsAnswer, Told, is_keyless, is_refused, not_given, unadvised_early, unadvised_in, undrawn_in, unexplained_early, unexplained_in}
use Rattle.mst_questions.specs.declared.asked.Question.{Question}
use Rattle.mst_questions.specs.declared.asked.Question.TheVariants.{Explain, Unread, Sweep, Pairs, Summary, Picture, VlanPicture, Undrawn, Advice, Unadvised}
use Rattle.mst_questions.proofs.WholeAsk.{unadvised_told, unexplained_told}

-- ---- an element of a list
Among : {A : Type 0} → A → List A → Type 0
Among x [] = ⊥
Among x (y ∷ ys) = (y ≡ x) ⊎ Among x ys

among_filtered : {A : Type 0} (test : A → Bool) (x : A) (xs : List A) → test x ≡ true → Among x xs → Among x (filter test xs)
unfolding Among
among_filtered test x [] passes h = h
among_filtered test x (y ∷ ys) passes (inl same) =
    let here : test y ≡ true = ap test same ∙ passes in
    rw here (inl same)
among_filtered test x (y ∷ ys) passes (inr later) = elim (cases_Bool (test y)) [
  | inl e ↦ rw e (inr (among_filtered test x ys passes later))
  | inr e ↦ rw e (among_filtered test x ys passes later)
]

among_mapped : {A B : Type 0} (f : A → B) (x : A) (xs : List A) → Among x xs → Among (f x) (map f xs)
unfolding Among
among_mapped f x [] h = h
among_mapped f x (y ∷ ys) (inl same) = inl (ap f same)
among_mapped f x (y ∷ ys) (inr later) = inr (among_mapped f x ys later)

is_found : {A : Type 0} (test : A → Bool) (x : A) (xs : List A) → test x ≡ true → Among x xs → is_some (find test xs) ≡ true
unfolding Among
is_found test x [] passes h = absurd h
is_found test x (y ∷ ys) passes (inl same) =
    let here : test y ≡ true = ap test same ∙ passes in
    rw here refl
is_found test x (y ∷ ys) passes (inr later) = elim (cases_Bool (test y)) [ inl e ↦ rw e refl | inr e ↦ rw e (is_found test x ys passes later) ]

none_found : {A : Type 0} (test : A → Bool) (xs : List A) → AllByRecursion (λ x. test x ≡ false) xs → is_some (find test xs) ≡ false
none_found test [] h = refl
none_found test (x ∷ xs) h = rw h.0 (none_found test xs h.1)

-- ---- plugs
abbrev plug_at : PortName → PortRow → List ℕ → Plug
plug_at port row lan = record { port = port; lan = lan; settings = row.settings }

port_is : (p q : PortName) → port_cmp p q ≡ Equal → p ≡ q
port_is p q e = by (name_cmp p.bridge q.bridge) refl e
  where
    by : (o : Ordering) → name_cmp p.bridge q.bridge ≡ o → ordering_then o (nat_cmp p.number q.number) ≡ Equal → p ≡ q
    by Less h k = absurd (cc)
    by Greater h k = absurd (cc)
    by Equal h k =
        let bridges : p.bridge ≡ q.bridge = name_is p.bridge q.bridge h in
        let numbers : p.number ≡ q.number = nat_cmp-IsAntisymmetric p.number q.number k in
        λ i. record { bridge = bridges i; number = numbers i }

-- the plug of a port that is in a LAN
plug_listed : (port : PortName) (row : PortRow) (lan : List ℕ) (es : List (PortName × PortRow)) → row.lan ≡ Some lan → find_entry port_cmp port es ≡ Some row → Among (plug_at port row lan) (filter_map plug_of es)
unfolding Among
plug_listed port row lan [] is found = absurd (cc)
plug_listed port row lan (e ∷ es) is found = elim (cases_Bool (is_eq (port_cmp port e.0))) [
  | inl here ↦
      let name : port ≡ e.0 = port_is port e.0 (tied (port_cmp port e.0) here) in
      let same : e.1 ≡ row = some_is e.1 row (sym (ap (λ b. cond b (Some e.1) (find_entry port_cmp port es)) here) ∙ found) in
      let plug : plug_of e ≡ Some (plug_at port row lan) = (λ i. option_map (plug_at (sym name i) (same i)) ((same i).lan)) ∙ ap (option_map (plug_at port row)) is in
      rw plug (inl refl)
  | inr other ↦ later (plug_of e) (plug_listed port row lan es is (sym (ap (λ b. cond b (Some e.1) (find_entry port_cmp port es)) other) ∙ found))
]
  where
    later : (o : Option Plug) → Among (plug_at port row lan) (filter_map plug_of es) → Among (plug_at port row lan) (cons_option o (filter_map plug_of es))
    later None h = h
    later (Some p) h = inr h

-- each plug is that of a port in a LAN
all_plugged : (net : Net) → AllByRecursion (λ p. is_plugged p.port net ≡ true) (plugs net)
all_plugged net = all_kept (λ e. fin.get net.ports e.0 ≡ Some e.1) (λ p. is_plugged p.port net ≡ true) plug_of of_entry (fin.entries net.ports) (entries_found ports_total net.ports)
  where
    of_entry : (e : PortName × PortRow) (p : Plug) → fin.get net.ports e.0 ≡ Some e.1 → plug_of e ≡ Some p → is_plugged p.port net ≡ true
    of_entry e p found h = by e.1.lan refl h
      where
        by : (o : Option (List ℕ)) → e.1.lan ≡ o → option_map (plug_at e.0 e.1) o ≡ Some p → is_plugged p.port net ≡ true
        by None k g = absurd (no_some p g)
        by (Some lan) k g =
            subst (λ (q : Plug). is_plugged q.port net ≡ true) (some_is (plug_at e.0 e.1 lan) p g)
            (ap (λ o. option_map_or (λ (row : PortRow). is_some row.lan) o false) found ∙ ap is_some k)

-- so there is no logical port where there is no port in a LAN
pub none_unplugged : (net : Net) (name : PortName) → is_plugged name net ≡ false → is_some (logical_port_of net name) ≡ false
none_unplugged net name out =
    none_found (λ (p : LogicalPort). port_eq p.name name) (view_ports net)
    (all_mapped (λ (p : LogicalPort). port_eq p.name name ≡ false) (as_port net) (filter (λ p. port_eq (logical_port net p).port p.port) (plugs net))
    (all_filtered (λ (p : Plug). port_eq p.port name ≡ false) (λ p. port_eq (logical_port net p).port p.port) (plugs net)
    (all_weaker (λ (p : Plug). is_plugged p.port net ≡ true) (λ (p : Plug). port_eq p.port name ≡ false) other (plugs net) (all_plugged net))))
  where
    other : (p : Plug) → is_plugged p.port net ≡ true → port_eq p.port name ≡ false
    other p there = elim (cases_Bool (port_eq p.port name)) [
      | inl e ↦ absurd (true≢false (sym (ap (λ q. is_plugged q net) (sym (same_ports p.port name e)) ∙ there) ∙ out))
      | inr e ↦ e
    ]

-- ---- a port without a key stands for itself
keyless_none : (p q : Plug) → nat_eq p.settings.key 0 ≡ true → (can_aggregate p q ≡ false) × (can_aggregate q p ≡ false)
keyless_none p q keyless =
    let key : p.settings.key ≡ 0 = eqb-true p.settings.key 0 keyless in (
      ap (λ k. not (same_name p.port.bridge q.port.bridge) && nat_le 1 k && nat_le 1 q.settings.key) key ∙ first (not (same_name p.port.bridge q.port.bridge)) (nat_le 1 q.settings.key),
      ap (λ k. not (same_name q.port.bridge p.port.bridge) && nat_le 1 q.settings.key && nat_le 1 k) key ∙ second (not (same_name q.port.bridge p.port.bridge) && nat_le 1 q.settings.key),
    )
  where
    first : (a b : Bool) → (a && false && b) ≡ false
    first true b = refl
    first false b = refl

    second : (a : Bool) → (a && false) ≡ false
    second true = refl
    second false = refl

no_sides : (p : Plug) (ps : List Plug) → nat_eq p.settings.key 0 ≡ true → Among p ps → sides_of ps ≡ None
unfolding Among
no_sides p [] keyless h = refl
no_sides p (a ∷ []) keyless h = refl
no_sides p (a ∷ b ∷ c ∷ ps) keyless h = refl
no_sides p (a ∷ b ∷ []) keyless (inl same) =
    let none : can_aggregate a b ≡ false = ap (λ x. can_aggregate x b) same ∙ (keyless_none p b keyless).0 in
    ap (λ t. cond t (Some (side_of a, side_of b)) None) none
no_sides p (a ∷ b ∷ []) keyless (inr (inl same)) =
    let none : can_aggregate a b ≡ false = ap (can_aggregate a) same ∙ (keyless_none p a keyless).1 in
    ap (λ t. cond t (Some (side_of a, side_of b)) None) none
no_sides p (a ∷ b ∷ []) keyless (inr (inr none)) = absurd none

module _ (net : Net) (p : Plug) (keyless : nat_eq p.settings.key 0 ≡ true) (there : Among p (plugs net)) where
  no_class : (q : Plug) → ports_as_one net p q ≡ port_eq p.port q.port
  no_class q =
      let none : sides net p.lan ≡ None = no_sides p (plugs_in p.lan (plugs net)) keyless (among_filtered (λ (q : Plug). same_name q.lan p.lan) p (plugs net) (nat_list_eq_equiv.refl p.lan) there) in
      ap (λ s. port_eq p.port q.port || (same_name p.port.bridge q.port.bridge && option_map_or (λ a. option_map_or (same_sides a) (sides net q.lan) false) s false)) none
      ∙ alone (port_eq p.port q.port) (same_name p.port.bridge q.port.bridge)
    where
      alone : (a b : Bool) → (a || (b && false)) ≡ a
      alone true b = refl
      alone false true = refl
      alone false false = refl

  stands : port_eq (logical_port net p).port p.port ≡ true
  stands = found_passes (λ (q : Plug). port_eq q.port p.port ≡ true) (ports_as_one net p)
      (λ q passes. ap (λ r. port_eq r p.port) (sym (same_ports p.port q.port (sym (no_class q) ∙ passes))) ∙ own_port p.port) (plugs net) p (own_port p.port)

  stands_alone : is_some (logical_port_of net p.port) ≡ true
  stands_alone =
      is_found (λ (q : LogicalPort). port_eq q.name p.port) (as_port net p) (view_ports net) (own_port p.port)
      (among_mapped (as_port net) p (filter (λ p. port_eq (logical_port net p).port p.port) (plugs net))
      (among_filtered (λ p. port_eq (logical_port net p).port p.port) p (plugs net) stands there))

pub keyless_there : (net : Net) (name : PortName) → is_plugged name net ≡ true → is_keyless net name ≡ true → is_some (logical_port_of net name) ≡ true
keyless_there net name plugged keyless = by (fin.get net.ports name) refl plugged keyless
  where
    by : (o : Option PortRow) → fin.get net.ports name ≡ o → option_map_or (λ (row : PortRow). is_some row.lan) o false ≡ true → option_map_or (λ (row : PortRow). nat_eq row.settings.key 0) o false ≡ true → is_some (logical_port_of net name) ≡ true
    by None found some key = absurd (true≢false (sym some))
    by (Some row) found some key = in_lan row.lan refl some
      where
        in_lan : (o : Option (List ℕ)) → row.lan ≡ o → is_some o ≡ true → is_some (logical_port_of net name) ≡ true
        in_lan None is some = absurd (true≢false (sym some))
        in_lan (Some lan) is some = stands_alone net (plug_at name row lan) key (plug_listed name row lan (fin.entries net.ports) is (sym (get-entries net.ports name) ∙ found))

-- ---- what is told early is so
abbrev early_by : Bool → Bool → Bool → Bool → Option Unexplained
early_by bridge plugged keyless asked = cond (not bridge) (Some NoBridge) (cond (not plugged) (Some NoPort) (cond (keyless && not asked) (Some NoTree) None))

abbrev told_by : Bool → Bool → Bool → Option Unexplained
told_by bridge port asked = cond (not bridge) (Some NoBridge) (cond (not port) (Some NoPort) (cond (not asked) (Some NoTree) None))

is_told : (bridge plugged keyless port asked : Bool) (why : Unexplained) → (plugged ≡ false → port ≡ false) → (plugged ≡ true → keyless ≡ true → port ≡ true) → early_by bridge plugged keyless asked ≡ Some why → told_by bridge port asked ≡ Some why
is_told false plugged keyless port asked why out alone h = h
is_told true false keyless port asked why out alone h = ap (λ p. told_by true p asked) (out refl) ∙ h
is_told true true true port false why out alone h = ap (λ p. told_by true p false) (alone refl refl) ∙ h
is_told true true true port true why out alone h = absurd (no_some why h)
is_told true true false port asked why out alone h = absurd (no_some why h)

pub unexplained_so : (net : Net) (port : PortName) (tree : Option ℕ) (why : Unexplained) → unexplained_early net port tree ≡ Some why → unexplained_of net port tree ≡ Some why
unexplained_so net port tree why h =
    is_told (has_bridge port.bridge net) (is_plugged port net) (is_keyless net port) (is_some (logical_port_of net port)) (has_asked net port.bridge tree) why (none_unplugged net port) (keyless_there net port) h

pub unadvised_so : (net : Net) (goal : Goal) (why : Unexplained) → unadvised_early net goal ≡ Some why → unadvised_of net goal ≡ Some why
unadvised_so net (goal.Root tree bridge) why h = h
unadvised_so net (goal.Forward tree port) why h = unexplained_so net port (Some tree) why h

-- ---- so what is refused whatever memory there is has an answer
pub refused_answer : (form : Form) (net : Net) (question : Question) → is_refused net question ≡ true → (told : Told) × (text : List ℕ) × IsAnswer form net question told text
refused_answer form net (Unread f) h = (not_given, unexplained_in form (fault.code_of f) (fault.text_of f), (refl, refl))
refused_answer form net (Undrawn f) h = (not_given, undrawn_in form (fault.code_of f) (fault.text_of f), (refl, refl))
refused_answer form net (Unadvised f) h = (not_given, unadvised_in form (fault.code_of f) (fault.text_of f), (refl, refl))
refused_answer form net (Sweep part) h = absurd (true≢false (sym h))
refused_answer form net (Pairs part) h = absurd (true≢false (sym h))
refused_answer form net Summary h = absurd (true≢false (sym h))
refused_answer form net (Picture n) h = absurd (true≢false (sym h))
refused_answer form net (VlanPicture n) h = absurd (true≢false (sym h))
refused_answer form net (Explain asked) h = by (unexplained_early net asked.port asked.tree) refl h
  where
    by : (o : Option Unexplained) → unexplained_early net asked.port asked.tree ≡ o → is_some o ≡ true → (told : Told) × (text : List ℕ) × IsAnswer form net (Explain asked) told text
    by None k some = absurd (true≢false (sym some))
    by (Some why) k some =
        (not_given, unexplained_in form (unexplained.code_of why) (unexplained.text_of why), unexplained_told form net net asked why refl (unexplained_so net asked.port asked.tree why k))
refused_answer form net (Advice wanted) h = by (unadvised_early net wanted) refl h
  where
    by : (o : Option Unexplained) → unadvised_early net wanted ≡ o → is_some o ≡ true → (told : Told) × (text : List ℕ) × IsAnswer form net (Advice wanted) told text
    by None k some = absurd (true≢false (sym some))
    by (Some why) k some = (not_given, unadvised_in form (unexplained.code_of why) (unexplained.text_of why), unadvised_told form net net wanted why refl (unadvised_so net wanted why k))

-- a fact that holds whatever comes
pub whatever : {A E : Type 0} (r : Result A E) (P : Type 0) → P → OnErr r P
whatever (Ok v) P p = tt
whatever (Err e) P p = p

-- ---- the trees of a table
none_later : (test : ℕ → Bool) (count a k : ℕ) → k < a → is_among (filter test (range_with_len a count)) k ≡ false
none_later test zero a k low = refl
none_later test (suc count) a k low = by (test a) (none_later test count (a + 1) k (omega (arith, low)))
  where
    by : (b : Bool) → is_among (filter test (range_with_len (a + 1) count)) k ≡ false → is_among (cond b (a ∷ filter test (range_with_len (a + 1) count)) (filter test (range_with_len (a + 1) count))) k ≡ false
    by true rest = ap (λ t. t || is_among (filter test (range_with_len (a + 1) count)) k) (ne_eqb a k (λ e. omega (arith, e, low))) ∙ rest
    by false rest = rest

-- a number is among those of a range that pass a test where it passes it
among_range : (test : ℕ → Bool) (count a k : ℕ) → a ≤ k → k < a + count → is_among (filter test (range_with_len a count)) k ≡ test k
among_range test zero a k low high = absurd (omega (arith, low, high))
among_range test (suc count) a k low high = elim (cases_Bool (nat_eq a k)) [
  | inl same ↦ here (eqb-true a k same)
  | inr other ↦ later (test a) other (among_range test count (a + 1) k (above other) (omega (arith, high)))
]
  where
    rest : List ℕ
    rest = filter test (range_with_len (a + 1) count)

    above : nat_eq a k ≡ false → a + 1 ≤ k
    above other = grind (arith, common_steps)

    later : (b : Bool) → nat_eq a k ≡ false → is_among rest k ≡ test k → is_among (cond b (a ∷ rest) rest) k ≡ test k
    later true other h = ap (λ t. t || is_among rest k) other ∙ h
    later false other h = h

    first : (b : Bool) → test k ≡ b → a ≡ k → is_among (cond b (a ∷ rest) rest) k ≡ b
    first true passes same = ap (λ t. t || is_among rest k) (eq-eqb a k same)
    first false passes same = none_later test count (a + 1) k (omega (arith, same))

    here : a ≡ k → is_among (cond (test a) (a ∷ rest) rest) k ≡ test k
    here same = ap (λ x. is_among (cond (test x) (a ∷ rest) rest) k) same ∙ first (test k) refl same

pub among_mstis : (table : List ℕ) (tree : ℕ) → 1 ≤ tree → tree ≤ 4094 → is_among (mstis_in table) tree ≡ is_mapped table tree
unfolding mstis_in
among_mstis table tree low high = among_range (is_mapped table) 4094 1 tree low (omega (arith, high))

-- a bridge's row that is no RSTP bridge's
pub mstp_has : (net : Net) (name : List ℕ) (row : BridgeRow) (tree : ℕ) → fin.get net.bridges name ≡ Some row → row.is_rstp ≡ false → 1 ≤ tree → tree ≤ 4094 → is_mapped (table_of net name) tree ≡ has_msti net tree name
mstp_has net name row tree found mstp low high =
    sym (ap (λ o. option_map_or (λ (r : BridgeRow). is_among (mstis_of net name r) tree) o false) found ∙ ap (λ t. is_among (cond t [] (mstis_in (table_of net name))) tree) mstp ∙ among_mstis (table_of net name) tree low high)

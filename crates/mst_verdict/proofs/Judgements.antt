-- What lines of a policy expect, and what a failure leaves of what they are judged by.
use Rattle.std.proofs.Common.{◌≡◌, ℕ, ◌+◌, ◌<◌, Bool, true, false, true≢false, ◌&&◌, cond, not, List, [], ◌∷◌, ◌++◌, length, map, take, get_or, Option, Some, None, is_none, is_some, Bor, Result, Ok, Err, refl, sym, ap, subst, ◌∙◌}
use Rattle.std.specs.Prelude.{MatchOption}
use Rattle.std.specs.List.{AllByRecursion, AllZip, Contains, list_all, list_any}
use Rattle.std.specs.Option.{option_and_then, option_map}
use Rattle.std.specs.FinMap as fin
use Rattle.std.specs.Ordering.{eq_by_cmp}
use Rattle.std.proofs.lemmas.List.{get_or-map, length-map, take_more}
use Rattle.mst_lang.specs.declared.line.Edit.{Edit}
use Rattle.mst_lang.specs.declared.line.Fault.{Fault}
use Rattle.mst_lang.specs.declared.line.LanChange.TheVariants.{State}
use Rattle.mst_lang.specs.declared.line.LanState.TheVariants.{Down}
use Rattle.mst_net.specs.tables.After.{change, effect, lan_with}
use Rattle.mst_net.specs.tables.ByTree.{ByTree, table_in, vlans_in}
use Rattle.mst_net.specs.tables.Contents.{Contents, Tables}
use Rattle.mst_net.specs.tables.Tables.{Net, Numbers, BridgeRow, LanRow}
use Rattle.mst_net.proofs.tables_lemmas.Changed.{get_changed}
use Rattle.mst_net.proofs.tables_lemmas.Keys.{names}
use Rattle.mst_graph.specs.declared.keys.Numbering.{Numbering}
use Rattle.mst_ids.specs.Names.{name_cmp}
use Rattle.mst_view.specs.Aggregation.{same_name}
use Rattle.mst_view.specs.View.{LogicalPort, bridge_names, port_names}
use Rattle.mst_view.specs.Viewed.{Viewed, IsView, named_bridge, named_port}
use Rattle.mst_view.specs.declared.in_view.BridgeInView.{BridgeInView}
use Rattle.mst_view.specs.declared.in_view.PortInView.{PortInView}
use Rattle.mst_policy.specs.Items.{item_has}
use Rattle.mst_policy.specs.Leaving.{Leaving}
use Rattle.mst_policy.specs.declared.expectation.Expectation.{Expectation}
use Rattle.mst_policy.specs.declared.expectation.Expectation.TheVariants as expect
use Rattle.mst_policy.specs.declared.expectation.Promise.{Promise}
use Rattle.mst_policy.specs.declared.item.NameItem.TheVariants.{Is}
use Rattle.mst_policy.specs.Lines.{promise_in}
use Rattle.mst_policy.specs.declared.policy.PolicyLine.{PolicyLine}
use Rattle.mst_policy.specs.declared.risk.Said.{Said}
use Rattle.mst_policy.specs.declared.risk.Said.TheVariants as says
use Rattle.mst_sweeping.specs.sweep.vlan.classes.Classes.{AreClasses}
use Rattle.mst_forest.specs.Forest.{Forest}
use Rattle.mst_forest.specs.Outcome.{Outcome, IsOutcome}
use Rattle.mst_forest.specs.Settled.{SettledNet, settled_net, tables_with}
use Rattle.mst_forest.proofs.Lists.{mapped_twice}
use Rattle.mst_sweeping.specs.sweep.Failures.{Event, edit_of, failed, lans_failed}
use Rattle.mst_sweeping.specs.sweep.Left.{AreLeft}
use Rattle.mst_sweeping.specs.sweep.declared.failure.Failure.{Failure}
use Rattle.mst_sweeping.specs.sweep.declared.failure.Failure.TheVariants.{Lan, Bridge}
use Rattle.mst_sweeping.proofs.sweep_lemmas.Failed.{are_left}
use Rattle.mst_sweeping.proofs.sweep_lemmas.SweptParts.{zip_joined}
use Rattle.mst_verify.specs.tree_judges.judged.reasons.Missing.{lans_of, missing, scope_lans}
use Rattle.mst_verify.specs.tree_judges.judged.reasons.Over.{HasItsLan, is_lan}
use Rattle.mst_verify.specs.tree_judges.judged.Islands.{IsKeptBefore, IsKeptOf, IsOneOf}
use Rattle.mst_verify.specs.tree_judges.judged.reasons.Risks.{events, has_one}
use Rattle.mst_verify.specs.tree_judges.judged.reasons.Named.{Prior, with_before}
use Rattle.mst_verify.specs.tree_judges.judged.reasons.Placed.{AreReasonsAfter}
use Rattle.mst_verify.specs.tree_judges.judged.reasons.declared.missing.Missing.{Missing}
use Rattle.mst_verify.specs.tree_judges.judged.declared.prior.Prior.{Prior as KeptPrior}
use Rattle.mst_verify.specs.tree_judges.judged.reasons.declared.reason.Reason.{Reason}
use Rattle.mst_verify.proofs.JudgedSomewhere.{whole}
use Rattle.mst_telling.specs.Told.{expected_at, is_due, is_judged_at, lacked, lacks_nothing, looks_at, says_due}
use Rattle.mst_verdict.specs.Verifying.{AreLacking, AreReasonsEach, AreReasonsIf, AreReasonsOf, HaveLans, IsBeforeOf, IsCarriage, IsPrior, IsPriorOf, Sitting, asked_by, expected_by, expected_in, expected_of, lacks_in, plan_outcome, sitting_of}
use Rattle.mst_verdict.specs.declared.judging.Judging.{Judging}
use Rattle.mst_sweeping.specs.sweep.vlan.Carried.{ViewWithTrees}
use Rattle.mst_sweeping.specs.plan.Plan.{IsPlan}
use Rattle.mst_sweeping.specs.plan.declared.plan.Plan.{Plan}
use Rattle.mst_forest.proofs.SettledNet.{is_settled_net}
use Rattle.mst_sweeping.proofs.SweepThere.{all_joined}

-- ---- lists
-- one more, place by place
pub zip_more : {A B : Type 0} (R : A → B → Type 0) (xs : List A) (i : ℕ) (x : A) (ys : List B) (y : B) → i < length xs → x ≡ get_or xs i x → AllZip R (take i xs) ys → R x y → AllZip R (take (i + 1) xs) (ys ++ y ∷ [])
zip_more R xs i x ys y below is h r = subst (λ l. AllZip R l (ys ++ y ∷ [])) (sym (take_more xs i x below ∙ ap (λ z. take i xs ++ z ∷ []) (sym is))) (zip_joined R (take i xs) (x ∷ []) ys (y ∷ []) h (r, tt))

pub all_more : {A : Type 0} (P : A → Type 0) (xs : List A) (i : ℕ) (x : A) → i < length xs → x ≡ get_or xs i x → AllByRecursion P (take i xs) → P x → AllByRecursion P (take (i + 1) xs)
all_more P xs i x below is h p = subst (AllByRecursion P) (sym (take_more xs i x below ∙ ap (λ z. take i xs ++ z ∷ []) (sym is))) (all_joined P (take i xs) (x ∷ []) h (p, tt))

-- what follows of each, place by place
pub zip_weaker : {A B : Type 0} (R S : A → B → Type 0) → ((x : A) (y : B) → R x y → S x y) → (xs : List A) (ys : List B) → AllZip R xs ys → AllZip S xs ys
zip_weaker R S f [] [] h = tt
zip_weaker R S f [] (y ∷ ys) h = absurd h
zip_weaker R S f (x ∷ xs) [] h = absurd h
zip_weaker R S f (x ∷ xs) (y ∷ ys) h = (f x y h.0, zip_weaker R S f xs ys h.1)

-- ---- what lines expect
-- a line is judged by what it lacks
pub lacks_at : (net : Net) (is_last : Bool) (lines : List PolicyLine) (missing : List (Option Missing)) → AreLacking net is_last lines missing → (n : ℕ) (line : PolicyLine) (d : Option Missing)
    → n < length lines → line ≡ get_or lines n line → get_or missing n d ≡ lacks_in net (events net lines) is_last line
lacks_at net is_last lines missing are n line d below line_is =
    ap (λ l. get_or l n d) are ∙ get_or-map (lacks_in net (events net lines) is_last) lines n line d below ∙ ap (lacks_in net (events net lines) is_last) (sym line_is)

-- what a promise that can be read expects in a place, if the line is judged
abbrev if_judged : Judging → Net → List Event → Option Event → Result Said Fault → Option Expectation
if_judged j net events place read =
    option_and_then (λ promise. cond (looks_at (is_some j.prior) promise place) (Some promise.expectation) None)
    (option_and_then (λ promise. cond (lacks_nothing net events promise) (Some promise) None) (promise_in read))

expected_read : (j : Judging) (net : Net) (events : List Event) (read : Result Said Fault) (place : Option Event)
    → option_and_then (λ promise. asked_by j (cond (is_due j.is_last read) (lacked net events read) None) promise place) (promise_in read) ≡ cond (is_due j.is_last read) (if_judged j net events place read) None
expected_read j net events (Err fault) place = refl
expected_read j net events (Ok (says.Risk line)) place = refl
expected_read j net events (Ok (says.Promise promise)) place = by (says_due j.is_last (says.Promise promise)) (missing net events promise)
  where
    by : (due : Bool) (what : Option Missing) → cond (due && (not (is_some (cond due what None)) && looks_at (is_some j.prior) promise place)) (Some promise.expectation) None
        ≡ cond due (option_and_then (λ (promise : Promise). cond (looks_at (is_some j.prior) promise place) (Some promise.expectation) None) (cond (is_none what) (Some promise) None)) None
    by false what = refl
    by true None = refl
    by true (Some what) = refl

pub expected_so : (j : Judging) (net : Net) (line : PolicyLine) (lacks : Option Missing) (place : Option Event) → lacks ≡ lacks_in net (events net j.lines.now) j.is_last line → expected_by j line lacks place ≡ expected_in j net line place
expected_so j net line lacks place e = ap (λ l. expected_by j line l place) e ∙ expected_read j net (events net j.lines.now) line.read place

-- ---- the LANs that they name
none_some : {A : Type 0} (x : A) → None ≡ Some x → ⊥
none_some x e = absurd (cc)

not_false : (b : Bool) → not b ≡ false → b ≡ true
not_false true e = refl
not_false false e = sym e

and_second : (a b : Bool) → (a && b) ≡ true → b ≡ true
and_second true b e = e
and_second false b e = absurd (true≢false (sym e))

all_appended : {A : Type 0} (test : A → Bool) (xs ys : List A) → list_all test (xs ++ ys) ≡ true → list_all test ys ≡ true
all_appended test [] ys e = e
all_appended test (x ∷ xs) ys e = all_appended test xs ys (and_second (test x) (list_all test (xs ++ ys)) e)

-- so the LAN that it names is there
tied_names : (net : Net) (lan : List ℕ) → list_any (item_has (Is lan)) (fin.keys net.lans) ≡ list_any (eq_by_cmp name_cmp lan) (fin.keys net.lans)
tied_names net lan = λ i. list_any (λ x. names.ties lan x i) (fin.keys net.lans)

one_there : (net : Net) (lan : List ℕ) → list_all (has_one (fin.keys net.lans)) (Is lan ∷ []) ≡ true → is_lan net lan ≡ true
one_there net lan e = fin.contains_key-keys net.lans lan ∙ sym (tied_names net lan) ∙ by (list_any (item_has (Is lan)) (fin.keys net.lans)) e
  where
    by : (b : Bool) → (b && true) ≡ true → b ≡ true
    by true e = refl
    by false e = e

has_lan : (net : Net) (e : Expectation) → list_all (has_one (fin.keys net.lans)) (lans_of e) ≡ true → HasItsLan net e
has_lan net (expect.Root tree b next) h = tt
has_lan net (expect.Region bridges) h = tt
has_lan net (expect.Role tree ports roles) h = tt
has_lan net (expect.Reach vids bridges) h = tt
has_lan net (expect.Apart vids bridges others) h = tt
has_lan net (expect.Leaves vids bridges) h = tt
has_lan net (expect.Together vids bridges) h = tt
has_lan net (expect.Leaf tree bridges) h = tt
has_lan net (expect.Depth tree steps) h = tt
has_lan net (expect.Hops vids most bridges) h = tt
has_lan net (expect.Via vids a b c) h = tt
has_lan net (expect.Carries lan vids) h = one_there net lan h
has_lan net (expect.Avoids lan vids) h = one_there net lan h
has_lan net expect.Fits h = tt

judged_lan : (net : Net) (events : List Event) (promise : Promise) → missing net events promise ≡ None → HasItsLan net promise.expectation
judged_lan net events promise e =
    has_lan net promise.expectation (all_appended (has_one (fin.keys net.lans)) (scope_lans promise.scope) (lans_of promise.expectation)
    (not_false (list_all (has_one (fin.keys net.lans)) (scope_lans promise.scope ++ lans_of promise.expectation)) (whole net events promise e).0))

pub have_lans : (j : Judging) (net : Net) (place : Option Event) → HaveLans j net net place
have_lans j net place line e h = go (is_judged_at j.is_last line) line.read h
  where
    asked : (promise : Promise) → HasItsLan net promise.expectation → (b : Bool) → cond b (Some promise.expectation) None ≡ Some e → HasItsLan net e
    asked promise has true k = subst (HasItsLan net) (some_same promise.expectation e k) has
      where
        some_same : (a b : Expectation) → Some a ≡ Some b → a ≡ b
        some_same a b k = cc
    asked promise has false k = absurd (none_some e k)

    by : (promise : Promise) (what : Option Missing) → missing net (events net j.lines.now) promise ≡ what
        → option_and_then (λ (promise : Promise). cond (looks_at (is_some j.prior) promise place) (Some promise.expectation) None) (cond (is_none what) (Some promise) None) ≡ Some e → HasItsLan net e
    by promise None m k = asked promise (judged_lan net (events net j.lines.now) promise m) (looks_at (is_some j.prior) promise place) k
    by promise (Some what) m k = absurd (none_some e k)

    go : (due : Bool) (read : Result Said Fault) → cond due (if_judged j net (events net j.lines.now) place read) None ≡ Some e → HasItsLan net e
    go false read k = absurd (none_some e k)
    go true (Err fault) k = absurd (none_some e k)
    go true (Ok (says.Risk line)) k = absurd (none_some e k)
    go true (Ok (says.Promise promise)) k = by promise (missing net (events net j.lines.now) promise) refl k

-- failures take no LAN away
some_kept : {A : Type 0} (t : Bool) (f : A → A) (o : Option A) → is_some (cond t (option_map f o) o) ≡ is_some o
some_kept true f None = refl
some_kept true f (Some x) = refl
some_kept false f o = refl

lans_kept : (failures : List Failure) (lans : fin.FinMap name_cmp LanRow) (lan : List ℕ) → is_some (fin.get (lans_failed failures lans) lan) ≡ is_some (fin.get lans lan)
lans_kept [] lans lan = refl
lans_kept (Lan own ∷ others) lans lan =
    lans_kept others (change lans own (lan_with (State Down))) lan ∙ ap is_some (get_changed names lans own (lan_with (State Down)) lan) ∙ some_kept (same_name own lan) (lan_with (State Down)) (fin.get lans lan)
lans_kept (Bridge bridge ∷ others) lans lan = lans_kept others lans lan

lan_kept : (failures : List Failure) (net : Net) (lan : List ℕ) → is_lan (failed failures net) lan ≡ is_lan net lan
lan_kept failures net lan = lans_kept failures net.lans lan

its_lan_kept : (failures : List Failure) (net : Net) (e : Expectation) → HasItsLan net e → HasItsLan (failed failures net) e
its_lan_kept failures net (expect.Root tree b next) h = tt
its_lan_kept failures net (expect.Region bridges) h = tt
its_lan_kept failures net (expect.Role tree ports roles) h = tt
its_lan_kept failures net (expect.Reach vids bridges) h = tt
its_lan_kept failures net (expect.Apart vids bridges others) h = tt
its_lan_kept failures net (expect.Leaves vids bridges) h = tt
its_lan_kept failures net (expect.Together vids bridges) h = tt
its_lan_kept failures net (expect.Leaf tree bridges) h = tt
its_lan_kept failures net (expect.Depth tree steps) h = tt
its_lan_kept failures net (expect.Hops vids most bridges) h = tt
its_lan_kept failures net (expect.Via vids a b c) h = tt
its_lan_kept failures net (expect.Carries lan vids) h = lan_kept failures net lan ∙ h
its_lan_kept failures net (expect.Avoids lan vids) h = lan_kept failures net lan ∙ h
its_lan_kept failures net expect.Fits h = tt

pub have_lans_failed : (j : Judging) (net : Net) (failures : List Failure) (place : Option Event) → HaveLans j net (failed failures net) place
have_lans_failed j net failures place line e h = its_lan_kept failures net e (have_lans j net place line e h)

-- ---- classes of VIDs
all_names : {A B : Type 0} (P : B → Type 0) (name : A → B) (xs : List A) → AllByRecursion (λ x. P (name x)) xs → AllByRecursion P (map name xs)
all_names P name [] h = tt
all_names P name (x ∷ xs) h = (h.0, all_names P name xs h.1)

names_all : {A B : Type 0} (P : B → Type 0) (name : A → B) (xs : List A) → AllByRecursion P (map name xs) → AllByRecursion (λ x. P (name x)) xs
names_all P name [] h = tt
names_all P name (x ∷ xs) h = (h.0, names_all P name xs h.1)

seen_names : (net : Net) (numbers : Numbers) (v : Viewed) → IsView net numbers v → map (λ (b : BridgeInView). b.name) v.bridges ≡ bridge_names net
seen_names net numbers v view = sym (mapped_twice (λ (e : List ℕ × BridgeRow). e.0) named_bridge v.bridges) ∙ ap (map (λ (e : List ℕ × BridgeRow). e.0)) view.bridges

seen_ports : (net : Net) (numbers : Numbers) (v : Viewed) → IsView net numbers v → map (λ (p : PortInView). p.name) v.ports ≡ port_names net
seen_ports net numbers v view = sym (mapped_twice (λ (p : LogicalPort). p.name) named_port v.ports) ∙ ap (map (λ (p : LogicalPort). p.name)) view.ports

-- those of a network are those of one that has the same names and the same settings by tree and VID
classes_left : (a b : Net) (n k : Numbers) (v w : Viewed) → IsView a n v → IsView b k w → AreLeft a b → (c : Numbering) → AreClasses v c → AreClasses w c
classes_left a b n k v w of_v of_w left c are =
    let set : v.settings ≡ w.settings = of_v.settings ∙ left.settings ∙ sym of_w.settings in
    let bridges : map (λ (b : BridgeInView). b.name) v.bridges ≡ map (λ (b : BridgeInView). b.name) w.bridges = seen_names a n v of_v ∙ left.bridges ∙ sym (seen_names b k w of_w) in
    let ports : map (λ (p : PortInView). p.name) v.ports ≡ map (λ (p : PortInView). p.name) w.ports = seen_ports a n v of_v ∙ left.ports ∙ sym (seen_ports b k w of_w) in
    record {
      tables = are.tables;
      sets = are.sets;
      have_tables = names_all (λ name. Contains are.tables (table_in w.settings.tables name)) (λ (b : BridgeInView). b.name) w.bridges
          (subst (λ (s : ByTree). AllByRecursion (λ name. Contains are.tables (table_in s.tables name)) (map (λ (b : BridgeInView). b.name) w.bridges)) set
          (subst (AllByRecursion (λ name. Contains are.tables (table_in v.settings.tables name))) bridges (all_names (λ name. Contains are.tables (table_in v.settings.tables name)) (λ (b : BridgeInView). b.name) v.bridges are.have_tables)));
      have_sets = names_all (λ name. Contains are.sets (vlans_in w.settings.vlans name)) (λ (p : PortInView). p.name) w.ports
          (subst (λ (s : ByTree). AllByRecursion (λ name. Contains are.sets (vlans_in s.vlans name)) (map (λ (p : PortInView). p.name) w.ports)) set
          (subst (AllByRecursion (λ name. Contains are.sets (vlans_in v.settings.vlans name))) ports (all_names (λ name. Contains are.sets (vlans_in v.settings.vlans name)) (λ (p : PortInView). p.name) v.ports are.have_sets)));
      numbers = are.numbers;
      tell = are.tell;
      classes = are.classes;
    }

-- so they are those of the network with some failures
pub classes_stay : (failures : List Failure) (a : Net) (n k : Numbers) (v w : Viewed) → IsView a n v → IsView (failed failures a) k w → (c : Numbering) → AreClasses v c → AreClasses w c
classes_stay failures a n k v w of_v of_w c are = classes_left a (failed failures a) n k v w of_v of_w (are_left failures a) c are

-- ---- a network with failures
-- it is what their edits make of the network
abbrev pub tables_failed : List Failure → Contents → Tables
tables_failed failures c = record { net = failed failures c.net; numbers = c.numbers }

pub tables_ahead : (failures : List Failure) (c : Contents) → tables_with c (map edit_of failures) ≡ tables_failed failures c
tables_ahead [] c = refl
tables_ahead (Lan lan ∷ others) c = tables_ahead others (record c { net = effect (edit_of (Lan lan)) c.net })
tables_ahead (Bridge bridge ∷ others) c = tables_ahead others (record c { net = effect (edit_of (Bridge bridge)) c.net })

pub tables_made : (failures : List Failure) (edits : List Edit) (c : Contents) → edits ≡ map edit_of failures → tables_with c edits ≡ tables_failed failures c
tables_made failures edits c is = ap (tables_with c) is ∙ tables_ahead failures c

-- and so it is settled
pub failed_plan : (failures : List Failure) (edits : List Edit) (c : Contents) → edits ≡ map edit_of failures → (v : Viewed) (forest : Forest) (s : SettledNet) → s ≡ settled_net (tables_with c edits) v forest → s ≡ settled_net (tables_failed failures c) v forest
failed_plan failures edits c is v forest s e = e ∙ ap (λ t. settled_net t v forest) (tables_made failures edits c is)

-- ---- the network before
prior_there : (kept : Option (Bor ViewWithTrees)) (before : Option (Net × Outcome)) → IsBeforeOf (option_map (λ c. c.now) kept) before → is_some kept ≡ is_some before
prior_there None None h = refl
prior_there None (Some p) h = absurd h
prior_there (Some c) None h = absurd h
prior_there (Some c) (Some p) h = refl

-- it is the one of which something is kept
none_kept : (before : Option (Net × Outcome)) → IsBeforeOf None before → IsKeptBefore before None
none_kept None h = tt
none_kept (Some p) h = absurd h

pub not_kept : (kept : Option (Bor ViewWithTrees)) (leaving : Leaving) (prior : Prior) → kept ≡ None → IsPrior (option_map (λ c. c.now) kept) leaving prior → IsKeptOf prior None leaving
not_kept kept leaving prior e h = (none_kept prior.before (subst (λ (k : Option (Bor ViewWithTrees)). IsBeforeOf (option_map (λ c. c.now) k) prior.before) e h.0), h.1)

some_kept_of : (c : ViewWithTrees) (own : KeptPrior) (before : Option (Net × Outcome)) → own.old.now ≡ c → IsBeforeOf (Some c) before → IsKeptBefore before (Some own)
some_kept_of c own None e h = absurd h
some_kept_of c own (Some p) e h = subst (IsOneOf p.0 p.1) (sym e) h

pub kept_of : (kept : Option (Bor ViewWithTrees)) (c : Bor ViewWithTrees) (own : KeptPrior) (leaving : Leaving) (prior : Prior) → kept ≡ Some c → own.old.now ≡ c.now
    → IsPrior (option_map (λ c. c.now) kept) leaving prior → IsKeptOf prior (Some own) leaving
kept_of kept c own leaving prior is e h = (some_kept_of c.now own prior.before e (subst (λ (k : Option (Bor ViewWithTrees)). IsBeforeOf (option_map (λ c. c.now) k) prior.before) is h.0), h.1)

-- a network is one of what carries its VIDs
pub prior_of : (net : Net) (numbers : Numbers) (p : Plan) (c : ViewWithTrees) → IsPlan net numbers p → IsCarriage p c → IsPriorOf c (net, plan_outcome net numbers p)
prior_of net numbers p c plan is = record {
  network = record { net = net; numbers = numbers; view = p.view; forest = p.forest };
  settled = is_settled_net net numbers p.view p.forest plan.of plan.forest;
  is_of = is;
  net_is = refl;
  outcome_is = refl;
}

-- and its plan has a settled outcome of it
pub plan_settled : (net : Net) (numbers : Numbers) (p : Plan) → IsPlan net numbers p → IsOutcome net (plan_outcome net numbers p)
plan_settled net numbers p plan = (is_settled_net net numbers p.view p.forest plan.of plan.forest).is_outcome

-- ---- reasons
module _ (j : Judging) (net : Net) (numbers : Numbers) (prior : Prior) (is : IsPrior (option_map (λ c. c.now) j.prior) j.leaving.now prior) where
  abbrev s : Sitting
  s = sitting_of net numbers j prior

  same_expected : (line : PolicyLine) (place : Option Event) → expected_in j net line place ≡ expected_of s line place
  same_expected line place = ap (λ b. cond (is_judged_at j.is_last line) (expected_at net (events net j.lines.now) b line place) None) (prior_there j.prior prior.before is.0)

  pub none_of : (place : Option Event) (lines : List PolicyLine) → AllByRecursion (λ line. expected_in j net line place ≡ None) lines → AllByRecursion (λ line. expected_of s line place ≡ None) lines
  none_of place [] h = tt
  none_of place (line ∷ lines) h = (sym (same_expected line place) ∙ h.0, none_of place lines h.1)

  -- those in the network itself
  line_now : (line : PolicyLine) (those : List Reason) → AreReasonsIf net s.outcome net [] prior (expected_in j net line None) those → AreReasonsOf s line None those
  line_now line those h = subst (λ (expected : Option Expectation). AreReasonsIf net s.outcome net [] prior expected those) (same_expected line None) h

  pub lines_now : (lines : List PolicyLine) (all : List (List Reason)) → AllZip (λ line those. AreReasonsIf net s.outcome net [] prior (expected_in j net line None) those) lines all → AreReasonsEach s lines None all
  lines_now lines all h = zip_weaker (λ line those. AreReasonsIf net s.outcome net [] prior (expected_in j net line None) those) (λ line those. AreReasonsOf s line None those) line_now lines all h

  -- and those in the network with the failures of an event are those of the line in its place
  module _ (event : Event) (p : Outcome) (settled : IsOutcome (failed event.failures net) p) where
    abbrev Then : PolicyLine → List Reason → Type 0
    Then line those = AreReasonsIf (failed event.failures net) p net event.failures (with_before net s.outcome prior) (expected_in j net line (Some event)) those

    line_after : (line : PolicyLine) (those : List Reason) → Then line those → AreReasonsOf s line (Some event) those
    line_after line those h =
        by (expected_of s line (Some event))
        (subst (λ (expected : Option Expectation). AreReasonsIf (failed event.failures net) p net event.failures (with_before net s.outcome prior) expected those) (same_expected line (Some event)) h)
      where
        by : (expected : Option Expectation) → AreReasonsIf (failed event.failures net) p net event.failures (with_before net s.outcome prior) expected those
            → MatchOption expected (those ≡ []) (λ expectation. AreReasonsAfter net s.outcome prior event.failures expectation those)
        by None h = h
        by (Some expectation) h = record { outcome = p; is_outcome = settled; are = h }

    pub lines_after : (lines : List PolicyLine) (all : List (List Reason)) → AllZip Then lines all → AreReasonsEach s lines (Some event) all
    lines_after lines all h = zip_weaker Then (λ line those. AreReasonsOf s line (Some event) those) line_after lines all h

pub as_many : (net : Net) (is_last : Bool) (lines : List PolicyLine) (missing : List (Option Missing)) → AreLacking net is_last lines missing → length missing ≡ length lines
as_many net is_last lines missing are = ap length are ∙ length-map lines (lacks_in net (events net lines) is_last)

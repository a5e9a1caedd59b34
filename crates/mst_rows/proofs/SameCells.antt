-- Two values of one type that have one JSON are one.
use Rattle.std.proofs.Common.{◌≡◌, ◌∙◌, ℕ, Bool, List, [], ◌∷◌, Option, Some, None, map, refl, sym, ap, ap₂, subst}
use Rattle.std.proofs.lemmas.Fmt.{decimal_injective}
use Rattle.std.specs.List.{AllByRecursion}
use Rattle.std.specs.Prelude.{◌==◌, codes, decimal, if◌then◌else◌, length}
use Rattle.json.specs.Json.{Json, null, boolean, string}
use Rattle.mst_ids.specs.declared.name.PortName.{PortName}
use Rattle.mst_kinds.specs.Words.{key_text}
use Rattle.mst_kinds.specs.Sorts.{Sort}
use Rattle.mst_kinds.specs.Sorts as sort
use Rattle.mst_kinds.specs.declared.key.Key.{Key}
use Rattle.mst_kinds.proofs.Table.{keys_differ}
use Rattle.mst_rows.specs.declared.value.ActivePort.{ActivePort}
use Rattle.mst_rows.specs.declared.value.PromiseScope.{PromiseScope}
use Rattle.mst_rows.specs.declared.value.PromiseScope.TheVariants as scope
use Rattle.mst_rows.specs.Cells.{PromiseSaid, Bare, nothing, text, count, Cell, absent, own, word, number, port, vids, names, ports, trees, groups, active, object, failed_lan, failed_bridge, failed_risk, no_failure, lines, promises}
use Rattle.mst_rows.specs.Records.{natural, items_of, list_value, port_value, active_value, run_value, names_value, bare_value, fields, scope_value, holds_value, promise_value, cell_value, bridge_value, number_value}
use Rattle.mst_rows.specs.Small.{Fits64, HasSmall, IsSmall}
use Rattle.mst_rows.specs.Fits.{IsOf}

-- ---- parts of values
same_number : (m n : ℕ) → Fits64 m → Fits64 n → natural m ≡ natural n → m ≡ n
same_number m n h k e = let written : decimal m ≡ decimal n = cc in decimal_injective m n h k written

same_text : (s t : List ℕ) → string s ≡ string t → s ≡ t
same_text s t e = cc

-- lists of values, where two items of one JSON are one
same_list : {A : Type 0} (f : A → Json) (P : A → Type 0) → ((x y : A) → P x → P y → f x ≡ f y → x ≡ y) → (xs ys : List A) → AllByRecursion P xs → AllByRecursion P ys → items_of (map f xs) ≡ items_of (map f ys) → xs ≡ ys
same_list f P same [] [] h k e = refl
same_list f P same [] (y ∷ ys) h k e = absurd (cc)
same_list f P same (x ∷ xs) [] h k e = absurd (cc)
same_list f P same (x ∷ xs) (y ∷ ys) h k e =
    let one : f x ≡ f y = cc in
    let others : items_of (map f xs) ≡ items_of (map f ys) = cc in
    ap₂ ◌∷◌ (same x y h.0 k.0 one) (same_list f P same xs ys h.1 k.1 others)

pub same_array : {A : Type 0} (f : A → Json) (P : A → Type 0) → ((x y : A) → P x → P y → f x ≡ f y → x ≡ y) → (xs ys : List A) → AllByRecursion P xs → AllByRecursion P ys → list_value (map f xs) ≡ list_value (map f ys) → xs ≡ ys
same_array f P same xs ys h k e = let inside : items_of (map f xs) ≡ items_of (map f ys) = cc in same_list f P same xs ys h k inside

always : {A : Type 0} (xs : List A) → AllByRecursion (λ x. Unit {0}) xs
always [] = tt
always (x ∷ xs) = (tt, always xs)

same_names : (xs ys : List (List ℕ)) → names_value xs ≡ names_value ys → xs ≡ ys
same_names xs ys e = same_array string (λ n. Unit {0}) (λ x y h k. same_text x y) xs ys (always xs) (always ys) e

port_of : (p q : PortName) → p.bridge ≡ q.bridge → p.number ≡ q.number → p ≡ q
port_of p q b n i = record { bridge = b i; number = n i }

same_port : (p q : PortName) → Fits64 p.number → Fits64 q.number → port_value p ≡ port_value q → p ≡ q
same_port p q h k e =
    let bridge : p.bridge ≡ q.bridge = cc in
    let written : natural p.number ≡ natural q.number = cc in
    port_of p q bridge (same_number p.number q.number h k written)

same_active : (a b : ActivePort) → Fits64 a.port.number → Fits64 b.port.number → active_value a ≡ active_value b → a ≡ b
same_active a b h k e =
    let bridge : a.port.bridge ≡ b.port.bridge = cc in
    let written : natural a.port.number ≡ natural b.port.number = cc in
    let flag : a.is_member ≡ b.is_member = cc in
    λ i. record { port = port_of a.port b.port bridge (same_number a.port.number b.port.number h k written) i; is_member = flag i }

same_run : (a b : ℕ × ℕ) → Fits64 a.0 × Fits64 a.1 → Fits64 b.0 × Fits64 b.1 → run_value a ≡ run_value b → a ≡ b
same_run a b h k e =
    let first : natural a.0 ≡ natural b.0 = cc in
    let last : natural a.1 ≡ natural b.1 = cc in
    λ i. (same_number a.0 b.0 h.0 k.0 first i, same_number a.1 b.1 h.1 k.1 last i)

same_bare : (a b : Bare) (k l : Key) → HasSmall (k, a) → HasSmall (l, b) → bare_value a ≡ bare_value b → a ≡ b
same_bare nothing nothing k l h i e = refl
same_bare nothing (text w) k l h i e = absurd (cc)
same_bare nothing (count n) k l h i e = absurd (cc)
same_bare (text w) nothing k l h i e = absurd (cc)
same_bare (text w) (text v) k l h i e = ap text (same_text w v e)
same_bare (text w) (count n) k l h i e = absurd (cc)
same_bare (count n) nothing k l h i e = absurd (cc)
same_bare (count n) (text w) k l h i e = absurd (cc)
same_bare (count n) (count m) k l h i e = ap count (same_number n m h i e)

same_fields : (fs gs : List (Key × Bare)) → AllByRecursion HasSmall fs → AllByRecursion HasSmall gs → fields fs ≡ fields gs → fs ≡ gs
same_fields [] [] h k e = refl
same_fields [] (g ∷ gs) h k e = absurd (cc)
same_fields (f ∷ fs) [] h k e = absurd (cc)
same_fields ((a, x) ∷ fs) ((b, y) ∷ gs) h k e =
    let key : key_text a ≡ key_text b = cc in
    let value : bare_value x ≡ bare_value y = cc in
    let others : fields fs ≡ fields gs = cc in
    ap₂ ◌∷◌ (λ i. (keys_differ a b key i, same_bare x y a b h.0 k.0 value i)) (same_fields fs gs h.1 k.1 others)

-- a scope, by the length of its word, and whether a promise holds, if that is known
read_scope : Json → PromiseScope
read_scope (string s) = if length s == 6 then scope.Always else if length s == 9 then scope.AfterLan else if length s == 10 then scope.AfterRisk else scope.AfterBridge
read_scope j = scope.Now

scope_again : (s : PromiseScope) → read_scope (scope_value s) ≡ s
unfolding read_scope
scope_again scope.Now = refl
scope_again scope.Always = refl
scope_again scope.AfterLan = refl
scope_again scope.AfterRisk = refl
scope_again scope.AfterBridge = refl

read_holds : Json → Option Bool
read_holds (boolean b) = Some b
read_holds j = None

holds_again : (h : Option Bool) → read_holds (holds_value h) ≡ h
unfolding read_holds
holds_again None = refl
holds_again (Some flag) = refl

same_promise : (p q : PromiseSaid) → Fits64 p.line × Fits64 p.networks → Fits64 q.line × Fits64 q.networks → promise_value p ≡ promise_value q → p ≡ q
same_promise p q h k e =
    let line : natural p.line ≡ natural q.line = cc in
    let words : p.promise ≡ q.promise = cc in
    let scopes : scope_value p.scope ≡ scope_value q.scope = cc in
    let final : p.is_final ≡ q.is_final = cc in
    let networks : natural p.networks ≡ natural q.networks = cc in
    let holding : holds_value p.holds ≡ holds_value q.holds = cc in
    let one = sym (scope_again p.scope) ∙ ap read_scope scopes ∙ scope_again q.scope in
    let other = sym (holds_again p.holds) ∙ ap read_holds holding ∙ holds_again q.holds in
    λ i. record {
      line = same_number p.line q.line h.0 k.0 line i;
      promise = words i;
      scope = one i;
      is_final = final i;
      networks = same_number p.networks q.networks h.1 k.1 networks i;
      holds = other i;
    }

-- ---- values, by their types
-- what fails is a LAN, a bridge, or what a risk names
data Fails : Type 0 where
  a_lan : Fails
  a_bridge : Fails
  a_risk : Fails

-- what a value of a type holds, if it holds something
abbrev Held : Sort → Type 0
Held sort.words = List ℕ
Held sort.numbers = ℕ
Held sort.a_port = PortName
Held sort.giver = PortName
Held sort.vids = List (ℕ × ℕ)
Held sort.names = List (List ℕ)
Held sort.ports = List PortName
Held sort.trees = List ℕ
Held sort.groups = List (List (List ℕ))
Held sort.active_ports = List ActivePort
Held sort.objects = List (Key × Bare)
Held sort.failures = Fails × List ℕ
Held sort.own_port = PortName
Held sort.lines = ℕ × ℕ
Held sort.promises = List PromiseSaid
Held sort.flags = ⊥

abbrev failed : Fails × List ℕ → Cell
failed (a_lan, n) = failed_lan n
failed (a_bridge, n) = failed_bridge n
failed (a_risk, n) = failed_risk n

abbrev holding : (s : Sort) → Option (Held s) → Cell
holding sort.words (Some w) = word w
holding sort.numbers (Some n) = number n
holding sort.a_port (Some p) = port p
holding sort.giver (Some p) = port p
holding sort.giver None = own
holding sort.vids (Some runs) = vids runs
holding sort.names (Some ns) = names ns
holding sort.ports (Some ps) = ports ps
holding sort.trees (Some ts) = trees ts
holding sort.groups (Some gs) = groups gs
holding sort.active_ports (Some ps) = active ps
holding sort.objects (Some fs) = object fs
holding sort.failures (Some f) = failed f
holding sort.failures None = no_failure
holding sort.own_port (Some p) = port p
holding sort.lines (Some run) = lines run.0 run.1
holding sort.promises (Some ps) = promises ps
holding sort.flags (Some x) = absurd x
holding s None = absent

held : (s : Sort) (c : Cell) → IsOf s c → (x : Option (Held s)) × (c ≡ holding s x)
held sort.words (word w) is = (Some w, refl)
held sort.words absent is = (None, refl)
held sort.numbers (number n) is = (Some n, refl)
held sort.numbers absent is = (None, refl)
held sort.a_port (port p) is = (Some p, refl)
held sort.a_port absent is = (None, refl)
held sort.giver (port p) is = (Some p, refl)
held sort.giver own is = (None, refl)
held sort.vids (vids runs) is = (Some runs, refl)
held sort.names (names ns) is = (Some ns, refl)
held sort.ports (ports ps) is = (Some ps, refl)
held sort.trees (trees ts) is = (Some ts, refl)
held sort.groups (groups gs) is = (Some gs, refl)
held sort.active_ports (active ps) is = (Some ps, refl)
held sort.objects (object fs) is = (Some fs, refl)
held sort.objects absent is = (None, refl)
held sort.failures (failed_lan n) is = (Some (a_lan, n), refl)
held sort.failures (failed_bridge n) is = (Some (a_bridge, n), refl)
held sort.failures (failed_risk n) is = (Some (a_risk, n), refl)
held sort.failures no_failure is = (None, refl)
held sort.own_port (port p) is = (Some p, refl)
held sort.lines (lines first last) is = (Some (first, last), refl)
held sort.promises (promises ps) is = (Some ps, refl)
held s c is = absurd is

same_failed : (f g : Fails × List ℕ) → cell_value (failed f) ≡ cell_value (failed g) → failed f ≡ failed g
same_failed (a_lan, n) (a_lan, m) e = let name : n ≡ m = cc in ap failed_lan name
same_failed (a_lan, n) (a_bridge, m) e = let key : codes "lan" ≡ codes "bridge" = cc in absurd (cc)
same_failed (a_lan, n) (a_risk, m) e = let key : codes "lan" ≡ codes "risk" = cc in absurd (cc)
same_failed (a_bridge, n) (a_lan, m) e = let key : codes "bridge" ≡ codes "lan" = cc in absurd (cc)
same_failed (a_bridge, n) (a_bridge, m) e = let name : n ≡ m = cc in ap failed_bridge name
same_failed (a_bridge, n) (a_risk, m) e = let key : codes "bridge" ≡ codes "risk" = cc in absurd (cc)
same_failed (a_risk, n) (a_lan, m) e = let key : codes "risk" ≡ codes "lan" = cc in absurd (cc)
same_failed (a_risk, n) (a_bridge, m) e = let key : codes "risk" ≡ codes "bridge" = cc in absurd (cc)
same_failed (a_risk, n) (a_risk, m) e = let name : n ≡ m = cc in ap failed_risk name

not_failed : (f : Fails × List ℕ) → cell_value (failed f) ≡ null → ⊥
not_failed (a_lan, n) e = cc
not_failed (a_bridge, n) e = cc
not_failed (a_risk, n) e = cc

same_holding : (s : Sort) (x y : Option (Held s)) → IsSmall (holding s x) → IsSmall (holding s y) → cell_value (holding s x) ≡ cell_value (holding s y) → holding s x ≡ holding s y
same_holding sort.words (Some w) (Some v) h k e = ap word (same_text w v e)
same_holding sort.words (Some w) None h k e = absurd (cc)
same_holding sort.words None (Some v) h k e = absurd (cc)
same_holding sort.numbers (Some n) (Some m) h k e = ap number (same_number n m h k e)
same_holding sort.numbers (Some n) None h k e = absurd (cc)
same_holding sort.numbers None (Some m) h k e = absurd (cc)
same_holding sort.a_port (Some p) (Some q) h k e = ap port (same_port p q h k e)
same_holding sort.a_port (Some p) None h k e = absurd (cc)
same_holding sort.a_port None (Some q) h k e = absurd (cc)
same_holding sort.giver (Some p) (Some q) h k e = ap port (same_port p q h k e)
same_holding sort.giver (Some p) None h k e = absurd (cc)
same_holding sort.giver None (Some q) h k e = absurd (cc)
same_holding sort.vids (Some a) (Some b) h k e = ap vids (same_array run_value _ same_run a b h k e)
same_holding sort.vids (Some a) None h k e = absurd (cc)
same_holding sort.vids None (Some b) h k e = absurd (cc)
same_holding sort.names (Some a) (Some b) h k e = ap names (same_names a b e)
same_holding sort.names (Some a) None h k e = absurd (cc)
same_holding sort.names None (Some b) h k e = absurd (cc)
same_holding sort.ports (Some a) (Some b) h k e = ap ports (same_array port_value _ same_port a b h k e)
same_holding sort.ports (Some a) None h k e = absurd (cc)
same_holding sort.ports None (Some b) h k e = absurd (cc)
same_holding sort.trees (Some a) (Some b) h k e = ap trees (same_array natural Fits64 same_number a b h k e)
same_holding sort.trees (Some a) None h k e = absurd (cc)
same_holding sort.trees None (Some b) h k e = absurd (cc)
same_holding sort.groups (Some a) (Some b) h k e = ap groups (same_array names_value (λ g. Unit {0}) (λ x y i j. same_names x y) a b (always a) (always b) e)
same_holding sort.groups (Some a) None h k e = absurd (cc)
same_holding sort.groups None (Some b) h k e = absurd (cc)
same_holding sort.active_ports (Some a) (Some b) h k e = ap active (same_array active_value _ same_active a b h k e)
same_holding sort.active_ports (Some a) None h k e = absurd (cc)
same_holding sort.active_ports None (Some b) h k e = absurd (cc)
same_holding sort.objects (Some a) (Some b) h k e = let inside : fields a ≡ fields b = cc in ap object (same_fields a b h k inside)
same_holding sort.objects (Some a) None h k e = absurd (cc)
same_holding sort.objects None (Some b) h k e = absurd (cc)
same_holding sort.failures (Some f) (Some g) h k e = same_failed f g e
same_holding sort.failures (Some f) None h k e = absurd (not_failed f e)
same_holding sort.failures None (Some g) h k e = absurd (not_failed g (sym e))
same_holding sort.own_port (Some p) (Some q) h k e = ap port (same_port p q h k e)
same_holding sort.own_port (Some p) None h k e = absurd (cc)
same_holding sort.own_port None (Some q) h k e = absurd (cc)
same_holding sort.lines (Some a) (Some b) h k e = ap (λ (run : ℕ × ℕ). lines run.0 run.1) (same_run a b h k e)
same_holding sort.lines (Some a) None h k e = absurd (cc)
same_holding sort.lines None (Some b) h k e = absurd (cc)
same_holding sort.promises (Some a) (Some b) h k e = ap promises (same_array promise_value _ same_promise a b h k e)
same_holding sort.promises (Some a) None h k e = absurd (cc)
same_holding sort.promises None (Some b) h k e = absurd (cc)
same_holding sort.flags (Some x) y h k e = absurd x
same_holding sort.flags None (Some y) h k e = absurd y
same_holding s None None h k e = refl

-- two values of one type with one JSON
pub same_cell : (s : Sort) (c d : Cell) → IsOf s c → IsOf s d → IsSmall c → IsSmall d → cell_value c ≡ cell_value d → c ≡ d
same_cell s c d is are h k e =
    let one = held s c is in
    let other = held s d are in
    one.1
    ∙ same_holding s one.0 other.0 (subst IsSmall one.1 h) (subst IsSmall other.1 k) (ap cell_value (sym one.1) ∙ e ∙ ap cell_value other.1)
    ∙ sym other.1

-- a record's own port
own_port_of : (c : Cell) → IsOf sort.own_port c → (p : PortName) × (c ≡ port p)
own_port_of (port p) is = (p, refl)
own_port_of c is = absurd is

pub same_own : (c d : Cell) → IsOf sort.own_port c → IsOf sort.own_port d → IsSmall c → IsSmall d → bridge_value c ≡ bridge_value d → number_value c ≡ number_value d → c ≡ d
same_own c d is are h k b n =
    let one = own_port_of c is in
    let other = own_port_of d are in
    let p = one.0 in
    let q = other.0 in
    let bridge : string p.bridge ≡ string q.bridge = ap bridge_value (sym one.1) ∙ b ∙ ap bridge_value other.1 in
    let written : natural p.number ≡ natural q.number = ap number_value (sym one.1) ∙ n ∙ ap number_value other.1 in
    one.1
    ∙ ap port (port_of p q (same_text p.bridge q.bridge bridge) (same_number p.number q.number (subst IsSmall one.1 h) (subst IsSmall other.1 k) written))
    ∙ sym other.1

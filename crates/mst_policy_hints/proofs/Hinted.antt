-- There is a hint exactly where a line of a policy isn't read.
use Rattle.std.proofs.Common.{◌≡◌, ◌∙◌, ℕ, Bool, true, false, cond, not, ◌&&◌, ◌||◌, nat_lt, List, [], ◌∷◌, length, Option, Some, None, is_some, find, Ok, Err, refl, sym, ap, true≢false}
use Rattle.std.specs.Prelude.{Result, codes}
use Rattle.std.specs.Result.{is_ok, is_err}
use Rattle.std.specs.Option.{option_map, option_map_or, ok_or}
use Rattle.std.specs.List.{list_all}
use Rattle.mst_lang.specs.Arguments.{is_text, name, tree, vids}
use Rattle.mst_lang.specs.Reading.{is_comment}
use Rattle.mst_lang.specs.Words.{words, is_plain}
use Rattle.mst_lang.specs.declared.line.Fault.{Fault}
use Rattle.mst_lang.specs.declared.line.Fault.TheVariants.{E01, E02, E03}
use Rattle.mst_policy.specs.Arguments.{with, names, names_value, ports, roles, steps, none_of, one, two, three, four}
use Rattle.mst_policy.specs.Forms.{all_kinds, expected, is_right, kind_of, may_stand, range_of, root, root_alone, root_next, rule_of, takes}
use Rattle.mst_policy.specs.Reading.{after, after_what, behind_scope, finally, in_scope, in_the_end, is_leaving, of_the_end, promise, promised, reading, risk_items, risk_line, risk_of, said, scoped, worded}
use Rattle.mst_policy.specs.declared.expectation.Expectation.{Expectation}
use Rattle.mst_policy.specs.declared.expectation.Expectation.TheVariants as expectations
use Rattle.mst_policy.specs.declared.expectation.Promise.{Promise}
use Rattle.mst_policy.specs.declared.expectation.Scope.{Scope}
use Rattle.mst_policy.specs.declared.expectation.Scope.TheVariants.{Now, AfterLan, AfterBridge, AfterRisk, Always}
use Rattle.mst_policy.specs.declared.form.Argument.{Argument}
use Rattle.mst_policy.specs.declared.form.Argument.TheVariants.{Tree, FirstBridge, Bridge, Next, NextBridge, Lan, Vids, Names, Ports, Roles, Steps}
use Rattle.mst_policy.specs.declared.form.Kind.{Kind}
use Rattle.mst_policy.specs.declared.form.Kind.TheVariants as kinds
use Rattle.mst_policy.specs.declared.item.NameItem.{NameItem}
use Rattle.mst_policy.specs.declared.risk.RiskItems.{RiskItems}
use Rattle.mst_policy.specs.declared.risk.RiskItems.TheVariants.{Lans, Bridges}
use Rattle.mst_policy.specs.declared.risk.Said.TheVariants as says
use Rattle.mst_hints.specs.Hints.{too_long}
use Rattle.mst_policy_hints.specs.Hints.{after_hint, after_text, alone_text, arguments_of, behind_hint, behind_scope_hint, byte_text, expected_hint, failing_text, finally_hint, first_wrong, form_hint, form_of, has_form, hint_of, is_event, is_failing, is_finally, is_risk, promise_hint, risk_form_text, risk_hint, risk_name_text, risk_parts_hint, risk_wrong, risk_wrong_text, said_hint, scoped_hint, worded_hint, wrong_text}

-- ---- tests
and_no : (a : Bool) → (a && false) ≡ true → ⊥
and_no true h = true≢false (sym h)
and_no false h = true≢false (sym h)

and_left : (a b : Bool) → (a && b) ≡ true → a ≡ true
and_left true b h = refl
and_left false b h = h

and_right : (a b : Bool) → (a && b) ≡ true → b ≡ true
and_right true b h = h
and_right false b h = absurd (true≢false (sym h))

some_map : {A B : Type 0} (f : A → B) (o : Option A) → is_some (option_map f o) ≡ is_some o
some_map f None = refl
some_map f (Some a) = refl

-- what is found passes the test
first_passes : {A : Type 0} (test : A → Bool) (y x : A) (o : Option A) (b : Bool) → test y ≡ b → (o ≡ Some x → test x ≡ true) → cond b (Some y) o ≡ Some x → test x ≡ true
first_passes {A} test y x o true passes behind is = ap (λ (p : Option A). option_map_or test p true) (sym is) ∙ passes
first_passes test y x o false passes behind is = behind is

found_passes : {A : Type 0} (test : A → Bool) (xs : List A) (x : A) → find test xs ≡ Some x → test x ≡ true
found_passes test [] x is = absurd (true≢false (sym (ap is_some is)))
found_passes test (y ∷ ys) x is = first_passes test y x (find test ys) (test y) refl (found_passes test ys x) is

-- ---- the arguments of a form, where each is in its form or one isn't
one_wrong : {A B : Type 0} (make : A → B) (r : Result A Fault) (a : Argument) → is_some (cond (is_ok r) None (Some a)) ≡ is_err (with (Ok make) r)
one_wrong make (Ok x) a = refl
one_wrong make (Err fault) a = refl

two_wrong : {A B C : Type 0} (make : A → B → C) (r : Result A Fault) (s : Result B Fault) (a b : Argument) → is_some (cond (is_ok r) (cond (is_ok s) None (Some b)) (Some a)) ≡ is_err (with (with (Ok make) r) s)
two_wrong make (Ok x) (Ok y) a b = refl
two_wrong make (Ok x) (Err fault) a b = refl
two_wrong make (Err fault) (Ok y) a b = refl
two_wrong make (Err fault) (Err other) a b = refl

three_wrong : {A B C D : Type 0} (make : A → B → C → D) (r : Result A Fault) (s : Result B Fault) (t : Result C Fault) (a b c : Argument)
    → is_some (cond (is_ok r) (cond (is_ok s) (cond (is_ok t) None (Some c)) (Some b)) (Some a)) ≡ is_err (with (with (with (Ok make) r) s) t)
three_wrong make (Ok x) (Ok y) (Ok z) a b c = refl
three_wrong make (Ok x) (Ok y) (Err fault) a b c = refl
three_wrong make (Ok x) (Err fault) (Ok z) a b c = refl
three_wrong make (Ok x) (Err fault) (Err other) a b c = refl
three_wrong make (Err fault) (Ok y) (Ok z) a b c = refl
three_wrong make (Err fault) (Ok y) (Err other) a b c = refl
three_wrong make (Err fault) (Err other) (Ok z) a b c = refl
three_wrong make (Err fault) (Err other) (Err third) a b c = refl

four_wrong : {A B C D E : Type 0} (make : A → B → C → D → E) (r : Result A Fault) (s : Result B Fault) (t : Result C Fault) (q : Result D Fault) (a b c d : Argument)
    → is_some (cond (is_ok r) (cond (is_ok s) (cond (is_ok t) (cond (is_ok q) None (Some d)) (Some c)) (Some b)) (Some a)) ≡ is_err (with (with (with (with (Ok make) r) s) t) q)
four_wrong make (Ok x) (Ok y) (Ok z) (Ok u) a b c d = refl
four_wrong make (Ok x) (Ok y) (Ok z) (Err fault) a b c d = refl
four_wrong make (Ok x) (Ok y) (Err fault) (Ok u) a b c d = refl
four_wrong make (Ok x) (Ok y) (Err fault) (Err other) a b c d = refl
four_wrong make (Ok x) (Err fault) (Ok z) (Ok u) a b c d = refl
four_wrong make (Ok x) (Err fault) (Ok z) (Err other) a b c d = refl
four_wrong make (Ok x) (Err fault) (Err other) (Ok u) a b c d = refl
four_wrong make (Ok x) (Err fault) (Err other) (Err third) a b c d = refl
four_wrong make (Err fault) (Ok y) (Ok z) (Ok u) a b c d = refl
four_wrong make (Err fault) (Ok y) (Ok z) (Err other) a b c d = refl
four_wrong make (Err fault) (Ok y) (Err other) (Ok u) a b c d = refl
four_wrong make (Err fault) (Ok y) (Err other) (Err third) a b c d = refl
four_wrong make (Err fault) (Err other) (Ok z) (Ok u) a b c d = refl
four_wrong make (Err fault) (Err other) (Ok z) (Err third) a b c d = refl
four_wrong make (Err fault) (Err other) (Err third) (Ok u) a b c d = refl
four_wrong make (Err fault) (Err other) (Err third) (Err last) a b c d = refl

-- words of a form: one of them is wrong just where nothing is made of them
abbrev Alike : List Argument → (List (List ℕ) → Result Expectation Fault) → Type 0
Alike form says = (words : List (List ℕ)) → takes form words ≡ true → is_some (first_wrong form words) ≡ is_err (says words)

none_says : (made : Expectation) → Alike [] (none_of made)
none_says made [] fit = refl
none_says made (w ∷ ws) fit = absurd (true≢false (sym fit))

one_says : {A : Type 0} (a : Argument) (f : List ℕ → Result A Fault) (make : A → Expectation) → ((w : List ℕ) → is_right a w ≡ is_ok (f w)) → Alike (a ∷ []) (one f make)
one_says a f make ra [] fit = absurd (true≢false (sym fit))
one_says a f make ra (w ∷ []) fit = ap (λ x. is_some (cond x None (Some a))) (ra w) ∙ one_wrong make (f w) a
one_says a f make ra (w ∷ v ∷ ws) fit = absurd (and_no (may_stand a w) fit)

two_says : {A B : Type 0} (a b : Argument) (f : List ℕ → Result A Fault) (g : List ℕ → Result B Fault) (make : A → B → Expectation)
    → ((w : List ℕ) → is_right a w ≡ is_ok (f w)) → ((w : List ℕ) → is_right b w ≡ is_ok (g w)) → Alike (a ∷ b ∷ []) (two f g make)
two_says a b f g make ra rb [] fit = absurd (true≢false (sym fit))
two_says a b f g make ra rb (w ∷ []) fit = absurd (and_no (may_stand a w) fit)
two_says a b f g make ra rb (w ∷ v ∷ []) fit =
    ap (λ x. is_some (cond x (cond (is_right b v) None (Some b)) (Some a))) (ra w)
    ∙ ap (λ y. is_some (cond (is_ok (f w)) (cond y None (Some b)) (Some a))) (rb v)
    ∙ two_wrong make (f w) (g v) a b
two_says a b f g make ra rb (w ∷ v ∷ u ∷ ws) fit = absurd (and_no (may_stand b v) (and_right (may_stand a w) (may_stand b v && false) fit))

three_says : {A B C : Type 0} (a b c : Argument) (f : List ℕ → Result A Fault) (g : List ℕ → Result B Fault) (h : List ℕ → Result C Fault) (make : A → B → C → Expectation)
    → ((w : List ℕ) → is_right a w ≡ is_ok (f w)) → ((w : List ℕ) → is_right b w ≡ is_ok (g w)) → ((w : List ℕ) → is_right c w ≡ is_ok (h w)) → Alike (a ∷ b ∷ c ∷ []) (three f g h make)
three_says a b c f g h make ra rb rc [] fit = absurd (true≢false (sym fit))
three_says a b c f g h make ra rb rc (w ∷ []) fit = absurd (and_no (may_stand a w) fit)
three_says a b c f g h make ra rb rc (w ∷ v ∷ []) fit = absurd (and_no (may_stand b v) (and_right (may_stand a w) (may_stand b v && false) fit))
three_says a b c f g h make ra rb rc (w ∷ v ∷ u ∷ []) fit =
    ap (λ x. is_some (cond x (cond (is_right b v) (cond (is_right c u) None (Some c)) (Some b)) (Some a))) (ra w)
    ∙ ap (λ y. is_some (cond (is_ok (f w)) (cond y (cond (is_right c u) None (Some c)) (Some b)) (Some a))) (rb v)
    ∙ ap (λ z. is_some (cond (is_ok (f w)) (cond (is_ok (g v)) (cond z None (Some c)) (Some b)) (Some a))) (rc u)
    ∙ three_wrong make (f w) (g v) (h u) a b c
three_says a b c f g h make ra rb rc (w ∷ v ∷ u ∷ t ∷ ws) fit =
    absurd (and_no (may_stand c u) (and_right (may_stand b v) (may_stand c u && false) (and_right (may_stand a w) (may_stand b v && (may_stand c u && false)) fit)))

four_says : {A B C D : Type 0} (a b c d : Argument) (f : List ℕ → Result A Fault) (g : List ℕ → Result B Fault) (h : List ℕ → Result C Fault) (k : List ℕ → Result D Fault) (make : A → B → C → D → Expectation)
    → ((w : List ℕ) → is_right a w ≡ is_ok (f w)) → ((w : List ℕ) → is_right b w ≡ is_ok (g w)) → ((w : List ℕ) → is_right c w ≡ is_ok (h w)) → ((w : List ℕ) → is_right d w ≡ is_ok (k w)) → Alike (a ∷ b ∷ c ∷ d ∷ []) (four f g h k make)
four_says a b c d f g h k make ra rb rc rd [] fit = absurd (true≢false (sym fit))
four_says a b c d f g h k make ra rb rc rd (w ∷ []) fit = absurd (and_no (may_stand a w) fit)
four_says a b c d f g h k make ra rb rc rd (w ∷ v ∷ []) fit = absurd (and_no (may_stand b v) (and_right (may_stand a w) (may_stand b v && false) fit))
four_says a b c d f g h k make ra rb rc rd (w ∷ v ∷ u ∷ []) fit =
    absurd (and_no (may_stand c u) (and_right (may_stand b v) (may_stand c u && false) (and_right (may_stand a w) (may_stand b v && (may_stand c u && false)) fit)))
four_says a b c d f g h k make ra rb rc rd (w ∷ v ∷ u ∷ t ∷ []) fit =
    ap (λ x. is_some (cond x (cond (is_right b v) (cond (is_right c u) (cond (is_right d t) None (Some d)) (Some c)) (Some b)) (Some a))) (ra w)
    ∙ ap (λ y. is_some (cond (is_ok (f w)) (cond y (cond (is_right c u) (cond (is_right d t) None (Some d)) (Some c)) (Some b)) (Some a))) (rb v)
    ∙ ap (λ z. is_some (cond (is_ok (f w)) (cond (is_ok (g v)) (cond z (cond (is_right d t) None (Some d)) (Some c)) (Some b)) (Some a))) (rc u)
    ∙ ap (λ x. is_some (cond (is_ok (f w)) (cond (is_ok (g v)) (cond (is_ok (h u)) (cond x None (Some d)) (Some c)) (Some b)) (Some a))) (rd t)
    ∙ four_wrong make (f w) (g v) (h u) (k t) a b c d
four_says a b c d f g h k make ra rb rc rd (w ∷ v ∷ u ∷ t ∷ s ∷ ws) fit =
    absurd (and_no (may_stand d t) (and_right (may_stand c u) (may_stand d t && false) (and_right (may_stand b v) (may_stand c u && (may_stand d t && false)) (and_right (may_stand a w) (may_stand b v && (may_stand c u && (may_stand d t && false))) fit))))

-- with `next` among them, which stands there
root_says : Alike (Tree ∷ Bridge ∷ Next ∷ NextBridge ∷ []) root
root_says [] fit = absurd (true≢false (sym fit))
root_says (w ∷ []) fit = absurd (true≢false (sym fit))
root_says (w ∷ v ∷ []) fit = absurd (true≢false (sym fit))
root_says (w ∷ v ∷ u ∷ []) fit = absurd (and_no (is_right Next u) fit)
root_says (w ∷ v ∷ u ∷ t ∷ []) fit =
    ap (λ x. is_some (cond (is_ok (tree w)) (cond (is_ok (name v)) (cond x (cond (is_ok (name t)) None (Some NextBridge)) (Some Next)) (Some Bridge)) (Some Tree))) (and_left (is_right Next u) true fit)
    ∙ three_wrong root_next (tree w) (name v) (name t) Tree Bridge NextBridge
root_says (w ∷ v ∷ u ∷ t ∷ s ∷ ws) fit = absurd (and_no (is_right Next u) fit)

says_alike : (kind : Kind) → Alike (rule_of kind).arguments (rule_of kind).says
says_alike kinds.Root = two_says Tree Bridge tree name root_alone (λ w. refl) (λ w. refl)
says_alike kinds.RootNext = root_says
says_alike kinds.Region = one_says Names names expectations.Region (λ w. refl)
says_alike kinds.Role = three_says Tree Ports Roles tree ports roles expectations.Role (λ w. refl) (λ w. refl) (λ w. refl)
says_alike kinds.Reach = two_says Vids Names vids names expectations.Reach (λ w. refl) (λ w. refl)
says_alike kinds.Apart = three_says Vids Names Names vids names names expectations.Apart (λ w. refl) (λ w. refl) (λ w. refl)
says_alike kinds.Leaves = two_says Vids Names vids names expectations.Leaves (λ w. refl) (λ w. refl)
says_alike kinds.Together = two_says Vids Names vids names expectations.Together (λ w. refl) (λ w. refl)
says_alike kinds.Leaf = two_says Tree Names tree names expectations.Leaf (λ w. refl) (λ w. refl)
says_alike kinds.Depth = two_says Tree Steps tree steps expectations.Depth (λ w. refl) (λ w. refl)
says_alike kinds.Hops = three_says Vids Steps Names vids steps names expectations.Hops (λ w. refl) (λ w. refl) (λ w. refl)
says_alike kinds.Via = four_says Vids FirstBridge Bridge NextBridge vids name name name expectations.Via (λ w. refl) (λ w. refl) (λ w. refl) (λ w. refl)
says_alike kinds.Carries = two_says Lan Vids name vids expectations.Carries (λ w. refl) (λ w. refl)
says_alike kinds.Avoids = two_says Lan Vids name vids expectations.Avoids (λ w. refl) (λ w. refl)
says_alike kinds.Fits = none_says expectations.Fits

-- ---- an expectation
form_hinted : (word : List ℕ) (arguments : List (List ℕ)) (o : Option Kind) → ((kind : Kind) → o ≡ Some kind → takes (rule_of kind).arguments arguments ≡ true)
    → is_some (form_hint word arguments (option_map arguments_of o)) ≡ is_err (option_map_or (λ kind. (rule_of kind).says arguments) o (Err E01))
form_hinted word arguments None fit = refl
form_hinted word arguments (Some kind) fit =
    some_map (wrong_text word (rule_of kind).arguments) (first_wrong (rule_of kind).arguments arguments) ∙ says_alike kind arguments (fit kind refl)

expected_hinted : (words : List (List ℕ)) → is_some (expected_hint words) ≡ is_err (expected words)
unfolding form_of
expected_hinted [] = refl
expected_hinted (word ∷ arguments) =
    form_hinted word arguments (kind_of word arguments) (λ kind is.
    and_right (is_text (rule_of kind).word word) (takes (rule_of kind).arguments arguments)
    (found_passes (λ k. is_text (rule_of k).word word && takes (rule_of k).arguments arguments) all_kinds kind is))

-- words of no form have a hint
formless : (word : List ℕ) (arguments : List (List ℕ)) (o : Option (List Argument)) → is_some o ≡ false → is_some (form_hint word arguments o) ≡ true
formless word arguments None is = refl
formless word arguments (Some form) is = absurd (true≢false is)

-- ---- of one test
if_hinted : {A : Type 0} (b : Bool) (h k : Option (List ℕ)) (r s : Result A Fault) → is_some h ≡ is_err r → is_some k ≡ is_err s → is_some (cond b h k) ≡ is_err (cond b r s)
if_hinted true h k r s first second = first
if_hinted false h k r s first second = second

-- ---- what stands by itself
behind_scope_hinted : (words : List (List ℕ)) → is_some (behind_scope_hint words) ≡ is_err (behind_scope words)
behind_scope_hinted words = if_hinted (is_leaving words) (Some alone_text) (expected_hint words) (Err E01) (expected words) refl (expected_hinted words)

-- words have a hint that are of no form which a scope may stand in front of
formless_behind : (alone : Bool) (word : List ℕ) (arguments : List (List ℕ)) (o : Option (List Argument)) → (not alone && is_some o) ≡ false → is_some (cond alone (Some alone_text) (form_hint word arguments o)) ≡ true
formless_behind true word arguments o is = refl
formless_behind false word arguments o is = formless word arguments o is

formless_hinted : (words : List (List ℕ)) → has_form words ≡ false → is_some (behind_scope_hint words) ≡ true
formless_hinted [] is = refl
formless_hinted (word ∷ arguments) is = formless_behind (is_leaving (word ∷ arguments)) word arguments (form_of word arguments) is

-- ---- a scope
with_err : {A B : Type 0} (f : A → B) (r : Result A Fault) → is_err (with (Ok f) r) ≡ is_err r
with_err f (Ok a) = refl
with_err f (Err fault) = refl

no_scope : (r : Result Expectation Fault) → is_err (in_scope None r) ≡ true
no_scope (Ok e) = refl
no_scope (Err E01) = refl
no_scope (Err E02) = refl
no_scope (Err E03) = refl

behind_by : (make : List NameItem → Scope) (o : Option (List NameItem)) (r : Result Expectation Fault) (has : Bool) (h : Option (List ℕ)) (text : List ℕ)
    → is_some h ≡ is_err r → (has ≡ false → is_some h ≡ true) → is_some (cond (is_ok (ok_or o E02) || not has) h (Some text)) ≡ is_err (in_scope (option_map make o) r)
behind_by make (Some items) r has h text same there = same ∙ sym (with_err (promise (make items)) r)
behind_by make None r true h text same there = sym (no_scope r)
behind_by make None r false h text same there = there refl ∙ sym (no_scope r)

behind_hinted : (make : List NameItem → Scope) (failing list : List ℕ) (others : List (List ℕ)) → is_some (behind_hint failing list others) ≡ is_err (in_scope (option_map make (names_value list)) (behind_scope others))
behind_hinted make failing list others =
    behind_by make (names_value list) (behind_scope others) (has_form others) (behind_scope_hint others) (failing_text failing) (behind_scope_hinted others) (formless_hinted others)

-- by the word of what fails, of which something is made
kind_hinted : {A B : Type 0} (o : Option A) (h k : Option (List ℕ)) (f : A → Result B Fault) (r : Result B Fault) → ((a : A) → is_some h ≡ is_err (f a)) → is_some k ≡ is_err r → is_some (cond (is_some o) h k) ≡ is_err (option_map_or f o r)
kind_hinted (Some a) h k f r first other = first a
kind_hinted None h k f r first other = other

two_kinds : {A : Type 0} (a b : Bool) (x y : A) → (a || b) ≡ is_some (cond a (Some x) (cond b (Some y) None))
two_kinds true b x y = refl
two_kinds false true x y = refl
two_kinds false false x y = refl

three_kinds : {A : Type 0} (a b c : Bool) (x y z : A) → ((a || b) || c) ≡ is_some (cond a (Some x) (cond b (Some y) (cond c (Some z) None)))
three_kinds true b c x y z = refl
three_kinds false true c x y z = refl
three_kinds false false true x y z = refl
three_kinds false false false x y z = refl

events : (word : List ℕ) → is_event word ≡ is_some (after_what word)
events word = three_kinds (is_text word (codes "lan")) (is_text word (codes "bridge")) (is_text word (codes "risk")) AfterLan AfterBridge AfterRisk

after_hinted : (words : List (List ℕ)) → is_some (after_hint words) ≡ is_err (after words)
after_hinted [] = refl
after_hinted (failing ∷ []) = refl
after_hinted (failing ∷ list ∷ others) =
    ap (λ b. is_some (cond b (behind_hint failing list others) (Some after_text))) (events failing)
    ∙ kind_hinted (after_what failing) (behind_hint failing list others) (Some after_text) (λ make. in_scope (option_map make (names_value list)) (behind_scope others)) (Err E01)
    (λ make. behind_hinted make failing list others) refl

-- ---- a risk
failures : (word : List ℕ) → is_failing word ≡ is_some (risk_items word)
failures word = two_kinds (is_text word (codes "lan")) (is_text word (codes "bridge")) Lans Bridges

parts_wrong : {A B C : Type 0} (make : A → B → C) (r : Result A Fault) (s : Result B Fault) (first second : List ℕ)
    → is_some (cond (is_err r) (Some first) (cond (is_ok s) None (Some second))) ≡ is_err (with (with (Ok make) r) s)
parts_wrong make (Ok x) (Ok y) first second = refl
parts_wrong make (Ok x) (Err fault) first second = refl
parts_wrong make (Err fault) (Ok y) first second = refl
parts_wrong make (Err fault) (Err other) first second = refl

parts_hinted : (word kind list : List ℕ) (items : List NameItem → RiskItems) → is_some (risk_parts_hint word kind list) ≡ is_err (with (with (Ok (risk_line items)) (name word)) (names list))
unfolding risk_wrong
parts_hinted word kind list items = some_map (risk_wrong_text kind) (risk_wrong word list) ∙ parts_wrong (risk_line items) (name word) (names list) risk_name_text (range_of Names)

risk_hinted : (words : List (List ℕ)) → is_some (risk_hint words) ≡ is_err (risk_of words)
risk_hinted [] = refl
risk_hinted (word ∷ []) = refl
risk_hinted (word ∷ kind ∷ []) = refl
risk_hinted (word ∷ kind ∷ list ∷ []) =
    ap (λ b. is_some (cond b (risk_parts_hint word kind list) (Some (risk_form_text (word ∷ kind ∷ list ∷ []))))) (failures kind)
    ∙ kind_hinted (risk_items kind) (risk_parts_hint word kind list) (Some (risk_form_text (word ∷ kind ∷ list ∷ []))) (λ items. with (with (Ok (risk_line items)) (name word)) (names list)) (Err E01)
    (parts_hinted word kind list) refl
risk_hinted (word ∷ kind ∷ list ∷ other ∷ others) = refl

-- ---- a line
scoped_hinted : (word : List ℕ) (others : List (List ℕ)) → is_some (scoped_hint word others) ≡ is_err (scoped word others)
scoped_hinted word others =
    if_hinted (is_text word (codes "after")) (after_hint others) _ (after others) _ (after_hinted others)
    (if_hinted (is_text word (codes "always")) (behind_scope_hint others) (expected_hint (word ∷ others)) (in_scope (Some Always) (behind_scope others)) (in_scope (Some Now) (expected (word ∷ others)))
    (behind_scope_hinted others ∙ sym (with_err (promise Always) (behind_scope others)))
    (expected_hinted (word ∷ others) ∙ sym (with_err (promise Now) (expected (word ∷ others)))))

-- of the end alone, too
end_hinted : (word : List ℕ) (others : List (List ℕ)) → is_some (scoped_hint word others) ≡ is_err (of_the_end word others)
end_hinted word others = scoped_hinted word others ∙ sym (with_err in_the_end (scoped word others))

finally_hinted : (words : List (List ℕ)) → is_some (finally_hint words) ≡ is_err (finally words)
finally_hinted [] = refl
finally_hinted (word ∷ others) =
    if_hinted (is_leaving (word ∷ others)) (Some alone_text) (scoped_hint word others) (Err E01) (of_the_end word others) refl (end_hinted word others)

-- with one hint, of the end alone or not
one_hinted : (final : Bool) (h : Option (List ℕ)) (r s : Result Promise Fault) → is_some h ≡ is_err r → is_some h ≡ is_err s → is_some h ≡ is_err (cond final r s)
one_hinted true h r s first second = first
one_hinted false h r s first second = second

promise_hinted : (word : List ℕ) (others : List (List ℕ)) → is_some (promise_hint word others) ≡ is_err (promised word others)
promise_hinted word others =
    if_hinted (is_finally word) (finally_hint others) (scoped_hint word others) (finally others) _ (finally_hinted others)
    (one_hinted (is_leaving (word ∷ others)) (scoped_hint word others) (of_the_end word others) (scoped word others) (end_hinted word others) (scoped_hinted word others))

said_hinted : (word : List ℕ) (others : List (List ℕ)) → is_some (said_hint word others) ≡ is_err (said word others)
said_hinted word others =
    if_hinted (is_risk word) (risk_hint others) (promise_hint word others) (with (Ok says.Risk) (risk_of others)) (with (Ok says.Promise) (promised word others))
    (risk_hinted others ∙ sym (with_err says.Risk (risk_of others))) (promise_hinted word others ∙ sym (with_err says.Promise (promised word others)))

words_hinted : (plain : Bool) (bytes : List ℕ) (words : List (List ℕ)) → is_some (worded_hint plain bytes words) ≡ is_err (worded plain words)
words_hinted plain bytes [] = if_hinted plain None (Some bytes) (Ok None) (Err E01) refl refl
words_hinted plain bytes (word ∷ others) =
    if_hinted (is_comment word) None _ (Ok None) _ refl
    (if_hinted plain (said_hint word others) (Some bytes) (with (Ok Some) (said word others)) (Err E01)
    (said_hinted word others ∙ sym (with_err Some (said word others))) refl)

pub line_hinted : (line : List ℕ) → is_some (hint_of line) ≡ is_err (reading line)
line_hinted line =
    if_hinted (nat_lt 4096 (length line)) (Some too_long) (worded_hint (list_all is_plain line) (byte_text line) (words line)) (Err E01) (worded (list_all is_plain line) (words line))
    refl (words_hinted (list_all is_plain line) (byte_text line) (words line))

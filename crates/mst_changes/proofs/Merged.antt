-- Two lists of entries, taken subject by subject, give the rows of all subjects.
use Rattle.std.proofs.Common.{◌≡◌, ℕ, suc, zero, ◌+◌, ◌<◌, ◌≤◌, List, [], ◌∷◌, ◌++◌, length, Option, Some, None, ◌⊎◌, inl, inr, refl, sym, ap, subst, ◌∙◌, arith, append_assoc, Less, Bool, true, false}
use Rattle.std.specs.Prelude.{if◌then◌else◌}
use Rattle.std.specs.List.{AllByRecursion, flat_map, cons_option}
use Rattle.std.specs.Option.{option_map}
use Rattle.std.specs.Ordering.{is_eq, is_gt}
use Rattle.mst_roles.proofs.forest_lemmas.Lists.{some_is, no_some, all_kept}
use Rattle.mst_changes.specs.declared.subject.Subject.{Subject}
use Rattle.mst_changes.specs.declared.value.VectorOrRole.{VectorOrRole}
use Rattle.mst_changes.specs.declared.subject.Entry.{Entry}
use Rattle.mst_changes.specs.Subjects.{subject_of, subject_cmp}
use Rattle.mst_changes.specs.Kept.{entry_at, entries_at}
use Rattle.mst_changes.specs.Merging.{Rise, first_subject, value_first, entries_past}
use Rattle.mst_changes.specs.ChangesText.{change_rows}
use Rattle.mst_rows.specs.Rows.{Row}
use Rattle.mst_changes.proofs.Orders.{turned, itself}

abbrev Below : Subject → List Entry → Type 0
Below n = AllByRecursion (λ (r : Entry). subject_cmp n (subject_of r) ≡ Less)

-- entries of later subjects have nothing at this one
later_entries : (n : Subject) (rs : List Entry) → Below n rs → (value_first n rs ≡ None) × (entries_past n rs ≡ rs)
later_entries n [] h = (refl, refl)
later_entries n (r ∷ rs) h =
    let after = turned n (subject_of r) h.0 in
    (ap (λ o. if is_eq o then Some r.value else None) after, ap (λ o. if is_eq o then rs else r ∷ rs) after)

module _ (x : Subject → Option VectorOrRole) where
  entry_subject : (n : Subject) (r : Entry) → entry_at x n ≡ Some r → n ≡ (subject_of r)
  entry_subject n r e = go (x n) e
    where
      go : (s : Option VectorOrRole) → option_map (λ value. record { tree = n.tree; item = n.item; value = value }) s ≡ Some r → n ≡ (subject_of r)
      go None k = absurd (no_some r k)
      go (Some s) k = ap (λ (q : Entry). (subject_of q)) (some_is (record { tree = n.tree; item = n.item; value = s }) r k)

  below : (n : Subject) (ns : List Subject) → AllByRecursion (λ m. subject_cmp n m ≡ Less) ns → Below n (entries_at x ns)
  below n ns h = all_kept (λ m. subject_cmp n m ≡ Less) (λ (r : Entry). subject_cmp n (subject_of r) ≡ Less) (entry_at x) (λ m r l e. subst (λ q. subject_cmp n q ≡ Less) (entry_subject m r e) l) ns h

  -- the entries of a subject with this value, and of later ones
  abbrev listed : Subject → List Subject → Option VectorOrRole → List Entry
  listed n ns s = cons_option (option_map (λ value. record { tree = n.tree; item = n.item; value = value }) s) (entries_at x ns)

  -- at the first subject
  at_first : (n : Subject) (ns : List Subject) → AllByRecursion (λ m. subject_cmp n m ≡ Less) ns → (value_first n (entries_at x (n ∷ ns)) ≡ x n) × (entries_past n (entries_at x (n ∷ ns)) ≡ entries_at x ns)
  at_first n ns h = go (x n)
    where
      go : (s : Option VectorOrRole) → (value_first n (listed n ns s) ≡ s) × (entries_past n (listed n ns s) ≡ entries_at x ns)
      go None = later_entries n (entries_at x ns) (below n ns h)
      go (Some s) = (
        ap (λ o. if is_eq o then Some s else None) (itself n),
        ap (λ o. if is_eq o then entries_at x ns else record { tree = n.tree; item = n.item; value = s } ∷ entries_at x ns) (itself n),
      )

  passed_over : (n : Subject) (ns : List Subject) → x n ≡ None → entries_at x (n ∷ ns) ≡ entries_at x ns
  passed_over n ns e = ap (λ o. cons_option (option_map (λ value. record { tree = n.tree; item = n.item; value = value }) o) (entries_at x ns)) e

  has_row : (n : Subject) (ns : List Subject) (s : VectorOrRole) → x n ≡ Some s → entries_at x (n ∷ ns) ≡ record { tree = n.tree; item = n.item; value = s } ∷ entries_at x ns
  has_row n ns s e = ap (λ o. cons_option (option_map (λ value. record { tree = n.tree; item = n.item; value = value }) o) (entries_at x ns)) e

left_first : (r : Entry) (rs ss : List Entry) → Below (subject_of r) ss → first_subject (r ∷ rs) ss ≡ Some (subject_of r)
left_first r rs [] h = refl
left_first r rs (s ∷ ss) h = ap (λ o. Some (if is_gt o then (subject_of s) else (subject_of r))) h.0

right_first : (rs : List Entry) (s : Entry) (ss : List Entry) → Below (subject_of s) rs → first_subject rs (s ∷ ss) ≡ Some (subject_of s)
right_first [] s ss h = refl
right_first (r ∷ rs) s ss h = ap (λ o. Some (if is_gt o then (subject_of s) else (subject_of r))) (turned (subject_of s) (subject_of r) h.0)

both_first : (n : Subject) (s t : VectorOrRole) (rs ss : List Entry) → first_subject (record { tree = n.tree; item = n.item; value = s } ∷ rs) (record { tree = n.tree; item = n.item; value = t } ∷ ss) ≡ Some n
both_first n s t rs ss = ap (λ o. Some (if is_gt o then n else n)) (itself n)

module _ (x y : Subject → Option VectorOrRole) where
  -- the rows of subjects
  abbrev pub all_rows : List Subject → List Row
  all_rows = flat_map (λ subject. change_rows subject (x subject) (y subject))

  -- both have nothing at the first subject, or it is the first of their entries
  starts : (n : Subject) (ns : List Subject) → Rise (n ∷ ns) → ((x n ≡ None) × (y n ≡ None)) ⊎ (first_subject (entries_at x (n ∷ ns)) (entries_at y (n ∷ ns)) ≡ Some n)
  starts n ns h = go (x n) (y n) refl refl
    where
      go : (s t : Option VectorOrRole) → x n ≡ s → y n ≡ t → ((x n ≡ None) × (y n ≡ None)) ⊎ (first_subject (entries_at x (n ∷ ns)) (entries_at y (n ∷ ns)) ≡ Some n)
      go None None e f = inl (e, f)
      go (Some s) None e f =
          inr ((λ i. first_subject (has_row x n ns s e i) (passed_over y n ns f i)) ∙ left_first (record { tree = n.tree; item = n.item; value = s }) (entries_at x ns) (entries_at y ns) (below y n ns h.0))
      go None (Some t) e f =
          inr ((λ i. first_subject (passed_over x n ns e i) (has_row y n ns t f i)) ∙ right_first (entries_at x ns) (record { tree = n.tree; item = n.item; value = t }) (entries_at y ns) (below x n ns h.0))
      go (Some s) (Some t) e f = inr ((λ i. first_subject (has_row x n ns s e i) (has_row y n ns t f i)) ∙ both_first n s t (entries_at x ns) (entries_at y ns))

  -- what is left past a subject
  record Past (ns : List Subject) (n : Subject) : Type 0 where
    rest : List Subject
    rises : Rise rest
    olds : entries_past n (entries_at x ns) ≡ entries_at x rest
    news : entries_past n (entries_at y ns) ≡ entries_at y rest
    all : change_rows n (value_first n (entries_at x ns)) (value_first n (entries_at y ns)) ++ all_rows rest ≡ all_rows ns

  here : (n : Subject) (ns : List Subject) → Rise (n ∷ ns) → Past (n ∷ ns) n
  here n ns h =
      let a = at_first x n ns h.0 in
      let b = at_first y n ns h.0 in
      record { rest = ns; rises = h.1; olds = a.1; news = b.1; all = λ i. change_rows n (a.0 i) (b.0 i) ++ all_rows ns }

  nothing : (n : Subject) (ns : List Subject) → x n ≡ None → y n ≡ None → all_rows (n ∷ ns) ≡ all_rows ns
  nothing n ns e f = λ i. change_rows n (e i) (f i) ++ all_rows ns

  past : (ns : List Subject) → Rise ns → (n : Subject) → first_subject (entries_at x ns) (entries_at y ns) ≡ Some n → Past ns n
  past [] h n e = absurd (no_some n e)
  past (m ∷ ms) h n e = go (starts m ms h) (past ms h.1 n)
    where
      go : ((x m ≡ None) × (y m ≡ None)) ⊎ (first_subject (entries_at x (m ∷ ms)) (entries_at y (m ∷ ms)) ≡ Some m)
          → (first_subject (entries_at x ms) (entries_at y ms) ≡ Some n → Past ms n) → Past (m ∷ ms) n
      go (inr first) later = subst (Past (m ∷ ms)) (some_is m n (sym first ∙ e)) (here m ms h)
      go (inl none) later =
          let a = passed_over x m ms none.0 in
          let b = passed_over y m ms none.1 in
          let p = later ((λ i. first_subject (sym a i) (sym b i)) ∙ e) in
          record {
            rest = p.rest;
            rises = p.rises;
            olds = ap (entries_past n) a ∙ p.olds;
            news = ap (entries_past n) b ∙ p.news;
            all = (λ i. change_rows n (value_first n (a i)) (value_first n (b i)) ++ all_rows p.rest) ∙ p.all ∙ sym (nothing m ms none.0 none.1);
          }

  ended : (ns : List Subject) → Rise ns → first_subject (entries_at x ns) (entries_at y ns) ≡ None → all_rows ns ≡ []
  ended [] h e = refl
  ended (m ∷ ms) h e = go (starts m ms h) (ended ms h.1)
    where
      go : ((x m ≡ None) × (y m ≡ None)) ⊎ (first_subject (entries_at x (m ∷ ms)) (entries_at y (m ∷ ms)) ≡ Some m)
          → (first_subject (entries_at x ms) (entries_at y ms) ≡ None → all_rows ms ≡ []) → all_rows (m ∷ ms) ≡ []
      go (inr first) later = absurd (no_some m (sym e ∙ first))
      go (inl none) later = nothing m ms none.0 none.1 ∙ later ((λ i. first_subject (sym (passed_over x m ms none.0) i) (sym (passed_over y m ms none.1) i)) ∙ e)

  -- the entries of the subjects that are left, whose rows are still to be put
  pub record Left (subjects : List Subject) (before : List Row) (olds news : List Entry) (now : List Row) : Type 0 where
    pub left : List Subject
    pub rises : Rise left
    pub olds_are : olds ≡ entries_at x left
    pub news_are : news ≡ entries_at y left
    pub all : now ++ all_rows left ≡ before ++ all_rows subjects

  pub at_start : (subjects : List Subject) (before : List Row) (olds news : List Entry) → Rise subjects → olds ≡ entries_at x subjects → news ≡ entries_at y subjects → Left subjects before olds news before
  at_start subjects before olds news h e f = record { left = subjects; rises = h; olds_are = e; news_are = f; all = refl }

  pub one_more : (subjects : List Subject) (before : List Row) (olds news : List Entry) (now : List Row) (n : Subject) → Left subjects before olds news now → first_subject olds news ≡ Some n
      → Left subjects before (entries_past n olds) (entries_past n news) (now ++ change_rows n (value_first n olds) (value_first n news))
  one_more subjects before olds news now n l e =
      let p = past l.left l.rises n ((λ i. first_subject (sym l.olds_are i) (sym l.news_are i)) ∙ e) in
      record {
        left = p.rest;
        rises = p.rises;
        olds_are = ap (entries_past n) l.olds_are ∙ p.olds;
        news_are = ap (entries_past n) l.news_are ∙ p.news;
        all = append_assoc now (change_rows n (value_first n olds) (value_first n news)) (all_rows p.rest)
            ∙ (λ i. now ++ (change_rows n (value_first n (l.olds_are i)) (value_first n (l.news_are i)) ++ all_rows p.rest)) ∙ ap (λ t. now ++ t) p.all ∙ l.all;
      }

  pub at_end : (subjects : List Subject) (before : List Row) (olds news : List Entry) (now : List Row) → Left subjects before olds news now → first_subject olds news ≡ None → now ≡ before ++ all_rows subjects
  at_end subjects before olds news now l e =
      simp_nil now ∙ ap (λ t. now ++ t) (sym (ended l.left l.rises ((λ i. first_subject (sym l.olds_are i) (sym l.news_are i)) ∙ e))) ∙ l.all
    where
      simp_nil : (xs : List Row) → xs ≡ xs ++ []
      simp_nil [] = refl
      simp_nil (z ∷ xs) = ap (λ l. z ∷ l) (simp_nil xs)

-- past a subject there are no more entries than before, and past a first one fewer
fewer : (n : Subject) (rs : List Entry) → length (entries_past n rs) ≤ length rs
fewer n [] = omega arith
fewer n (r ∷ rs) = go (is_eq (subject_cmp (subject_of r) n))
  where
    go : (b : Bool) → length (if b then rs else r ∷ rs) ≤ length (r ∷ rs)
    go true = omega arith
    go false = omega arith

one_fewer : (r : Entry) (rs : List Entry) → length (entries_past (subject_of r) (r ∷ rs)) < length (r ∷ rs)
one_fewer r rs = subst (λ o. length (if is_eq o then rs else r ∷ rs) < length (r ∷ rs)) (sym (itself (subject_of r))) (omega arith)

pub shorter : (n : Subject) (olds news : List Entry) → first_subject olds news ≡ Some n → length (entries_past n olds) + length (entries_past n news) < length olds + length news
shorter n [] [] e = absurd (no_some n e)
shorter n (r ∷ rs) [] e = subst (λ m. length (entries_past m (r ∷ rs)) + 0 < length (r ∷ rs) + 0) (some_is (subject_of r) n e) (let h = one_fewer r rs in omega arith)
shorter n [] (s ∷ ss) e = subst (λ m. 0 + length (entries_past m (s ∷ ss)) < 0 + length (s ∷ ss)) (some_is (subject_of s) n e) (let h = one_fewer s ss in omega arith)
shorter n (r ∷ rs) (s ∷ ss) e = go (is_gt (subject_cmp (subject_of r) (subject_of s))) e
  where
    go : (b : Bool) → Some (if b then (subject_of s) else (subject_of r)) ≡ Some n → length (entries_past n (r ∷ rs)) + length (entries_past n (s ∷ ss)) < length (r ∷ rs) + length (s ∷ ss)
    go true f =
        subst (λ m. length (entries_past m (r ∷ rs)) + length (entries_past m (s ∷ ss)) < length (r ∷ rs) + length (s ∷ ss)) (some_is (subject_of s) n f)
        (let h = one_fewer s ss in let k = fewer (subject_of s) (r ∷ rs) in omega arith)
    go false f =
        subst (λ m. length (entries_past m (r ∷ rs)) + length (entries_past m (s ∷ ss)) < length (r ∷ rs) + length (s ∷ ss)) (some_is (subject_of r) n f)
        (let h = one_fewer r rs in let k = fewer (subject_of r) (s ∷ ss) in omega arith)

-- equal entries give equal rows
module _ (x y u v : Subject → Option VectorOrRole) where
  abbrev Same : ℕ → Type 0
  Same k = (ns ms : List Subject) → Rise ns → Rise ms → entries_at x ns ≡ entries_at u ms → entries_at y ns ≡ entries_at v ms → length (entries_at x ns) + length (entries_at y ns) < k → all_rows x y ns ≡ all_rows u v ms

  same_step : (k : ℕ) → Same k → Same (suc k)
  same_step k same ns ms h j e f few = go (first_subject (entries_at x ns) (entries_at y ns)) refl
    where
      there : first_subject (entries_at x ns) (entries_at y ns) ≡ first_subject (entries_at u ms) (entries_at v ms)
      there = λ i. first_subject (e i) (f i)

      go : (o : Option Subject) → first_subject (entries_at x ns) (entries_at y ns) ≡ o → all_rows x y ns ≡ all_rows u v ms
      go None first = ended x y ns h first ∙ sym (ended u v ms j (sym there ∙ first))
      go (Some n) first =
          let a = past x y ns h n first in
          let b = past u v ms j n (sym there ∙ first) in
          let olds : entries_at x a.rest ≡ entries_at u b.rest = sym a.olds ∙ ap (entries_past n) e ∙ b.olds in
          let news : entries_at y a.rest ≡ entries_at v b.rest = sym a.news ∙ ap (entries_past n) f ∙ b.news in
          let less = shorter n (entries_at x ns) (entries_at y ns) first in
          let left : length (entries_at x a.rest) + length (entries_at y a.rest) < length (entries_at x ns) + length (entries_at y ns) =
          subst (λ (p : List Entry × List Entry). length p.0 + length p.1 < length (entries_at x ns) + length (entries_at y ns)) (λ i. (a.olds i, a.news i)) less in
          let rest : all_rows x y a.rest ≡ all_rows u v b.rest = same a.rest b.rest a.rises b.rises olds news (omega (arith, left, few)) in
          sym a.all ∙ (λ i. change_rows n (value_first n (e i)) (value_first n (f i)) ++ rest i) ∙ b.all

  same_within : (k : ℕ) → Same k
  same_within zero ns ms h j e f few = absurd (omega (arith, few))
  same_within (suc k) ns ms h j e f few = same_step k (same_within k) ns ms h j e f few

  pub same_rows : (ns ms : List Subject) → Rise ns → Rise ms → entries_at x ns ≡ entries_at u ms → entries_at y ns ≡ entries_at v ms → all_rows x y ns ≡ all_rows u v ms
  same_rows ns ms h j e f = same_within (suc (length (entries_at x ns) + length (entries_at y ns))) ns ms h j e f (omega arith)

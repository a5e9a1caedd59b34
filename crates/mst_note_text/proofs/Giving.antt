-- The parents that the first ports give, and one more port.
use Rattle.std.proofs.Common.{◌≡◌, ◌≢◌, ℕ, ◌+◌, ◌<◌, List, [], ◌∷◌, ◌++◌, length, take, get_or, set, replicate, Option, Some, None, sym, ap, subst, ◌∙◌, arith, ⊎_elim}
use Rattle.std.specs.List.{AllByRecursion, Contains}
use Rattle.std.proofs.lemmas.Bool.{cases_eq, cases_lt}
use Rattle.std.proofs.lemmas.List.{take_more, length-replicate, length-set, get_or-replicate, get_or_past, get_or-set_same, get_or-set_other}
use Rattle.mst_roles.proofs.forest_lemmas.Lists.{some_is, no_some}
use Rattle.mst_roles.proofs.forest_lemmas.Entries.{all_weaker}
use Rattle.mst_view.proofs.Lists.{all_pushed}
use Rattle.mst_note_text.specs.Places.{IsParent}
use Rattle.mst_note_text.specs.declared.parent.Parent.{Parent}
use Rattle.mst_note_text.specs.Parents.{AreGiven}

module _ {A : Type 0} (given : A → Option (ℕ × Parent)) (ports : List A) (count : ℕ) where
  -- no bridge has a parent at first
  none_at : (place : ℕ) → get_or (replicate {A = Option Parent} count None) place None ≡ None
  none_at place = ⊎_elim (λ below. get_or-replicate {A = Option Parent} count place None None below)
      (λ past. get_or_past {X = Option Parent} (replicate count None) place None (omega (arith, length-replicate {A = Option Parent} count None))) (cases_lt place count)

  pub none_given : (parents : List (Option Parent)) → parents ≡ replicate count None → AreGiven given ports [] count parents
  none_given parents is = record {
    long = ap length is ∙ length-replicate count None;
    from_port = λ place p e. absurd (no_some p (sym (ap (λ ps. get_or ps place None) is ∙ none_at place) ∙ e));
    each_port = tt;
  }

  module _ (i : ℕ) (q : A) (below : i < length ports) (here : q ≡ get_or ports i q) (parents : List (Option Parent)) (are : AreGiven given ports (take i ports) count parents) where
    more : take (i + 1) ports ≡ take i ports ++ q ∷ []
    more = take_more ports i q below ∙ ap (λ x. take i ports ++ x ∷ []) (sym here)

    pub gives_none : given q ≡ None → AreGiven given ports (take (i + 1) ports) count parents
    gives_none none = record {
      long = are.long;
      from_port = are.from_port;
      each_port = subst (AllByRecursion (λ x. (place : ℕ) (p : Parent) → given x ≡ Some (place, p) → (other : Parent) × IsParent parents place other)) (sym more) (all_pushed (λ x. (place : ℕ) (p : Parent) → given x ≡ Some (place, p) → (other : Parent) × IsParent parents place other) (take i ports) q are.each_port
          (λ place p e. absurd (no_some (place, p) (sym none ∙ e))));
    }

    module _ (place : ℕ) (p : Parent) (gives : given q ≡ Some (place, p)) (low : place < count) where
      abbrev new : List (Option Parent)
      new = set parents place (Some p)

      here_is : get_or new place None ≡ Some p
      here_is = let long = are.long in get_or-set_same parents place (Some p) None (omega arith)

      from_new : (n : ℕ) (o : Parent) → IsParent new n o → (x : A) × Contains ports x × (given x ≡ Some (n, o))
      from_new n o e = ⊎_elim same other (cases_eq n place)
        where
          same : n ≡ place → (x : A) × Contains ports x × (given x ≡ Some (n, o))
          same is =
              let value : p ≡ o = some_is p o (sym here_is ∙ ap (λ k. get_or new k None) (sym is) ∙ e) in
              (q, (i, below, sym here), gives ∙ (λ j. Some (sym is j, value j)))

          other : n ≢ place → (x : A) × Contains ports x × (given x ≡ Some (n, o))
          other differ = are.from_port n o (sym (get_or-set_other parents place n (Some p) None differ) ∙ e)

      kept : (n : ℕ) → (o : Parent) × IsParent parents n o → (o : Parent) × IsParent new n o
      kept n h = ⊎_elim (λ is. (p, ap (λ k. get_or new k None) is ∙ here_is)) (λ differ. (h.0, get_or-set_other parents place n (Some p) None differ ∙ h.1)) (cases_eq n place)

      pub gives_one : AreGiven given ports (take (i + 1) ports) count (set parents place (Some p))
      gives_one = record {
        long = length-set parents place (Some p) ∙ are.long;
        from_port = from_new;
        each_port = subst (AllByRecursion (λ x. (n : ℕ) (o : Parent) → given x ≡ Some (n, o) → (other : Parent) × IsParent new n other)) (sym more)
            (all_pushed (λ x. (n : ℕ) (o : Parent) → given x ≡ Some (n, o) → (other : Parent) × IsParent new n other) (take i ports) q
            (all_weaker _ _ (λ x h n o e. kept n (h n o e)) (take i ports) are.each_port)
            (λ n o e. let is : place ≡ n = ap (λ (r : ℕ × Parent). r.0) (some_is (place, p) (n, o) (sym gives ∙ e)) in (p, ap (λ k. get_or new k None) (sym is) ∙ here_is)));
      }

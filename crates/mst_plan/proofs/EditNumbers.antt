-- The numbers of bridges before and after an edit, and the vectors that an outcome has under them.
use Rattle.std.proofs.Common.{◌≡◌, ◌⊎◌, inl, inr, ℕ, nat_le, Bool, true, false, cond, true≢false, List, [], ◌∷◌, Option, Some, None, is_some, refl, sym, ap, ◌∙◌}
use Rattle.std.specs.Prelude.{Result, Ok, Err}
use Rattle.std.specs.Option.{option_map_or}
use Rattle.std.specs.FinMap as fin
use Rattle.mst_lang.specs.declared.line.Edit.{Edit}
use Rattle.mst_lang.specs.declared.line.Edit.TheVariants.{AddBridge, DelBridge, SetBridge, AddPort, DelPort, SetPort, AddLan, DelLan, SetLan, Plug, Unplug, SetByTree}
use Rattle.mst_net.specs.tables.Tables.{Net, Numbers, IsNetwork}
use Rattle.mst_net.specs.tables.After.{has_bridge, mac_taken, first_of, refusal_of, effect}
use Rattle.mst_net.specs.tables.Contents.{Contents, IsNumbered, Commits}
use Rattle.mst_net.specs.tables.declared.refusal.Refusal.{Refusal}
use Rattle.mst_net.specs.tables.declared.refusal.Refusal.TheVariants.{E07, E08, E14}
use Rattle.mst_net.proofs.tables_lemmas.Keyed.{get_inserted, same_keys, after_remove}
use Rattle.mst_net.proofs.tables_lemmas.Keys.{names, name_eq}
use Rattle.mst_vector.specs.Rules.{Rules}
use Rattle.mst_trees.specs.forest.Sight.{Sight, tree_of}
use Rattle.mst_trees.specs.forest.Outcome.{TreeOutcome, IsTreeOutcome}
use Rattle.mst_trees.specs.forest.Agrees.{Agrees}
use Rattle.mst_trees.proofs.forest_lemmas.Lists.{some_is}
use Rattle.mst_trees.proofs.forest_lemmas.Sights.{IsSight, bridge_from}
use Rattle.mst_plan.proofs.ByName.{BridgeNumbers, GoTogether, AreOne}

-- no bridge was there that an edit adds
added_new : (bridge : List ℕ) (mac : ℕ) (net : Net) (new : Net) → option_map_or Err (refusal_of (AddBridge bridge mac) net) (Ok (effect (AddBridge bridge mac) net)) ≡ Ok new → has_bridge bridge net ≡ false
added_new bridge mac net new made = by (has_bridge bridge net) refl
  where
    is_ok : Result Net Refusal → Bool
    is_ok (Ok n) = true
    is_ok (Err r) = false

    by : (t : Bool) → has_bridge bridge net ≡ t → has_bridge bridge net ≡ false
    by false e = e
    by true e = absurd (true≢false (sym (ap is_ok made) ∙ ap (λ t. is_ok (option_map_or Err (cond t (Some E07) (first_of ((mac_taken mac net, E08) ∷ (nat_le 1024 (fin.len net.bridges), E14) ∷ []))) (Ok (effect (AddBridge bridge mac) net)))) e))

module _ (old new : Contents) (was : IsNumbered old.net old.numbers) (now : IsNumbered new.net new.numbers) where
  abbrev m : BridgeNumbers
  m = old.numbers.bridges

  abbrev k : BridgeNumbers
  k = new.numbers.bridges

  abbrev Grows : Type 0
  Grows = (a : List ℕ) (n : ℕ) → fin.get m a ≡ Some n → fin.get k a ≡ Some n

  abbrev Shrinks : Type 0
  Shrinks = (a : List ℕ) (n : ℕ) → fin.get k a ≡ Some n → fin.get m a ≡ Some n

  by_kind : Grows ⊎ Shrinks → GoTogether m k
  by_kind (inl grows) = record {
    was = was.bridges_differ;
    now = now.bridges_differ;
    same = λ a i j h l. some_is i j (sym (grows a i h) ∙ l);
    one = λ a b n h l. now.bridges_differ a b n (grows a n h) l;
  }
  by_kind (inr shrinks) = record {
    was = was.bridges_differ;
    now = now.bridges_differ;
    same = λ a i j h l. some_is i j (sym h ∙ shrinks a j l);
    one = λ a b n h l. was.bridges_differ a b n h (shrinks b n l);
  }

  stays : k ≡ m → Grows ⊎ Shrinks
  stays same = inl (λ a n h. ap (λ x. fin.get x a) same ∙ h)

  kind : (edit : Edit) → Commits edit old new → Grows ⊎ Shrinks
  kind (AddBridge bridge mac) made = inl (λ a n h. by a n h (name_eq bridge a) refl)
    where
      by : (a : List ℕ) (n : ℕ) → fin.get m a ≡ Some n → (t : Bool) → name_eq bridge a ≡ t → fin.get k a ≡ Some n
      by a n h true e =
          let is : bridge ≡ a = same_keys names bridge a e in
          absurd (true≢false (sym (ap is_some (ap (fin.get m) is ∙ h)) ∙ was.bridges bridge ∙ added_new bridge mac old.net new.net made.net))
      by a n h false e = ap (λ x. fin.get x.bridges a) made.numbers ∙ get_inserted names m bridge old.next.bridge a ∙ ap (λ t. cond t (Some old.next.bridge) (fin.get m a)) e ∙ h
  kind (DelBridge bridge) made = inr (λ a n h. after_remove names m bridge a n (ap (λ x. fin.get x.bridges a) (sym made.numbers) ∙ h))
  kind (SetBridge bridge change) made = stays (ap (λ x. x.bridges) made.numbers)
  kind (AddPort port) made = stays (ap (λ x. x.bridges) made.numbers)
  kind (DelPort port) made = stays (ap (λ x. x.bridges) made.numbers)
  kind (SetPort port change) made = stays (ap (λ x. x.bridges) made.numbers)
  kind (AddLan lan) made = stays (ap (λ x. x.bridges) made.numbers)
  kind (DelLan lan) made = stays (ap (λ x. x.bridges) made.numbers)
  kind (SetLan lan change) made = stays (ap (λ x. x.bridges) made.numbers)
  kind (Plug port lan) made = stays (ap (λ x. x.bridges) made.numbers)
  kind (Unplug port) made = stays (ap (λ x. x.bridges) made.numbers)
  kind (SetByTree change) made = stays (ap (λ x. x.bridges) made.numbers)

  -- after an edit a bridge that stays has its number, and no number goes from one name to another
  pub together : (edit : Edit) → Commits edit old new → GoTogether m k
  together edit made = by_kind (kind edit made)

-- a tree's vectors by names are those by numbers
pub are_one : {B P V : Type 0} (net : Net) (numbers : Numbers) (ok : IsNetwork net) (is : IsNumbered net numbers) (r : Rules B P V) (s : Sight B P) → IsSight net r s
    → (o : TreeOutcome V) → IsTreeOutcome r (tree_of net s) o → (vector : ℕ → Option V) (designated : ℕ → Option ℕ) → Agrees numbers o vector designated → AreOne numbers.bridges vector o.vector
are_one {B} {P} {V} net numbers ok is r s sight o outcome vector designated agrees = record {
  named = agrees.vectors;
  unnamed = agrees.no_vector;
  unnumbered = λ a none. by a none (o.vector a) refl;
}
  where
    by : (a : List ℕ) → fin.get numbers.bridges a ≡ None → (x : Option V) → o.vector a ≡ x → o.vector a ≡ None
    by a none None e = e
    by a none (Some x) e =
        let h = outcome.settled.is_bridge a x e in
        let b = bridge_from net ok r s sight a h.0 h.1 in
        absurd (true≢false (sym (ap is_some b.has_row) ∙ sym (is.bridges a) ∙ ap is_some none))

-- numbers that go together, by what is said of them
pub as_together : (m k : BridgeNumbers) → ((a b : List ℕ) (n : ℕ) → fin.get m a ≡ Some n → fin.get m b ≡ Some n → a ≡ b) → ((a b : List ℕ) (n : ℕ) → fin.get k a ≡ Some n → fin.get k b ≡ Some n → a ≡ b)
    → ((a : List ℕ) (i j : ℕ) → fin.get m a ≡ Some i → fin.get k a ≡ Some j → i ≡ j) → ((a b : List ℕ) (n : ℕ) → fin.get m a ≡ Some n → fin.get k b ≡ Some n → a ≡ b) → GoTogether m k
as_together m k was now same one = record { was = was; now = now; same = same; one = one }

-- with themselves
pub with_themselves : (k : BridgeNumbers) → ((a b : List ℕ) (n : ℕ) → fin.get k a ≡ Some n → fin.get k b ≡ Some n → a ≡ b) → GoTogether k k
with_themselves k differ = record { was = differ; now = differ; same = λ a i j h l. some_is i j (sym h ∙ l); one = differ }

-- where no bridge has a vector
pub none_one : {V : Type 0} (k : BridgeNumbers) → AreOne {V = V} k (λ n. None) (λ a. None)
none_one k = record { named = λ a n h. refl; unnamed = λ n h. refl; unnumbered = λ a h. refl }

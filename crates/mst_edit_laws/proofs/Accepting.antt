-- Edits one after another, none of which is refused.
use Rattle.std.proofs.Common.{◌≡◌, ℕ, ◌<◌, Bool, true, false, ◌||◌, List, [], ◌∷◌, ◌++◌, refl, sym, ap, subst, ◌∙◌, arith, true≢false}
use Rattle.std.specs.List.{flat_map, AllByRecursion}
use Rattle.std.specs.FinMap as fin
use Rattle.std.specs.FinMap.{FinMap, entries, len-entries}
use Rattle.std.specs.declared.cmp.Ordering.{Ordering}
use Rattle.std.proofs.lemmas.List.{length-map}
use Rattle.mst_ids.specs.declared.name.PortName.{PortName}
use Rattle.mst_lang.specs.declared.line.Edit.{Edit}
use Rattle.mst_net.specs.tables.Tables.{Net}
use Rattle.mst_net.specs.tables.After.{effect}
use Rattle.mst_net.proofs.tables_lemmas.Keyed.{IsKeyed, same_keys}
use Rattle.mst_edits.specs.Making.{made, Accepted}
use Rattle.mst_edits.proofs.Lists.{Distinct, holds, holds_first, holds_later, pigeons, keys_distinct, keys_hold}
use Rattle.mst_edit_laws.proofs.Steps.{Stays, stays}
use Rattle.mst_edit_laws.proofs.Seen.{at_bridge, bridge_step, bridge_made, at_port, port_step, port_made, lan_step, lan_made}

pub accepted_append : (xs ys : List Edit) (net : Net) → Accepted xs net → Accepted ys (made xs net) → Accepted (xs ++ ys) net
accepted_append [] ys net h i = i
accepted_append (x ∷ xs) ys net h i = (h.0, accepted_append xs ys (effect x net) h.1 i)

pub made_append : (xs ys : List Edit) (net : Net) → made (xs ++ ys) net ≡ made ys (made xs net)
made_append [] ys net = refl
made_append (x ∷ xs) ys net = made_append xs ys (effect x net)

-- none is refused, and they leave what holds
pub record Fine (I : Net → Type 0) (es : List Edit) (net : Net) : Type 0 where
  pub accepted : Accepted es net
  pub kept : I (made es net)

pub fine_none : (I : Net → Type 0) (net : Net) → I net → Fine I [] net
fine_none I net i = record { accepted = tt; kept = i }

pub fine_append : (I J : Net → Type 0) (xs ys : List Edit) (net : Net) → Fine I xs net → (I (made xs net) → Fine J ys (made xs net)) → Fine J (xs ++ ys) net
fine_append I J xs ys net x y = let later = y x.kept in record { accepted = accepted_append xs ys net x.accepted later.accepted; kept = subst J (sym (made_append xs ys net)) later.kept }

-- what is seen where edits leave it
pub keeps_bridge : (q : List ℕ) (es : List Edit) (net : Net) → AllByRecursion (Stays (bridge_step q 0)) es → at_bridge q 0 (made es net) ≡ at_bridge q 0 net
keeps_bridge q es net h = bridge_made q 0 es net ∙ stays (bridge_step q 0) es (at_bridge q 0 net) h

pub keeps_port : (q : PortName) (es : List Edit) (net : Net) → AllByRecursion (Stays (port_step q 0)) es → at_port q 0 (made es net) ≡ at_port q 0 net
keeps_port q es net h = port_made q 0 es net ∙ stays (port_step q 0) es (at_port q 0 net) h

pub keeps_lan : (q : List ℕ) (es : List Edit) (net : Net) → AllByRecursion (Stays (lan_step q)) es → fin.get (made es net).lans q ≡ fin.get net.lans q
keeps_lan q es net h = lan_made q es net ∙ stays (lan_step q) es (fin.get net.lans q) h

-- the edits of one name after another: what those of one need the others leave
module _ {K : Type 0} {E : K → K → Bool} {R : K → K → Ordering} (keyed : IsKeyed E R) where
  apart : (k q : K) (ks : List K) → holds E k ks ≡ false → holds E q ks ≡ true → E k q ≡ false
  apart k q ks none some = by (E k q) refl
    where
      by : (t : Bool) → E k q ≡ t → t ≡ false
      by true e = absurd (true≢false (sym (ap (λ x. holds E x ks) (same_keys keyed k q e) ∙ some) ∙ none))
      by false e = refl

  module _ (I : Net → Type 0) (F : K → Net → Type 0) (f : K → List Edit) (each : (k : K) (net : Net) → I net → F k net → Fine I (f k) net) (keeps : (k q : K) (net : Net) → E k q ≡ false → F q net → F q (made (f k) net)) where
    pub in_turn : (ks : List K) → Distinct E ks → (net : Net) → I net → ((q : K) → holds E q ks ≡ true → F q net) → Fine I (flat_map f ks) net
    in_turn [] d net i h = fine_none I net i
    in_turn (k ∷ ks) d net i h =
        fine_append I I (f k) (flat_map f ks) net (each k net i (h k (holds_first keyed k ks)))
        (λ kept. in_turn ks d.1 (made (f k) net) kept (λ q j. keeps k q net (apart k q ks d.0 j) (h q (holds_later keyed q k ks j))))

-- a table whose keys are another's, but for one, has fewer
module _ {K X Y : Type 0} {E : K → K → Bool} {R : K → K → Ordering} (keyed : IsKeyed E R) where
  pub fewer : (m : FinMap R X) (n : FinMap R Y) (k : K) → fin.contains_key m k ≡ false → fin.contains_key n k ≡ true → ((q : K) → fin.contains_key m q ≡ true → fin.contains_key n q ≡ true) → fin.len m < fin.len n
  fewer m n k absent there within =
      let least = pigeons keyed (k ∷ fin.keys m) (fin.keys n) (keys_hold keyed m k ∙ absent, keys_distinct keyed m) (λ q h. keys_hold keyed n q ∙ by q (E k q) refl h) in
      omega (arith, least, length-map (entries m) (λ (e : K × X). e.0), len-entries m, length-map (entries n) (λ (e : K × Y). e.0), len-entries n)
    where
      by : (q : K) (t : Bool) → E k q ≡ t → (t || holds E q (fin.keys m)) ≡ true → fin.contains_key n q ≡ true
      by q true e h = ap (fin.contains_key n) (sym (same_keys keyed k q e)) ∙ there
      by q false e h = within q (sym (keys_hold keyed m q) ∙ h)

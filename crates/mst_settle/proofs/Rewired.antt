-- Where the topologies of one tree on two wirings differ.
use Rattle.std.proofs.Common.{◌≡◌, ℕ, ◌<◌, ◌≤◌, ◌&&◌, List, map, Option, Some, None, Bool, true, false, true≢false, is_some, unwrap_or, nat_eq, max, refl, sym, ◌∙◌, ap, subst, inl, inr, ◌⊎◌, arith}
use Rattle.std.specs.Prelude.{◌↔◌}
use Rattle.std.specs.List.{Contains}
use Rattle.std.specs.Map.{lookup}
use Rattle.std.proofs.lemmas.Cmp.{nat_eq_equiv}
use Rattle.std.proofs.lemmas.List.{length-map, get_or-map}
use Rattle.std.proofs.lemmas.Map.Views.{Contains-from_lookup, IsSome-lookup_from_Contains, exact_unsigned_eq}
use Rattle.mst_topology.specs.Topology.{TreePort, Topology, HasBridge, HasPort}
use Rattle.mst_topology.specs.Wiring.{settings_in, port_in, topology_of}
use Rattle.mst_topology.specs.Places.{in_map, HasRoomAt}
use Rattle.mst_outcome.specs.Assignment.{Assignment}
use Rattle.mst_settle.specs.Settler.{KeepsOutcome}
use Rattle.mst_topology.proofs.Mapped.{at_from}
use Rattle.mst_settle.proofs.Roomy.{keeps_trans}
use Rattle.mst_settle.specs.Differences.{CoversDifferences, IsTouched, PortIsDone, BridgeIsDone, TouchesMissing}
use Rattle.mst_settle.proofs.Kept.{port_kept, done_kept}

in_mapped : {A B : Type 0} (f : A → B) (xs : List A) (x : A) → Contains xs x → Contains (map f xs) (f x)
in_mapped f xs x h = (h.0, rw length-map h.1, get_or-map f xs h.0 x (f x) h.1 ∙ ap f h.2)

pub from_mapped : {A B : Type 0} (f : A → B) (xs : List A) (y : B) → Contains (map f xs) y → (x : A) × Contains xs x × (f x ≡ y)
from_mapped f xs y h = let e = at_from f xs h.0 y (h.1, h.2) in (e.0, (h.0, e.1.0, e.1.1), sym e.2)

-- what holds of each number below the bounds of two tables, unless a port has the same settings of its own in both, holds of all
-- numbers: past the bounds a port has none
pub below_both : {P : Type 0} {Q : ℕ → Type 0} (own_t own_u : List (ℕ × P)) (bound_t bound_u i : ℕ) → ((n : ℕ) → HasRoomAt own_t n → n < bound_t) → ((n : ℕ) → HasRoomAt own_u n → n < bound_u)
    → max bound_t bound_u ≤ i → ((n : ℕ) → n < i → (in_map own_t n ≡ in_map own_u n) ⊎ Q n) → (n : ℕ) → (in_map own_t n ≡ in_map own_u n) ⊎ Q n
below_both {P} {Q} own_t own_u bound_t bound_u i below_t below_u end before n = go (in_map own_t n) refl (in_map own_u n) refl
  where
    go : (o : Option P) → in_map own_t n ≡ o → (u : Option P) → in_map own_u n ≡ u → (in_map own_t n ≡ in_map own_u n) ⊎ Q n
    go (Some x) e u f = let low = below_t n (rw e refl) in before n (omega arith)
    go None e (Some x) f = let low = below_u n (rw f refl) in before n (omega arith)
    go None e None f = inl (e ∙ sym f)

-- whether there is a bridge of a number
abbrev has : {B : Type 0} → List (ℕ × B) → ℕ → Bool
has bridges n = is_some (lookup (nat_eq n) bridges)

module _ {B : Type 0} (bridges : List (ℕ × B)) (n : ℕ) where
  bridge_or_none : ((b : B) × Contains bridges (n, b)) ⊎ (has bridges n ≡ false)
  bridge_or_none = go (lookup (nat_eq n) bridges) refl
    where
      go : (o : Option B) → lookup (nat_eq n) bridges ≡ o → ((b : B) × Contains bridges (n, b)) ⊎ (has bridges n ≡ false)
      go None e = inr (ap is_some e)
      go (Some b) e = inl (b, Contains-from_lookup exact_unsigned_eq n b bridges e)

  is_there : (b : B) → Contains bridges (n, b) → has bridges n ≡ true
  is_there b c = IsSome-lookup_from_Contains nat_eq_equiv n bridges (in_mapped (λ (e : ℕ × B). e.0) bridges (n, b) c)

-- a port is in that topology, or is touched
abbrev IsThereOrTouched : {B P V : Type 0} → Topology ℕ ℕ ℕ B P → Assignment V → TreePort ℕ ℕ ℕ P → Type 0
IsThereOrTouched u a p = HasPort u p ⊎ IsTouched a p

-- where it is the same in both topologies or is touched, a port of the one is in the other or is touched
module _ {B P V : Type 0} (t u : Topology ℕ ℕ ℕ B P) (a : Assignment V) (p : TreePort ℕ ℕ ℕ P) (done : PortIsDone t u a p) where
  done_there : HasPort t p → IsThereOrTouched u a p
  done_there h = elim done [ inl same ↦ inl (same.0 h) | inr i ↦ inr i ]

  done_back : HasPort u p → IsThereOrTouched t a p
  done_back h = elim done [ inl same ↦ inl (same.1 h) | inr i ↦ inr i ]

module _ {B P : Type 0} (wires_t wires_u : List (TreePort ℕ ℕ ℕ P)) (t u : Topology ℕ ℕ ℕ B P) (own_t own_u : List (ℕ × P))
    (is_t : t ≡ topology_of wires_t t.bridges own_t) (is_u : u ≡ topology_of wires_u u.bridges own_u) where
  -- a port of the one topology is a wire; it is a port of the other where it is a wire there too, has the same settings of
  -- its own or none, and its bridge is in both or in neither
  pub wired : (p : TreePort ℕ ℕ ℕ P) → HasPort t p → (w : TreePort ℕ ℕ ℕ P) × Contains wires_t w × (port_in t.bridges own_t w ≡ p)
  wired p h = from_mapped (port_in t.bridges own_t) wires_t p (subst (λ z. Contains z p) (ap (λ (z : Topology ℕ ℕ ℕ B P). z.ports) is_t) h)

  pub in_other : (w : TreePort ℕ ℕ ℕ P) → Contains wires_u w → HasPort u (port_in u.bridges own_u w)
  in_other w c = subst (λ z. Contains z (port_in u.bridges own_u w)) (sym (ap (λ (z : Topology ℕ ℕ ℕ B P). z.ports) is_u)) (in_mapped (port_in u.bridges own_u) wires_u w c)

  same_port : (w : TreePort ℕ ℕ ℕ P) → in_map own_t w.number ≡ in_map own_u w.number → has t.bridges w.bridge ≡ has u.bridges w.bridge → port_in t.bridges own_t w ≡ port_in u.bridges own_u w
  same_port w own part i = record {
    number = w.number;
    bridge = w.bridge;
    lan = w.lan;
    settings = same i;
    is_part = w.is_part && part i;
    is_restricted = w.is_restricted;
  }
    where
      same : settings_in own_t w ≡ settings_in own_u w
      same = ap (λ o. unwrap_or o w.settings) own

  -- a port of the one is one of the other, or something of it differs
  pub port_or_not : {Q : Type 0} (numbers : List ℕ) → ((w : TreePort ℕ ℕ ℕ P) → Contains wires_t w → Contains wires_u w ⊎ Contains numbers w.number)
      → (p : TreePort ℕ ℕ ℕ P) → HasPort t p → (Contains numbers p.number → Q) → ((in_map own_t p.number ≡ in_map own_u p.number) ⊎ Q) → ((has t.bridges p.bridge ≡ has u.bridges p.bridge) ⊎ Q) → HasPort u p ⊎ Q
  port_or_not {Q} numbers gone p h differs own part =
      let w = wired p h in
      subst (λ z. (Contains numbers z.number → Q) → ((in_map own_t z.number ≡ in_map own_u z.number) ⊎ Q) → ((has t.bridges z.bridge ≡ has u.bridges z.bridge) ⊎ Q) → HasPort u z ⊎ Q) w.2 (go w.0 (gone w.0 w.1))
      differs own part
    where
      there : (w : TreePort ℕ ℕ ℕ P) → Contains wires_u w → ((in_map own_t w.number ≡ in_map own_u w.number) ⊎ Q) → ((has t.bridges w.bridge ≡ has u.bridges w.bridge) ⊎ Q) → HasPort u (port_in t.bridges own_t w) ⊎ Q
      there w c (inl own) (inl same) = inl (subst (λ z. HasPort u z) (sym (same_port w own same)) (in_other w c))
      there w c (inr q) d = inr q
      there w c (inl a) (inr q) = inr q

      go : (w : TreePort ℕ ℕ ℕ P) → Contains wires_u w ⊎ Contains numbers w.number → (Contains numbers w.number → Q) → ((in_map own_t w.number ≡ in_map own_u w.number) ⊎ Q) → ((has t.bridges w.bridge ≡ has u.bridges w.bridge) ⊎ Q) → HasPort u (port_in t.bridges own_t w) ⊎ Q
      go w (inl c) differs a d = there w c a d
      go w (inr m) differs a d = inr (differs m)

  -- all that t has and u hasn't is touched
  pub touches_missing : {V : Type 0} (a : Assignment V) (numbers : List ℕ) → ((w : TreePort ℕ ℕ ℕ P) → Contains wires_t w → Contains wires_u w ⊎ Contains numbers w.number)
      → ((p : TreePort ℕ ℕ ℕ P) → HasPort t p → Contains numbers p.number → IsThereOrTouched u a p)
      → ((p : TreePort ℕ ℕ ℕ P) → HasPort t p → (in_map own_t p.number ≡ in_map own_u p.number) ⊎ IsThereOrTouched u a p)
      → ((n : ℕ) (b : B) → HasBridge t n b → BridgeIsDone t u a n b)
      → ((n : ℕ) (b : B) → HasBridge u n b → BridgeIsDone u t a n b)
      → TouchesMissing t u a
  touches_missing a numbers gone differing own there back = record {
    bridges = λ n b h. elim (there n b h) [ inl g ↦ inl g | inr d ↦ inr d.0 ];
    ports = λ p h. record {
      port = elim (port_or_not numbers gone p h (differing p h) (own p h) (part p h)) [ inl g ↦ inl g | inr q ↦ q ];
      bridge = λ b i. elim (there p.bridge b i) [ inl g ↦ inl g | inr d ↦ inr (d.1 p h refl) ];
    };
  }
    where
      part : (p : TreePort ℕ ℕ ℕ P) → HasPort t p → (has t.bridges p.bridge ≡ has u.bridges p.bridge) ⊎ IsThereOrTouched u a p
      part p h = elim (bridge_or_none t.bridges p.bridge) [
        | inl b ↦ elim (there p.bridge b.0 b.1) [
          | inl g ↦ inl (is_there t.bridges p.bridge b.0 b.1 ∙ sym (is_there u.bridges p.bridge b.0 g))
          | inr d ↦ inr (inr (d.0, d.1 p h refl))
        ]
        | inr none ↦ elim (bridge_or_none u.bridges p.bridge) [
          | inl c ↦ elim (back p.bridge c.0 c.1) [
            | inl g ↦ absurd (true≢false (sym (is_there t.bridges p.bridge c.0 g) ∙ none))
            | inr d ↦ inr (inr (d.0, d.2 p h refl))
          ]
          | inr none_there ↦ inl (none ∙ sym none_there)
        ]
      ]

  -- the ports of t are in u, where the bridges are the same and so are the ports at which the wirings or settings may differ
  pub ports_there : (numbers : List ℕ) → ((w : TreePort ℕ ℕ ℕ P) → Contains wires_t w → Contains wires_u w ⊎ Contains numbers w.number) → t.bridges ≡ u.bridges
      → ((p : TreePort ℕ ℕ ℕ P) → HasPort t p → Contains numbers p.number → HasPort u p)
      → ((p : TreePort ℕ ℕ ℕ P) → HasPort t p → (in_map own_t p.number ≡ in_map own_u p.number) ⊎ HasPort u p)
      → (p : TreePort ℕ ℕ ℕ P) → HasPort t p → HasPort u p
  ports_there numbers gone bridges differing own p h =
      elim (port_or_not numbers gone p h (differing p h) (own p h) (inl (ap (λ z. has z p.bridge) bridges))) [ inl g ↦ g | inr g ↦ g ]

-- two topologies have the same port of a number, or none
abbrev pub AreSameAt : {B P : Type 0} → (t u : Topology ℕ ℕ ℕ B P) → ℕ → Type 0
AreSameAt {B} {P} t u n = (p : TreePort ℕ ℕ ℕ P) → p.number ≡ n → HasPort t p ↔ HasPort u p

module _ {B P : Type 0} (wires_t wires_u : List (TreePort ℕ ℕ ℕ P)) (t u : Topology ℕ ℕ ℕ B P) (own_t own_u : List (ℕ × P))
    (is_t : t ≡ topology_of wires_t t.bridges own_t) (is_u : u ≡ topology_of wires_u u.bridges own_u) (numbers : List ℕ) (covers : CoversDifferences wires_t wires_u numbers) where
  -- the ports are the same, where the bridges are, and so are those ports at which the wirings or settings may differ
  pub same_ports : t.bridges ≡ u.bridges
      → ((p : TreePort ℕ ℕ ℕ P) → Contains numbers p.number → HasPort t p ↔ HasPort u p)
      → ((p : TreePort ℕ ℕ ℕ P) → (in_map own_t p.number ≡ in_map own_u p.number) ⊎ (HasPort t p ↔ HasPort u p))
      → (p : TreePort ℕ ℕ ℕ P) → HasPort t p ↔ HasPort u p
  same_ports bridges differing own p = (
    ports_there wires_t wires_u t u own_t own_u is_t is_u numbers covers.gone bridges
        (λ q h m. (differing q m).0 h)
        (λ q h. elim (own q) [ inl same ↦ inl same | inr e ↦ inr (e.0 h) ])
        p,
    ports_there wires_u wires_t u t own_u own_t is_u is_t numbers covers.come (sym bridges)
        (λ q h m. (differing q m).1 h)
        (λ q h. elim (own q) [ inl same ↦ inl (sym same) | inr e ↦ inr (e.1 h) ])
        p,
  )

  -- all that one of the two has and the other hasn't is touched at last, as differing numbers, numbers whose own settings
  -- differ and bridges are touched one after the other
  module _ {V : Type 0} (a b c d : Assignment V) (to_b : KeepsOutcome a b) (to_c : KeepsOutcome b c) (to_d : KeepsOutcome c d)
      (differing : (p : TreePort ℕ ℕ ℕ P) → HasPort t p ⊎ HasPort u p → Contains numbers p.number → PortIsDone t u a p)
      (own : (p : TreePort ℕ ℕ ℕ P) → HasPort t p ⊎ HasPort u p → (in_map own_t p.number ≡ in_map own_u p.number) ⊎ PortIsDone t u b p)
      (there : (n : ℕ) (bridge : B) → HasBridge t n bridge → BridgeIsDone t u c n bridge)
      (back : (n : ℕ) (bridge : B) → HasBridge u n bridge → BridgeIsDone u t d n bridge) where
    from_b : KeepsOutcome b d
    from_b = keeps_trans b c d to_c to_d

    from_a : KeepsOutcome a d
    from_a = keeps_trans a b d to_b from_b

    differing_last : (p : TreePort ℕ ℕ ℕ P) → HasPort t p ⊎ HasPort u p → Contains numbers p.number → PortIsDone t u d p
    differing_last p h m = port_kept t u a d from_a p (differing p h m)

    own_last : (p : TreePort ℕ ℕ ℕ P) → HasPort t p ⊎ HasPort u p → (in_map own_t p.number ≡ in_map own_u p.number) ⊎ PortIsDone t u d p
    own_last p h = elim (own p h) [ inl same ↦ inl same | inr i ↦ inr (port_kept t u b d from_b p i) ]

    done_last : (n : ℕ) (bridge : B) → HasBridge t n bridge → BridgeIsDone t u d n bridge
    done_last n bridge h = done_kept t u c d to_d n bridge (there n bridge h)

    pub touched_there : TouchesMissing t u d
    touched_there = touches_missing wires_t wires_u t u own_t own_u is_t is_u d numbers covers.gone
        (λ p h m. done_there t u d p (differing_last p (inl h) m) h)
        (λ p h. elim (own_last p (inl h)) [ inl same ↦ inl same | inr i ↦ inr (done_there t u d p i h) ])
        done_last back

    pub touched_back : TouchesMissing u t d
    touched_back = touches_missing wires_u wires_t u t own_u own_t is_u is_t d numbers covers.come
        (λ p h m. done_back t u d p (differing_last p (inr h) m) h)
        (λ p h. elim (own_last p (inr h)) [ inl same ↦ inl (sym same) | inr i ↦ inr (done_back t u d p i h) ])
        back done_last

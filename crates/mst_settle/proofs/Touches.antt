-- Where all that one of two topologies has and the other hasn't is touched, what is settled for the one can be
-- repaired for the other.
use Rattle.std.proofs.Common.{◌≡◌, ℕ, ◌≤◌, length, Option, true, subst, inl, inr}
use Rattle.std.specs.List.{Contains}
use Rattle.mst_vector.specs.Rules.{Rules}
use Rattle.mst_topology.specs.Topology.{TreePort, Topology, IsTopology, HasPort}
use Rattle.mst_topology.specs.Repair.{WithinBounds}
use Rattle.mst_settle.specs.Repairable.{BridgeStays, LanStays, IsRepairable}
use Rattle.mst_outcome.specs.Assignment.{Assignment, vector_of, designated_of, IsSettledFor}
use Rattle.mst_settle.specs.Differences.{TouchesMissing}
use Rattle.mst_settle.proofs.Marked.{marked_or_not}

module _ {V : Type 0} (a b : Assignment V) (vectors : (n : ℕ) → vector_of b n ≡ vector_of a n) where
  pub vectors_same : vector_of b ≡ vector_of a
  vectors_same i n = vectors n i

  -- the same outcome is settled for the same topology
  pub settled_same : {B P : Type 0} (m : Rules B P V) (t : Topology ℕ ℕ ℕ B P) → ((lan : ℕ) → designated_of b lan ≡ designated_of a lan) → IsSettledFor m t a → IsSettledFor m t b
  settled_same m t designated h = record { vectors = rw vectors_same h.vectors; designated = λ lan. rw (vectors_same, designated lan) (h.designated lan) }

  -- a bound from the same vectors
  pub bounds_same : (w : ℕ → Option V) (settlings : ℕ) → WithinBounds (vector_of b) w settlings → WithinBounds (vector_of a) w settlings
  bounds_same w settlings = subst (λ z. WithinBounds z w settlings) vectors_same

module _ {B P V : Type 0} (t u : Topology ℕ ℕ ℕ B P) (a : Assignment V) (there : TouchesMissing t u a) (back : TouchesMissing u t a) where
  bridge_stays : (n : ℕ) → (Contains a.touched_bridges (n, true) → ⊥) → BridgeStays t u n
  bridge_stays n not = record {
    bridge = λ b. (λ h. elim (there.bridges n b h) [ inl g ↦ g | inr c ↦ absurd (not c) ], λ h. elim (back.bridges n b h) [ inl g ↦ g | inr c ↦ absurd (not c) ]);
    ports = λ p on. (
      λ h. elim (there.ports p h).port [ inl g ↦ g | inr c ↦ absurd (not (subst (λ z. Contains a.touched_bridges (z, true)) on c.0)) ],
      λ h. elim (back.ports p h).port [ inl g ↦ g | inr c ↦ absurd (not (subst (λ z. Contains a.touched_bridges (z, true)) on c.0)) ],
    );
  }

  module _ (lan : ℕ) (not : Contains a.touched_lans (lan, true) → ⊥) where
    untouched : (p : TreePort ℕ ℕ ℕ P) {A : Type 0} → p.lan ≡ lan → Contains a.touched_lans (p.lan, true) → A
    untouched p on c = absurd (not (subst (λ z. Contains a.touched_lans (z, true)) on c))

    to_there : (p : TreePort ℕ ℕ ℕ P) → p.lan ≡ lan → HasPort t p → HasPort u p
    to_there p on h = elim (there.ports p h).port [ inl g ↦ g | inr c ↦ untouched p on c.1 ]

    lan_stays : LanStays t u lan
    lan_stays = record {
      ports = λ p on. (to_there p on, λ h. elim (back.ports p h).port [ inl g ↦ g | inr c ↦ untouched p on c.1 ]);
      bridges = λ p b on h. (
        λ i. elim ((there.ports p h).bridge b i) [ inl g ↦ g | inr c ↦ untouched p on c ],
        λ i. elim ((back.ports p (to_there p on h)).bridge b i) [ inl g ↦ g | inr c ↦ untouched p on c ],
      );
    }

  pub repairable : (m : Rules B P V) → IsTopology m t → length t.bridges ≤ 1024 → IsSettledFor m t a → IsRepairable m (vector_of a) (designated_of a) a.touched_bridges a.touched_lans u
  repairable m before size settled = record {
    before = t;
    is_topology = before;
    size = size;
    settled = settled.vectors;
    designated = settled.designated;
    bridges = λ n. elim (marked_or_not a.touched_bridges n) [ inl c ↦ inl c | inr not ↦ inr (bridge_stays n not) ];
    lans = λ lan. elim (marked_or_not a.touched_lans lan) [ inl c ↦ inl c | inr not ↦ inr (lan_stays lan not) ];
  }

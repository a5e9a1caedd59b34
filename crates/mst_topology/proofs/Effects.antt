-- Looking at LANs and bridges anew, one after another.
use Rattle.std.proofs.Common.{◌≡◌, ℕ, ◌+◌, ◌<◌, ◌≤◌, List, length, slice_index_or, Option, Some, None, Bool, true, sym, ◌∙◌, ap, subst, inl, inr, ◌⊎◌, arith}
use Rattle.std.specs.List.{Contains}
use Rattle.std.proofs.lemmas.List.{get_or_default}
use Rattle.mst_vector.specs.Rules.{Rules}
use Rattle.mst_topology.specs.Topology.{TreePort, Topology}
use Rattle.mst_topology.specs.Settled.{IsDesignated}
use Rattle.mst_topology.specs.Settling.{IsLowest, Speaks, port_of}
use Rattle.mst_topology.specs.declared.heard.Heard.{Heard}
use Rattle.mst_topology.specs.Repair.{IsDue, IsWritten, key_of}
use Rattle.mst_topology.specs.Slots.{HasRoom, IsSetAt}
use Rattle.mst_topology.specs.Chains.{IsAt, upto_place, IsLast}
use Rattle.mst_topology.specs.Effects.{HearsAnew, LooksAnew}
use Rattle.mst_topology.proofs.Entries.{same_or_other}
use Rattle.mst_topology.proofs.Chains.{one_there}
use Rattle.mst_topology.proofs.Lowest.{before_here_after}

module _ {B P V : Type 0} (m : Rules B P V) (t : Topology ℕ ℕ ℕ B P) (v : ℕ → Option V) where
  pub lowest_designated : (lan : ℕ) (o : Option (Heard V)) → IsLowest m.order (Speaks m t v lan) o → IsDesignated m t v lan (port_of o)
  lowest_designated lan None h = λ p x on s. h p x (on, s)
  lowest_designated lan (Some b) h = (h.0, b.message, h.1, record { on_lan = h.2.0; says = h.2.1; upto = λ q y on s. h.3 q y (on, s) })

  -- one LAN
  pub hears_one : (lan : ℕ) (o : Option ℕ) (old new : ℕ → Option ℕ) → IsDesignated m t v lan o → IsWritten old lan o new → HearsAnew m t v old new (λ k. k ≡ lan)
  hears_one lan o old new d put = record {
    right = λ k r. elim (put k) [ inl e ↦ rw (e.1, e.0) d | inr e ↦ rw e.1 r ];
    found = λ k f. elim (put k) [ inl e ↦ rw (e.1, e.0) d | inr e ↦ absurd (e.0 f) ];
  }

  pub hears_none : (lans : ℕ → Option ℕ) (On : ℕ → Type 0) → ((k : ℕ) → On k → ⊥) → HearsAnew m t v lans lans On
  hears_none lans On none = record { right = λ k r. r; found = λ k f. absurd (none k f) }

  -- some LANs and then others
  pub hears_more : (a b c : ℕ → Option ℕ) (On Then All : ℕ → Type 0) → HearsAnew m t v a b On → HearsAnew m t v b c Then → ((k : ℕ) → All k → On k ⊎ Then k) → HearsAnew m t v a c All
  hears_more a b c On Then All h i split = record {
    right = λ k r. i.right k (h.right k r);
    found = λ k f. elim (split k f) [ inl g ↦ i.right k (h.found k g) | inr g ↦ i.found k g ];
  }

  -- one bridge
  pub looks_one : (n : ℕ) (key : Option V) (old new : List (ℕ × Option V)) → ((o : Option V) → IsDue m t v n o → key ≡ key_of m.order (v n) o) → IsSetAt old n key new → LooksAnew m t v old new (λ k. k ≡ n)
  looks_one n key old new right set = record {
    right = λ j r k o c d. elim (same_or_other j n) [
      | inl e ↦ here j e k o c d
      | inr e ↦ r k o (set.others j k e c) d
    ];
    found = λ j e k o c d. here j e k o c d;
    rooms = λ j r. elim (same_or_other j n) [
      | inl e ↦ (key, subst (λ z. Contains new (z, key)) (sym e) set.has)
      | inr e ↦ (r.0, set.stay j r.0 e r.1)
    ];
  }
    where
      here : (j : ℕ) → j ≡ n → (k o : Option V) → Contains new (j, k) → IsDue m t v j o → k ≡ key_of m.order (v j) o
      here j e k o c d = set.here k (subst (λ z. Contains new (z, k)) e c) ∙ right o (subst (λ z. IsDue m t v z o) e d) ∙ ap (λ z. key_of m.order (v z) o) (sym e)

  pub looks_none : (queue : List (ℕ × Option V)) (On : ℕ → Type 0) → ((k : ℕ) → On k → ⊥) → LooksAnew m t v queue queue On
  looks_none queue On none = record { right = λ k r. r; found = λ k f. absurd (none k f); rooms = λ k r. r }

  pub looks_more : (a b c : List (ℕ × Option V)) (On Then All : ℕ → Type 0) → LooksAnew m t v a b On → LooksAnew m t v b c Then → ((k : ℕ) → All k → On k ⊎ Then k) → LooksAnew m t v a c All
  looks_more a b c On Then All h i split = record {
    right = λ k r. i.right k (h.right k r);
    found = λ k f. elim (split k f) [ inl g ↦ i.right k (h.found k g) | inr g ↦ i.found k g ];
    rooms = λ k r. i.rooms k (h.rooms k r);
  }

-- of the ports that a walk has come by, at this place or later, some value
abbrev pub Passed : {P A : Type 0} → List (TreePort ℕ ℕ ℕ P) → (TreePort ℕ ℕ ℕ P → A → Type 0) → Option ℕ → A → Type 0
Passed {P} ports Gives o a = (p : TreePort ℕ ℕ ℕ P) × Gives p a × ((k : ℕ) × (upto_place o ≤ k) × IsAt ports k p)

module _ {P A : Type 0} (ports : List (TreePort ℕ ℕ ℕ P)) (On : TreePort ℕ ℕ ℕ P → Type 0) (Gives : TreePort ℕ ℕ ℕ P → A → Type 0) (on : (p : TreePort ℕ ℕ ℕ P) (a : A) → Gives p a → On p) where
  pub passed_none : (o : Option ℕ) → IsLast ports On (length ports) o → (a : A) → Passed ports Gives o a → ⊥
  passed_none o last a h = last.none_after h.2.0 h.0 h.2.1 h.2.2.0 h.2.2 (on h.0 a h.1)

  pub passed_more : (k : ℕ) (p : TreePort ℕ ℕ ℕ P) → IsAt ports k p → (o : Option ℕ) → IsLast ports On k o → (a : A) → Passed ports Gives o a → Passed ports Gives (Some k) a ⊎ Gives p a
  passed_more k p at o last a h = elim (before_here_after h.2.0 k) [
    | inl l ↦ absurd (last.none_after h.2.0 h.0 h.2.1 l h.2.2 (on h.0 a h.1))
    | inr r ↦ elim r [
      | inl e ↦ inr (subst (λ z. Gives z a) (one_there ports k h.0 p (subst (λ z. IsAt ports z h.0) e h.2.2) at) h.1)
      | inr g ↦ inl (h.0, h.1, (h.2.0, g, h.2.2))
    ]
  ]

pub passed_all : {P A : Type 0} (ports : List (TreePort ℕ ℕ ℕ P)) (Gives : TreePort ℕ ℕ ℕ P → A → Type 0) (a : A) → (p : TreePort ℕ ℕ ℕ P) → Contains ports p → Gives p a → Passed ports Gives None a
passed_all ports Gives a p c g = (p, g, (c.0, omega arith, (c.1, c.2)))

-- what a mark leaves
pub set_marks : (old : List (ℕ × Bool)) (n : ℕ) (new : List (ℕ × Bool)) → IsSetAt old n true new → (k : ℕ) → Contains old (k, true) → Contains new (k, true)
set_marks old n new set k c = elim (same_or_other k n) [
  | inl e ↦ subst (λ z. Contains new (z, true)) (sym e) set.has
  | inr e ↦ set.stay k true e c
]

pub set_rooms : {T : Type 0} (old : List (ℕ × T)) (n : ℕ) (x : T) (new : List (ℕ × T)) → IsSetAt old n x new → (k : ℕ) → HasRoom old k → HasRoom new k
set_rooms old n x new set k r = elim (same_or_other k n) [
  | inl e ↦ (x, subst (λ z. Contains new (z, x)) (sym e) set.has)
  | inr e ↦ (r.0, set.stay k r.0 e r.1)
]

module _ {B P V : Type 0} (m : Rules B P V) (t : Topology ℕ ℕ ℕ B P) (v : ℕ → Option V) where
  -- of fewer LANs, or bridges
  pub hears_fewer : (a b : ℕ → Option ℕ) (On Fewer : ℕ → Type 0) → HearsAnew m t v a b On → ((k : ℕ) → Fewer k → On k) → HearsAnew m t v a b Fewer
  hears_fewer a b On Fewer h few = record { right = h.right; found = λ k f. h.found k (few k f) }

  pub looks_fewer : (a b : List (ℕ × Option V)) (On Fewer : ℕ → Type 0) → LooksAnew m t v a b On → ((k : ℕ) → Fewer k → On k) → LooksAnew m t v a b Fewer
  looks_fewer a b On Fewer h few = record { right = h.right; found = λ k f. h.found k (few k f); rooms = h.rooms }

-- of the entries before place i, one has this number and a mark for which `Gives` holds
abbrev pub Before : {T A : Type 0} → List T → (T → A → Type 0) → ℕ → A → Type 0
Before {T} entries Gives i a = (j : ℕ) × (j < i) × ((e : T) × IsAt entries j e × Gives e a)

pub before_none : {T A : Type 0} (entries : List T) (Gives : T → A → Type 0) (a : A) → Before entries Gives 0 a → ⊥
before_none entries Gives a b = let l = b.1 in absurd (omega arith)

pub before_next : {T A : Type 0} (entries : List T) (Gives : T → A → Type 0) (i : ℕ) (e : T) → IsAt entries i e → (a : A) → Before entries Gives (i + 1) a → Before entries Gives i a ⊎ Gives e a
before_next entries Gives i e here a b = elim (before_here_after b.0 i) [
  | inl low ↦ inl (b.0, low, b.2)
  | inr r ↦ elim r [
    | inl same ↦ inr (subst (λ z. Gives z a) (one_there entries i b.2.0 e (subst (λ z. IsAt entries z b.2.0) same b.2.1) here) b.2.2)
    | inr high ↦ (let low = b.1 in absurd (omega arith))
  ]
]

pub before_more : {T A : Type 0} (entries : List T) (Gives : T → A → Type 0) (i : ℕ) (e : T) → e ≡ slice_index_or entries i e → i < length entries → (a : A) → Before entries Gives (i + 1) a → Before entries Gives i a ⊎ Gives e a
before_more entries Gives i e is l = before_next entries Gives i e (l, sym is)

pub before_all : {T A : Type 0} (entries : List T) (Gives : T → A → Type 0) (a : A) (e : T) → Contains entries e → Gives e a → Before entries Gives (length entries) a
before_all entries Gives a e c g = (c.0, c.1, (e, (c.1, c.2), g))

-- the item at a place
pub item_is : {T : Type 0} (xs : List T) (i : ℕ) (d : T) → i < length xs → slice_index_or xs i d ≡ slice_index_or xs i (slice_index_or xs i d)
item_is xs i d l = get_or_default xs i d (slice_index_or xs i d) l

pub item_in : {T : Type 0} (xs : List T) (i : ℕ) (d : T) → i < length xs → Contains xs (slice_index_or xs i d)
item_in xs i d l = (i, l, sym (item_is xs i d l))

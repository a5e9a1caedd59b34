-- The designated port of a LAN after a write at one bridge: what the ports of the others say stays.
use Rattle.std.proofs.Common.{◌≡◌, ◌≢◌, ℕ, ◌≤◌, length, Option, Some, None, Bool, true, false, cond, refl, sym, ◌∙◌, ap, subst, inl, inr, ◌⊎◌, arith}
use Rattle.std.specs.declared.cmp.Ordering.{Ordering}
use Rattle.std.specs.Ordering.{is_gt}
use Rattle.std.specs.Cmp.{IsTotalOrder}
use Rattle.std.proofs.lemmas.Cmp.{tied_itself, upto}
use Rattle.mst_vector.specs.Rules.{Rules, IsMetric}
use Rattle.mst_topology.specs.Topology.{TreePort, Topology, IsTopology, HasPort}
use Rattle.mst_topology.specs.declared.heard.Heard.{Heard}
use Rattle.mst_topology.specs.Settled.{IsDesignated}
use Rattle.mst_topology.specs.Settling.{IsLowest, lower_of, lower_heard, port_of}
use Rattle.mst_topology.specs.Chains.{IsAt, IsLast, upto_place}
use Rattle.mst_topology.specs.Repair.{IsWritten}
use Rattle.mst_topology.specs.Seen.{Marks}
use Rattle.mst_topology.specs.Effects.{LansAreRight, HearsAnew, IsLanOf, IsPortOf, IsDesignatedAmong, IsLeft, IsLowerPort, HearsPort}
use Rattle.mst_topology.proofs.Orders.{not_less, less_is_upto}
use Rattle.mst_topology.proofs.Chains.{one_there}
use Rattle.mst_topology.proofs.Search.{some_is}
use Rattle.mst_topology.proofs.Entries.{same_or_other}
use Rattle.mst_topology.proofs.Lowest.{before_here_after}
use Rattle.mst_topology.proofs.Locality.{says_other, says_back}

module _ {P V : Type 0} (order : V → V → Ordering) (total : IsTotalOrder order) (Has All : TreePort ℕ ℕ ℕ P → V → Type 0) (a : TreePort ℕ ℕ ℕ P)
    (more : (p : TreePort ℕ ℕ ℕ P) (x : V) → Has p x → All p x) (split : (p : TreePort ℕ ℕ ℕ P) (x : V) → All p x → Has p x ⊎ (p ≡ a)) where
  module _ (x : V) (has : All a x) (one : (y : V) → All a y → x ≡ y) where
    abbrev heard : Heard V
    heard = record { port = a.number; message = x }

    itself : (y : V) → x ≡ y → is_gt (order x y) ≡ false
    itself y e = ap is_gt (ap (order x) (sym e) ∙ tied_itself total x)

    lowest_new : ((q : TreePort ℕ ℕ ℕ P) (y : V) → Has q y → is_gt (order x y) ≡ false) → IsLowest order All (Some heard)
    lowest_new h = (a, refl, has, λ q y f. elim (split q y f) [ inl g ↦ h q y g | inr e ↦ itself y (one y (subst (λ z. All z y) e f)) ])

    -- one more port has this
    lowest_also : (best : Option (Heard V)) → IsLowest order Has best → IsLowest order All (Some (lower_of order best heard))
    lowest_also None h = lowest_new (λ q y f. absurd (h q y f))
    lowest_also (Some b) h = go (is_gt (order b.message x)) refl
      where
        go : (g : Bool) → is_gt (order b.message x) ≡ g → IsLowest order All (Some (cond g heard b))
        go true g = lowest_new (λ q y f. upto total x b.message y (not_less total b.message x (λ l. let u = less_is_upto total b.message x l in cc)) (h.3 q y f))
        go false g = (h.0, h.1, more h.0 b.message h.2, λ q y f. elim (split q y f) [ inl i ↦ h.3 q y i | inr e ↦ subst (λ z. is_gt (order b.message z) ≡ false) (one y (subst (λ z. All z y) e f)) g ])

  lowest_kept : (best : Option (Heard V)) → ((x : V) → All a x → ⊥) → IsLowest order Has best → IsLowest order All best
  lowest_kept None none h = λ p x f. elim (split p x f) [ inl g ↦ h p x g | inr e ↦ none x (subst (λ z. All z x) e f) ]
  lowest_kept (Some b) none h = (h.0, h.1, more h.0 b.message h.2, λ q y f. elim (split q y f) [ inl g ↦ h.3 q y g | inr e ↦ absurd (none y (subst (λ z. All z y) e f)) ])

  -- the lower of the best and what one more port has
  pub lowest_of_both : (message : Option V) → ((x : V) → message ≡ Some x → All a x) → (message ≡ None → (x : V) → All a x → ⊥) → ((x y : V) → All a x → All a y → x ≡ y)
      → (best : Option (Heard V)) → IsLowest order Has best → IsLowest order All (lower_heard order best a.number message)
  lowest_of_both None some none one best h = lowest_kept best (none refl) h
  lowest_of_both (Some x) some none one best h = lowest_also x (some x refl) (λ y f. one x y (some x refl) f) best h

module _ {B P V : Type 0} (m : Rules B P V) (t : Topology ℕ ℕ ℕ B P) (w : ℕ → Option V) (n : ℕ) where
  -- the port stands at this place of a walk or later
  abbrev pub IsPast : Option ℕ → TreePort ℕ ℕ ℕ P → Type 0
  IsPast o q = (k : ℕ) × (upto_place o ≤ k) × IsAt t.ports k q

  -- the ports of other bridges, and those of n that the walk has come by
  abbrev pub IsHeardBy : Option ℕ → TreePort ℕ ℕ ℕ P → Type 0
  IsHeardBy o q = (q.bridge ≢ n) ⊎ IsPast o q

  -- a LAN where the walk has come by no port, or has found the best so far
  abbrev pub IsWalked : Option ℕ → ℕ → Option ℕ → Type 0
  IsWalked o lan d = IsPortOf t n d × ((q : TreePort ℕ ℕ ℕ P) → IsPast o q → q.bridge ≡ n → q.lan ≡ lan → ⊥) ⊎ IsDesignatedAmong m t w (IsHeardBy o) lan d

module _ {B P V : Type 0} (m : Rules B P V) (law : IsMetric m) (t : Topology ℕ ℕ ℕ B P) (ok : IsTopology m t) where
  module _ (v : ℕ → Option V) where
    -- of all ports on the LAN
    pub among_all : (In : TreePort ℕ ℕ ℕ P → Type 0) (lan : ℕ) (o : Option ℕ) → ((q : TreePort ℕ ℕ ℕ P) → HasPort t q → q.lan ≡ lan → In q) → IsDesignatedAmong m t v In lan o → IsDesignated m t v lan o
    among_all In lan None all h = λ q y on s. h q y (all q s.has_port on) on s
    among_all In lan (Some k) all h = (h.0, h.1, h.2, record { on_lan = h.3.on_lan; says = h.3.says; upto = λ q y on s. h.3.upto q y (all q s.has_port on) on s })

    pub among_some : (In : TreePort ℕ ℕ ℕ P → Type 0) (lan : ℕ) (o : Option ℕ) → IsDesignated m t v lan o → IsDesignatedAmong m t v In lan o
    among_some In lan None h = λ q y i on s. h q y on s
    among_some In lan (Some k) h = (h.0, h.1, h.2, record { on_lan = h.3.on_lan; says = h.3.says; upto = λ q y i on s. h.3.upto q y on s })

    -- of other ports that are the same on this LAN
    pub among_fewer : (In Then : TreePort ℕ ℕ ℕ P → Type 0) (lan : ℕ) (o : Option ℕ) → ((q : TreePort ℕ ℕ ℕ P) → q.lan ≡ lan → Then q → In q) → IsDesignatedAmong m t v In lan o → IsDesignatedAmong m t v Then lan o
    among_fewer In Then lan None few h = λ q y i on s. h q y (few q on i) on s
    among_fewer In Then lan (Some k) few h = (h.0, h.1, h.2, record { on_lan = h.3.on_lan; says = h.3.says; upto = λ q y i on s. h.3.upto q y (few q on i) on s })

    -- of these ports and one more
    pub among_more : (In Then : TreePort ℕ ℕ ℕ P → Type 0) (p : TreePort ℕ ℕ ℕ P) (o : Option ℕ) (h : Option (Heard V)) → IsDesignatedAmong m t v In p.lan o → IsLowerPort m t v o p h
        → ((q : TreePort ℕ ℕ ℕ P) → q.lan ≡ p.lan → Then q → In q ⊎ (q ≡ p)) → IsDesignatedAmong m t v Then p.lan (port_of h)
    among_more In Then p None None d l split = λ q y i on s. elim (split q on i) [ inl j ↦ d q y j on s | inr e ↦ l q y (inr e, s) ]
    among_more In Then p (Some k) None d l split = absurd (l d.0 d.1 (inl (ap Some (sym d.2)), d.3.says))
    among_more In Then p None (Some b) d l split = (
      l.0,
      b.message,
      l.1,
      record {
        on_lan = elim l.2.0 [ inl e ↦ (let f : ⊥ = cc in absurd f) | inr e ↦ ap (λ (c : TreePort ℕ ℕ ℕ P). c.lan) e ];
        says = l.2.1;
        upto = λ q y i on s. elim (split q on i) [ inl j ↦ absurd (d q y j on s) | inr e ↦ l.3 q y (inr e, s) ];
      },
    )
    among_more In Then p (Some k) (Some b) d l split =
        let low : is_gt (m.order b.message d.1) ≡ false = l.3 d.0 d.1 (inl (ap Some (sym d.2)), d.3.says) in (
          l.0,
          b.message,
          l.1,
          record {
            on_lan = elim l.2.0 [
              | inl e ↦ ap (λ (c : TreePort ℕ ℕ ℕ P). c.lan) (ok.one_port l.0 d.0 l.2.1.has_port d.3.says.has_port (sym (some_is k l.0.number e) ∙ sym d.2)) ∙ d.3.on_lan
              | inr e ↦ ap (λ (c : TreePort ℕ ℕ ℕ P). c.lan) e
            ];
            says = l.2.1;
            upto = λ q y i on s. elim (split q on i) [ inl j ↦ upto law.total b.message d.1 y low (d.3.upto q y j on s) | inr e ↦ l.3 q y (inr e, s) ];
          },
        )

    -- so where the best is compared with a port on its LAN, it stays the best
    pub lower_right : (p : TreePort ℕ ℕ ℕ P) (o : Option ℕ) (h : Option (Heard V)) → IsLowerPort m t v o p h → IsDesignated m t v p.lan o → IsDesignated m t v p.lan (port_of h)
    lower_right p o h l d =
        among_all (λ q. Unit {0}) p.lan (port_of h) (λ q there on. tt) (among_more (λ q. Unit {0}) (λ q. Unit {0}) p o h (among_some (λ q. Unit {0}) p.lan o d) l (λ q on i. inl tt))

    -- a port that is compared
    pub hears_lower : (p : TreePort ℕ ℕ ℕ P) (old new : ℕ → Option ℕ) (h : Option (Heard V)) → (IsPortOf t p.bridge (old p.lan) → ⊥) → IsLowerPort m t v (old p.lan) p h → IsWritten old p.lan (port_of h) new → HearsPort m t v p old new
    hears_lower p old new h other l put = record {
      right = λ lan d. elim (put lan) [
        | inl e ↦ subst (λ z. IsDesignated m t v z (new lan)) (sym e.0) (subst (IsDesignated m t v p.lan) (sym e.1) (lower_right p (old p.lan) h l (subst (λ z. IsDesignated m t v z (old z)) e.0 d)))
        | inr e ↦ subst (IsDesignated m t v lan) (sym e.1) d
      ];
      others = λ lan apart. elim (put lan) [ inl e ↦ absurd (apart e.0) | inr e ↦ e.1 ];
      found = inr (other, (h, l, elim (put p.lan) [ inl e ↦ e.1 | inr e ↦ absurd (e.0 refl) ]));
    }

    -- a LAN that is heard
    pub hears_all : (p : TreePort ℕ ℕ ℕ P) (old new : ℕ → Option ℕ) → HearsAnew m t v old new (λ k. k ≡ p.lan) → ((lan : ℕ) → lan ≢ p.lan → new lan ≡ old lan) → HearsPort m t v p old new
    hears_all p old new heard others = record { right = heard.right; others = others; found = inl (heard.found p.lan refl) }

    -- what was seen stays right
    pub seen_lower : (seen : Marks) (p : TreePort ℕ ℕ ℕ P) (old new : ℕ → Option ℕ) → LansAreRight m t v seen old → HearsPort m t v p old new → LansAreRight m t v seen new
    seen_lower seen p old new right h lan s = h.right lan (right lan s)

  -- after a write at n
  pub left_by_write : (v w : ℕ → Option V) (n : ℕ) (o : Option V) → IsWritten v n o w → (lan : ℕ) (d : Option ℕ) → IsDesignated m t v lan d → IsLeft m t w n lan d
  left_by_write v w n o written lan d h = go d h
    where
      same : (k : ℕ) → k ≢ n → w k ≡ v k
      same k other = elim (written k) [ inl e ↦ absurd (other e.0) | inr e ↦ e.1 ]

      go : (d : Option ℕ) → IsDesignated m t v lan d → IsLeft m t w n lan d
      go None silent = inr (λ q y other on s. silent q y on (says_back m t v w n same q y other s))
      go (Some k) h = elim (same_or_other h.0.bridge n) [
        | inl e ↦ inl (h.0, h.3.says.has_port, ap Some (sym h.2), e)
        | inr other ↦ inr (
          h.0,
          h.1,
          h.2,
          record {
            on_lan = h.3.on_lan;
            says = says_other m t v w n same h.0 h.1 other h.3.says;
            upto = λ q y apart on s. h.3.upto q y on (says_back m t v w n same q y apart s);
          },
        )
      ]

  -- a walk along the ports of the bridge n
  module _ (w : ℕ → Option V) (n : ℕ) where
    pub walked_none : (o : Option ℕ) → IsLast t.ports (λ p. p.bridge ≡ n) (length t.ports) o → (lan : ℕ) (d : Option ℕ) → IsLeft m t w n lan d → IsWalked m t w n o lan d
    walked_none o last lan d left = elim left [
      | inl p ↦ inl (p, λ q past on at. last.none_after past.0 q past.1 past.2.0 past.2 on)
      | inr among ↦ inr (among_fewer w (λ q. q.bridge ≢ n) (IsHeardBy m t w n o) lan d (λ q on h. elim h [ inl other ↦ other | inr past ↦ (λ same. last.none_after past.0 q past.1 past.2.0 past.2 same) ]) among)
    ]

    module _ (k : ℕ) (p : TreePort ℕ ℕ ℕ P) (at : IsAt t.ports k p) (here : p.bridge ≡ n) (o : Option ℕ) (last : IsLast t.ports (λ q. q.bridge ≡ n) k o) where
      past_more : (q : TreePort ℕ ℕ ℕ P) → q.bridge ≡ n → IsPast m t w n o q → IsPast m t w n (Some k) q ⊎ (q ≡ p)
      past_more q on past = elim (before_here_after past.0 k) [
        | inl l ↦ absurd (last.none_after past.0 q past.1 l past.2 on)
        | inr r ↦ elim r [
          | inl e ↦ inr (one_there t.ports k q p (subst (λ z. IsAt t.ports z q) e past.2) at)
          | inr g ↦ inl (past.0, g, past.2)
        ]
      ]

      heard_more : (q : TreePort ℕ ℕ ℕ P) → IsHeardBy m t w n o q → IsHeardBy m t w n (Some k) q ⊎ (q ≡ p)
      heard_more q h = elim h [
        | inl other ↦ inl (inl other)
        | inr past ↦ elim (same_or_other q.bridge n) [
          | inl on ↦ elim (past_more q on past) [ inl l ↦ inl (inr l) | inr e ↦ inr e ]
          | inr other ↦ inl (inl other)
        ]
      ]

      lan_of : (q : TreePort ℕ ℕ ℕ P) → q ≡ p → q.lan ≡ p.lan
      lan_of q e = ap (λ (c : TreePort ℕ ℕ ℕ P). c.lan) e

      walked_apart : (lan : ℕ) (d : Option ℕ) → lan ≢ p.lan → IsWalked m t w n (Some k) lan d → IsWalked m t w n o lan d
      walked_apart lan d apart walked = elim walked [
        | inl f ↦ inl (f.0, λ q past on l. elim (past_more q on past) [ inl g ↦ f.1 q g on l | inr e ↦ apart (sym l ∙ lan_of q e) ])
        | inr a ↦ inr (among_fewer w (IsHeardBy m t w n (Some k)) (IsHeardBy m t w n o) lan d (λ q l h. elim (heard_more q h) [ inl g ↦ g | inr e ↦ absurd (apart (sym l ∙ lan_of q e)) ]) a)
      ]

      pub walked_more : (old new : ℕ → Option ℕ) → HearsPort m t w p old new → ((lan : ℕ) → IsWalked m t w n (Some k) lan (old lan)) → (lan : ℕ) → IsWalked m t w n o lan (new lan)
      walked_more old new heard walked lan = elim (same_or_other lan p.lan) [
        | inr apart ↦ subst (IsWalked m t w n o lan) (sym (heard.others lan apart)) (walked_apart lan (old lan) apart (walked lan))
        | inl e ↦ subst (λ z. IsWalked m t w n o z (new z)) (sym e) (elim heard.found [
          | inl right ↦ inr (among_some w (IsHeardBy m t w n o) p.lan (new p.lan) right)
          | inr lower ↦ elim (walked p.lan) [
            | inl f ↦ absurd (lower.0 (subst (λ z. IsPortOf t z (old p.lan)) (sym here) f.0))
            | inr a ↦ inr (subst (IsDesignatedAmong m t w (IsHeardBy m t w n o) p.lan) (sym lower.1.2) (among_more w (IsHeardBy m t w n (Some k)) (IsHeardBy m t w n o) p (old p.lan) lower.1.0 a lower.1.1 (λ q l h. heard_more q h)))
          ]
        ])
      ]

    -- at the end
    pub walked_all : (lan : ℕ) (d : Option ℕ) → IsWalked m t w n None lan d → IsLanOf t n lan → IsDesignated m t w lan d
    walked_all lan d walked on = elim walked [
      | inl f ↦ absurd (f.1 on.0 (on.1.0, omega arith, (on.1.1, on.1.2)) on.2 on.3)
      | inr a ↦ among_all w (IsHeardBy m t w n None) lan d (λ q there l. inr (there.0, omega arith, (there.1, there.2))) a
    ]

-- There are lists of claims for what is had on a LAN and at a bridge of a settled tree.
use Rattle.std.proofs.Common.{◌≡◌, ◌<◌, zero, suc, get_or, Bool, true, false, List, [], ◌∷◌, length, Option, Some, None, inl, inr, ◌⊎◌, refl, sym, ap, subst, ◌∙◌, true≢false, arith}
use Rattle.std.specs.Prelude.{◌≢◌, ℕ, nat_eq}
use Rattle.std.specs.List.{AllByRecursion, Contains}
use Rattle.std.specs.Cmp.Lexicographic.{pointwise, bytes_decides}
use Rattle.mst_ids.specs.declared.name.PortName.{PortName}
use Rattle.mst_vector.specs.Rules.{Rules, IsMetric}
use Rattle.mst_roles.specs.forest.topology.Topology.{TreePort, Topology, IsTopology, HasPort}
use Rattle.mst_roles.specs.forest.topology.Settled.{IsDesignatedVector, Designates, IsRootPathVector, IsDesignated}
use Rattle.mst_roles.proofs.forest_lemmas.topology_lemmas.Below.{one_message, one_designated}
use Rattle.mst_roles.specs.forest.Outcome.{TreeOutcome, IsTreeOutcome}
use Rattle.mst_roles.proofs.forest_lemmas.Entries.{all_weaker}
use Rattle.mst_roles.proofs.forest_lemmas.Lists.{all_there, there_first, there_later}
use Rattle.mst_explain.specs.declared.claims.Claim.{Claim}
use Rattle.mst_explain.specs.Contest.{IsDesignatedVectorOn, Gives}
use Rattle.mst_explain.proofs.Firsts.{Hold}
use Rattle.mst_explain.proofs.OneText.{TellsReceiver, one_given}

-- ---- what the elements of a list have, where each has one or none
abbrev pub OneOrNone : {C : Type 0} → (C → Type 0) → Type 0
OneOrNone {C} R = ((c : C) × R c × ((d : C) → R d → d ≡ c)) ⊎ ((c : C) → R c → ⊥)

-- these are what the elements have, and all of it
pub record Collects {A C : Type 0} (R : A → C → Type 0) (xs : List A) (ys : List C) : Type 0 where
  pub from : (y : C) → Contains ys y → (x : A) × Contains xs x × R x y
  pub all : (x : A) (y : C) → Contains xs x → R x y → Contains ys y

-- an element is the first or a later one
first_or_later : {A : Type 0} (x y : A) (xs : List A) → Contains (x ∷ xs) y → (x ≡ y) ⊎ Contains xs y
first_or_later {A} x y xs c = go c.0 c.1 c.2
  where
    go : (k : ℕ) → k < length (x ∷ xs) → get_or (x ∷ xs) k y ≡ y → (x ≡ y) ⊎ Contains xs y
    go zero l e = inl e
    go (suc k) l e = inr (k, omega arith, e)

-- the empty list has no element
none_there : {A : Type 0} (x : A) → Contains [] x → ⊥
none_there x c = let l = c.1 in absurd (omega arith)

-- there is a list of what they have
pub collected : {A C : Type 0} (R : A → C → Type 0) (xs : List A) → AllByRecursion (λ x. OneOrNone (R x)) xs → (ys : List C) × Collects R xs ys
collected R [] h = ([], record { from = λ y c. absurd (none_there y c); all = λ x y c r. absurd (none_there x c) })
collected {A} {C} R (x ∷ xs) h = go h.0 (collected R xs h.1)
  where
    go : OneOrNone (R x) → (ys : List C) × Collects R xs ys → (ys : List C) × Collects R (x ∷ xs) ys
    go one rest = elim one [
      | inl o ↦ (
        o.0 ∷ rest.0,
        record {
          from = λ y c. elim (first_or_later o.0 y rest.0 c) [
            | inl e ↦ (x, there_first x xs, subst (R x) e o.1)
            | inr d ↦ let r = rest.1.from y d in (r.0, there_later r.0 x xs r.1, r.2)
          ];
          all = λ z y c r. elim (first_or_later x z xs c) [
            | inl e ↦ subst (Contains (o.0 ∷ rest.0)) (sym (o.2 y (subst (λ w. R w y) (sym e) r))) (there_first o.0 rest.0)
            | inr d ↦ there_later y o.0 rest.0 (rest.1.all z y d r)
          ];
        },
      )
      | inr n ↦ (
        rest.0,
        record {
          from = λ y c. let r = rest.1.from y c in (r.0, there_later r.0 x xs r.1, r.2);
          all = λ z y c r. elim (first_or_later x z xs c) [ inl e ↦ absurd (n y (subst (λ w. R w y) (sym e) r)) | inr d ↦ rest.1.all z y d r ];
        },
      )
    ]

-- names that a test tells apart
pub other_name : (a b : List ℕ) → pointwise nat_eq a b ≡ false → a ≢ b
other_name a b e i = true≢false (sym ((bytes_decides a b).1 i) ∙ e)

module _ {B P V : Type 0} (m : Rules B P V) (law : IsMetric m) (receiver : V → ℕ) (tells : TellsReceiver m receiver) (t : Topology (List ℕ) (List ℕ) PortName B P) (ok : IsTopology m t)
    (ids : (p : TreePort (List ℕ) (List ℕ) PortName P) → HasPort t p → m.port_id p.settings ≢ 0) (o : TreeOutcome V) (is : IsTreeOutcome m t o) where
  abbrev Key : Type 0
  Key = TreePort (List ℕ) (List ℕ) PortName P

  abbrev claim : PortName → V → Claim V
  claim k x = record { port = Some k; vector = x }

  -- claims of one key with one vector
  one_claim : (k : PortName) (c d : Claim V) → c.port ≡ Some k → d.port ≡ Some k → c.vector ≡ d.vector → c ≡ d
  one_claim k c d e f g = λ i. record { port = (e ∙ sym f) i; vector = g i }

  -- ---- on a LAN
  module _ (lan : List ℕ) where
    abbrev SaysOn : Key → Claim V → Type 0
    SaysOn q c = (c.port ≡ Some q.number) × (q.lan ≡ lan) × IsDesignatedVector m t o.vector q c.vector

    -- a port says one thing or nothing on the LAN
    says_one : (q : Key) → HasPort t q → OneOrNone (SaysOn q)
    says_one q there = go (pointwise nat_eq q.lan lan) refl q.is_part refl
      where
        go : (a : Bool) → pointwise nat_eq q.lan lan ≡ a → (b : Bool) → q.is_part ≡ b → OneOrNone (SaysOn q)
        go false e b f = inr (λ c h. other_name q.lan lan e h.1)
        go true e false f = inr (λ c h. true≢false (sym h.2.is_part ∙ f))
        go true e true f =
            let b = ok.has_bridge q there f in
            let x = is.settled.has_vector q.bridge b.0 b.1 in
            let says : IsDesignatedVector m t o.vector q (m.designated_vector x.0 b.0 q.settings) =
            record { has_port = there; is_part = f; bridge = b.0; has_bridge = b.1; root = x.0; is_root = x.1; is_designated = refl } in
            let c = claim q.number (m.designated_vector x.0 b.0 q.settings) in
            inl (c, (refl, (bytes_decides q.lan lan).0 e, says), λ d h. one_claim q.number d c h.0 refl (one_message m law t ok o.vector q d.vector c.vector h.2 says))

    -- there are claims for what is said
    pub some_lan_claims : (claims : List (Claim V)) × Hold claims (IsDesignatedVectorOn m t o.vector lan)
    some_lan_claims = (all.0, record { have = have; all = back })
      where
        all : (claims : List (Claim V)) × Collects SaysOn t.ports claims
        all = collected SaysOn t.ports (all_weaker (HasPort t) (λ q. OneOrNone (SaysOn q)) says_one t.ports (all_there t.ports))

        have : (c : Claim V) → Contains all.0 c → IsDesignatedVectorOn m t o.vector lan c.port c.vector
        have c there = let r = all.1.from c there in subst (λ (k : Option PortName). IsDesignatedVectorOn m t o.vector lan k c.vector) (sym r.2.0) (r.0, refl, r.2.1, r.2.2)

        back : (k : Option PortName) (x : V) → IsDesignatedVectorOn m t o.vector lan k x → Contains all.0 (record { port = k; vector = x })
        back None x h = absurd h
        back (Some k) x h = all.1.all h.0 (claim k x) h.3.has_port (ap Some (sym h.1), h.2, h.3)

  -- ---- at a bridge
  module _ (n : List ℕ) (b : B) where
    abbrev GivesAlong : Key → Claim V → Type 0
    GivesAlong q c = (c.port ≡ Some q.number) × (step : IsRootPathVector m t o.vector n b c.vector) × (step.port ≡ q)

    -- a port gives one vector
    gives_once : (q : Key) (c d : Claim V) → GivesAlong q c → GivesAlong q d → c ≡ d
    gives_once q c d f g =
        one_claim q.number c d f.0 g.0
        (one_given m law receiver tells t ok ids o.vector n b (Some q.number) c.vector d.vector (f.1, ap (λ (y : Key). y.number) f.2) (g.1, ap (λ (y : Key). y.number) g.2))

    -- what the LAN's designated port says comes along a port of the bridge that isn't restricted
    gives_from : (q : Key) → HasPort t q → q.is_part ≡ true → q.is_restricted ≡ false → q.bridge ≡ n → (d : Option PortName) → IsDesignated m t o.vector q.lan d → OneOrNone (GivesAlong q)
    gives_from q there part free on None h = inr (λ c g. h g.1.from g.1.message (g.1.designates.on_lan ∙ ap (λ (y : Key). y.lan) g.2) g.1.designates.says)
    gives_from q there part free on (Some d) h = go (pointwise nat_eq h.0.bridge n) refl
      where
        go : (a : Bool) → pointwise nat_eq h.0.bridge n ≡ a → OneOrNone (GivesAlong q)
        go true e =
            inr
            (λ c g.
            let same : g.1.from ≡ h.0 =
            one_designated m law t ok o.vector q.lan g.1.from h.0 g.1.message h.1 (subst (λ (y : Key). Designates m t o.vector y.lan g.1.from g.1.message) g.2 g.1.designates) h.3 in
            g.1.from_other (ap (λ (y : Key). y.bridge) same ∙ (bytes_decides h.0.bridge n).0 e))
        go false e =
            let sender = h.3.says.bridge in
            let step : IsRootPathVector m t o.vector n b (m.root_path_vector h.1 sender b q.settings) =
            record {
              port = q;
              has_port = there;
              is_part = part;
              is_free = free;
              on_bridge = on;
              from = h.0;
              message = h.1;
              designates = h.3;
              from_other = other_name h.0.bridge n e;
              sender = sender;
              has_sender = h.3.says.has_bridge;
              is_made = refl;
            } in
            let c = claim q.number (m.root_path_vector h.1 sender b q.settings) in
            inl (c, (refl, step, refl), λ d g. gives_once q d c g (refl, step, refl))

    -- a port gives one vector or none
    gives_one : (q : Key) → HasPort t q → OneOrNone (GivesAlong q)
    gives_one q there = go (pointwise nat_eq q.bridge n) refl q.is_part refl q.is_restricted refl
      where
        go : (a : Bool) → pointwise nat_eq q.bridge n ≡ a → (part : Bool) → q.is_part ≡ part → (r : Bool) → q.is_restricted ≡ r → OneOrNone (GivesAlong q)
        go false e part f r g = inr (λ c h. other_name q.bridge n e (ap (λ (y : Key). y.bridge) (sym h.2) ∙ h.1.on_bridge))
        go true e false f r g = inr (λ c h. true≢false (sym h.1.is_part ∙ ap (λ (y : Key). y.is_part) h.2 ∙ f))
        go true e true f true g = inr (λ c h. true≢false (sym g ∙ ap (λ (y : Key). y.is_restricted) (sym h.2) ∙ h.1.is_free))
        go true e true f false g = gives_from q there f g ((bytes_decides q.bridge n).0 e) (o.designated q.lan) (is.designated q.lan)

    -- there are claims for the bridge's own vector and for what its ports give
    pub some_bridge_claims : (claims : List (Claim V)) × Hold claims (Gives m t o.vector n b)
    some_bridge_claims = (own ∷ all.0, record { have = have; all = back })
      where
        own : Claim V
        own = record { port = None; vector = m.bridge_vector b }

        all : (claims : List (Claim V)) × Collects GivesAlong t.ports claims
        all = collected GivesAlong t.ports (all_weaker (HasPort t) (λ q. OneOrNone (GivesAlong q)) gives_one t.ports (all_there t.ports))

        have : (c : Claim V) → Contains (own ∷ all.0) c → Gives m t o.vector n b c.port c.vector
        have c there = elim (first_or_later own c all.0 there) [
          | inl e ↦ subst (λ (d : Claim V). Gives m t o.vector n b d.port d.vector) e refl
          | inr l ↦ let r = all.1.from c l in subst (λ (k : Option PortName). Gives m t o.vector n b k c.vector) (sym r.2.0) (r.2.1, ap (λ (y : Key). y.number) r.2.2)
        ]

        back : (k : Option PortName) (x : V) → Gives m t o.vector n b k x → Contains (own ∷ all.0) (record { port = k; vector = x })
        back None x h = subst (λ (y : V). Contains (own ∷ all.0) (record { port = None; vector = y })) (sym h) (there_first own all.0)
        back (Some k) x h = there_later (claim k x) own all.0 (all.1.all h.0.port (claim k x) h.0.has_port (ap Some (sym h.1), h.0, refl))

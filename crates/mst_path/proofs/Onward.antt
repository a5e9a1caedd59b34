-- By which ports frames go on.
use Rattle.std.proofs.Common.{◌≡◌, ◌≢◌, ◌⊎◌, inl, inr, ℕ, ◌+◌, ◌<◌, ◌≤◌, List, length, get_or, set, refl, sym, ap, ◌∙◌, subst, arith}
use Rattle.mst_graph.proofs.Cut.{same_or_not}
use Rattle.mst_path.specs.Places.{AreNodes, AreApart, LeadsOn, IsFirstOff, IsBefore, AreFirstOff, AreFirstOn, StaysBeside}
use Rattle.mst_path.proofs.Chosen.{AreChosen, IsOneOf, kept, taken}

module _ (bridges lans depths : List ℕ) where
  -- a port leads off its logical LAN, or on to it
  abbrev pub GoesOff : ℕ → Type 0
  GoesOff p = get_or depths (get_or bridges p 0) 0 + 1 ≡ get_or depths (get_or lans p 0) 0

  abbrev pub GoesOn : ℕ → Type 0
  GoesOn p = get_or depths (get_or lans p 0) 0 + 1 ≡ get_or depths (get_or bridges p 0) 0

  abbrev pub AreOff : List ℕ → List ℕ → ℕ → Type 0
  AreOff old ups up_to = AreChosen lans GoesOff (λ up p. up ≤ p) old ups up_to

  -- where a port leaves a bridge is where it arrives first by what is known of logical LANs
  abbrev pub AreOn : List ℕ → List ℕ → ℕ → Type 0
  AreOn old ups up_to = AreChosen bridges GoesOn (IsBefore bridges lans old) old ups up_to

  module _ (nodes : AreNodes bridges lans (length depths)) (apart : AreApart bridges lans) where
    lan_below : (p : ℕ) → p < length bridges → p < length lans
    lan_below p h = subst (λ k. p < k) (sym nodes.as_long) h

    -- what leads on from a logical LAN's node, or from a bridge's
    pub record LeadsOff (x p : ℕ) : Type 0 where
      pub own_node : get_or lans p 0 ≡ x
      pub goes : GoesOff p
      pub reached : 0 < get_or depths (get_or bridges p 0) 0

    pub leads_off : (q p : ℕ) → q < length bridges → LeadsOn bridges lans depths (get_or lans q 0) p → LeadsOff (get_or lans q 0) p
    leads_off q p h l = elim l.joins [
      | inl j ↦ absurd (apart p q l.below h j.0)
      | inr j ↦ record {
        own_node = j.0;
        goes = ap (λ n. get_or depths n 0 + 1) j.1 ∙ l.less ∙ ap (λ n. get_or depths n 0) (sym j.0);
        reached = subst (λ n. 0 < get_or depths n 0) (sym j.1) l.reached;
      }
    ]

    pub record LeadsOnto (x p : ℕ) : Type 0 where
      pub own_node : get_or bridges p 0 ≡ x
      pub goes : GoesOn p
      pub reached : 0 < get_or depths (get_or lans p 0) 0

    pub leads_onto : (q p : ℕ) → q < length bridges → LeadsOn bridges lans depths (get_or bridges q 0) p → LeadsOnto (get_or bridges q 0) p
    leads_onto q p h l = elim l.joins [
      | inl j ↦ record {
        own_node = j.0;
        goes = ap (λ n. get_or depths n 0 + 1) j.1 ∙ l.less ∙ ap (λ n. get_or depths n 0) (sym j.0);
        reached = subst (λ n. 0 < get_or depths n 0) (sym j.1) l.reached;
      }
      | inr j ↦ absurd (apart q p h l.below (sym j.0))
    ]

    -- ---- off logical LANs
    pub off_kept : (old ups : List ℕ) (n : ℕ) → n < length bridges → AreOff old ups n → get_or ups (get_or lans n 0) 0 ≤ n → AreOff old ups (n + 1)
    off_kept old ups n h are low = kept lans GoesOff (λ up p. up ≤ p) old ups n are (let a = lan_below n h in omega arith) low

    pub off_taken : (old ups : List ℕ) (n : ℕ) → n < length bridges → length ups ≡ length depths → AreOff old ups n → GoesOff n → n < get_or ups (get_or lans n 0) 0 → AreOff old (set ups (get_or lans n 0) n) (n + 1)
    off_taken old ups n h long are goes low = taken lans GoesOff (λ up p. up ≤ p) old ups n are (lan_below n h) (subst (λ k. get_or lans n 0 < k) (sym long) (nodes.lans_below n h)) goes (omega arith)
        (λ p l may e. let a = (are.first p l may).1 in let b : get_or ups (get_or lans p 0) 0 ≡ get_or ups (get_or lans n 0) 0 = ap (λ x. get_or ups x 0) e in absurd (omega arith))

    pub off_first : (old ups : List ℕ) → ((p : ℕ) → p < length bridges → get_or old (get_or lans p 0) 0 ≡ length bridges) → AreOff old ups (length bridges) → AreFirstOff bridges lans depths ups
    off_first old ups none are = λ q lead.
        let x : ℕ = get_or lans q 0 in
        let to = leads_off q q lead.below lead in
        let low = are.first q lead.below to.goes in
        let long = nodes.as_long in
        record {
          leads = elim (are.chosen (get_or lans q 0)) [
            | inl e ↦ (let a = none q lead.below in let b = low.0 in absurd (omega arith))
            | inr c ↦ record {
              below = c.below;
              next = get_or bridges (get_or ups x 0) 0;
              joins = inr (c.own_node, refl);
              reached = let a = c.goes in let b : get_or depths (get_or lans (get_or ups x 0) 0) 0 ≡ get_or depths x 0 = ap (λ n. get_or depths n 0) c.own_node in let d = to.goes in let e = to.reached in omega arith;
              less = c.goes ∙ ap (λ n. get_or depths n 0) c.own_node;
            }
          ];
          first = λ p l. (let other = leads_off q p lead.below l in subst (λ n. get_or ups n 0 ≤ p) other.own_node (are.first p l.below other.goes).1);
        }

    -- ---- on to logical LANs
    module _ (old ups : List ℕ) (n : ℕ) (below : n < length bridges) (are : AreOn old ups n) where
      abbrev key : ℕ → ℕ
      key p = get_or old (get_or lans p 0) 0

      -- what is known of logical LANs stays
      pub same_key : (p : ℕ) → p < length bridges → get_or ups (get_or lans p 0) 0 ≡ get_or old (get_or lans p 0) 0
      same_key p h = are.others (get_or lans p 0) (λ q k. apart q p k h)

      pub on_kept : ((p : ℕ) → p < length bridges → get_or old (get_or bridges p 0) 0 ≡ length bridges) → get_or ups (get_or bridges n 0) 0 < length bridges
          → get_or ups (get_or lans (get_or ups (get_or bridges n 0) 0) 0) 0 ≤ get_or ups (get_or lans n 0) 0 → AreOn old ups (n + 1)
      on_kept none inside low = kept bridges GoesOn (IsBefore bridges lans old) old ups n are inside (go (same_or_not (key (get_or ups (get_or bridges n 0) 0)) (key n)) (are.chosen (get_or bridges n 0)))
        where
          so : key (get_or ups (get_or bridges n 0) 0) ≤ key n
          so = let a = same_key (get_or ups (get_or bridges n 0) 0) inside in let b = same_key n below in omega arith

          go : (key (get_or ups (get_or bridges n 0) 0) ≡ key n) ⊎ (key (get_or ups (get_or bridges n 0) 0) ≢ key n) → (get_or ups (get_or bridges n 0) 0 ≡ get_or old (get_or bridges n 0) 0) ⊎ IsOneOf bridges GoesOn (IsBefore bridges lans old) old n (get_or bridges n 0) (get_or ups (get_or bridges n 0) 0)
              → IsBefore bridges lans old (get_or ups (get_or bridges n 0) 0) n
          go (inl e) (inl k) = let a = none n below in absurd (omega arith)
          go (inl e) (inr k) = inr (e, let a = k.below in omega arith)
          go (inr d) k = inl (let a = so in omega arith)

      pub on_taken : length ups ≡ length depths → GoesOn n → (length lans ≤ get_or ups (get_or bridges n 0) 0) ⊎ (get_or ups (get_or lans n 0) 0 < get_or ups (get_or lans (get_or ups (get_or bridges n 0) 0) 0) 0)
          → AreOn old (set ups (get_or bridges n 0) n) (n + 1)
      on_taken long goes low = taken bridges GoesOn (IsBefore bridges lans old) old ups n are below (subst (λ k. get_or bridges n 0 < k) (sym long) (nodes.bridges_below n below)) goes (inr (refl, omega arith)) better
        where
          less : (p : ℕ) → get_or ups (get_or bridges n 0) 0 < length bridges → IsBefore bridges lans old (get_or ups (get_or bridges n 0) 0) p → key n < key p
          less p inside before =
              let a : get_or ups (get_or lans n 0) 0 < get_or ups (get_or lans (get_or ups (get_or bridges n 0) 0) 0) 0 = elim low [ inl k ↦ (let long = nodes.as_long in absurd (omega arith)) | inr k ↦ k ] in
              let b = same_key (get_or ups (get_or bridges n 0) 0) inside in
              let c = same_key n below in
              elim before [ inl k ↦ omega arith | inr k ↦ (let d = k.0 in omega arith) ]

          better : (p : ℕ) → p < n → GoesOn p → get_or bridges p 0 ≡ get_or bridges n 0 → IsBefore bridges lans old n p
          better p l may e =
              let f = subst (λ x. (get_or ups x 0 < length bridges) × IsBefore bridges lans old (get_or ups x 0) p) e (are.first p l may) in
              inl (less p f.0 f.1)

    pub on_first : (old ups : List ℕ) → ((p : ℕ) → p < length bridges → get_or old (get_or bridges p 0) 0 ≡ length bridges) → AreOn old ups (length bridges) → AreFirstOn bridges lans depths ups
    on_first old ups none are = λ q lead.
        let x : ℕ = get_or bridges q 0 in
        let to = leads_onto q q lead.below lead in
        let low = are.first q lead.below to.goes in
        let same : (p : ℕ) → p < length bridges → get_or ups (get_or lans p 0) 0 ≡ get_or old (get_or lans p 0) 0 = λ p h. are.others (get_or lans p 0) (λ k l. apart k p l h) in
        record {
          leads = elim (are.chosen (get_or bridges q 0)) [
            | inl e ↦ (let a = none q lead.below in let b = low.0 in absurd (omega arith))
            | inr c ↦ record {
              below = c.below;
              next = get_or lans (get_or ups x 0) 0;
              joins = inl (c.own_node, refl);
              reached = let a = c.goes in let b : get_or depths (get_or bridges (get_or ups x 0) 0) 0 ≡ get_or depths x 0 = ap (λ n. get_or depths n 0) c.own_node in let d = to.goes in let e = to.reached in omega arith;
              less = c.goes ∙ ap (λ n. get_or depths n 0) c.own_node;
            }
          ];
          first = λ p l.
              let other = leads_onto q p lead.below l in
              let f = subst (λ n. (get_or ups n 0 < length bridges) × IsBefore bridges lans old (get_or ups n 0) p) other.own_node (are.first p l.below other.goes) in
              elim f.1 [
                | inl k ↦ inl (let a = same (get_or ups x 0) f.0 in let b = same p l.below in omega arith)
                | inr k ↦ inr (same (get_or ups x 0) f.0 ∙ k.0 ∙ sym (same p l.below), k.1)
              ];
        }

    -- what is known of logical LANs holds of a list that differs at bridges alone
    pub off_still : (old ups : List ℕ) → StaysBeside bridges old ups → AreFirstOff bridges lans depths old → AreFirstOff bridges lans depths ups
    off_still old ups others off = λ q lead. subst (IsFirstOff bridges lans depths (get_or lans q 0)) (sym (others (get_or lans q 0) (λ k l. apart k q l lead.below))) (off q lead)

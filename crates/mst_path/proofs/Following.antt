-- The hops that are read off: each by the ports that lead on. They are a path, and the first one.
use Rattle.std.proofs.Common.{◌≡◌, ◌≢◌, ◌⊎◌, inl, inr, ℕ, ◌+◌, ◌*◌, ◌<◌, ◌≤◌, List, [], ◌∷◌, ◌++◌, length, get_or, refl, sym, ap, ◌∙◌, subst, arith, Less, Equal, Greater}
use Rattle.std.specs.List.{Contains}
use Rattle.std.specs.Ordering.{nat_cmp, ordering_then, MatchOrdering}
use Rattle.std.specs.declared.cmp.Ordering.{Ordering}
use Rattle.std.specs.Cmp.Lexicographic.{slice_cmp}
use Rattle.std.proofs.lemmas.Cmp.{ranked}
use Rattle.std.proofs.lemmas.List.{get_or_read}
use Rattle.mst_graph.specs.Groups.{StandOnce}
use Rattle.mst_graph.proofs.Cut.{same_or_not}
use Rattle.mst_graph.proofs.Members.{cases, in_none}
use Rattle.mst_path.specs.Places.{AreApart, LeadsOn, IsTree, IsFirstOff, IsBefore, IsFirstOn, AreWaysOn, IsBridgeNode, IsPlaceHop, IsPlaceWay, end_nodes, lan_nodes, place_hop_cmp, IsFirstPlacePath}
use Rattle.mst_path.specs.declared.hop.PlaceHop.{PlaceHop}
use Rattle.mst_path.proofs.Searched.{reached_below}

module _ (bridges lans depths ups : List ℕ) (root : ℕ) where
  abbrev depth : ℕ → ℕ
  depth x = get_or depths x 0

  abbrev up : ℕ → ℕ
  up x = get_or ups x 0

  -- the hops from a node to another, by the ports that lead on
  abbrev pub IsFollowed : ℕ → ℕ → List PlaceHop → Type 0
  IsFollowed x y [] = x ≡ y
  IsFollowed x y (h ∷ hops) = (h.leaving ≡ get_or ups x 0) × (h.arriving ≡ get_or ups (get_or lans h.leaving 0) 0) × (x ≢ root) × IsFollowed (get_or bridges h.arriving 0) y hops

  pub followed_on : (hops : List PlaceHop) (x y : ℕ) (h : PlaceHop) → IsFollowed x y hops → h.leaving ≡ get_or ups y 0 → h.arriving ≡ get_or ups (get_or lans h.leaving 0) 0 → y ≢ root → IsFollowed x (get_or bridges h.arriving 0) (hops ++ h ∷ [])
  followed_on [] x y h w e f n = (subst (λ z. h.leaving ≡ get_or ups z 0) (sym w) e, f, subst (λ z. z ≢ root) (sym w) n, refl)
  followed_on (k ∷ hops) x y h w e f n = (w.0, w.1, w.2, followed_on hops (get_or bridges k.arriving 0) y h w.3 e f n)

  module _ (apart : AreApart bridges lans) (tree : IsTree bridges lans root depths) (ways : AreWaysOn bridges lans depths ups) (root_on : IsBridgeNode bridges lans root) where
    -- a bridge that is reached, below the root, and a logical LAN that is
    first_on : (x : ℕ) → IsBridgeNode bridges lans x → 0 < get_or depths x 0 → x ≢ root → IsFirstOn bridges lans depths ups x (get_or ups x 0)
    first_on x on reached n = elim (tree.leads x reached) [
      | inl e ↦ absurd (n e)
      | inr l ↦ elim l.1.joins [
        | inl j ↦ subst (λ z. IsFirstOn bridges lans depths ups z (get_or ups z 0)) j.0 (ways.on l.0 (subst (λ z. LeadsOn bridges lans depths z l.0) (sym j.0) l.1))
        | inr j ↦ absurd (apart on.0 l.0 on.1 l.1.below (on.2 ∙ sym j.0))
      ]
    ]

    first_off : (p : ℕ) → p < length bridges → 0 < get_or depths (get_or lans p 0) 0 → IsFirstOff bridges lans depths (get_or lans p 0) (get_or ups (get_or lans p 0) 0)
    first_off p h reached = elim (tree.leads (get_or lans p 0) reached) [
      | inl e ↦ absurd (apart root_on.0 p root_on.1 h (root_on.2 ∙ sym e))
      | inr l ↦ elim l.1.joins [
        | inl j ↦ absurd (apart l.0 p l.1.below h j.0)
        | inr j ↦ subst (λ z. IsFirstOff bridges lans depths z (get_or ups z 0)) j.0 (ways.off l.0 (subst (λ z. LeadsOn bridges lans depths z l.0) (sym j.0) l.1))
      ]
    ]

    -- the hop from a bridge: over a logical LAN that lies one less deep, to a bridge that lies two less deep
    pub record IsLeading (x leaving arriving : ℕ) : Type 0 where
      pub leaving_below : leaving < length bridges
      pub arriving_below : arriving < length bridges
      pub from : get_or bridges leaving 0 ≡ x
      pub one_lan : get_or lans leaving 0 ≡ get_or lans arriving 0
      pub lan_less : get_or depths (get_or lans leaving 0) 0 + 1 ≡ get_or depths x 0
      pub less : get_or depths (get_or bridges arriving 0) 0 + 1 ≡ get_or depths (get_or lans leaving 0) 0
      pub reached : 0 < get_or depths (get_or bridges arriving 0) 0

    pub leading : (x : ℕ) → IsBridgeNode bridges lans x → 0 < get_or depths x 0 → x ≢ root → IsLeading x (get_or ups x 0) (get_or ups (get_or lans (get_or ups x 0) 0) 0)
    leading x on reached n = elim l.joins [
      | inl j ↦ second j (first_off (get_or ups x 0) l.below (subst (λ z. 0 < get_or depths z 0) (sym j.1) l.reached))
      | inr j ↦ absurd (apart on.0 (get_or ups x 0) on.1 l.below (on.2 ∙ sym j.0))
    ]
      where
        l : LeadsOn bridges lans depths x (get_or ups x 0)
        l = (first_on x on reached n).leads

        second : (get_or bridges (get_or ups x 0) 0 ≡ x) × (get_or lans (get_or ups x 0) 0 ≡ l.next) → IsFirstOff bridges lans depths (get_or lans (get_or ups x 0) 0) (get_or ups (get_or lans (get_or ups x 0) 0) 0)
            → IsLeading x (get_or ups x 0) (get_or ups (get_or lans (get_or ups x 0) 0) 0)
        second j off = elim off.leads.joins [
          | inl k ↦ absurd (apart (get_or ups (get_or lans (get_or ups x 0) 0) 0) (get_or ups x 0) off.leads.below l.below k.0)
          | inr k ↦ record {
            leaving_below = l.below;
            arriving_below = off.leads.below;
            from = j.0;
            one_lan = sym k.0;
            lan_less = ap (λ z. get_or depths z 0 + 1) j.1 ∙ l.less;
            less = ap (λ z. get_or depths z 0 + 1) k.1 ∙ off.leads.less;
            reached = subst (λ z. 0 < get_or depths z 0) (sym k.1) off.leads.reached;
          }
        ]

    -- as they are read from the list
    pub leading_read : length ups ≡ length depths → (x : ℕ) → IsBridgeNode bridges lans x → 0 < get_or depths x 0 → x ≢ root → (leaving arriving : ℕ) → leaving ≡ get_or ups x leaving → arriving ≡ get_or ups (get_or lans leaving 0) arriving
        → (leaving ≡ get_or ups x 0) × (arriving ≡ get_or ups (get_or lans leaving 0) 0) × IsLeading x leaving arriving
    leading_read long x on reached n leaving arriving e f =
        let below : (y : ℕ) → 0 < get_or depths y 0 → y < length ups = λ y h. subst (λ k. y < k) (sym long) (reached_below depths y h) in
        let leaving_is : leaving ≡ get_or ups x 0 = get_or_read ups x leaving (below x reached) e 0 in
        let first : IsLeading x leaving (get_or ups (get_or lans leaving 0) 0) = subst (λ n. IsLeading x n (get_or ups (get_or lans n 0) 0)) (sym leaving_is) (leading x on reached n) in
        let lan_reached : 0 < get_or depths (get_or lans leaving 0) 0 = (let a = first.less in omega arith) in
        let arriving_is : arriving ≡ get_or ups (get_or lans leaving 0) 0 = get_or_read ups (get_or lans leaving 0) arriving (below (get_or lans leaving 0) lan_reached) f 0 in
        (leaving_is, arriving_is, subst (IsLeading x leaving) (sym arriving_is) first)

    -- ---- a path
    of_hop : (x : ℕ) (h : PlaceHop) → IsBridgeNode bridges lans x → 0 < get_or depths x 0 → x ≢ root → h.leaving ≡ get_or ups x 0 → h.arriving ≡ get_or ups (get_or lans h.leaving 0) 0 → IsLeading x h.leaving h.arriving
    of_hop x h on reached n e f = subst (IsLeading x h.leaving) (sym f) (subst (λ n. IsLeading x n (get_or ups (get_or lans n 0) 0)) (sym e) (leading x on reached n))

    -- what follows from hops that are followed to the root
    pub record IsOn (x : ℕ) (hops : List PlaceHop) : Type 0 where
      pub way : IsPlaceWay bridges lans x root hops
      pub bridges_once : StandOnce (x ∷ end_nodes bridges lans hops)
      pub lans_once : StandOnce (lan_nodes bridges lans hops)
      pub ends_less : (y : ℕ) → Contains (end_nodes bridges lans hops) y → get_or depths y 0 < get_or depths x 0
      pub lans_less : (y : ℕ) → Contains (lan_nodes bridges lans hops) y → get_or depths y 0 < get_or depths x 0
      pub deep : get_or depths x 0 ≡ 2 * length hops + 1

    pub followed : (hops : List PlaceHop) (x : ℕ) → IsBridgeNode bridges lans x → 0 < get_or depths x 0 → IsFollowed x root hops → IsOn x hops
    followed [] x on reached f = record {
      way = f;
      bridges_once = (in_none x, tt);
      lans_once = tt;
      ends_less = λ y c. absurd (in_none y c);
      lans_less = λ y c. absurd (in_none y c);
      deep = let a = tree.first in let b : get_or depths x 0 ≡ get_or depths root 0 = ap (λ z. get_or depths z 0) f in omega arith;
    }
    followed (h ∷ hops) x on reached f =
        let l = of_hop x h on reached f.2 f.0 f.1 in
        let r = followed hops (get_or bridges h.arriving 0) (h.arriving, l.arriving_below, refl) l.reached f.3 in
        let lan_less = l.lan_less in
        let less = l.less in
        let ends : (y : ℕ) → Contains (get_or bridges h.arriving 0 ∷ end_nodes bridges lans hops) y → get_or depths y 0 < get_or depths x 0 =
        λ y c. elim (cases (get_or bridges h.arriving 0) y (end_nodes bridges lans hops) c) [
          | inl e ↦ subst (λ z. get_or depths z 0 < get_or depths x 0) e (omega arith)
          | inr k ↦ (let a = r.ends_less y k in omega arith)
        ] in
        record {
          way = (
            record {
              leaving = l.leaving_below;
              arriving = l.arriving_below;
              one_lan = l.one_lan;
              two_bridges = λ e. (let a : get_or depths (get_or bridges h.leaving 0) 0 ≡ get_or depths (get_or bridges h.arriving 0) 0 = ap (λ z. get_or depths z 0) e in
                  let b : get_or depths (get_or bridges h.leaving 0) 0 ≡ get_or depths x 0 = ap (λ z. get_or depths z 0) l.from in omega arith);
            },
            l.from,
            r.way,
          );
          bridges_once = (λ c. (let a = ends x c in omega arith), r.bridges_once);
          lans_once = (λ c. (let a = r.lans_less (get_or lans h.leaving 0) c in omega arith), r.lans_once);
          ends_less = ends;
          lans_less = λ y c. elim (cases (get_or lans h.leaving 0) y (lan_nodes bridges lans hops) c) [
            | inl e ↦ subst (λ z. get_or depths z 0 < get_or depths x 0) e (omega arith)
            | inr k ↦ (let a = r.lans_less y k in omega arith)
          ];
          deep = let a = r.deep in omega arith;
        }

    -- ---- the first one
    -- no way is shorter
    pub record IsAsDeep (x : ℕ) (hops : ℕ) : Type 0 where
      pub reached : 0 < get_or depths x 0
      pub deep : get_or depths x 0 ≤ 2 * hops + 1

    -- how deep lies what a hop comes over
    pub record IsNear (k : PlaceHop) : Type 0 where
      pub lan_reached : 0 < get_or depths (get_or lans k.leaving 0) 0
      pub lan_near : get_or depths (get_or lans k.leaving 0) 0 ≤ get_or depths (get_or bridges k.arriving 0) 0 + 1
      pub reached : 0 < get_or depths (get_or bridges k.leaving 0) 0
      pub near : get_or depths (get_or bridges k.leaving 0) 0 ≤ get_or depths (get_or lans k.leaving 0) 0 + 1

    pub near : (k : PlaceHop) → IsPlaceHop bridges lans k → 0 < get_or depths (get_or bridges k.arriving 0) 0 → IsNear k
    near k is reached =
        let a = tree.reaches (get_or bridges k.arriving 0) k.arriving (is.arriving, inl refl) reached (get_or lans k.arriving 0) (inl (refl, refl)) in
        let same : get_or depths (get_or lans k.leaving 0) 0 ≡ get_or depths (get_or lans k.arriving 0) 0 = ap (λ z. get_or depths z 0) is.one_lan in
        let lan_is : 0 < get_or depths (get_or lans k.leaving 0) 0 = subst (λ n. 0 < n) (sym same) a.0 in
        let b = tree.reaches (get_or lans k.leaving 0) k.leaving (is.leaving, inr refl) lan_is (get_or bridges k.leaving 0) (inr (refl, refl)) in
        record { lan_reached = lan_is; lan_near = let c = a.1 in omega arith; reached = b.0; near = b.1 }

    pub as_deep : (others : List PlaceHop) (x : ℕ) → IsPlaceWay bridges lans x root others → IsAsDeep x (length others)
    as_deep [] x w = let a = tree.first in let b : get_or depths x 0 ≡ get_or depths root 0 = ap (λ z. get_or depths z 0) w in record { reached = omega arith; deep = omega arith }
    as_deep (k ∷ others) x w =
        let r = as_deep others (get_or bridges k.arriving 0) w.2 in
        let n = near k w.0 r.reached in
        let a : get_or depths (get_or bridges k.leaving 0) 0 ≡ get_or depths x 0 = ap (λ z. get_or depths z 0) w.1 in
        let b = r.deep in
        let c = n.lan_near in
        let d = n.near in
        let e = n.reached in
        record { reached = omega arith; deep = omega arith }

    not_less : Less ≢ Greater
    not_less e = cc

    not_equal : Equal ≢ Greater
    not_equal e = cc

    less_is : (a b : ℕ) → a < b → nat_cmp a b ≡ Less
    less_is a b h = go (nat_cmp a b) (ranked a b (nat_cmp a b) refl)
      where
        go : (r : Ordering) → MatchOrdering r (a < b) (a ≡ b) (b < a) → r ≡ Less
        go Less k = refl
        go Equal k = absurd (omega arith)
        go Greater k = absurd (omega arith)

    equal_is : (a b : ℕ) → a ≡ b → nat_cmp a b ≡ Equal
    equal_is a b h = go (nat_cmp a b) (ranked a b (nat_cmp a b) refl)
      where
        go : (r : Ordering) → MatchOrdering r (a < b) (a ≡ b) (b < a) → r ≡ Equal
        go Less k = absurd (omega arith)
        go Equal k = refl
        go Greater k = absurd (omega arith)

    by_less : (r s : Ordering) → r ≡ Less → ordering_then r s ≢ Greater
    by_less r s e f = not_less (sym (ap (λ r. ordering_then r s) e) ∙ f)

    by_equal : (r s : Ordering) → r ≡ Equal → s ≢ Greater → ordering_then r s ≢ Greater
    by_equal r s e n f = n (sym (ap (λ r. ordering_then r s) e) ∙ f)

    -- where hops arrive before others, or at the same port and leave by one that isn't behind the other
    pub arrives_first : (h k : PlaceHop) (hs ks : List PlaceHop) → h.arriving < k.arriving → slice_cmp place_hop_cmp (h ∷ hs) (k ∷ ks) ≢ Greater
    arrives_first h k hs ks l = by_less (place_hop_cmp h k) (slice_cmp place_hop_cmp hs ks) (ap (λ r. ordering_then r (nat_cmp h.leaving k.leaving)) (less_is h.arriving k.arriving l))

    pub leaves_first : (h k : PlaceHop) (hs ks : List PlaceHop) → h.arriving ≡ k.arriving → h.leaving < k.leaving → slice_cmp place_hop_cmp (h ∷ hs) (k ∷ ks) ≢ Greater
    leaves_first h k hs ks e l = by_less (place_hop_cmp h k) (slice_cmp place_hop_cmp hs ks) (ap (λ r. ordering_then r (nat_cmp h.leaving k.leaving)) (equal_is h.arriving k.arriving e) ∙ less_is h.leaving k.leaving l)

    pub goes_on : (h k : PlaceHop) (hs ks : List PlaceHop) → h.arriving ≡ k.arriving → h.leaving ≡ k.leaving → slice_cmp place_hop_cmp hs ks ≢ Greater → slice_cmp place_hop_cmp (h ∷ hs) (k ∷ ks) ≢ Greater
    goes_on h k hs ks e l n = by_equal (place_hop_cmp h k) (slice_cmp place_hop_cmp hs ks) (ap (λ r. ordering_then r (nat_cmp h.leaving k.leaving)) (equal_is h.arriving k.arriving e) ∙ equal_is h.leaving k.leaving l) n

    -- what leads on from a bridge is the first of all that do, by where it arrives
    pub record IsUpto (h k : PlaceHop) : Type 0 where
      pub cases_are : (h.arriving < k.arriving) ⊎ ((h.arriving ≡ k.arriving) × (h.leaving ≤ k.leaving))

    pub upto : (x : ℕ) (h k : PlaceHop) → IsBridgeNode bridges lans x → 0 < get_or depths x 0 → x ≢ root → h.leaving ≡ get_or ups x 0 → h.arriving ≡ get_or ups (get_or lans h.leaving 0) 0 → IsPlaceHop bridges lans k → get_or bridges k.leaving 0 ≡ x
        → 0 < get_or depths (get_or bridges k.arriving 0) 0 → get_or depths (get_or bridges k.arriving 0) 0 + 2 ≡ get_or depths x 0 → IsUpto h k
    upto x h k on reached n e f is from k_reached two = go (same_or_not (get_or ups (get_or lans k.leaving 0) 0) k.arriving) before
      where
        m : IsNear k
        m = near k is k_reached

        from_depth : get_or depths (get_or bridges k.leaving 0) 0 ≡ get_or depths x 0
        from_depth = ap (λ z. get_or depths z 0) from

        lead : LeadsOn bridges lans depths x k.leaving
        lead = record {
          below = is.leaving;
          next = get_or lans k.leaving 0;
          joins = inl (from, refl);
          reached = m.lan_reached;
          less = let a = m.near in let b = m.lan_near in let c = from_depth in omega arith;
        }

        lead_off : LeadsOn bridges lans depths (get_or lans k.leaving 0) k.arriving
        lead_off = record {
          below = is.arriving;
          next = get_or bridges k.arriving 0;
          joins = inr (sym is.one_lan, refl);
          reached = k_reached;
          less = let a = m.near in let b = m.lan_near in let c = from_depth in omega arith;
        }

        low : get_or ups (get_or lans k.leaving 0) 0 ≤ k.arriving
        low = (first_off k.leaving is.leaving m.lan_reached).first k.arriving lead_off

        before : IsBefore bridges lans ups h.leaving k.leaving
        before = subst (λ n. IsBefore bridges lans ups n k.leaving) (sym e) ((first_on x on reached n).first k.leaving lead)

        go : (get_or ups (get_or lans k.leaving 0) 0 ≡ k.arriving) ⊎ (get_or ups (get_or lans k.leaving 0) 0 ≢ k.arriving) → IsBefore bridges lans ups h.leaving k.leaving → IsUpto h k
        go (inl same) (inl b) = record { cases_are = inl (omega arith) }
        go (inl same) (inr b) = record { cases_are = inr (f ∙ b.0 ∙ same, b.1) }
        go (inr d) (inl b) = record { cases_are = inl (let a = low in omega arith) }
        go (inr d) (inr b) = record { cases_are = inl (let a = low in let c = b.0 in omega arith) }

    pub first_of_all : (hops others : List PlaceHop) (x : ℕ) → IsBridgeNode bridges lans x → 0 < get_or depths x 0 → IsFollowed x root hops → IsPlaceWay bridges lans x root others → length hops ≡ length others → slice_cmp place_hop_cmp hops others ≢ Greater
    first_of_all [] [] x on reached f w long = not_equal
    first_of_all [] (k ∷ ks) x on reached f w long = absurd (omega arith)
    first_of_all (h ∷ hs) [] x on reached f w long = absurd (omega arith)
    first_of_all (h ∷ hs) (k ∷ ks) x on reached f w long = go (upto x h k on reached f.2 f.0 f.1 w.0 w.1 r.reached two).cases_are (same_or_not h.leaving k.leaving)
        (λ e. first_of_all hs ks (get_or bridges h.arriving 0) (h.arriving, l.arriving_below, refl) l.reached f.3 (subst (λ z. IsPlaceWay bridges lans (get_or bridges z 0) root ks) (sym e) w.2) (omega arith))
      where
        r : IsAsDeep (get_or bridges k.arriving 0) (length ks)
        r = as_deep ks (get_or bridges k.arriving 0) w.2

        l : IsLeading x h.leaving h.arriving
        l = of_hop x h on reached f.2 f.0 f.1

        rest : IsOn (get_or bridges h.arriving 0) hs
        rest = followed hs (get_or bridges h.arriving 0) (h.arriving, l.arriving_below, refl) l.reached f.3

        two : get_or depths (get_or bridges k.arriving 0) 0 + 2 ≡ get_or depths x 0
        two =
            let m = near k w.0 r.reached in
            let a = r.deep in
            let b = rest.deep in
            let c = l.less in
            let d = l.lan_less in
            let e : get_or depths (get_or bridges k.leaving 0) 0 ≡ get_or depths x 0 = ap (λ z. get_or depths z 0) w.1 in
            let g = m.near in
            let i = m.lan_near in
            omega arith

        go : (h.arriving < k.arriving) ⊎ ((h.arriving ≡ k.arriving) × (h.leaving ≤ k.leaving)) → (h.leaving ≡ k.leaving) ⊎ (h.leaving ≢ k.leaving) → (h.arriving ≡ k.arriving → slice_cmp place_hop_cmp hs ks ≢ Greater) → slice_cmp place_hop_cmp (h ∷ hs) (k ∷ ks) ≢ Greater
        go (inl a) same others = arrives_first h k hs ks a
        go (inr a) (inl same) others = goes_on h k hs ks a.0 same (others a.0)
        go (inr a) (inr d) others = leaves_first h k hs ks a.0 (let b = a.1 in omega arith)

    pub followed_first : (hops : List PlaceHop) (x : ℕ) → IsBridgeNode bridges lans x → 0 < get_or depths x 0 → IsFollowed x root hops → IsFirstPlacePath bridges lans x root hops
    followed_first hops x on reached f =
        let own = followed hops x on reached f in
        record {
          path = record { way = own.way; bridges_once = own.bridges_once; lans_once = own.lans_once };
          first = λ others p. elim (same_or_not (length hops) (length others)) [
            | inl e ↦ by_equal (nat_cmp (length hops) (length others)) (slice_cmp place_hop_cmp hops others) (equal_is (length hops) (length others) e) (first_of_all hops others x on reached f p.way e)
            | inr d ↦ by_less (nat_cmp (length hops) (length others)) (slice_cmp place_hop_cmp hops others) (less_is (length hops) (length others)
                (let a = own.deep in let b = (as_deep others x p.way).deep in omega arith))
          ];
        }

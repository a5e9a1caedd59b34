-- Over some ports there is a first path or there is none.
use Rattle.std.proofs.Common.{◌≡◌, ◌≢◌, ◌⊎◌, inl, inr, ℕ, zero, suc, ◌≤◌, List, [], ◌∷◌, length, map, Option, Some, None, refl, sym, ◌∙◌, subst, arith, Less, Equal, Greater}
use Rattle.std.specs.List.{Contains, flat_map}
use Rattle.std.specs.declared.cmp.Ordering.{Ordering}
use Rattle.std.specs.Cmp.{tied_itself}
use Rattle.std.proofs.lemmas.List.{length-map}
use Rattle.std.proofs.lemmas.List.Elements.{Contains-append_cases, Contains-append_left, Contains-append_right}
use Rattle.mst_graph.specs.Groups.{StandOnce}
use Rattle.mst_graph.proofs.Members.{cases, here, there, in_none, in_map, from_map}
use Rattle.mst_tables.specs.Tables.{Net}
use Rattle.mst_view.specs.View.{LogicalPort}
use Rattle.mst_vlan.specs.forest.Outcome.{Outcome}
use Rattle.mst_vlan.specs.Reach.{bridges_on}
use Rattle.mst_path.specs.Paths.{Hop, IsWay, IsPath, IsPathOver, IsPathOf, AreOn, ends_of, lans_of, path_cmp, carrying}
use Rattle.mst_path.proofs.Names.{name_cases, listed_or_not}
use Rattle.mst_path.proofs.Orders.{paths_total, turned, before_third, room_for}

module _ (ports : List LogicalPort) where
  -- both ports of a hop are of these
  pub record IsOf (h : Hop) : Type 0 where
    pub leaves : Contains ports h.leaving
    pub arrives : Contains ports h.arriving

  abbrev AreOf : List Hop → Type 0
  AreOf hops = (h : Hop) → Contains hops h → IsOf h

  -- all hops by two of these ports, and all lists of so many of them
  abbrev hops_by : LogicalPort → List Hop
  hops_by p = map (λ (q : LogicalPort). record { leaving = p; arriving = q }) ports

  among : (ps : List LogicalPort) (h : Hop) → Contains ps h.leaving → Contains ports h.arriving → Contains (flat_map hops_by ps) h
  among [] h c k = absurd (in_none h.leaving c)
  among (p ∷ ps) h c k = elim (cases p h.leaving ps c) [
    | inl e ↦ Contains-append_left (hops_by p) (flat_map hops_by ps) h
        (subst (λ (q : LogicalPort). Contains (hops_by q) h) (sym e) (in_map (λ (q : LogicalPort). record { leaving = h.leaving; arriving = q }) ports h.arriving k))
    | inr l ↦ Contains-append_right (hops_by p) (flat_map hops_by ps) h (among ps h l k)
  ]

  of_ports : (ps : List LogicalPort) → ((p : LogicalPort) → Contains ps p → Contains ports p) → (h : Hop) → Contains (flat_map hops_by ps) h → IsOf h
  of_ports [] own h c = absurd (in_none h c)
  of_ports (p ∷ ps) own h c = elim (Contains-append_cases (hops_by p) (flat_map hops_by ps) h c) [
    | inl k ↦ (let r = from_map (λ (q : LogicalPort). (let h : Hop = record { leaving = p; arriving = q } in h)) ports h k in subst IsOf r.2 (record { leaves = own p (here p ps); arrives = r.1 }))
    | inr k ↦ of_ports ps (λ q l. own q (there p q ps l)) h k
  ]

  abbrev begun : List (List Hop) → Hop → List (List Hop)
  begun lists h = map (λ (hops : List Hop). h ∷ hops) lists

  abbrev pub lists_of : ℕ → List (List Hop)
  lists_of zero = [] ∷ []
  lists_of (suc n) = [] ∷ flat_map (begun (lists_of n)) (flat_map hops_by ports)

  begun_there : (lists : List (List Hop)) (hs : List Hop) (h : Hop) (hops : List Hop) → Contains hs h → Contains lists hops → Contains (flat_map (begun lists) hs) (h ∷ hops)
  begun_there lists [] h hops c k = absurd (in_none h c)
  begun_there lists (g ∷ hs) h hops c k = elim (cases g h hs c) [
    | inl e ↦ Contains-append_left (begun lists g) (flat_map (begun lists) hs) (h ∷ hops) (subst (λ (g : Hop). Contains (begun lists g) (h ∷ hops)) (sym e) (in_map (λ (hops : List Hop). h ∷ hops) lists hops k))
    | inr l ↦ Contains-append_right (begun lists g) (flat_map (begun lists) hs) (h ∷ hops) (begun_there lists hs h hops l k)
  ]

  -- each list of so many is there
  pub all_there : (n : ℕ) (hops : List Hop) → length hops ≤ n → AreOf hops → Contains (lists_of n) hops
  all_there zero [] l own = here [] []
  all_there zero (h ∷ hops) l own = absurd (omega arith)
  all_there (suc n) [] l own = here [] (flat_map (begun (lists_of n)) (flat_map hops_by ports))
  all_there (suc n) (h ∷ hops) l own =
      let first = own h (here h hops) in
      there [] (h ∷ hops) (flat_map (begun (lists_of n)) (flat_map hops_by ports))
      (begun_there (lists_of n) (flat_map hops_by ports) h hops (among ports h first.leaves first.arrives) (all_there n hops (omega arith) (λ g c. own g (there h g hops c))))

  none_of : (hops : List Hop) → [] ≡ hops → AreOf hops
  none_of hops e = subst AreOf e (λ h c. absurd (in_none h c))

  one_of : (h : Hop) (hops : List Hop) → IsOf h → AreOf hops → AreOf (h ∷ hops)
  one_of h hops first rest = λ g c. elim (cases h g hops c) [ inl e ↦ subst IsOf e first | inr k ↦ rest g k ]

  begun_of : (lists : List (List Hop)) → ((hops : List Hop) → Contains lists hops → AreOf hops) → (hs : List Hop) → ((h : Hop) → Contains hs h → IsOf h) → (hops : List Hop) → Contains (flat_map (begun lists) hs) hops → AreOf hops
  begun_of lists own [] all hops c = absurd (in_none hops c)
  begun_of lists own (h ∷ hs) all hops c = elim (Contains-append_cases (begun lists h) (flat_map (begun lists) hs) hops c) [
    | inl k ↦ (let r = from_map (λ (hops : List Hop). h ∷ hops) lists hops k in subst AreOf r.2 (one_of h r.0 (all h (here h hs)) (own r.0 r.1)))
    | inr k ↦ begun_of lists own hs (λ g l. all g (there h g hs l)) hops k
  ]

  -- and each that is there is of these ports
  pub all_of : (n : ℕ) (hops : List Hop) → Contains (lists_of n) hops → AreOf hops
  all_of zero hops c = elim (cases [] hops [] c) [ inl e ↦ none_of hops e | inr k ↦ absurd (in_none hops k) ]
  all_of (suc n) hops c = elim (cases [] hops (flat_map (begun (lists_of n)) (flat_map hops_by ports)) c) [
    | inl e ↦ none_of hops e
    | inr k ↦ begun_of (lists_of n) (all_of n) (flat_map hops_by ports) (of_ports ports (λ p l. l)) hops k
  ]

  -- ---- such a list is a path or isn't
  way_or_not : (hops : List Hop) (a b : List ℕ) → AreOf hops → IsWay ports a b hops ⊎ (IsWay ports a b hops → ⊥)
  way_or_not [] a b own = name_cases a b
  way_or_not (h ∷ hops) a b own =
      go (name_cases h.leaving.lan h.arriving.lan) (name_cases h.leaving.name.bridge h.arriving.name.bridge) (name_cases h.leaving.name.bridge a) (way_or_not hops h.arriving.name.bridge b (λ g c. own g (there h g hops c)))
    where
      go : (h.leaving.lan ≡ h.arriving.lan) ⊎ (h.leaving.lan ≢ h.arriving.lan) → (h.leaving.name.bridge ≡ h.arriving.name.bridge) ⊎ (h.leaving.name.bridge ≢ h.arriving.name.bridge) → (h.leaving.name.bridge ≡ a) ⊎ (h.leaving.name.bridge ≢ a)
          → IsWay ports h.arriving.name.bridge b hops ⊎ (IsWay ports h.arriving.name.bridge b hops → ⊥) → IsWay ports a b (h ∷ hops) ⊎ (IsWay ports a b (h ∷ hops) → ⊥)
      go (inr n) two from rest = inr (λ w. n w.0.one_lan)
      go (inl e) (inl same) from rest = inr (λ w. w.0.two_bridges same)
      go (inl e) (inr two) (inr n) rest = inr (λ w. n w.1)
      go (inl e) (inr two) (inl from) (inr n) = inr (λ w. n w.2)
      go (inl e) (inr two) (inl from) (inl w) = (let first = own h (here h hops) in inl (record { leaves = first.leaves; arrives = first.arrives; one_lan = e; two_bridges = two }, from, w))

  once_or_not : (names : List (List ℕ)) → StandOnce names ⊎ (StandOnce names → ⊥)
  once_or_not [] = inl tt
  once_or_not (x ∷ names) = go (listed_or_not names x) (once_or_not names)
    where
      go : Contains names x ⊎ (Contains names x → ⊥) → StandOnce names ⊎ (StandOnce names → ⊥) → StandOnce (x ∷ names) ⊎ (StandOnce (x ∷ names) → ⊥)
      go (inl c) rest = inr (λ h. h.0 c)
      go (inr n) (inl h) = inl (n, h)
      go (inr n) (inr m) = inr (λ h. m h.1)

  module _ (a b : List ℕ) where
    path_or_not : (hops : List Hop) → AreOf hops → IsPath ports a b hops ⊎ (IsPath ports a b hops → ⊥)
    path_or_not hops own = go (way_or_not hops a b own) (once_or_not (a ∷ ends_of hops)) (once_or_not (lans_of hops))
      where
        go : IsWay ports a b hops ⊎ (IsWay ports a b hops → ⊥) → StandOnce (a ∷ ends_of hops) ⊎ (StandOnce (a ∷ ends_of hops) → ⊥) → StandOnce (lans_of hops) ⊎ (StandOnce (lans_of hops) → ⊥) → IsPath ports a b hops ⊎ (IsPath ports a b hops → ⊥)
        go (inr n) bridges lans = inr (λ p. n p.way)
        go (inl w) (inr n) lans = inr (λ p. n p.bridges_once)
        go (inl w) (inl once) (inr n) = inr (λ p. n p.lans_once)
        go (inl w) (inl once) (inl takes) = inl (record { way = w; bridges_once = once; lans_once = takes })

    -- the first path of some lists, or that there is none among them
    record IsFirstOf (lists : List (List Hop)) (hops : List Hop) : Type 0 where
      path : IsPath ports a b hops
      first : (others : List Hop) → Contains lists others → IsPath ports a b others → path_cmp hops others ≢ Greater

    abbrev HasNone : List (List Hop) → Type 0
    HasNone lists = (hops : List Hop) → Contains lists hops → IsPath ports a b hops → ⊥

    not_itself : (hops others : List Hop) → hops ≡ others → path_cmp hops others ≢ Greater
    not_itself hops others e = subst (λ o. path_cmp hops o ≢ Greater) e (λ g. equal_greater (sym (tied_itself paths_total hops) ∙ g))
      where
        equal_greater : Equal ≡ Greater → ⊥
        equal_greater e = cc

    -- with one list more
    better : (hops : List Hop) (lists : List (List Hop)) → IsPath ports a b hops → HasNone lists ⊎ ((others : List Hop) × IsFirstOf lists others) → (others : List Hop) × IsFirstOf (hops ∷ lists) others
    better hops lists p (inl none) = (hops, record { path = p; first = λ others c q. elim (cases hops others lists c) [ inl e ↦ not_itself hops others e | inr k ↦ absurd (none others k q) ] })
    better hops lists p (inr old) = go (path_cmp old.0 hops) refl
      where
        go : (r : Ordering) → path_cmp old.0 hops ≡ r → (others : List Hop) × IsFirstOf (hops ∷ lists) others
        go Greater e = (
          hops,
          record {
            path = p;
            first = λ others c q. elim (cases hops others lists c) [
              | inl s ↦ not_itself hops others s
              | inr k ↦ before_third path_cmp paths_total hops old.0 others (turned path_cmp paths_total old.0 hops e) (old.1.first others k q)
            ];
          },
        )
        go Less e = (old.0, record { path = old.1.path; first = λ others c q. elim (cases hops others lists c) [ inl s ↦ subst (λ o. path_cmp old.0 o ≢ Greater) s (λ g. less_greater (sym e ∙ g)) | inr k ↦ old.1.first others k q ] })
          where
            less_greater : Less ≡ Greater → ⊥
            less_greater e = cc
        go Equal e = (old.0, record { path = old.1.path; first = λ others c q. elim (cases hops others lists c) [ inl s ↦ subst (λ o. path_cmp old.0 o ≢ Greater) s (λ g. equal_greater (sym e ∙ g)) | inr k ↦ old.1.first others k q ] })
          where
            equal_greater : Equal ≡ Greater → ⊥
            equal_greater e = cc

    first_of : (lists : List (List Hop)) → ((hops : List Hop) → Contains lists hops → AreOf hops) → HasNone lists ⊎ ((hops : List Hop) × IsFirstOf lists hops)
    first_of [] own = inl (λ hops c. absurd (in_none hops c))
    first_of (hops ∷ lists) own = go (path_or_not hops (own hops (here hops lists))) (first_of lists (λ o c. own o (there hops o lists c)))
      where
        go : IsPath ports a b hops ⊎ (IsPath ports a b hops → ⊥) → HasNone lists ⊎ ((o : List Hop) × IsFirstOf lists o) → HasNone (hops ∷ lists) ⊎ ((o : List Hop) × IsFirstOf (hops ∷ lists) o)
        go (inl p) rest = inr (better hops lists p rest)
        go (inr n) (inl none) = inl (λ o c q. elim (cases hops o lists c) [ inl e ↦ n (subst (IsPath ports a b) (sym e) q) | inr k ↦ none o k q ])
        go (inr n) (inr old) = inr (old.0, record { path = old.1.path; first = λ o c q. elim (cases hops o lists c) [ inl e ↦ absurd (n (subst (IsPath ports a b) (sym e) q)) | inr k ↦ old.1.first o k q ] })

    -- a path is no longer than there are ports, since it takes no logical LAN twice
    pub own_hops : (hops : List Hop) (x : List ℕ) → IsWay ports x b hops → AreOf hops
    own_hops [] x w = λ h c. absurd (in_none h c)
    own_hops (h ∷ hops) x w = one_of h hops (record { leaves = w.0.leaves; arrives = w.0.arrives }) (own_hops hops h.arriving.name.bridge w.2)

    is_short : (hops : List Hop) → IsPath ports a b hops → length hops ≤ length ports
    is_short hops p =
        let lan : LogicalPort → List ℕ = λ q. q.lan in
        let room = room_for (lans_of hops) (map lan ports) p.lans_once (λ l c.
        (let r = from_map (λ (h : Hop). h.leaving.lan) hops l c in subst (λ l. Contains (map lan ports) l) r.2 (in_map lan ports r.0.leaving (own_hops hops a p.way r.0 r.1).leaves))) in
        let taken : length (lans_of hops) ≡ length hops = length-map hops (λ (h : Hop). h.leaving.lan) in
        let long : length (map lan ports) ≡ length ports = length-map ports lan in
        omega arith

    listed : (hops : List Hop) → IsPath ports a b hops → Contains (lists_of (length ports)) hops
    listed hops p = all_there (length ports) hops (is_short hops p) (own_hops hops a p.way)

    pub path_over : (path : Option (List Hop)) × IsPathOver ports a b path
    path_over = go (first_of (lists_of (length ports)) (all_of (length ports)))
      where
        go : HasNone (lists_of (length ports)) ⊎ ((hops : List Hop) × IsFirstOf (lists_of (length ports)) hops) → (path : Option (List Hop)) × IsPathOver ports a b path
        go (inl none) = (None, λ hops p. none hops (listed hops p) p)
        go (inr f) = (Some f.0, record { path = f.1.path; first = λ others p. f.1.first others (listed others p) p })

pub path_of : (net : Net) (o : Outcome) (vid : ℕ) (a b : List ℕ) → (path : Option (List Hop)) × IsPathOf net o vid a b path
path_of net o vid a b = go (listed_or_not (bridges_on net) a) (listed_or_not (bridges_on net) b) (path_over (carrying net o vid) a b)
  where
    over : AreOn net a b → (path : Option (List Hop)) → IsPathOver (carrying net o vid) a b path → IsPathOf net o vid a b path
    over on None is = λ _. is
    over on (Some hops) is = (on, is)

    go : Contains (bridges_on net) a ⊎ (Contains (bridges_on net) a → ⊥) → Contains (bridges_on net) b ⊎ (Contains (bridges_on net) b → ⊥) → (path : Option (List Hop)) × IsPathOver (carrying net o vid) a b path → (path : Option (List Hop)) × IsPathOf net o vid a b path
    go (inr n) second p = (None, λ on. absurd (n on.first))
    go (inl c) (inr n) p = (None, λ on. absurd (n on.second))
    go (inl c) (inl d) p = (p.0, over (record { first = c; second = d }) p.0 p.1)

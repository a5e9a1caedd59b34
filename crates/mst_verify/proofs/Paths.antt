-- Reasons of paths: there is one list of them, and there is one. Two bridges have a path exactly where one island has both.
use Rattle.std.proofs.Common.{◌≡◌, ◌≢◌, ◌↔◌, ◌⊎◌, inl, inr, ℕ, ◌<◌, ◌≤◌, ◌==◌, ◌&&◌, Bool, true, false, true≢false, is_some, eq-eqb, List, [], ◌∷◌, length, map, Option, Some, None, refl, sym, ap, ◌∙◌, subst, arith, Less, Equal, Greater}
use Rattle.std.specs.List.{Contains, flat_map}
use Rattle.std.specs.Option.{option_map}
use Rattle.std.specs.Ordering.{nat_cmp, MatchOrdering}
use Rattle.std.specs.declared.cmp.Ordering.{Ordering}
use Rattle.std.specs.Cmp.{IsTotalOrder, nat_cmp_total, tied_itself}
use Rattle.std.specs.Cmp.Lexicographic.{bytes_decides, lists_total, pointwise, pointwise_decides, slice_cmp}
use Rattle.std.specs.FinMap.{slice_cmp-IsAntisymmetric}
use Rattle.std.proofs.lemmas.Bool.{and_parts, eqb-true}
use Rattle.std.proofs.lemmas.Cmp.{ranked}
use Rattle.std.proofs.lemmas.List.Elements.{Contains-append_left, Contains-append_right}
use Rattle.mst_ids.specs.Names.{name_cmp}
use Rattle.mst_graph.proofs.Members.{cases, here, in_map, in_none, there}
use Rattle.mst_net.specs.tables.Tables.{Net}
use Rattle.mst_roles.specs.forest.Outcome.{Outcome}
use Rattle.mst_view.specs.Aggregation.{same_name}
use Rattle.mst_path.specs.Paths.{AreOn, Hop, IsPathOf, carrying}
use Rattle.mst_path.proofs.Apart.{one_first}
use Rattle.mst_path.proofs.First.{path_of}
use Rattle.mst_path.proofs.Joined.{path_by, walk_of}
use Rattle.mst_path.proofs.Orders.{before_third, level, turned}
use Rattle.mst_island_judges.specs.judged.reasons.Holds.{AreTogether}
use Rattle.mst_island_judges.specs.judged.reasons.Reasons.{AreHopsReasons, AreViaReasons, hops_reason, via_reason}
use Rattle.mst_island_judges.specs.judged.reasons.Stretches.{HasLongest, HasStretch, IsLongest, LieApart, Stretch, stretch_of}
use Rattle.mst_island_judges.specs.judged.reasons.declared.reason.Reason.{Reason}
use Rattle.mst_island_judges.proofs.judged_lemmas.OfVids.{one_of_vids, some_of_vids}
use Rattle.mst_island_judges.proofs.judged_lemmas.reasons_lemmas.Things.{true_both}
use Rattle.mst_verify.proofs.ReachLinked.{same_or_not}
use Rattle.mst_roles.proofs.forest_lemmas.Views.{name_is}

-- ---- a path and an island
module _ (net : Net) (o : Outcome) (vid : ℕ) (a b : List ℕ) where
  pub together_path : AreTogether net o vid a b → (path : List Hop) × IsPathOf net o vid a b (Some path)
  together_path t = go (path_of net o vid a b)
    where
      on : AreOn net a b
      on = record { first = t.first; second = t.second }

      go : (path : Option (List Hop)) × IsPathOf net o vid a b path → (path : List Hop) × IsPathOf net o vid a b (Some path)
      go (None, none) = let way = path_by (carrying net o vid) b a t.joined in absurd (none on way.0 way.1)
      go (Some path, is) = (path, is)

  pub path_together : (path : List Hop) → IsPathOf net o vid a b (Some path) → AreTogether net o vid a b
  path_together path is = record { first = is.0.first; second = is.0.second; joined = walk_of (carrying net o vid) b path a is.1.path.way }

-- ---- stretches that are the same
abbrev same_stretch : Stretch → Stretch → Bool
same_stretch s t = (s.hops == t.hops) && pointwise same_name s.bridges t.bridges

abbrev same_option : Option Stretch → Option Stretch → Bool
same_option None None = true
same_option (Some s) (Some t) = same_stretch s t
same_option _ _ = false

-- lists of names, by the test that is theirs
lists_decide : (xs ys : List (List ℕ)) → (pointwise same_name xs ys ≡ true) ↔ (xs ≡ ys)
lists_decide = pointwise_decides bytes_decides

stretches_decide : (s t : Option Stretch) → (same_option s t ≡ true) ↔ (s ≡ t)
stretches_decide None None = (λ e. refl, λ e. refl)
stretches_decide None (Some t) = (λ e. absurd (true≢false (sym e)), λ e. absurd (true≢false (ap is_some (sym e))))
stretches_decide (Some s) None = (λ e. absurd (true≢false (sym e)), λ e. absurd (true≢false (ap is_some e)))
stretches_decide (Some s) (Some t) = (
  λ e. let both = and_parts (s.hops == t.hops) (pointwise same_name s.bridges t.bridges) e in
      let hops : s.hops ≡ t.hops = eqb-true s.hops t.hops both.0 in
      let names : s.bridges ≡ t.bridges = (lists_decide s.bridges t.bridges).0 both.1 in
      λ i. Some (record { hops = hops i; bridges = names i }),
  λ e. let hops : s.hops ≡ t.hops = ap hops_of e in
      let names : s.bridges ≡ t.bridges = ap bridges_of e in
      true_both (s.hops == t.hops) (pointwise same_name s.bridges t.bridges) (eq-eqb s.hops t.hops hops) ((lists_decide s.bridges t.bridges).1 names),
)
  where
    hops_of : Option Stretch → ℕ
    hops_of None = 0
    hops_of (Some s) = s.hops

    bridges_of : Option Stretch → List (List ℕ)
    bridges_of None = []
    bridges_of (Some s) = s.bridges

equal_less : Equal ≡ Less → ⊥
equal_less e = cc

greater_less : Greater ≡ Less → ⊥
greater_less e = cc

names_total : IsTotalOrder name_cmp
names_total = lists_total nat_cmp_total

bridges_total : IsTotalOrder (slice_cmp name_cmp)
bridges_total = lists_total names_total

bridges_same : (xs ys : List (List ℕ)) → slice_cmp name_cmp xs ys ≢ Greater → slice_cmp name_cmp ys xs ≢ Greater → xs ≡ ys
bridges_same xs ys n m = slice_cmp-IsAntisymmetric name_is xs ys (level (slice_cmp name_cmp) bridges_total xs ys n m)

-- ---- one stretch of each VID
module _ (net : Net) (o : Outcome) where
  longest_most : (bridges : List (List ℕ)) (vid : ℕ) (s t : Stretch) → IsLongest net o bridges vid s → IsLongest net o bridges vid t → s.hops ≤ t.hops
  longest_most bridges vid s t x y = y.most x.from x.to s.hops x.lie

  longest_same : (bridges : List (List ℕ)) (vid : ℕ) (s t : Option Stretch) → HasLongest net o bridges vid s → HasLongest net o bridges vid t → s ≡ t
  longest_same bridges vid None None x y = refl
  longest_same bridges vid None (Some t) x y = absurd (x y.from y.to t.hops y.lie)
  longest_same bridges vid (Some s) None x y = absurd (y x.from x.to s.hops x.lie)
  longest_same bridges vid (Some s) (Some t) x y =
      let low = longest_most bridges vid s t x y in
      let high = longest_most bridges vid t s y x in
      let hops : s.hops ≡ t.hops = omega arith in
      let first : slice_cmp name_cmp s.bridges t.bridges ≢ Greater = subst (λ bs. slice_cmp name_cmp s.bridges bs ≢ Greater) (sym y.ends) (x.least y.from y.to (subst (LieApart net o bridges vid y.from y.to) (sym hops) y.lie)) in
      let second : slice_cmp name_cmp t.bridges s.bridges ≢ Greater = subst (λ bs. slice_cmp name_cmp t.bridges bs ≢ Greater) (sym x.ends) (y.least x.from x.to (subst (LieApart net o bridges vid x.from x.to) hops x.lie)) in
      let names : s.bridges ≡ t.bridges = bridges_same s.bridges t.bridges first second in
      λ i. Some (record { hops = hops i; bridges = names i })

  stretch_same : (a b : List ℕ) (vid : ℕ) (s t : Option Stretch) → HasStretch net o a b vid s → HasStretch net o a b vid t → s ≡ t
  stretch_same a b vid s t x y = x.are ∙ ap (option_map (stretch_of a)) (one_first net o vid a b x.path y.path x.is_path y.is_path) ∙ sym y.are

  pub one_hops : (vids : List Bool) (most : ℕ) (bridges : List (List ℕ)) (reasons others : List Reason) → AreHopsReasons net o vids most bridges reasons → AreHopsReasons net o vids most bridges others → reasons ≡ others
  one_hops vids most bridges reasons others x y = one_of_vids (HasLongest net o bridges) (longest_same bridges) (hops_reason most) vids reasons others x y

  pub one_via : (vids : List Bool) (a b c : List ℕ) (reasons others : List Reason) → AreViaReasons net o vids a b c reasons → AreViaReasons net o vids a b c others → reasons ≡ others
  one_via vids a b c reasons others x y = one_of_vids (HasStretch net o a b) (stretch_same a b) (via_reason c) vids reasons others x y

  -- ---- a stretch of each VID
  some_stretch : (a b : List ℕ) (vid : ℕ) → (s : Option Stretch) × HasStretch net o a b vid s
  some_stretch a b vid = let p = path_of net o vid a b in (option_map (stretch_of a) p.0, record { path = p.0; is_path = p.1; are = refl })

  -- the longest between the bridges of some pairs
  module _ (bridges : List (List ℕ)) (vid : ℕ) where
    abbrev Pair : Type 0
    Pair = List ℕ × List ℕ

    record IsBest (pairs : List Pair) (s : Stretch) : Type 0 where
      from : List ℕ
      to : List ℕ
      ends : s.bridges ≡ from ∷ to ∷ []
      lie : LieApart net o bridges vid from to s.hops
      most : (p : Pair) (hops : ℕ) → Contains pairs p → LieApart net o bridges vid p.0 p.1 hops → hops ≤ s.hops
      least : (p : Pair) → Contains pairs p → LieApart net o bridges vid p.0 p.1 s.hops → slice_cmp name_cmp s.bridges (p.0 ∷ p.1 ∷ []) ≢ Greater

    abbrev HasBest : List Pair → Option Stretch → Type 0
    HasBest pairs None = (p : Pair) (hops : ℕ) → Contains pairs p → LieApart net o bridges vid p.0 p.1 hops → ⊥
    HasBest pairs (Some s) = IsBest pairs s

    -- the hops of a pair, if it has a path
    lies : (p : Pair) → ((hops : ℕ) × LieApart net o bridges vid p.0 p.1 hops) ⊎ ((hops : ℕ) → LieApart net o bridges vid p.0 p.1 hops → ⊥)
    lies p = go (in_or_not bridges p.0) (in_or_not bridges p.1) (same_or_not p.0 p.1) (path_of net o vid p.0 p.1)
      where
        in_or_not : (xs : List (List ℕ)) (x : List ℕ) → Contains xs x ⊎ (Contains xs x → ⊥)
        in_or_not [] x = inr (in_none x)
        in_or_not (y ∷ xs) x = elim (same_or_not y x) [
          | inl e ↦ inl (subst (Contains (y ∷ xs)) e (here y xs))
          | inr n ↦ elim (in_or_not xs x) [ inl h ↦ inl (there y x xs h) | inr m ↦ inr (λ h. elim (cases y x xs h) [ inl e ↦ n e | inr k ↦ m k ]) ]
        ]

        go : Contains bridges p.0 ⊎ (Contains bridges p.0 → ⊥) → Contains bridges p.1 ⊎ (Contains bridges p.1 → ⊥) → (p.0 ≡ p.1) ⊎ (p.0 ≢ p.1) → (path : Option (List Hop)) × IsPathOf net o vid p.0 p.1 path
            → ((hops : ℕ) × LieApart net o bridges vid p.0 p.1 hops) ⊎ ((hops : ℕ) → LieApart net o bridges vid p.0 p.1 hops → ⊥)
        go (inr n) second two path = inr (λ hops l. n l.first)
        go (inl h) (inr n) two path = inr (λ hops l. n l.second)
        go (inl h) (inl k) (inl e) path = inr (λ hops l. l.two e)
        go (inl h) (inl k) (inr n) (None, none) = inr (λ hops l. none l.is_path.0 l.path l.is_path.1.path)
        go (inl h) (inl k) (inr n) (Some path, is) = inl (length path, record { first = h; second = k; two = n; path = path; is_path = is; as_many = refl })

    one_lies : (a b : List ℕ) (m n : ℕ) → LieApart net o bridges vid a b m → LieApart net o bridges vid a b n → m ≡ n
    one_lies a b m n x y =
        let same : Some x.path ≡ Some y.path = one_first net o vid a b (Some x.path) (Some y.path) x.is_path y.is_path in
        sym x.as_many ∙ some_length same ∙ y.as_many
      where
        length_of : Option (List Hop) → ℕ
        length_of None = 0
        length_of (Some path) = length path

        some_length : {p q : List Hop} → Some p ≡ Some q → length p ≡ length q
        some_length e = ap length_of e

    -- pair by pair: one without a path changes nothing, and one with a path is the best where it has more hops, or as many and comes first by names
    best : (pairs : List Pair) → (s : Option Stretch) × HasBest pairs s
    best [] = (None, λ p hops h l. in_none p h)
    best (p ∷ pairs) = go (lies p) (best pairs)
      where
        own : (hops : ℕ) → LieApart net o bridges vid p.0 p.1 hops → Stretch
        own hops l = record { hops = hops; bridges = p.0 ∷ p.1 ∷ [] }

        kept : (s : Stretch) → IsBest pairs s → ((hops : ℕ) → LieApart net o bridges vid p.0 p.1 hops → hops ≤ s.hops) → (LieApart net o bridges vid p.0 p.1 s.hops → slice_cmp name_cmp s.bridges (p.0 ∷ p.1 ∷ []) ≢ Greater) → IsBest (p ∷ pairs) s
        kept s x low first = record {
          from = x.from;
          to = x.to;
          ends = x.ends;
          lie = x.lie;
          most = λ q hops h l. elim (cases p q pairs h) [ inl e ↦ low hops (subst (λ (q : Pair). LieApart net o bridges vid q.0 q.1 hops) (sym e) l) | inr k ↦ x.most q hops k l ];
          least = λ q h l. elim (cases p q pairs h) [
            | inl e ↦ subst (λ (q : Pair). slice_cmp name_cmp s.bridges (q.0 ∷ q.1 ∷ []) ≢ Greater) e (first (subst (λ (q : Pair). LieApart net o bridges vid q.0 q.1 s.hops) (sym e) l))
            | inr k ↦ x.least q k l
          ];
        }

        taken : (hops : ℕ) (l : LieApart net o bridges vid p.0 p.1 hops) → ((q : Pair) (m : ℕ) → Contains pairs q → LieApart net o bridges vid q.0 q.1 m → m ≤ hops)
            → ((q : Pair) → Contains pairs q → LieApart net o bridges vid q.0 q.1 hops → slice_cmp name_cmp (p.0 ∷ p.1 ∷ []) (q.0 ∷ q.1 ∷ []) ≢ Greater) → IsBest (p ∷ pairs) (own hops l)
        taken hops l low first = record {
          from = p.0;
          to = p.1;
          ends = refl;
          lie = l;
          most = λ q m h k. elim (cases p q pairs h) [
            | inl e ↦ (let same = one_lies p.0 p.1 m hops (subst (λ (q : Pair). LieApart net o bridges vid q.0 q.1 m) (sym e) k) l in omega arith)
            | inr there_is ↦ low q m there_is k
          ];
          least = λ q h k. elim (cases p q pairs h) [
            | inl e ↦ subst (λ (q : Pair). slice_cmp name_cmp (p.0 ∷ p.1 ∷ []) (q.0 ∷ q.1 ∷ []) ≢ Greater) e (itself (p.0 ∷ p.1 ∷ []))
            | inr there_is ↦ first q there_is k
          ];
        }
          where
            equal_first : Equal ≢ Greater
            equal_first e = cc

            itself : (xs : List (List ℕ)) → slice_cmp name_cmp xs xs ≢ Greater
            itself xs e = equal_first (sym (tied_itself bridges_total xs) ∙ e)

        stays : (hops : ℕ) (l : LieApart net o bridges vid p.0 p.1 hops) (s : Stretch) (x : IsBest pairs s) → hops ≡ s.hops → slice_cmp name_cmp s.bridges (p.0 ∷ p.1 ∷ []) ≢ Greater → (s : Option Stretch) × HasBest (p ∷ pairs) s
        stays hops l s x e n = (Some s, kept s x (λ m k. let same = one_lies p.0 p.1 m hops k l in omega arith) (λ k. n))

        by_names : (hops : ℕ) (l : LieApart net o bridges vid p.0 p.1 hops) (s : Stretch) (x : IsBest pairs s) → hops ≡ s.hops → (r : Ordering) → slice_cmp name_cmp (p.0 ∷ p.1 ∷ []) s.bridges ≡ r → (s : Option Stretch) × HasBest (p ∷ pairs) s
        by_names hops l s x e Less f = (
          Some (own hops l),
          taken hops l (λ q m h k. let a = x.most q m h k in omega arith)
              (λ q h k. before_third (slice_cmp name_cmp) bridges_total (p.0 ∷ p.1 ∷ []) s.bridges (q.0 ∷ q.1 ∷ []) f (x.least q h (subst (LieApart net o bridges vid q.0 q.1) e k))),
        )
        by_names hops l s x e Equal f = stays hops l s x e (λ g. equal_less (sym f ∙ turned (slice_cmp name_cmp) bridges_total s.bridges (p.0 ∷ p.1 ∷ []) g))
        by_names hops l s x e Greater f = stays hops l s x e (λ g. greater_less (sym f ∙ turned (slice_cmp name_cmp) bridges_total s.bridges (p.0 ∷ p.1 ∷ []) g))

        by_hops : (hops : ℕ) (l : LieApart net o bridges vid p.0 p.1 hops) (s : Stretch) (x : IsBest pairs s) → (r : Ordering) → MatchOrdering r (hops < s.hops) (hops ≡ s.hops) (s.hops < hops) → (s : Option Stretch) × HasBest (p ∷ pairs) s
        by_hops hops l s x Less h = (Some s, kept s x (λ m k. let same = one_lies p.0 p.1 m hops k l in omega arith) (λ k. let same = one_lies p.0 p.1 s.hops hops k l in absurd (omega arith)))
        by_hops hops l s x Equal h = by_names hops l s x h (slice_cmp name_cmp (p.0 ∷ p.1 ∷ []) s.bridges) refl
        by_hops hops l s x Greater h = (Some (own hops l), taken hops l (λ q m k j. let a = x.most q m k j in omega arith) (λ q k j. let a = x.most q hops k j in absurd (omega arith)))

        go : ((hops : ℕ) × LieApart net o bridges vid p.0 p.1 hops) ⊎ ((hops : ℕ) → LieApart net o bridges vid p.0 p.1 hops → ⊥) → (s : Option Stretch) × HasBest pairs s → (s : Option Stretch) × HasBest (p ∷ pairs) s
        go (inr none) (None, x) = (None, λ q hops h l. elim (cases p q pairs h) [ inl e ↦ none hops (subst (λ (q : Pair). LieApart net o bridges vid q.0 q.1 hops) (sym e) l) | inr k ↦ x q hops k l ])
        go (inr none) (Some s, x) = (Some s, kept s x (λ hops l. absurd (none hops l)) (λ l. absurd (none s.hops l)))
        go (inl l) (None, x) = (Some (own l.0 l.1), taken l.0 l.1 (λ q m h k. absurd (x q m h k)) (λ q h k. absurd (x q l.0 h k)))
        go (inl l) (Some s, x) = by_hops l.0 l.1 s x (nat_cmp l.0 s.hops) (ranked l.0 s.hops (nat_cmp l.0 s.hops) refl)

    -- pairs of these bridges, by the first
    abbrev pair : List ℕ → List ℕ → Pair
    pair a b = (a, b)

    abbrev pairs_from : List ℕ → List Pair
    pairs_from a = map (pair a) bridges

    abbrev pairs_of : List (List ℕ) → List Pair
    pairs_of xs = flat_map pairs_from xs

    pair_there : (xs : List (List ℕ)) (a b : List ℕ) → Contains xs a → Contains bridges b → Contains (pairs_of xs) (pair a b)
    pair_there [] a b h k = absurd (in_none a h)
    pair_there (x ∷ xs) a b h k = elim (cases x a xs h) [
      | inl e ↦ Contains-append_left (pairs_from x) (pairs_of xs) (pair a b) (subst (λ y. Contains (pairs_from x) (pair y b)) e (in_map (pair x) bridges b k))
      | inr m ↦ Contains-append_right (pairs_from x) (pairs_of xs) (pair a b) (pair_there xs a b m k)
    ]

    some_longest : (s : Option Stretch) × HasLongest net o bridges vid s
    some_longest = go (best (pairs_of bridges))
      where
        go : (s : Option Stretch) × HasBest (pairs_of bridges) s → (s : Option Stretch) × HasLongest net o bridges vid s
        go (None, x) = (None, λ a b hops l. x (a, b) hops (pair_there bridges a b l.first l.second) l)
        go (Some s, x) = (
          Some s,
          record {
            from = x.from;
            to = x.to;
            ends = x.ends;
            lie = x.lie;
            most = λ a b hops l. x.most (a, b) hops (pair_there bridges a b l.first l.second) l;
            least = λ a b l. x.least (a, b) (pair_there bridges a b l.first l.second) l;
          },
        )

  -- stretches are told apart by a test
  decides : (s t : Option Stretch) → (same_option s t ≡ true) ↔ (s ≡ t)
  decides s t = stretches_decide s t

  pub some_hops : (vids : List Bool) (most : ℕ) (bridges : List (List ℕ)) → (reasons : List Reason) × AreHopsReasons net o vids most bridges reasons
  some_hops vids most bridges = some_of_vids same_option decides (HasLongest net o bridges) (hops_reason most) (some_longest bridges) vids

  pub some_via : (vids : List Bool) (a b c : List ℕ) → (reasons : List Reason) × AreViaReasons net o vids a b c reasons
  some_via vids a b c = some_of_vids same_option decides (HasStretch net o a b) (via_reason c) (some_stretch a b) vids

-- The first of all spans between bridges with ports is the longest path between them.
use Rattle.std.proofs.Common.{◌≡◌, ◌≢◌, ℕ, ◌<◌, ◌≤◌, List, [], ◌∷◌, length, map, Option, Some, None, is_some, refl, sym, ap, ◌∙◌, subst, true≢false, arith, Less, Equal, Greater}
use Rattle.std.specs.List.{Contains}
use Rattle.std.specs.Option.{option_map, unwrap_or}
use Rattle.std.specs.Ordering.{nat_cmp, ordering_then, MatchOrdering}
use Rattle.std.specs.declared.cmp.Ordering.{Ordering}
use Rattle.std.specs.Cmp.{nat_cmp_total, tied_itself}
use Rattle.std.specs.Cmp.Lexicographic.{slice_cmp}
use Rattle.std.proofs.lemmas.Cmp.{ranked}
use Rattle.mst_ids.specs.Names.{name_cmp}
use Rattle.mst_roles.specs.forest.Outcome.{Outcome}
use Rattle.mst_tables.specs.Tables.{Net}
use Rattle.mst_view.specs.View.{LogicalPort}
use Rattle.mst_view.specs.Viewed.{named_port}
use Rattle.mst_view.specs.declared.in_view.PortInView.{PortInView}
use Rattle.mst_judged.specs.reasons.Stretches.{HasLongest, LieApart}
use Rattle.mst_judged.specs.reasons.sweep.vlan.Reach.{bridges_on}
use Rattle.mst_path.specs.Paths.{AreOn, Hop, IsFirstPath, IsPathOf, IsPathOver, IsWay, carrying}
use Rattle.mst_path.specs.Places.{bridge_at}
use Rattle.mst_path.proofs.Named.{place_of}
use Rattle.mst_path.proofs.Ways.{last_end, met}
use Rattle.mst_graph.proofs.Members.{from_map}
use Rattle.mst_path_judges.specs.Longest.{ArePlacesOf, IsFoundSpan}
use Rattle.mst_path_judges.specs.Spans.{FirstSpan, span_cmp, span_told}
use Rattle.mst_path_judges.specs.declared.span.Span.{Span}

-- a way of hops ends at a bridge with a port
last_place : (ports : List PortInView) (b : List ℕ) (h : Hop) (hops : List Hop) (a : List ℕ) → IsWay (map named_port ports) a b (h ∷ hops) → (i : ℕ) × (i < length ports) × (bridge_at ports i ≡ b)
last_place ports b h hops a way =
    let r = from_map (λ (h : Hop). h.arriving.name.bridge) (h ∷ hops) b (last_end (map named_port ports) b h hops a way) in
    let x = place_of ports r.0.arriving (met (map named_port ports) b (h ∷ hops) a way r.0 r.1).hop.arrives in
    (x.place, x.below, sym x.names.bridge ∙ r.2)

-- ---- orders, one behind the other
then_first : (q r : Ordering) → ordering_then q r ≢ Greater → q ≢ Greater
then_first Less r n e = cc
then_first Equal r n e = cc
then_first Greater r n e = n refl

then_equal : (q : Ordering) → ordering_then q Equal ≡ q
then_equal Less = refl
then_equal Equal = refl
then_equal Greater = refl

-- the hops of a count that is one
counted_path : {A : Type 0} (path : Option (List A)) (hops : ℕ) → Some hops ≡ option_map length path → (p : List A) × (path ≡ Some p) × (length p ≡ hops)
counted_path None hops e = absurd (true≢false (ap is_some e))
counted_path (Some p) hops e = (p, refl, sym (ap (λ o. unwrap_or o 0) e))

module _ (net : Net) (o : Outcome) (vid : ℕ) (ports : List PortInView) (named : map named_port ports ≡ carrying net o vid) (bridges : List (List ℕ)) (places : List ℕ) (are : ArePlacesOf net ports bridges places) where
  abbrev Found : Span → Type 0
  Found = IsFoundSpan ports places places

  -- each span that is found lies between two of the bridges
  found_lies : (s : Span) → Found s → LieApart net o bridges vid s.from s.to s.hops
  found_lies s f =
      let a = are.each f.from f.begins in
      let b = are.each f.to f.ends in
      let p = counted_path f.hops.path s.hops f.hops.are in
      let first : IsPathOver (map named_port ports) s.from s.to (Some p.0) = subst (IsPathOver (map named_port ports) s.from s.to) p.1 f.hops.is_path in
      let on : AreOn net s.from s.to = record { first = subst (Contains (bridges_on net)) (sym f.first) a.on; second = subst (Contains (bridges_on net)) (sym f.second) b.on } in
      record {
        first = subst (Contains bridges) (sym f.first) a.own;
        second = subst (Contains bridges) (sym f.second) b.own;
        two = f.two;
        path = p.0;
        is_path = (on, subst (λ (ps : List LogicalPort). IsFirstPath ps s.from s.to p.0) named first);
        as_many = p.2;
      }

  -- and each two bridges with a path are a span that is found: its ends have ports
  lies_found : (a b : List ℕ) (hops : ℕ) → LieApart net o bridges vid a b hops → Found (record { hops = hops; from = a; to = b })
  lies_found a b hops l = go l.path l.is_path l.as_many
    where
      over : (path : List Hop) → IsPathOf net o vid a b (Some path) → IsFirstPath (map named_port ports) a b path
      over path is = subst (λ (ps : List LogicalPort). IsFirstPath ps a b path) (sym named) is.1

      go : (path : List Hop) → IsPathOf net o vid a b (Some path) → length path ≡ hops → Found (record { hops = hops; from = a; to = b })
      go [] is e = absurd (l.two is.1.path.way)
      go (h ∷ path) is e =
          let first = over (h ∷ path) is in
          let leaves = place_of ports h.leaving first.path.way.0.leaves in
          let from = are.all a l.first is.0.first leaves.place leaves.below (sym leaves.names.bridge ∙ first.path.way.1) in
          let arrives = last_place ports b h path a first.path.way in
          let to = are.all b l.second is.0.second arrives.0 arrives.1 arrives.2 in
          record {
            from = from.0;
            to = to.0;
            begins = from.1;
            ends = to.1;
            first = sym from.2;
            second = sym to.2;
            two = l.two;
            hops = record { path = Some (h ∷ path); is_path = first; are = ap Some (sym e) };
          }

  -- the order of spans is that of their stretches
  most_of : (m n : ℕ) (r : Ordering) → ordering_then (nat_cmp n m) r ≢ Greater → n ≤ m
  most_of m n r first = go (nat_cmp n m) (ranked n m (nat_cmp n m) refl) first
    where
      go : (q : Ordering) → MatchOrdering q (n < m) (n ≡ m) (m < n) → ordering_then q r ≢ Greater → n ≤ m
      go Less h f = omega arith
      go Equal h f = omega arith
      go Greater h f = absurd (f refl)

  by_names : (s : Span) (a b : List ℕ) → span_cmp s (record { hops = s.hops; from = a; to = b }) ≢ Greater → slice_cmp name_cmp (s.from ∷ s.to ∷ []) (a ∷ b ∷ []) ≢ Greater
  by_names s a b n =
      let level : nat_cmp s.hops s.hops ≡ Equal = tied_itself nat_cmp_total s.hops in
      subst (λ r. r ≢ Greater) (ap (λ q. ordering_then (ordering_then q (name_cmp s.from a)) (name_cmp s.to b)) level ∙ ap (ordering_then (name_cmp s.from a)) (sym (then_equal (name_cmp s.to b)))) n

  pub longest_of : (span : Option Span) → FirstSpan Found span → HasLongest net o bridges vid (option_map span_told span)
  longest_of None none = λ a b hops l. none (record { hops = hops; from = a; to = b }) (lies_found a b hops l)
  longest_of (Some s) first = record {
    from = s.from;
    to = s.to;
    ends = refl;
    lie = found_lies s first.0;
    most = λ a b hops l. most_of s.hops hops (name_cmp s.from a) (then_first (ordering_then (nat_cmp hops s.hops) (name_cmp s.from a)) (name_cmp s.to b) (first.1 (record { hops = hops; from = a; to = b }) (lies_found a b hops l)));
    least = λ a b l. by_names s a b (first.1 (record { hops = s.hops; from = a; to = b }) (lies_found a b s.hops l));
  }

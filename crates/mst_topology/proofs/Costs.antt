-- No settled cost exceeds the greatest cost of a port times the number of the other bridges.
use Rattle.std.proofs.Common.{◌≡◌, ℕ, suc, zero, ◌-◌, ◌*◌, ◌<◌, ◌≤◌, List, Option, Some, length, sym, ◌∙◌, ap, inl, inr, Less, arith}
use Rattle.std.specs.Ordering.{nat_cmp}
use Rattle.std.specs.Cmp.Lexicographic.{slice_cmp}
use Rattle.std.proofs.lemmas.Cmp.{nat_list_cmp_total}
use Rattle.mst_vector.specs.Rules.{Rules, IsMetric, leading_order}
use Rattle.mst_topology.specs.Topology.{Topology, IsTopology}
use Rattle.mst_topology.specs.Settled.{IsRootPathVector, Settled}
use Rattle.mst_topology.proofs.Rank.{Among, contains-among, rank, rank-rises, rank_length}
use Rattle.mst_topology.proofs.Unique.{leads, leads-among, leads_length}

module _ {N L K B P V : Type 0} (m : Rules B P V) (law : IsMetric m) (t : Topology N L K B P) (ok : IsTopology m t) (v : N → Option V) (s : Settled m t v) where
  abbrev ks : List (List ℕ)
  ks = leads m v t.bridges

  abbrev rank_of : V → ℕ
  rank_of x = rank (slice_cmp nat_cmp) ks (m.leading x)

  among : (n : N) (x : V) → v n ≡ Some x → Among (m.leading x) ks
  among n x e = let c = s.is_bridge n x e in leads-among m v t.bridges n c.0 x (contains-among t.bridges (n, c.0) c.1) e

  bounded : (r : ℕ) (n : N) (x : V) → v n ≡ Some x → rank_of x < r → m.cost x ≤ 200_000_000 * rank_of x
  bounded zero n x e l = absurd (omega arith)
  bounded (suc r) n x e l = go (bounded r)
    where
      go : ((k : N) (y : V) → v k ≡ Some y → rank_of y < r → m.cost y ≤ 200_000_000 * rank_of y) → m.cost x ≤ 200_000_000 * rank_of x
      go rest =
          let c = s.is_bridge n x e in
          elim (s.bridges n c.0 x c.1 e).can_take [
            | inl f ↦ (let own : m.cost x ≡ 0 = ap m.cost f ∙ law.starts c.0 in omega arith)
            | inr p ↦ step p rest
          ]
        where
          step : (p : IsRootPathVector m t v n (s.is_bridge n x e).0 x) → ((k : N) (y : V) → v k ≡ Some y → rank_of y < r → m.cost y ≤ 200_000_000 * rank_of y) → m.cost x ≤ 200_000_000 * rank_of x
          step p rest =
              let says = p.designates.says in
              let lead : m.leading p.message ≡ m.leading says.root = ap m.leading (sym says.is_designated) ∙ law.keeps says.root says.bridge p.from.settings in
              let cost : m.cost p.message ≡ m.cost says.root = ap m.cost (sym says.is_designated) ∙ law.carries says.root says.bridge p.from.settings in
              let rise : leading_order m p.message x ≡ Less = rw p.is_made at (law.increases p.message p.sender (s.is_bridge n x e).0 p.port.settings (ok.in_range p.port p.has_port)) in
              let lower : rank_of says.root < rank_of x = rank-rises nat_list_cmp_total ks (m.leading says.root) (m.leading x) (among p.from.bridge says.root says.is_root) (rw lead at rise) in
              let before = rest p.from.bridge says.root says.is_root (omega arith) in
              let adds = law.adds p.message p.sender (s.is_bridge n x e).0 p.port.settings (ok.in_range p.port p.has_port) in
              let value : m.cost (m.root_path_vector p.message p.sender (s.is_bridge n x e).0 p.port.settings) ≡ m.cost x = ap m.cost p.is_made in
              omega arith

  pub costs_bounded : (n : N) (x : V) → v n ≡ Some x → m.cost x ≤ 200_000_000 * (length t.bridges - 1)
  costs_bounded n x e =
      let b = bounded (suc (rank_of x)) n x e (omega arith) in
      let l = rank_length nat_list_cmp_total ks (m.leading x) (among n x e) in
      let k = leads_length m v t.bridges in
      omega arith

-- A network has an outcome.
use Rattle.std.proofs.Common.{◌≡◌, ◌≢◌, refl, sym, ◌∙◌, ap, subst, ℕ, suc, Option, Some, IsTrue}
use Rattle.mst_vector.specs.Cist.{cist_rules}
use Rattle.mst_vector.specs.CistLaws.{cist_lawful}
use Rattle.mst_vector.specs.Msti.{msti_rules}
use Rattle.mst_vector.specs.MstiLaws.{msti_lawful}
use Rattle.mst_vector.specs.declared.cist.CistVector.{CistVector}
use Rattle.mst_vector.specs.declared.cist.CistBridge.{CistBridge}
use Rattle.mst_vector.specs.declared.cist.CistPort.{CistPort}
use Rattle.mst_vector.specs.declared.msti.MstiVector.{MstiVector}
use Rattle.mst_vector.specs.declared.msti.MstiBridge.{MstiBridge}
use Rattle.mst_vector.specs.declared.msti.MstiPort.{MstiPort}
use Rattle.mst_topology.specs.Topology.{TreePort, Topology, IsTopology, HasBridge, HasPort, KeyTests}
use Rattle.mst_topology.proofs.Exists.{exists}
use Rattle.mst_nested.specs.Trees.{Trees, IsTree, IsSamePort, IsInternal, IsNested}
use Rattle.mst_nested.specs.Outcome.{MstiSettings, CanNest, IsOutcome}
use Rattle.mst_nested.proofs.Ports.{some_is}
use Rattle.mst_nested.proofs.OneOutcome.{internal_by_cist}
use Rattle.mst_nested.proofs.MstiOf.{alone, tree_port, msti_of, bridge_is, is_bridge, FromPort, port_is, is_port}

module _ {N L K : Type 0} (t : Topology N L K CistBridge CistPort) (tests : KeyTests N L) (ok : IsTopology cist_rules t) (ids : (p : TreePort N L K CistPort) → HasPort t p → p.settings.id ≢ 0) (s : MstiSettings N K) (can : CanNest t s) where
  abbrev vector : N → Option CistVector
  vector = (exists cist_rules cist_lawful t ok tests).0

  cist : IsTree cist_rules t vector
  cist = record { topology = ok; settled = (exists cist_rules cist_lawful t ok tests).1; port_ids = ids }

  abbrev msti : ℕ → Topology N L K MstiBridge MstiPort
  msti i = msti_of t tests vector cist (s.bridge i) (s.port i)

  abbrev from_port : (i : ℕ) (q : TreePort N L K MstiPort) → HasPort (msti i) q → FromPort t tests vector cist (s.bridge i) (s.port i) q
  from_port i q h = port_is t tests vector cist (s.bridge i) (s.port i) q h

  in_cist : (i : ℕ) (n : N) (x : MstiBridge) → HasBridge (msti i) n x → (c : CistBridge) × HasBridge t n c
  in_cist i n x h = let c = bridge_is t tests vector cist (s.bridge i) (s.port i) n x h in (c.0, c.1)

  settings_of : (i : ℕ) (n : N) (x : MstiBridge) → HasBridge (msti i) n x → s.bridge i n ≡ Some x
  settings_of i n x h = (bridge_is t tests vector cist (s.bridge i) (s.port i) n x h).2

  -- where a port of the MSTI comes from
  record Source (i : ℕ) (q : TreePort N L K MstiPort) : Type 0 where
    port : TreePort N L K CistPort
    has_port : HasPort t port
    is_internal : IsInternal (alone t tests vector cist) port
    same : IsSamePort q port
    settings : q.settings ≡ s.port i port.number
    restricted : q.is_restricted ≡ port.is_restricted

  abbrev source : (i : ℕ) (q : TreePort N L K MstiPort) → HasPort (msti i) q → Source i q
  source i q h =
      let f = from_port i q h in
      record {
        port = f.from;
        has_port = f.is_internal.is_enabled.0;
        is_internal = f.is_internal;
        same = record {
          number = sym (ap (λ (r : TreePort N L K MstiPort). r.number) f.is_port);
          bridge = sym (ap (λ (r : TreePort N L K MstiPort). r.bridge) f.is_port);
          lan = sym (ap (λ (r : TreePort N L K MstiPort). r.lan) f.is_port);
        };
        settings = sym (ap (λ (r : TreePort N L K MstiPort). r.settings) f.is_port);
        restricted = sym (ap (λ (r : TreePort N L K MstiPort). r.is_restricted) f.is_port);
      }

  -- ports from one port are one
  one_source : (i : ℕ) (q r : TreePort N L K MstiPort) → (f : FromPort t tests vector cist (s.bridge i) (s.port i) q) (g : FromPort t tests vector cist (s.bridge i) (s.port i) r) → f.from ≡ g.from → q ≡ r
  one_source i q r f g e = sym f.is_port ∙ (ap (tree_port t tests vector cist (s.bridge i) (s.port i)) e ∙ g.is_port)

  topology : (i : ℕ) → IsTopology msti_rules (msti i)
  topology i = record {
    one_bridge = λ n a b h k. some_is (sym (settings_of i n a h) ∙ settings_of i n b k);
    one_port = λ p q h k e. (let f = source i p h in let g = source i q k in one_source i p q (from_port i p h) (from_port i q k) (ok.one_port f.port g.port f.has_port g.has_port (sym f.same.number ∙ (e ∙ g.same.number))));
    has_bridge = λ q h o. (let f = from_port i q h in let b = ok.has_bridge f.from f.is_internal.is_enabled.0 f.is_internal.is_enabled.1 in (f.settings, subst (λ n. HasBridge (msti i) n f.settings) (ap (λ (r : TreePort N L K MstiPort). r.bridge) f.is_port) (is_bridge t tests vector cist (s.bridge i) (s.port i) f.from.bridge b.0 f.settings b.1 f.has_tree)));
    in_range = λ q h. (let f = source i q h in subst (λ (x : MstiPort). IsTrue (msti_rules.in_range x)) (sym f.settings) (can.in_range i f.port f.has_port));
    bridge_ids = λ n k a b h g e. can.bridge_ids i n k (in_cist i n a h).0 (in_cist i k b g).0 a b (in_cist i n a h).1 (in_cist i k b g).1 (settings_of i n a h) (settings_of i k b g) e;
    port_ids = λ p q h o k u e g. (let a = source i p h in let b = source i q k in one_source i p q (from_port i p h) (from_port i q k) (can.port_ids i a.port b.port a.has_port b.has_port (sym a.same.bridge ∙ (e ∙ b.same.bridge)) (ap (λ (x : MstiPort). x.id) (sym a.settings) ∙ (g ∙ ap (λ (x : MstiPort). x.id) b.settings))));
  }

  abbrev msti_vector : ℕ → N → Option MstiVector
  msti_vector i = (exists msti_rules msti_lawful (msti i) (topology i) tests).0

  msti_is : (i : ℕ) → IsTree msti_rules (msti i) (msti_vector i)
  msti_is i = record {
    topology = topology i;
    settled = (exists msti_rules msti_lawful (msti i) (topology i) tests).1;
    port_ids = λ q h e. (let f = source i q h in can.has_ids i f.port f.has_port (ap (λ (x : MstiPort). x.id) (sym f.settings) ∙ e));
  }

  abbrev trees : Trees N L K
  trees = record { cist = t; cist_vector = vector; msti = msti; msti_vector = msti_vector }

  nested : (i : ℕ) → IsNested trees (suc i)
  nested i = record {
    bridges = λ n h. in_cist (suc i) n h.0 h.1;
    regions = λ n k r h. (let x = can.regions (suc i) n k r.bridge r.other h.0 r.has_bridge r.has_other r.same (settings_of (suc i) n h.0 h.1) in (x.0, is_bridge t tests vector cist (s.bridge (suc i)) (s.port (suc i)) k r.other x.0 r.has_other x.1));
    ports = λ p internal h. (
      tree_port t tests vector cist (s.bridge (suc i)) (s.port (suc i)) p,
      (is_port t tests vector cist (s.bridge (suc i)) (s.port (suc i)) p h.0 (internal_by_cist trees (alone t tests vector cist).msti (alone t tests vector cist).msti_vector p internal) (settings_of (suc i) p.bridge h.0 h.1), refl),
      record { number = refl; bridge = refl; lan = refl },
    );
    from_ports = λ q on. (let f = source (suc i) q on.0 in (f.port, internal_by_cist (alone t tests vector cist) msti msti_vector f.port f.is_internal, f.same));
  }

  pub some_outcome : (f : Trees N L K) × IsOutcome t s f
  some_outcome = (
    trees,
    record {
      cist = refl;
      settled = record { cist = cist; msti = λ i. msti_is (suc i); nested = nested };
      bridges = λ i n x h. settings_of (suc i) n x h;
      all_bridges = λ i n b x h e. is_bridge t tests vector cist (s.bridge (suc i)) (s.port (suc i)) n b x h e;
      ports = λ i q on. (let f = source (suc i) q on.0 in f.settings ∙ ap (s.port (suc i)) (sym f.same.number));
      restricted = λ i q p on has same. (let f = source (suc i) q on.0 in f.restricted ∙ ap (λ (r : TreePort N L K CistPort). r.is_restricted) (ok.one_port f.port p f.has_port has (sym f.same.number ∙ same.number)));
    },
  )

-- A network has one outcome.
use Rattle.std.proofs.Common.{◌≡◌, sym, ◌∙◌, ap, subst, subst₂, ℕ, suc, Option}
use Rattle.mst_vector.specs.Cist.{cist_rules}
use Rattle.mst_vector.specs.CistLaws.{cist_lawful}
use Rattle.mst_vector.specs.Msti.{msti_rules}
use Rattle.mst_vector.specs.MstiLaws.{msti_lawful}
use Rattle.mst_vector.specs.declared.cist.CistVector.{CistVector}
use Rattle.mst_vector.specs.declared.cist.CistBridge.{CistBridge}
use Rattle.mst_vector.specs.declared.cist.CistPort.{CistPort}
use Rattle.mst_vector.specs.declared.msti.MstiVector.{MstiVector}
use Rattle.mst_vector.specs.declared.msti.MstiBridge.{MstiBridge}
use Rattle.mst_vector.specs.declared.msti.MstiPort.{MstiPort}
use Rattle.mst_topology.specs.Topology.{TreePort, Topology, HasBridge, HasPort}
use Rattle.mst_topology.specs.Settled.{Settled, IsDesignated}
use Rattle.mst_topology.proofs.Unique.{vectors_agree, ports_agree}
use Rattle.mst_nested.specs.Trees.{Trees, TakesPart, IsInternal, HasTree}
use Rattle.mst_nested.specs.Outcome.{MstiSettings, IsOutcome}
use Rattle.mst_nested.proofs.SamePorts.{IsWithinTopology, settled_too, designated_too}

-- a port is internal by the CIST alone
pub internal_by_cist : {N L K : Type 0} (f : Trees N L K) (msti : ℕ → Topology N L K MstiBridge MstiPort) (vector : ℕ → N → Option MstiVector) (p : TreePort N L K CistPort) → IsInternal f p → IsInternal (record { cist = f.cist; cist_vector = f.cist_vector; msti = msti; msti_vector = vector }) p
internal_by_cist f msti vector p i = record { is_enabled = i.is_enabled; bridge = i.bridge; has_bridge = i.has_bridge; own_lan = record { port = i.own_lan.port; message = i.own_lan.message; designates = i.own_lan.designates; in_region = i.own_lan.in_region } }

module _ {N L K : Type 0} (t : Topology N L K CistBridge CistPort) (s : MstiSettings N K) where
  module _ (f g : Trees N L K) (a : IsOutcome t s f) (b : IsOutcome t s g) where
    same_cist : f.cist ≡ g.cist
    same_cist = a.cist ∙ sym b.cist

    pub cist_agrees : (n : N) → f.cist_vector n ≡ g.cist_vector n
    cist_agrees = vectors_agree cist_rules cist_lawful g.cist b.settled.cist.topology f.cist_vector g.cist_vector (subst (λ (u : Topology N L K CistBridge CistPort). Settled cist_rules u f.cist_vector) same_cist a.settled.cist.settled) b.settled.cist.settled

    same_vector : f.cist_vector ≡ g.cist_vector
    same_vector = λ i n. cist_agrees n i

    pub internal_too : (p : TreePort N L K CistPort) → IsInternal f p → IsInternal g p
    internal_too p i = subst₂ (λ (u : Topology N L K CistBridge CistPort) (v : N → Option CistVector). IsInternal (record { cist = u; cist_vector = v; msti = g.msti; msti_vector = g.msti_vector }) p) same_cist same_vector (internal_by_cist f g.msti g.msti_vector p i)

    bridges_too : (i : ℕ) (n : N) (x : MstiBridge) → HasBridge (f.msti (suc i)) n x → HasBridge (g.msti (suc i)) n x
    bridges_too i n x has =
        let c = (a.settled.nested i).bridges n (x, has) in
        b.all_bridges i n c.0 x (subst (λ (u : Topology N L K CistBridge CistPort). HasBridge u n c.0) a.cist c.1) (a.bridges i n x has)

    one_port_of : (q r : TreePort N L K MstiPort) → q.number ≡ r.number → q.bridge ≡ r.bridge → q.lan ≡ r.lan → q.settings ≡ r.settings → q.is_part ≡ r.is_part → q.is_restricted ≡ r.is_restricted → q ≡ r
    one_port_of q r number bridge lan settings part restricted = λ i. record { number = number i; bridge = bridge i; lan = lan i; settings = settings i; is_part = part i; is_restricted = restricted i }

    ports_too : (i : ℕ) (q : TreePort N L K MstiPort) → TakesPart (f.msti (suc i)) q → TakesPart (g.msti (suc i)) q
    ports_too i q on =
        let p = (a.settled.nested i).from_ports q on in
        let internal = internal_too p.0 p.1 in
        let x = (a.settled.msti i).topology.has_bridge q on.0 on.1 in
        let has : HasTree g (suc i) p.0.bridge = (x.0, subst (λ n. HasBridge (g.msti (suc i)) n x.0) p.2.bridge (bridges_too i q.bridge x.0 x.1)) in
        let r = (b.settled.nested i).ports p.0 internal has in
        let number : q.number ≡ r.0.number = p.2.number ∙ sym r.2.number in
        let here = subst (λ (u : Topology N L K CistBridge CistPort). HasPort u p.0) a.cist p.1.is_enabled.0 in
        let same : r.0 ≡ q = sym (one_port_of q r.0 number (p.2.bridge ∙ sym r.2.bridge) (p.2.lan ∙ sym r.2.lan) (a.ports i q on ∙ (ap (s.port (suc i)) number ∙ sym (b.ports i r.0 r.1))) (on.1 ∙ sym r.1.1) (a.restricted i q p.0 on here p.2 ∙ sym (b.restricted i r.0 p.0 r.1 here r.2))) in
        subst (λ (k : TreePort N L K MstiPort). TakesPart (g.msti (suc i)) k) same r.1

    pub within : (i : ℕ) → IsWithinTopology (f.msti (suc i)) (g.msti (suc i))
    within i = record { bridges = bridges_too i; ports = ports_too i }

  pub msti_agrees : (f g : Trees N L K) → IsOutcome t s f → IsOutcome t s g → (i : ℕ) (n : N) → f.msti_vector (suc i) n ≡ g.msti_vector (suc i) n
  msti_agrees f g a b i = vectors_agree msti_rules msti_lawful (g.msti (suc i)) (b.settled.msti i).topology (f.msti_vector (suc i)) (g.msti_vector (suc i)) (settled_too msti_rules (f.msti_vector (suc i)) (f.msti (suc i)) (g.msti (suc i)) (within f g a b i) (within g f b a i) (a.settled.msti i).settled) (b.settled.msti i).settled

  -- so the designated ports are the same
  pub cist_ports_agree : (f g : Trees N L K) → IsOutcome t s f → IsOutcome t s g → (lan : L) (o u : Option K) → IsDesignated cist_rules f.cist f.cist_vector lan o → IsDesignated cist_rules g.cist g.cist_vector lan u → o ≡ u
  cist_ports_agree f g a b lan o u h k =
      let moved = subst₂ (λ (c : Topology N L K CistBridge CistPort) (v : N → Option CistVector). IsDesignated cist_rules c v lan o) (same_cist f g a b) (same_vector f g a b) h in
      ports_agree cist_rules cist_lawful g.cist b.settled.cist.topology g.cist_vector g.cist_vector b.settled.cist.settled b.settled.cist.settled lan o u moved k

  pub msti_ports_agree : (f g : Trees N L K) → IsOutcome t s f → IsOutcome t s g → (i : ℕ) (lan : L) (o u : Option K) → IsDesignated msti_rules (f.msti (suc i)) (f.msti_vector (suc i)) lan o → IsDesignated msti_rules (g.msti (suc i)) (g.msti_vector (suc i)) lan u → o ≡ u
  msti_ports_agree f g a b i lan o u h k =
      let settled = settled_too msti_rules (f.msti_vector (suc i)) (f.msti (suc i)) (g.msti (suc i)) (within f g a b i) (within g f b a i) (a.settled.msti i).settled in
      ports_agree msti_rules msti_lawful (g.msti (suc i)) (b.settled.msti i).topology (f.msti_vector (suc i)) (g.msti_vector (suc i)) settled (b.settled.msti i).settled lan o u (designated_too msti_rules (f.msti_vector (suc i)) (f.msti (suc i)) (g.msti (suc i)) (within f g a b i) (within g f b a i) lan o h) k

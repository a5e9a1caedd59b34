-- What is seen of a tree under the numbers of records is what the tree has under names.
use Rattle.std.proofs.Common.{◌≡◌, ℕ, ◌==◌, ◌<◌, zero, suc, get_or, Bool, true, false, List, [], ◌∷◌, length, Option, Some, None, inl, inr, refl, sym, ap, subst, ◌∙◌, true≢false, eq-eqb, is_some, arith}
use Rattle.std.specs.Prelude.{if◌then◌else◌}
use Rattle.std.specs.List.{Contains, find}
use Rattle.std.specs.Option.{option_map, option_and_then}
use Rattle.std.specs.FinMap as fin
use Rattle.std.proofs.lemmas.Bool.{eqb-true}
use Rattle.mst_ids.specs.declared.name.PortName.{PortName}
use Rattle.mst_vector.specs.Rules.{Rules, IsMetric}
use Rattle.mst_roles.specs.forest.topology.Topology.{TreePort, Topology, IsTopology, HasBridge, HasPort}
use Rattle.mst_roles.specs.forest.topology.Settled.{IsDesignatedVector}
use Rattle.mst_tables.specs.Tables.{Net, Numbers, BridgeRow}
use Rattle.mst_tables.specs.Seen.{bridge_row}
use Rattle.mst_view.specs.View.{LogicalPort}
use Rattle.mst_view.specs.Viewed.{Viewed, named_port}
use Rattle.mst_view.specs.declared.in_view.BridgeInView.{BridgeInView}
use Rattle.mst_view.specs.declared.in_view.PortInView.{PortInView}
use Rattle.mst_roles.specs.forest.Sight.{Sight, tree_port, tree_of}
use Rattle.mst_roles.specs.forest.Outcome.{TreeOutcome, IsTreeOutcome}
use Rattle.mst_roles.specs.forest.Agrees.{Agrees, AreOf}
use Rattle.mst_roles.proofs.forest_lemmas.Lists.{some_is, no_some, apart_cases, kept_in, kept_from}
use Rattle.mst_roles.proofs.forest_lemmas.Views.{port_names_differ}
use Rattle.mst_roles.proofs.forest_lemmas.Sights.{IsSight, changed_from, bridge_from, bridge_in, port_from, port_in, is_topology}
use Rattle.mst_roles.proofs.forest_lemmas.Seen.{PortsRise, bridge_seen, port_seen, ports_apart, bridge_there, port_there, port_of_net}
use Rattle.mst_roles.proofs.forest_lemmas.Looking.{first_found}
use Rattle.mst_roles.proofs.Named.{found_in}
use Rattle.mst_explain.specs.declared.claims.Claim.{Claim}
use Rattle.mst_explain.specs.Contest.{IsDesignatedVectorOn}
use Rattle.mst_explain.specs.Seen.{TreeSeen, designated_vector, designated_on, claim_of, lan_claim, lan_claims}
use Rattle.mst_explain.proofs.Firsts.{Hold, keyed}

-- what follows on a value that is there comes of one
pub then_from : {A B : Type 0} (f : A → Option B) (o : Option A) (y : B) → option_and_then f o ≡ Some y → (x : A) × (o ≡ Some x) × (f x ≡ Some y)
then_from f None y e = absurd (no_some y e)
then_from f (Some x) y e = (x, refl, e)

-- a value that isn't there by a test
pub unless_some : {A : Type 0} (b : Bool) (o : Option A) (y : A) → (if b then None else o) ≡ Some y → (b ≡ false) × (o ≡ Some y)
unless_some true o y e = absurd (no_some y e)
unless_some false o y e = (refl, e)

pub where_some : {A : Type 0} (b : Bool) (o : Option A) (y : A) → (if b then o else None) ≡ Some y → (b ≡ true) × (o ≡ Some y)
where_some true o y e = (refl, e)
where_some false o y e = absurd (no_some y e)

-- a designated port that is found is in the view
pub designated_there : {B P V : Type 0} (m : Rules B P V) (v : Viewed) (s : TreeSeen B P V) (lan : ℕ) (f : PortInView) → designated_on m v s lan ≡ Some f → Contains v.ports f
designated_there m v s lan f e = let x = then_from (λ n. find (λ (q : PortInView). n == q.number) v.ports) (s.designated lan) f e in found_in (λ (q : PortInView). x.0 == q.number) v.ports f x.2

-- two numbers that differ
pub numbers_differ : (a b : ℕ) → (a ≡ b → ⊥) → (a == b) ≡ false
numbers_differ a b n = go (a == b) refl
  where
    go : (t : Bool) → (a == b) ≡ t → (a == b) ≡ false
    go true e = absurd (n (eqb-true a b e))
    go false e = e

-- a list of one
pub only_one : {A : Type 0} (x y : A) → Contains (x ∷ []) y → x ≡ y
only_one x y c = go c.0 c.1 c.2
  where
    go : (k : ℕ) → k < length (x ∷ []) → get_or (x ∷ []) k y ≡ y → x ≡ y
    go zero l e = e
    go (suc k) l e = absurd (omega arith)

module _ (net : Net) (numbers : Numbers) (v : Viewed) (region_ids : List (ℕ × ℕ)) (of : AreOf net numbers v region_ids) where
  -- ---- bridges and ports of the view
  -- the bridge of this name is found by its number
  pub record FoundBridge (a : List ℕ) (n : ℕ) : Type 0 where
    pub bridge : BridgeInView
    pub found : find (λ (b : BridgeInView). n == b.bridge.number) v.bridges ≡ Some bridge
    pub there : Contains v.bridges bridge
    pub name : bridge.name ≡ a
    pub has_row : fin.get net.bridges a ≡ Some (bridge_row bridge.bridge)

  pub bridge_found_at : (a : List ℕ) (n : ℕ) → fin.get numbers.bridges a ≡ Some n → FoundBridge a n
  bridge_found_at a n e = go (fin.get net.bridges a) refl
    where
      go : (o : Option BridgeRow) → fin.get net.bridges a ≡ o → FoundBridge a n
      go None h = absurd (true≢false (sym (ap is_some e) ∙ of.numbered.bridges a ∙ ap is_some h))
      go (Some row) h =
          let b = bridge_there net numbers v of.view a row h in
          let own = bridge_seen net numbers v of.view b.0 b.1 in
          let name : b.0.name ≡ a = ap (λ (q : List ℕ × BridgeRow). q.0) b.2 in
          let number : n ≡ b.0.bridge.number = some_is n b.0.bridge.number (sym e ∙ ap (fin.get numbers.bridges) (sym name) ∙ own.has_number) in
          let first = first_found (λ (x : BridgeInView). n == x.bridge.number) v.bridges b.0 b.1 (eq-eqb n b.0.bridge.number number) in
          let other = bridge_seen net numbers v of.view first.it first.there in
          let one : first.it.name ≡ a = of.numbered.bridges_differ first.it.name a n (other.has_number ∙ ap Some (sym (eqb-true n first.it.bridge.number first.passes))) e in
          record { bridge = first.it; found = first.found; there = first.there; name = one; has_row = ap (fin.get net.bridges) (sym one) ∙ other.has_row }

  -- two ports of one name are one
  pub one_seen : (p q : PortInView) → Contains v.ports p → Contains v.ports q → p.name ≡ q.name → p ≡ q
  one_seen p q a b e =
      elim (apart_cases (PortsRise net numbers) v.ports p q (ports_apart net numbers v of.view) a b) [
        | inl same ↦ same
        | inr apart ↦ absurd (elim apart [ inl l ↦ port_names_differ p.name q.name l.less e | inr l ↦ port_names_differ q.name p.name l.less (sym e) ])
      ]

  -- LANs, and bridges, of ports are told by number
  pub lan_is : (p q : PortInView) → Contains v.ports p → Contains v.ports q → p.lan_number ≡ q.lan_number → p.lan ≡ q.lan
  lan_is p q a b e =
      let x = (port_seen net numbers v of.view p a).has_numbers in
      let y = (port_seen net numbers v of.view q b).has_numbers in
      of.numbered.lans_differ p.lan q.lan q.lan_number (x.lan ∙ ap Some e) y.lan

  pub lan_number : (p q : PortInView) → Contains v.ports p → Contains v.ports q → p.lan ≡ q.lan → p.lan_number ≡ q.lan_number
  lan_number p q a b e =
      let x = (port_seen net numbers v of.view p a).has_numbers in
      let y = (port_seen net numbers v of.view q b).has_numbers in
      some_is p.lan_number q.lan_number (sym x.lan ∙ ap (fin.get numbers.lans) e ∙ y.lan)

  pub bridge_is : (p q : PortInView) → Contains v.ports p → Contains v.ports q → p.bridge ≡ q.bridge → p.name.bridge ≡ q.name.bridge
  bridge_is p q a b e =
      let x = (port_seen net numbers v of.view p a).has_numbers in
      let y = (port_seen net numbers v of.view q b).has_numbers in
      of.numbered.bridges_differ p.name.bridge q.name.bridge q.bridge (x.bridge ∙ ap Some e) y.bridge

  pub bridge_number : (p q : PortInView) → Contains v.ports p → Contains v.ports q → p.name.bridge ≡ q.name.bridge → p.bridge ≡ q.bridge
  bridge_number p q a b e =
      let x = (port_seen net numbers v of.view p a).has_numbers in
      let y = (port_seen net numbers v of.view q b).has_numbers in
      some_is p.bridge q.bridge (sym x.bridge ∙ ap (fin.get numbers.bridges) e ∙ y.bridge)

  -- what is seen is that of a tree with its outcome
  pub record IsSeenTree {B P V : Type 0} (s : Sight B P) (o : TreeOutcome V) (seen : TreeSeen B P V) : Type 0 where
    pub bridges : (a : List ℕ) (n : ℕ) → fin.get numbers.bridges a ≡ Some n → seen.bridge n ≡ option_and_then (s.bridge a) (fin.get net.bridges a)
    pub ports : (p : PortInView) → Contains v.ports p → seen.port p ≡ s.port (named_port p)
    pub agrees : Agrees numbers o seen.vector seen.designated

  module _ {B P V : Type 0} (m : Rules B P V) (law : IsMetric m) (s : Sight B P) (sight : IsSight net m s) (o : TreeOutcome V) (is : IsTreeOutcome m (tree_of net s) o)
      (seen : TreeSeen B P V) (same : IsSeenTree s o seen) where
    abbrev t : Topology (List ℕ) (List ℕ) PortName B P
    t = tree_of net s

    pub topology : IsTopology m t
    topology = is_topology net of.network m s sight

    abbrev Key : Type 0
    Key = TreePort (List ℕ) (List ℕ) PortName P

    -- ---- bridges
    pub bridge_to : (a : List ℕ) (n : ℕ) (b : B) → fin.get numbers.bridges a ≡ Some n → seen.bridge n ≡ Some b → HasBridge t a b
    bridge_to a n b e f =
        let x = then_from (s.bridge a) (fin.get net.bridges a) b (sym (same.bridges a n e) ∙ f) in
        bridge_in net of.network m s sight a b (record { row = x.0; has_row = x.1; seen = x.2 })

    pub bridge_back : (a : List ℕ) (n : ℕ) (b : B) → fin.get numbers.bridges a ≡ Some n → HasBridge t a b → seen.bridge n ≡ Some b
    bridge_back a n b e h =
        let x = bridge_from net of.network m s sight a b h in
        same.bridges a n e ∙ ap (option_and_then (s.bridge a)) x.has_row ∙ x.seen

    pub vector_at : (p : PortInView) → Contains v.ports p → seen.vector p.bridge ≡ o.vector p.name.bridge
    vector_at p there = same.agrees.vectors p.name.bridge p.bridge (port_seen net numbers v of.view p there).has_numbers.bridge

    -- ---- what a port says
    pub says_to : (q : PortInView) → Contains v.ports q → (x : V) → designated_vector m v seen q ≡ Some x → (c : P) × IsDesignatedVector m t o.vector (tree_port (named_port q) c) x
    says_to q there x e =
        let has = (port_seen net numbers v of.view q there).has_numbers in
        let c = then_from (λ (c : P). option_and_then (λ (b : B). option_map (λ (x : V). m.designated_vector x b c) (seen.vector q.bridge)) (seen.bridge q.bridge)) (seen.port q) x e in
        let b = then_from (λ (b : B). option_map (λ (x : V). m.designated_vector x b c.0) (seen.vector q.bridge)) (seen.bridge q.bridge) x c.2 in
        let r = changed_from (λ (x : V). m.designated_vector x b.0 c.0) (seen.vector q.bridge) x b.2 in (
          c.0,
          record {
            has_port = port_in net of.network m s sight (named_port q) c.0 (port_of_net net numbers v of.view q there) (sym (same.ports q there) ∙ c.1);
            is_part = refl;
            bridge = b.0;
            has_bridge = bridge_to q.name.bridge q.bridge b.0 has.bridge b.1;
            root = r.0;
            is_root = sym (vector_at q there) ∙ r.1;
            is_designated = r.2;
          },
        )

    -- a port of the tree is seen
    pub record SeenAs (k : Key) : Type 0 where
      pub port : PortInView
      pub there : Contains v.ports port
      pub settings : P
      pub has_settings : seen.port port ≡ Some settings
      pub is_key : tree_port (named_port port) settings ≡ k

    pub seen_as : (k : Key) → HasPort t k → SeenAs k
    seen_as k h =
        let x = port_from net of.network m s sight k h in
        let z = port_there net numbers v of.view x.port x.there in
        record {
          port = z.0;
          there = z.1;
          settings = x.settings;
          has_settings = same.ports z.0 z.1 ∙ ap s.port z.2 ∙ x.seen;
          is_key = ap (λ (q : LogicalPort). tree_port q x.settings) z.2 ∙ x.is;
        }

    pub says_back : (k : Key) (x : V) → IsDesignatedVector m t o.vector k x → (z : SeenAs k) → designated_vector m v seen z.port ≡ Some x
    says_back k x h z =
        let has = (port_seen net numbers v of.view z.port z.there).has_numbers in
        let on : z.port.name.bridge ≡ k.bridge = ap (λ (y : Key). y.bridge) z.is_key in
        let b = bridge_back z.port.name.bridge z.port.bridge h.bridge has.bridge (subst (λ a. HasBridge t a h.bridge) (sym on) h.has_bridge) in
        let r : seen.vector z.port.bridge ≡ Some h.root = vector_at z.port z.there ∙ ap o.vector on ∙ h.is_root in
        ap (option_and_then (λ (c : P). option_and_then (λ (b : B). option_map (λ (x : V). m.designated_vector x b c) (seen.vector z.port.bridge)) (seen.bridge z.port.bridge))) z.has_settings
        ∙ ap (option_and_then (λ (b : B). option_map (λ (x : V). m.designated_vector x b z.settings) (seen.vector z.port.bridge))) b
        ∙ ap (option_map (λ (x : V). m.designated_vector x h.bridge z.settings)) r
        ∙ ap Some (ap (λ (y : Key). m.designated_vector h.root h.bridge y.settings) z.is_key ∙ h.is_designated)

    -- ---- the claims on a LAN
    pub lan_hold : (p : PortInView) → Contains v.ports p → Hold (lan_claims m v seen p.lan_number) (IsDesignatedVectorOn m t o.vector p.lan)
    lan_hold p here = record { have = have; all = all }
      where
        have : (c : Claim V) → Contains (lan_claims m v seen p.lan_number) c → IsDesignatedVectorOn m t o.vector p.lan c.port c.vector
        have c there =
            let q = kept_from (lan_claim m v seen p.lan_number) v.ports c there in
            let w = where_some (q.0.lan_number == p.lan_number) (option_map (claim_of m v seen q.0) (designated_vector m v seen q.0)) c q.2 in
            let x = changed_from (claim_of m v seen q.0) (designated_vector m v seen q.0) c w.1 in
            let says = says_to q.0 q.1 x.0 x.1 in
            subst (λ (d : Claim V). IsDesignatedVectorOn m t o.vector p.lan d.port d.vector) x.2
            (tree_port (named_port q.0) says.0, refl, lan_is q.0 p q.1 here (eqb-true q.0.lan_number p.lan_number w.0), says.1)

        all : (k : Option PortName) (x : V) → IsDesignatedVectorOn m t o.vector p.lan k x → Contains (lan_claims m v seen p.lan_number) (record { port = k; vector = x })
        all None x h = absurd h
        all (Some k) x h =
            let z = seen_as h.0 h.3.has_port in
            let on : z.port.lan_number ≡ p.lan_number = lan_number z.port p z.there here (ap (λ (y : Key). y.lan) z.is_key ∙ h.2) in
            let name : z.port.name ≡ k = ap (λ (y : Key). y.number) z.is_key ∙ h.1 in
            kept_in (lan_claim m v seen p.lan_number) v.ports z.port (record { port = Some k; vector = x }) z.there
            (ap (λ (b : Bool). if b then option_map (claim_of m v seen z.port) (designated_vector m v seen z.port) else None) (eq-eqb z.port.lan_number p.lan_number on)
            ∙ ap (option_map (claim_of m v seen z.port)) (says_back h.0 x h.3 z)
            ∙ ap (λ (n : PortName). Some (keyed x n)) name)

-- The steps that ports give their bridge, under the numbers of records and under names.
use Rattle.std.proofs.Common.{◌≡◌, ℕ, ◌==◌, Bool, false, List, [], ◌∷◌, Option, Some, None, inl, inr, refl, sym, ap, subst, ◌∙◌, true≢false, eq-eqb}
use Rattle.std.specs.Prelude.{if◌then◌else◌, filter_map}
use Rattle.std.specs.List.{Contains, find}
use Rattle.std.specs.Option.{option_map, option_map_or, option_and_then}
use Rattle.std.specs.FinMap as fin
use Rattle.std.proofs.lemmas.Bool.{eqb-true}
use Rattle.std.proofs.lemmas.List.Elements.{Contains-append_left, Contains-append_right, Contains-append_cases}
use Rattle.mst_ids.specs.declared.name.PortName.{PortName}
use Rattle.mst_vector.specs.Rules.{Rules, IsMetric}
use Rattle.mst_roles.specs.forest.topology.Topology.{TreePort, Topology, IsTopology, HasBridge, HasPort}
use Rattle.mst_roles.specs.forest.topology.Settled.{Designates, IsRootPathVector, IsDesignated}
use Rattle.mst_roles.proofs.forest_lemmas.topology_lemmas.Below.{one_designated}
use Rattle.mst_tables.specs.Tables.{Net, Numbers}
use Rattle.mst_view.specs.Viewed.{Viewed, named_port}
use Rattle.mst_view.specs.declared.in_view.PortInView.{PortInView}
use Rattle.mst_roles.specs.forest.Sight.{Sight, tree_port, tree_of}
use Rattle.mst_roles.specs.forest.Outcome.{TreeOutcome, IsTreeOutcome}
use Rattle.mst_roles.specs.forest.Agrees.{IsNameOf, AreOf}
use Rattle.mst_roles.proofs.forest_lemmas.Lists.{some_is, no_some, kept_in, kept_from, there_first}
use Rattle.mst_roles.proofs.forest_lemmas.Sights.{IsSight, changed_from, port_in}
use Rattle.mst_roles.proofs.forest_lemmas.Seen.{port_seen, port_of_net}
use Rattle.mst_roles.proofs.forest_lemmas.Looking.{first_found}
use Rattle.mst_explain.specs.declared.claims.Claim.{Claim}
use Rattle.mst_explain.specs.Contest.{Gives}
use Rattle.mst_explain.specs.Seen.{TreeSeen, designated_vector, designated_on, root_path_vector_from, heard, given, claim_of, own_claims, bridge_claim, bridge_claims}
use Rattle.mst_explain.proofs.Firsts.{Hold, keyed}
use Rattle.mst_explain.proofs.SeenTrees.{IsSeenTree, SeenAs, then_from, unless_some, where_some, numbers_differ, only_one, one_seen, bridge_is, bridge_number, topology, bridge_to, bridge_back, seen_as, says_back}

module _ (net : Net) (numbers : Numbers) (v : Viewed) (region_ids : List (ℕ × ℕ)) (of : AreOf net numbers v region_ids)
    {B P V : Type 0} (m : Rules B P V) (law : IsMetric m) (s : Sight B P) (sight : IsSight net m s) (o : TreeOutcome V) (is : IsTreeOutcome m (tree_of net s) o)
    (seen : TreeSeen B P V) (same : IsSeenTree net numbers v region_ids of s o seen) where
  abbrev t : Topology (List ℕ) (List ℕ) PortName B P
  t = tree_of net s

  abbrev Key : Type 0
  Key = TreePort (List ℕ) (List ℕ) PortName P

  ok : IsTopology m t
  ok = topology net numbers v region_ids of m law s sight o is seen same

  abbrev As : Key → Type 0
  As k = SeenAs net numbers v region_ids of m law s sight o is seen same k

  seen_key : (k : Key) → HasPort t k → As k
  seen_key k h = seen_as net numbers v region_ids of m law s sight o is seen same k h

  bridge_at : (q : PortInView) → Contains v.ports q → (b : B) → seen.bridge q.bridge ≡ Some b → HasBridge t q.name.bridge b
  bridge_at q there b e = bridge_to net numbers v region_ids of m law s sight o is seen same q.name.bridge q.bridge b (port_seen net numbers v of.view q there).has_numbers.bridge e

  bridge_by : (q : PortInView) → Contains v.ports q → (b : B) → HasBridge t q.name.bridge b → seen.bridge q.bridge ≡ Some b
  bridge_by q there b h = bridge_back net numbers v region_ids of m law s sight o is seen same q.name.bridge q.bridge b (port_seen net numbers v of.view q there).has_numbers.bridge h

  -- ---- the designated port of a LAN is found
  pub record FoundPort (p : PortInView) (d : PortName) : Type 0 where
    pub port : PortInView
    pub there : Contains v.ports port
    pub found : designated_on m v seen p.lan_number ≡ Some port
    pub name : port.name ≡ d

  pub designated_found : (p : PortInView) → Contains v.ports p → (d : PortName) → o.designated p.lan ≡ Some d → FoundPort p d
  designated_found p here d e = by_number (seen.designated p.lan_number) refl (same.agrees.designated_ports p.lan p.lan_number (port_seen net numbers v of.view p here).has_numbers.lan)
    where
      by_number : (n : Option ℕ) → seen.designated p.lan_number ≡ n → IsNameOf numbers n (o.designated p.lan) → FoundPort p d
      by_number None f h = absurd (no_some d (sym h ∙ e))
      by_number (Some n) f h =
          let name : h.0 ≡ d = some_is h.0 d (sym h.1 ∙ e) in
          let says = subst (λ (x : Option PortName). IsDesignated m t o.vector p.lan x) e (is.designated p.lan) in
          let z = seen_key says.0 says.3.says.has_port in
          let own = (port_seen net numbers v of.view z.port z.there).has_numbers in
          let called : z.port.name ≡ d = ap (λ (y : Key). y.number) z.is_key ∙ says.2 in
          let number : n ≡ z.port.number = some_is n z.port.number (sym h.2 ∙ ap (fin.get numbers.ports) (name ∙ sym called) ∙ own.port) in
          let first = first_found (λ (q : PortInView). n == q.number) v.ports z.port z.there (eq-eqb n z.port.number number) in
          let other = (port_seen net numbers v of.view first.it first.there).has_numbers in
          let one : first.it.name ≡ h.0 = of.numbered.ports_differ first.it.name h.0 n (other.port ∙ ap Some (sym (eqb-true n first.it.number first.passes))) h.2 in
          record {
            port = first.it;
            there = first.there;
            found = ap (option_and_then (λ k. find (λ (q : PortInView). k == q.number) v.ports)) f ∙ first.found;
            name = one ∙ name;
          }

  -- it says the least on the LAN
  pub record HeardPort (p f : PortInView) : Type 0 where
    pub there : Contains v.ports f
    pub key : Key
    pub message : V
    pub number : key.number ≡ f.name
    pub designates : Designates m t o.vector p.lan key message
    pub is_made : designated_vector m v seen f ≡ Some message
    pub bridge : key.bridge ≡ f.name.bridge

  heard_port : (p : PortInView) → Contains v.ports p → (f : PortInView) → designated_on m v seen p.lan_number ≡ Some f → HeardPort p f
  heard_port p here f e = by_name (o.designated p.lan) refl (is.designated p.lan)
    where
      by_name : (d : Option PortName) → o.designated p.lan ≡ d → IsDesignated m t o.vector p.lan d → HeardPort p f
      by_name None g h =
          absurd (go (seen.designated p.lan_number) refl (subst (IsNameOf numbers (seen.designated p.lan_number)) g (same.agrees.designated_ports p.lan p.lan_number (port_seen net numbers v of.view p here).has_numbers.lan)))
        where
          go : (n : Option ℕ) → seen.designated p.lan_number ≡ n → IsNameOf numbers (seen.designated p.lan_number) None → ⊥
          go None i j = no_some f (sym (ap (option_and_then (λ k. find (λ (q : PortInView). k == q.number) v.ports)) i) ∙ e)
          go (Some n) i j = let k = subst (λ x. IsNameOf numbers x None) i j in no_some k.0 k.1
      by_name (Some d) g h =
          let x = designated_found p here d g in
          let one : x.port ≡ f = some_is x.port f (sym x.found ∙ e) in
          let there : Contains v.ports f = subst (Contains v.ports) one x.there in
          let name : f.name ≡ d = ap (λ (q : PortInView). q.name) (sym one) ∙ x.name in
          let z = seen_key h.0 h.3.says.has_port in
          let same_port : z.port ≡ f = one_seen net numbers v region_ids of z.port f z.there there (ap (λ (y : Key). y.number) z.is_key ∙ h.2 ∙ sym name) in
          record {
            there = there;
            key = h.0;
            message = h.1;
            number = h.2 ∙ sym name;
            designates = h.3;
            is_made = ap (designated_vector m v seen) (sym same_port) ∙ says_back net numbers v region_ids of m law s sight o is seen same h.0 h.1 h.3.says z;
            bridge = ap (λ (y : Key). y.bridge) (sym z.is_key) ∙ ap (λ (q : PortInView). q.name.bridge) same_port;
          }

  -- ---- what a port gives
  gives_to : (q : PortInView) → Contains v.ports q → (b : B) → HasBridge t q.name.bridge b → (x : V) → given m v seen q ≡ Some x → Gives m t o.vector q.name.bridge b (Some q.name) x
  gives_to q here b has x e =
      let free = unless_some q.settings.is_restricted (option_and_then (heard m v seen q) (seen.port q)) x e in
      let c = then_from (heard m v seen q) (seen.port q) x free.1 in
      let f = then_from (λ (from : PortInView). if from.bridge == q.bridge then None else root_path_vector_from m v seen q c.0 from) (designated_on m v seen q.lan_number) x c.2 in
      let other = unless_some (f.0.bridge == q.bridge) (root_path_vector_from m v seen q c.0 f.0) x f.2 in
      let y = then_from (λ (y : V). option_and_then (λ (sender : B). option_map (λ (b : B). m.root_path_vector y sender b c.0) (seen.bridge q.bridge)) (seen.bridge f.0.bridge)) (designated_vector m v seen f.0) x other.1 in
      let r = then_from (λ (sender : B). option_map (λ (b : B). m.root_path_vector y.0 sender b c.0) (seen.bridge q.bridge)) (seen.bridge f.0.bridge) x y.2 in
      let d = changed_from (λ (b : B). m.root_path_vector y.0 r.0 b c.0) (seen.bridge q.bridge) x r.2 in
      let h = heard_port q here f.0 f.1 in
      let message : y.0 ≡ h.message = some_is y.0 h.message (sym y.1 ∙ h.is_made) in
      let own : d.0 ≡ b = ok.one_bridge q.name.bridge d.0 b (bridge_at q here d.0 d.1) has in (
        record {
          port = tree_port (named_port q) c.0;
          has_port = port_in net of.network m s sight (named_port q) c.0 (port_of_net net numbers v of.view q here) (sym (same.ports q here) ∙ c.1);
          is_part = refl;
          is_free = free.0;
          on_bridge = refl;
          from = h.key;
          message = h.message;
          designates = h.designates;
          from_other = λ i. true≢false (sym (eq-eqb f.0.bridge q.bridge (bridge_number net numbers v region_ids of f.0 q h.there here (sym h.bridge ∙ i))) ∙ other.0);
          sender = r.0;
          has_sender = subst (λ a. HasBridge t a r.0) (sym h.bridge) (bridge_at f.0 h.there r.0 r.1);
          is_made = (λ i. m.root_path_vector (sym message i) r.0 (sym own i) c.0) ∙ d.2;
        },
        refl,
      )

  gives_back : (n : List ℕ) (b : B) (x : V) (st : IsRootPathVector m t o.vector n b x) → HasBridge t n b → (z : As st.port) → given m v seen z.port ≡ Some x
  gives_back n b x st has z = by_name (o.designated st.port.lan) refl (is.designated st.port.lan)
    where
      q : PortInView
      q = z.port

      on_lan : q.lan ≡ st.port.lan
      on_lan = ap (λ (y : Key). y.lan) z.is_key

      on_bridge : q.name.bridge ≡ n
      on_bridge = ap (λ (y : Key). y.bridge) z.is_key ∙ st.on_bridge

      by_name : (d : Option PortName) → o.designated st.port.lan ≡ d → IsDesignated m t o.vector st.port.lan d → given m v seen q ≡ Some x
      by_name None g h = absurd (h st.from st.message st.designates.on_lan st.designates.says)
      by_name (Some d) g h =
          let one : h.0 ≡ st.from = one_designated m law t ok o.vector st.port.lan h.0 st.from h.1 st.message h.3 st.designates in
          let f = designated_found q z.there d (ap o.designated on_lan ∙ g) in
          let w = seen_key st.from st.designates.says.has_port in
          let same_port : w.port ≡ f.port =
          one_seen net numbers v region_ids of w.port f.port w.there f.there (ap (λ (y : Key). y.number) w.is_key ∙ ap (λ (y : Key). y.number) (sym one) ∙ h.2 ∙ sym f.name) in
          let bridge : f.port.name.bridge ≡ st.from.bridge = ap (λ (p : PortInView). p.name.bridge) (sym same_port) ∙ ap (λ (y : Key). y.bridge) w.is_key in
          let says : designated_vector m v seen f.port ≡ Some st.message = ap (designated_vector m v seen) (sym same_port) ∙ says_back net numbers v region_ids of m law s sight o is seen same st.from st.message st.designates.says w in
          let sender = bridge_by f.port f.there st.sender (subst (λ a. HasBridge t a st.sender) (sym bridge) st.has_sender) in
          let own = bridge_by q z.there b (subst (λ a. HasBridge t a b) (sym on_bridge) has) in
          let other : (f.port.bridge == q.bridge) ≡ false =
          numbers_differ f.port.bridge q.bridge (λ i. st.from_other (sym bridge ∙ bridge_is net numbers v region_ids of f.port q f.there z.there i ∙ on_bridge)) in
          let step : root_path_vector_from m v seen q z.settings f.port ≡ Some x =
          ap (option_and_then (λ (y : V). option_and_then (λ (sender : B). option_map (λ (b : B). m.root_path_vector y sender b z.settings) (seen.bridge q.bridge)) (seen.bridge f.port.bridge))) says
          ∙ ap (option_and_then (λ (sender : B). option_map (λ (b : B). m.root_path_vector st.message sender b z.settings) (seen.bridge q.bridge))) sender
          ∙ ap (option_map (λ (b : B). m.root_path_vector st.message st.sender b z.settings)) own
          ∙ ap Some (ap (λ (y : Key). m.root_path_vector st.message st.sender b y.settings) z.is_key ∙ st.is_made) in
          ap (λ (r : Bool). if r then None else option_and_then (heard m v seen q) (seen.port q)) (ap (λ (y : Key). y.is_restricted) z.is_key ∙ st.is_free)
          ∙ ap (option_and_then (heard m v seen q)) z.has_settings
          ∙ ap (option_and_then (λ (from : PortInView). if from.bridge == q.bridge then None else root_path_vector_from m v seen q z.settings from)) f.found
          ∙ ap (λ (r : Bool). if r then None else root_path_vector_from m v seen q z.settings f.port) other
          ∙ step

  -- ---- the claims at a bridge
  pub bridge_hold : (p : PortInView) → Contains v.ports p → (b : B) → HasBridge t p.name.bridge b → Hold (bridge_claims m v seen p.bridge) (Gives m t o.vector p.name.bridge b)
  bridge_hold p here b has = record { have = have; all = all }
    where
      own_claim : Claim V
      own_claim = record { port = None; vector = m.bridge_vector b }

      own : own_claims m v seen p.bridge ≡ own_claim ∷ []
      own = ap list (bridge_by p here b has)
        where
          list : Option B → List (Claim V)
          list y = option_map_or (λ (b : B). (record { port = None; vector = m.bridge_vector b }) ∷ []) y []

      Has : Claim V → Type 0
      Has c = Gives m t o.vector p.name.bridge b c.port c.vector

      have : (c : Claim V) → Contains (bridge_claims m v seen p.bridge) c → Has c
      have c there = elim (Contains-append_cases (own_claims m v seen p.bridge) (filter_map (bridge_claim m v seen p.bridge) v.ports) c there) [
        | inl h ↦ subst Has (only_one own_claim c (subst (λ cs. Contains cs c) own h)) refl
        | inr h ↦ of_port (kept_from (bridge_claim m v seen p.bridge) v.ports c h)
      ]
        where
          of_port : (q : PortInView) × Contains v.ports q × (bridge_claim m v seen p.bridge q ≡ Some c) → Has c
          of_port k =
              let w = where_some (k.0.bridge == p.bridge) (option_map (claim_of m v seen k.0) (given m v seen k.0)) c k.2 in
              let x = changed_from (claim_of m v seen k.0) (given m v seen k.0) c w.1 in
              let at : k.0.name.bridge ≡ p.name.bridge = bridge_is net numbers v region_ids of k.0 p k.1 here (eqb-true k.0.bridge p.bridge w.0) in
              subst Has x.2 (subst (λ a. Gives m t o.vector a b (Some k.0.name) x.0) at (gives_to k.0 k.1 b (subst (λ a. HasBridge t a b) (sym at) has) x.0 x.1))

      all : (k : Option PortName) (x : V) → Gives m t o.vector p.name.bridge b k x → Contains (bridge_claims m v seen p.bridge) (record { port = k; vector = x })
      all None x h =
          Contains-append_left (own_claims m v seen p.bridge) (filter_map (bridge_claim m v seen p.bridge) v.ports) (record { port = None; vector = x })
          (subst (λ cs. Contains cs (record { port = None; vector = x })) (sym own) (subst (λ y. Contains (own_claim ∷ []) (record { port = None; vector = y })) (sym h) (there_first own_claim [])))
      all (Some k) x h =
          let z = seen_key h.0.port h.0.has_port in
          let name : z.port.name ≡ k = ap (λ (y : Key). y.number) z.is_key ∙ h.1 in
          let at : z.port.bridge ≡ p.bridge = bridge_number net numbers v region_ids of z.port p z.there here (ap (λ (y : Key). y.bridge) z.is_key ∙ h.0.on_bridge) in
          Contains-append_right (own_claims m v seen p.bridge) (filter_map (bridge_claim m v seen p.bridge) v.ports) (record { port = Some k; vector = x })
          (kept_in (bridge_claim m v seen p.bridge) v.ports z.port (record { port = Some k; vector = x }) z.there
          (ap (λ (r : Bool). if r then option_map (claim_of m v seen z.port) (given m v seen z.port) else None) (eq-eqb z.port.bridge p.bridge at)
          ∙ ap (option_map (claim_of m v seen z.port)) (gives_back p.name.bridge b x h.0 has z)
          ∙ ap (λ (n : PortName). Some (keyed x n)) name))

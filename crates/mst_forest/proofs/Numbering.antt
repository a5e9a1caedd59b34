-- One tree under the numbers of records is the tree under names, renamed.
use Rattle.std.proofs.Common.{◌≡◌, ℕ, ◌≤◌, true, List, [], ◌∷◌, length, Option, Some, None, IsTrue, refl, sym, ap, subst, ◌∙◌, arith}
use Rattle.std.specs.List.{AllByRecursion, Contains, filter_map, cons_option}
use Rattle.std.specs.Option.{option_map, unwrap_or}
use Rattle.std.specs.FinMap as fin
use Rattle.mst_ids.specs.declared.name.PortName.{PortName}
use Rattle.mst_vector.specs.Rules.{Rules}
use Rattle.mst_topology.specs.Topology.{TreePort, Topology, HasBridge, HasPort}
use Rattle.mst_outcome.specs.Renamed.{Renaming, renamed, IsRenamed}
use Rattle.mst_net.specs.tables.Tables.{Net, Numbers, BridgeRow, IsNetwork}
use Rattle.mst_net.specs.tables.Contents.{IsNumbered}
use Rattle.mst_net.specs.tables.Seen.{bridge_row}
use Rattle.mst_view.specs.Viewed.{Viewed, IsView, HasNumbers, named_port}
use Rattle.mst_view.specs.declared.in_view.BridgeInView.{BridgeInView}
use Rattle.mst_view.specs.declared.in_view.PortInView.{PortInView}
use Rattle.mst_forest.specs.Apart.{Apart}
use Rattle.mst_forest.specs.Sight.{Sight, tree_port, tree_of}
use Rattle.mst_forest.specs.Numbered.{BridgesDiffer, PortsDiffer, CanSettle, topology_by_number}
use Rattle.mst_forest.specs.Seen.{seen_tree_port}
use Rattle.mst_forest.proofs.Lists.{some_is, all_kept, apart_kept, kept_in, kept_from}
use Rattle.mst_forest.proofs.Views.{names_differ, port_names_differ}
use Rattle.mst_forest.proofs.Sights.{IsSight, BridgeOf, changed_from, bridge_from, bridge_in, port_from, port_in}
use Rattle.mst_forest.proofs.Seen.{SeenPort, BridgesRise, PortsRise, ports_seen, bridge_seen, port_seen, bridges_apart, ports_apart, bridge_there, port_there, port_of_net, few_bridges}

-- no more pass than there are
length_kept : {A B : Type 0} (h : A → Option B) (xs : List A) → length (filter_map h xs) ≤ length xs
length_kept h [] = omega arith
length_kept {A} {B} h (x ∷ xs) = go (h x) (length_kept h xs)
  where
    go : (o : Option B) → length (filter_map h xs) ≤ length xs → length (cons_option o (filter_map h xs)) ≤ length (x ∷ xs)
    go None l = omega arith
    go (Some y) l = omega arith

-- the numbers of names
abbrev pub numbering : Numbers → Renaming (List ℕ) (List ℕ) PortName ℕ ℕ ℕ
numbering numbers = record {
  bridge = λ a. unwrap_or (fin.get numbers.bridges a) 0;
  lan = λ l. unwrap_or (fin.get numbers.lans l) 0;
  port = λ p. unwrap_or (fin.get numbers.ports p) 0;
}

-- a bridge and a port in a tree, under their numbers
abbrev pub number_bridge : {B P : Type 0} → Sight B P → BridgeInView → Option (ℕ × B)
number_bridge s b = option_map (λ c. (b.bridge.number, c)) (s.bridge b.name (bridge_row b.bridge))

abbrev pub number_port : {B P : Type 0} → Sight B P → PortInView → Option (TreePort ℕ ℕ ℕ P)
number_port s p = option_map (seen_tree_port p) (s.port (named_port p))

abbrev pub number_tree : {B P : Type 0} → Sight B P → Viewed → Topology ℕ ℕ ℕ B P
number_tree s v = topology_by_number (filter_map (number_bridge s) v.bridges) (filter_map (number_port s) v.ports)

module _ {B P V : Type 0} (net : Net) (numbers : Numbers) (ok : IsNetwork net) (num : IsNumbered net numbers) (v : Viewed) (view : IsView net numbers v)
    (m : Rules B P V) (s : Sight B P) (sight : IsSight net m s) where
  abbrev r : Renaming (List ℕ) (List ℕ) PortName ℕ ℕ ℕ
  r = numbering numbers

  abbrev t : Topology (List ℕ) (List ℕ) PortName B P
  t = tree_of net s

  abbrev u : Topology ℕ ℕ ℕ B P
  u = number_tree s v

  -- a bridge of the tree has a number
  record BridgeNumbered (n : List ℕ) (b : B) : Type 0 where
    seen : BridgeInView
    there : Contains v.bridges seen
    has_number : fin.get numbers.bridges n ≡ Some seen.bridge.number
    kept : number_bridge s seen ≡ Some (seen.bridge.number, b)

  bridge_numbered : (n : List ℕ) (b : B) → BridgeOf net s n b → BridgeNumbered n b
  bridge_numbered n b x =
      let z = bridge_there net numbers v view n x.row x.has_row in
      let name : z.0.name ≡ n = ap (λ (e : List ℕ × BridgeRow). e.0) z.2 in
      record {
        seen = z.0;
        there = z.1;
        has_number = ap (fin.get numbers.bridges) (sym name) ∙ (bridge_seen net numbers v view z.0 z.1).has_number;
        kept = ap (λ (e : List ℕ × BridgeRow). option_map (λ c. (z.0.bridge.number, c)) (s.bridge e.0 e.1)) z.2 ∙ ap (option_map (λ c. (z.0.bridge.number, c))) x.seen;
      }

  -- a bridge under its number has a name
  record BridgeNamed (o : ℕ) (b : B) : Type 0 where
    name : List ℕ
    of_tree : BridgeOf net s name b
    has_number : fin.get numbers.bridges name ≡ Some o

  bridge_named : (o : ℕ) (b : B) → HasBridge u o b → BridgeNamed o b
  bridge_named o b h =
      let z = kept_from (number_bridge s) v.bridges (o, b) h in
      let c = changed_from (λ c. (z.0.bridge.number, c)) (s.bridge z.0.name (bridge_row z.0.bridge)) (o, b) z.2 in
      let seen = bridge_seen net numbers v view z.0 z.1 in
      record {
        name = z.0.name;
        of_tree = record { row = bridge_row z.0.bridge; has_row = seen.has_row; seen = c.1 ∙ ap Some (ap (λ (q : ℕ × B). q.1) c.2) };
        has_number = seen.has_number ∙ ap Some (ap (λ (q : ℕ × B). q.0) c.2);
      }

  -- a port of the tree has its numbers
  record PortNumbered (p : TreePort (List ℕ) (List ℕ) PortName P) : Type 0 where
    seen : PortInView
    there : Contains v.ports seen
    settings : P
    kept : number_port s seen ≡ Some (seen_tree_port seen settings)
    is : tree_port (named_port seen) settings ≡ p

  port_numbered : (p : TreePort (List ℕ) (List ℕ) PortName P) → HasPort t p → PortNumbered p
  port_numbered p h =
      let x = port_from net ok m s sight p h in
      let z = port_there net numbers v view x.port x.there in
      record {
        seen = z.0;
        there = z.1;
        settings = x.settings;
        kept = ap (λ q. option_map (seen_tree_port z.0) (s.port q)) z.2 ∙ ap (option_map (seen_tree_port z.0)) x.seen;
        is = ap (λ q. tree_port q x.settings) z.2 ∙ x.is;
      }

  -- a port with its numbers is the port under its name, renamed
  same_port : (z : PortInView) (settings : P) → HasNumbers numbers z → renamed r (tree_port (named_port z) settings) ≡ seen_tree_port z settings
  same_port z settings h = λ i. record {
    number = ap (λ o. unwrap_or o 0) h.port i;
    bridge = ap (λ o. unwrap_or o 0) h.bridge i;
    lan = ap (λ o. unwrap_or o 0) h.lan i;
    settings = settings;
    is_part = true;
    is_restricted = z.settings.is_restricted;
  }

  record PortNamed (q : TreePort ℕ ℕ ℕ P) : Type 0 where
    seen : PortInView
    there : Contains v.ports seen
    settings : P
    of_tree : s.port (named_port seen) ≡ Some settings
    is : seen_tree_port seen settings ≡ q

  port_named : (q : TreePort ℕ ℕ ℕ P) → HasPort u q → PortNamed q
  port_named q h =
      let z = kept_from (number_port s) v.ports q h in
      let c = changed_from (seen_tree_port z.0) (s.port (named_port z.0)) q z.2 in
      record { seen = z.0; there = z.1; settings = c.0; of_tree = c.1; is = c.2 }

  -- what the keys of a port of the tree are
  pub record HasKeys (p : TreePort (List ℕ) (List ℕ) PortName P) : Type 0 where
    pub port : fin.get numbers.ports p.number ≡ Some ((numbering numbers).port p.number)
    pub lan : fin.get numbers.lans p.lan ≡ Some ((numbering numbers).lan p.lan)

  pub has_keys : (p : TreePort (List ℕ) (List ℕ) PortName P) → HasPort (tree_of net s) p → HasKeys p
  has_keys p h =
      let x = port_numbered p h in
      let n = (port_seen net numbers v view x.seen x.there).has_numbers in
      subst HasKeys x.is (record { port = n.port ∙ sym (ap (λ o. Some (unwrap_or o 0)) n.port); lan = n.lan ∙ sym (ap (λ o. Some (unwrap_or o 0)) n.lan) })

  -- a bridge of the tree has a number
  pub bridge_number : (n : List ℕ) (b : B) → HasBridge (tree_of net s) n b → (k : ℕ) × (fin.get numbers.bridges n ≡ Some k)
  bridge_number n b h = let x = bridge_numbered n b (bridge_from net ok m s sight n b h) in (x.seen.bridge.number, x.has_number)

  number_is : (n : List ℕ) (o : ℕ) → fin.get numbers.bridges n ≡ Some o → r.bridge n ≡ o
  number_is n o e = ap (λ k. unwrap_or k 0) e

  pub tree_renamed : IsRenamed (numbering numbers) (tree_of net s) (number_tree s v)
  tree_renamed = record {
    bridges = λ n b h.
        let x = bridge_numbered n b (bridge_from net ok m s sight n b h) in
        subst (λ o. HasBridge u o b) (sym (number_is n x.seen.bridge.number x.has_number)) (kept_in (number_bridge s) v.bridges x.seen (x.seen.bridge.number, b) x.there x.kept);
    from_bridge = λ o b h.
        let x = bridge_named o b h in
        (x.name, bridge_in net ok m s sight x.name b x.of_tree, number_is x.name o x.has_number);
    ports = λ p h.
        let x = port_numbered p h in
        let n = (port_seen net numbers v view x.seen x.there).has_numbers in
        subst (HasPort u) (sym (same_port x.seen x.settings n) ∙ ap (renamed r) x.is) (kept_in (number_port s) v.ports x.seen (seen_tree_port x.seen x.settings) x.there x.kept);
    from_port = λ q h.
        let x = port_named q h in
        let n = (port_seen net numbers v view x.seen x.there).has_numbers in (
          tree_port (named_port x.seen) x.settings,
          port_in net ok m s sight (named_port x.seen) x.settings (port_of_net net numbers v view x.seen x.there) x.of_tree,
          same_port x.seen x.settings n ∙ x.is,
        );
    one_bridge = λ n k a b h j e.
        let x = bridge_numbered n a (bridge_from net ok m s sight n a h) in
        let y = bridge_numbered k b (bridge_from net ok m s sight k b j) in
        let same : x.seen.bridge.number ≡ y.seen.bridge.number = sym (number_is n x.seen.bridge.number x.has_number) ∙ e ∙ number_is k y.seen.bridge.number y.has_number in
        num.bridges_differ n k y.seen.bridge.number (x.has_number ∙ ap Some same) y.has_number;
    one_lan = λ p q h j e. num.lans_differ p.lan q.lan (r.lan q.lan) ((has_keys p h).lan ∙ ap Some e) (has_keys q j).lan;
    one_port = λ p q h j e. num.ports_differ p.number q.number (r.port q.number) ((has_keys p h).port ∙ ap Some e) (has_keys q j).port;
  }

  -- ---- what can be settled
  bridges_differ : Apart (BridgesDiffer m) (filter_map (number_bridge s) v.bridges)
  bridges_differ = apart_kept (BridgesRise net numbers) (BridgesDiffer m) (number_bridge s) differ v.bridges (bridges_apart net numbers v view)
    where
      differ : (x y : BridgeInView) (a b : ℕ × B) → BridgesRise net numbers x y → number_bridge s x ≡ Some a → number_bridge s y ≡ Some b → BridgesDiffer m a b
      differ x y a b l e f =
          let c = changed_from (λ c. (x.bridge.number, c)) (s.bridge x.name (bridge_row x.bridge)) a e in
          let d = changed_from (λ c. (y.bridge.number, c)) (s.bridge y.name (bridge_row y.bridge)) b f in
          let p : BridgeOf net s x.name c.0 = record { row = bridge_row x.bridge; has_row = l.first.has_row; seen = c.1 } in
          let q : BridgeOf net s y.name d.0 = record { row = bridge_row y.bridge; has_row = l.second.has_row; seen = d.1 } in
          record {
            numbers = λ same.
                let numbers_are : x.bridge.number ≡ y.bridge.number = ap (λ (z : ℕ × B). z.0) c.2 ∙ same ∙ sym (ap (λ (z : ℕ × B). z.0) d.2) in
                names_differ x.name y.name l.less (num.bridges_differ x.name y.name y.bridge.number (l.first.has_number ∙ ap Some numbers_are) l.second.has_number);
            identifiers = λ same.
                let ids : m.bridge_id c.0 ≡ m.bridge_id d.0 = ap (λ (z : ℕ × B). m.bridge_id z.1) c.2 ∙ same ∙ sym (ap (λ (z : ℕ × B). m.bridge_id z.1) d.2) in
                names_differ x.name y.name l.less (ok.bridges.macs_differ x.name y.name p.row q.row p.has_row q.has_row (sight.macs x.name y.name c.0 d.0 p q ids));
          }

  ports_differ : Apart (PortsDiffer m) (filter_map (number_port s) v.ports)
  ports_differ = apart_kept (PortsRise net numbers) (PortsDiffer m) (number_port s) differ v.ports (ports_apart net numbers v view)
    where
      differ : (x y : PortInView) (a b : TreePort ℕ ℕ ℕ P) → PortsRise net numbers x y → number_port s x ≡ Some a → number_port s y ≡ Some b → PortsDiffer m a b
      differ x y a b l e f =
          let c = changed_from (seen_tree_port x) (s.port (named_port x)) a e in
          let d = changed_from (seen_tree_port y) (s.port (named_port y)) b f in
          let n = l.first.has_numbers in
          let k = l.second.has_numbers in
          record {
            numbers = λ same.
                let numbers_are : x.number ≡ y.number = ap (λ (z : TreePort ℕ ℕ ℕ P). z.number) c.2 ∙ same ∙ sym (ap (λ (z : TreePort ℕ ℕ ℕ P). z.number) d.2) in
                port_names_differ x.name y.name l.less (num.ports_differ x.name y.name y.number (n.port ∙ ap Some numbers_are) k.port);
            identifiers = λ bridges same.
                let on : x.bridge ≡ y.bridge = ap (λ (z : TreePort ℕ ℕ ℕ P). z.bridge) c.2 ∙ bridges ∙ sym (ap (λ (z : TreePort ℕ ℕ ℕ P). z.bridge) d.2) in
                let ids : m.port_id c.0 ≡ m.port_id d.0 = ap (λ (z : TreePort ℕ ℕ ℕ P). m.port_id z.settings) c.2 ∙ same ∙ sym (ap (λ (z : TreePort ℕ ℕ ℕ P). m.port_id z.settings) d.2) in
                let names : x.name.bridge ≡ y.name.bridge = num.bridges_differ x.name.bridge y.name.bridge y.bridge (n.bridge ∙ ap Some on) k.bridge in
                let at : x.name.number ≡ y.name.number = sight.port_numbers (named_port x) (named_port y) c.0 d.0 l.first.is_port l.second.is_port c.1 d.1 ids in
                port_names_differ x.name y.name l.less (λ i. record { bridge = names i; number = at i });
          }

  -- what is true of each port that is in the tree
  each_port : (Q : TreePort ℕ ℕ ℕ P → Type 0) → ((p : PortInView) (c : P) → SeenPort net numbers p → s.port (named_port p) ≡ Some c → Q (seen_tree_port p c)) → AllByRecursion Q (filter_map (number_port s) v.ports)
  each_port Q f =
      all_kept (SeenPort net numbers) Q (number_port s)
      (λ p q seen e. let c = changed_from (seen_tree_port p) (s.port (named_port p)) q e in subst Q c.2 (f p c.0 seen c.1))
      v.ports (ports_seen net numbers v view)

  pub can_settle : CanSettle m (filter_map (number_bridge s) v.bridges) (filter_map (number_port s) v.ports)
  can_settle = record {
    bridges_differ = bridges_differ;
    ports_differ = ports_differ;
    take_part = each_port (λ q. q.is_part ≡ true) (λ p c seen e. refl);
    have_bridge = each_port (λ q. (b : B) × Contains (filter_map (number_bridge s) v.bridges) (q.bridge, b)) (λ p c seen e.
        let b = sight.own_bridge (named_port p) c seen.is_port e in
        let x = bridge_numbered p.name.bridge b.0 b.1 in
        let same : x.seen.bridge.number ≡ p.bridge = some_is x.seen.bridge.number p.bridge (sym x.has_number ∙ seen.has_numbers.bridge) in
        (b.0, subst (λ o. Contains (filter_map (number_bridge s) v.bridges) (o, b.0)) same (kept_in (number_bridge s) v.bridges x.seen (x.seen.bridge.number, b.0) x.there x.kept)));
    in_range = each_port (λ q. IsTrue (m.in_range q.settings)) (λ p c seen e. sight.in_range (named_port p) c seen.is_port e);
    few = let all = few_bridges net numbers v view ok in let l = length_kept (number_bridge s) v.bridges in omega arith;
  }

-- What the kept tables say of the network.
use Rattle.std.proofs.Common.{◌≡◌, ℕ, false, List, [], ◌∷◌, length, nat_eq, refl, sym, ap, subst, ◌∙◌, arith}
use Rattle.std.specs.List.{list_any}
use Rattle.std.specs.FinMap as fin
use Rattle.std.specs.FinMap.{len-entries, len-empty, entries}
use Rattle.std.specs.Map.{values_of}
use Rattle.mst_ids.specs.Names.{name_cmp}
use Rattle.mst_tables.specs.Tables.{Net, IsNetwork, BridgeRow, port_eq, empty_net}
use Rattle.mst_tables.specs.After.{mac_taken, is_of_bridge, is_in_lan}
use Rattle.mst_tables.specs.Contents.{IsNumbered}
use Rattle.mst_tables.specs.Counting.{count_where}
use Rattle.mst_records.specs.Rows.{IsNumberedBy}
use Rattle.mst_tables.specs.ByTree.{nothing_set}
use Rattle.mst_records.specs.Tally.{count_in}
use Rattle.mst_tables.proofs.Counting.{count_empty}
use Rattle.mst_net.specs.NetworkKept.{contents_of, IsSound}
use Rattle.mst_net.specs.declared.network.Network.TheInside.{Inside}
use Rattle.mst_tables.proofs.Keyed.{get_keyed, contains_keyed, same_keys}
use Rattle.mst_tables.proofs.Keys.{name_eq, names, ports}
use Rattle.mst_tables.proofs.AfterLemmas.{no_network}

no_length : {A : Type 0} (es : List A) → length es ≡ 0 → es ≡ []
no_length [] e = refl
no_length (x ∷ es) e = absurd (omega arith)

none_taken : (mac : ℕ) → mac_taken mac empty_net ≡ false
none_taken mac =
    let none : fin.FinMap name_cmp BridgeRow = fin.empty in
    ap (λ l. list_any (λ (b : BridgeRow). nat_eq b.mac mac) (values_of l)) (no_length (entries none) (sym (len-entries none) ∙ len-empty name_cmp BridgeRow))

pub empty_sound : (a : Inside) → a.bridges.rows ≡ [] → a.ports.rows ≡ [] → a.lans.rows ≡ [] → a.macs.keys ≡ [] → ((q : List ℕ) → count_in name_eq a.port_counts q ≡ 0) → ((q : List ℕ) → count_in name_eq a.plug_counts q ≡ 0)
    → a.settings.set ≡ nothing_set
    → IsNumberedBy name_eq a.bridges → IsNumberedBy port_eq a.ports → IsNumberedBy name_eq a.lans → IsSound a
empty_sound a no_bridges no_ports no_lans macs port_counts plug_counts settings x y z =
    let net : empty_net ≡ (contents_of a).net = λ i. record {
      bridges = fin.from_entries (sym no_bridges i);
      ports = fin.from_entries (sym no_ports i);
      lans = fin.from_entries (sym no_lans i);
      priorities = (sym settings i).priorities;
      port_priorities = (sym settings i).port_priorities;
      port_costs = (sym settings i).port_costs;
      tables = (sym settings i).tables;
      vlans = (sym settings i).vlans;
    } in
    record {
      network = subst IsNetwork net no_network;
      bridges = x;
      ports = y;
      lans = z;
      macs = λ mac. ap (list_any (nat_eq mac)) macs ∙ sym (none_taken mac) ∙ ap (mac_taken mac) net;
      port_counts = λ q. port_counts q ∙ sym (count_empty ports (is_of_bridge q)) ∙ ap (λ (n : Net). count_where (is_of_bridge q) n.ports) net;
      plug_counts = λ q. plug_counts q ∙ sym (count_empty ports (is_in_lan q)) ∙ ap (λ (n : Net). count_where (is_in_lan q) n.ports) net;
    }

pub numbered_contents : (a : Inside) → IsSound a → IsNumbered (contents_of a).net (contents_of a).numbers
numbered_contents a s = record {
  bridges = λ k. contains_keyed names a.bridges.numbers k ∙ s.bridges.numbered k ∙ sym (contains_keyed names a.bridges.rows k);
  ports = λ k. contains_keyed ports a.ports.numbers k ∙ s.ports.numbered k ∙ sym (contains_keyed ports a.ports.rows k);
  lans = λ k. contains_keyed names a.lans.numbers k ∙ s.lans.numbered k ∙ sym (contains_keyed names a.lans.rows k);
  bridges_differ = λ k l n h i. same_keys names k l (s.bridges.differ k l n (sym (get_keyed names a.bridges.numbers k) ∙ h) (sym (get_keyed names a.bridges.numbers l) ∙ i));
  ports_differ = λ k l n h i. same_keys ports k l (s.ports.differ k l n (sym (get_keyed ports a.ports.numbers k) ∙ h) (sym (get_keyed ports a.ports.numbers l) ∙ i));
  lans_differ = λ k l n h i. same_keys names k l (s.lans.differ k l n (sym (get_keyed names a.lans.numbers k) ∙ h) (sym (get_keyed names a.lans.numbers l) ∙ i));
}

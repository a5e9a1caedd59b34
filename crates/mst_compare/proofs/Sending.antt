-- The sender that is seen in a view is the sender by name.
use Rattle.std.proofs.Common.{◌≡◌, ℕ, ◌==◌, ◌&&◌, Bool, true, false, List, Option, Some, None, refl, sym, ap, subst, ◌∙◌}
use Rattle.std.specs.Prelude.{if◌then◌else◌}
use Rattle.std.specs.List.{Contains, find}
use Rattle.std.specs.Option.{option_map, option_and_then}
use Rattle.std.specs.FinMap as fin
use Rattle.std.specs.Cmp.Lexicographic.{bytes_decides}
use Rattle.std.proofs.lemmas.Bool.{and_parts}
use Rattle.mst_ids.specs.Identifiers.{mac_of, port_number_of}
use Rattle.mst_ids.specs.declared.name.PortName.{PortName}
use Rattle.mst_tables.specs.Tables.{Net, Numbers, BridgeRow}
use Rattle.mst_tables.specs.Seen.{bridge_row}
use Rattle.mst_view.specs.Aggregation.{same_name}
use Rattle.mst_view.specs.View.{LogicalPort, view_ports}
use Rattle.mst_view.specs.Viewed.{Viewed, IsView, named_bridge, named_port}
use Rattle.mst_view.specs.declared.in_view.BridgeInView.{BridgeInView}
use Rattle.mst_view.specs.declared.in_view.PortInView.{PortInView}
use Rattle.mst_roles.proofs.forest_lemmas.Lists.{some_is, no_some}
use Rattle.mst_roles.proofs.Named.{found_in}
use Rattle.mst_bpdu.specs.Sender.{bridge_of, port_of}
use Rattle.mst_bpdu.specs.declared.bpdu.Bpdu.{Bpdu}
use Rattle.mst_compare.specs.Sender.{sends, has_mac, is_port, sender_at, sender_of}
use Rattle.mst_compare.specs.Seen.{sender_with, seen_sender_at, seen_sender}
use Rattle.mst_compare.specs.declared.senders.Origin.{Origin}
use Rattle.mst_compare.proofs.Found.{find_changed, found_passes}

-- the tests of bridges and ports of a view
abbrev has_mac_seen : Bpdu → BridgeInView → Bool
has_mac_seen bpdu b = b.bridge.mac == mac_of (bridge_of bpdu)

abbrev number_of : Bpdu → ℕ
number_of bpdu = port_number_of (port_of bpdu)

abbrev is_port_seen : Bpdu → BridgeInView → PortInView → Bool
is_port_seen bpdu b p = is_port b.name (number_of bpdu) (named_port p)

-- ---- under names
abbrev pub name_of : Origin → PortName
name_of s = s.port.name

module _ (net : Net) (numbers : Numbers) (v : Viewed) (view : IsView net numbers v) (bpdu : Bpdu) where
  named_with : (b : BridgeInView) (o : Option PortInView) → option_map (λ (p : LogicalPort). p.name) (option_map named_port o) ≡ option_map name_of (option_map (sender_with b) o)
  named_with b None = refl
  named_with b (Some p) = refl

  port_named : (b : BridgeInView) → option_map (λ (p : LogicalPort). p.name) (find (is_port b.name (number_of bpdu)) (view_ports net)) ≡ option_map name_of (option_map (sender_with b) (find (is_port_seen bpdu b) v.ports))
  port_named b =
      ap (λ ps. option_map (λ (p : LogicalPort). p.name) (find (is_port b.name (number_of bpdu)) ps)) (sym view.ports)
      ∙ ap (option_map (λ (p : LogicalPort). p.name)) (find_changed (is_port b.name (number_of bpdu)) named_port v.ports)
      ∙ named_with b (find (is_port_seen bpdu b) v.ports)

  named_at : (b : BridgeInView) → sender_at net bpdu (named_bridge b) ≡ option_map name_of (seen_sender_at v bpdu b)
  named_at b = go (sends bpdu (bridge_row b.bridge).is_rstp)
    where
      go : (t : Bool) → (if t then option_map (λ (p : LogicalPort). p.name) (find (is_port b.name (number_of bpdu)) (view_ports net)) else None)
          ≡ option_map name_of (if t then option_map (sender_with b) (find (is_port_seen bpdu b) v.ports) else None)
      go true = port_named b
      go false = refl

  pub sender_named : sender_of net bpdu ≡ option_map name_of (seen_sender v bpdu)
  sender_named =
      ap (λ es. option_and_then (sender_at net bpdu) (find (has_mac bpdu) es)) (sym view.bridges)
      ∙ ap (option_and_then (sender_at net bpdu)) (find_changed (has_mac bpdu) named_bridge v.bridges)
      ∙ go (find (has_mac_seen bpdu) v.bridges)
    where
      go : (o : Option BridgeInView) → option_and_then (sender_at net bpdu) (option_map named_bridge o) ≡ option_map name_of (option_and_then (seen_sender_at v bpdu) o)
      go None = refl
      go (Some b) = named_at b

  pub sent_by : (s : Origin) → seen_sender v bpdu ≡ Some s → sender_of net bpdu ≡ Some s.port.name
  sent_by s e = sender_named ∙ ap (option_map name_of) e

  pub sent_by_none : seen_sender v bpdu ≡ None → sender_of net bpdu ≡ None
  sent_by_none e = sender_named ∙ ap (option_map name_of) e

-- the sender by its bridge and its port
pub seen_here : (v : Viewed) (bpdu : Bpdu) (b : BridgeInView) (p : PortInView) (mac number : ℕ) (t : Bool) → mac ≡ mac_of (bridge_of bpdu) → number ≡ number_of bpdu
    → Some b ≡ find (λ (x : BridgeInView). x.bridge.mac == mac) v.bridges → t ≡ true → t ≡ sends bpdu (bridge_row b.bridge).is_rstp
    → Some p ≡ find (λ (x : PortInView). is_port b.name number (named_port x)) v.ports → Some (sender_with b p) ≡ seen_sender v bpdu
seen_here v bpdu b p mac number t macs numbers bridge passes sent port =
    ap (option_map (sender_with b)) port
    ∙ ap (λ (n : ℕ). option_map (sender_with b) (find (λ (x : PortInView). is_port b.name n (named_port x)) v.ports)) numbers
    ∙ sym (ap (λ (u : Bool). if u then option_map (sender_with b) (find (is_port_seen bpdu b) v.ports) else None) (sym sent ∙ passes))
    ∙ ap (option_and_then (seen_sender_at v bpdu)) (bridge ∙ ap (λ (m : ℕ). find (λ (x : BridgeInView). x.bridge.mac == m) v.bridges) macs)

-- ---- what a sender is
-- a bridge of the view, and an enabled logical port of it
pub record IsSender (v : Viewed) (s : Origin) : Type 0 where
  pub bridge_there : Contains v.bridges s.bridge
  pub port_there : Contains v.ports s.port
  pub enabled : s.port.is_enabled ≡ true
  pub owned : s.port.name.bridge ≡ s.bridge.name

module _ (v : Viewed) (bpdu : Bpdu) where
  is_sender_with : (b : BridgeInView) (p : PortInView) → Contains v.bridges b → find (is_port_seen bpdu b) v.ports ≡ Some p → IsSender v (sender_with b p)
  is_sender_with b p there e =
      let passes = and_parts (p.is_enabled && p.name.number == number_of bpdu) (same_name p.name.bridge b.name) (found_passes (is_port_seen bpdu b) v.ports p e) in
      record {
        bridge_there = there;
        port_there = found_in (is_port_seen bpdu b) v.ports p e;
        enabled = (and_parts p.is_enabled (p.name.number == number_of bpdu) passes.0).0;
        owned = (bytes_decides p.name.bridge b.name).0 passes.1;
      }

  pub is_sender : (s : Origin) → seen_sender v bpdu ≡ Some s → IsSender v s
  is_sender s e = by_bridge (find (has_mac_seen bpdu) v.bridges) refl e
    where
      by_port : (b : BridgeInView) → Contains v.bridges b → (o : Option PortInView) → find (is_port_seen bpdu b) v.ports ≡ o → option_map (sender_with b) o ≡ Some s → IsSender v s
      by_port b there None f h = absurd (no_some s h)
      by_port b there (Some p) f h = subst (IsSender v) (some_is (sender_with b p) s h) (is_sender_with b p there f)

      by_kind : (b : BridgeInView) → Contains v.bridges b → (t : Bool) → (if t then option_map (sender_with b) (find (is_port_seen bpdu b) v.ports) else None) ≡ Some s → IsSender v s
      by_kind b there true h = by_port b there (find (is_port_seen bpdu b) v.ports) refl h
      by_kind b there false h = absurd (no_some s h)

      by_bridge : (o : Option BridgeInView) → find (has_mac_seen bpdu) v.bridges ≡ o → option_and_then (seen_sender_at v bpdu) o ≡ Some s → IsSender v s
      by_bridge None f h = absurd (no_some s h)
      by_bridge (Some b) f h = by_kind b (found_in (has_mac_seen bpdu) v.bridges b f) (sends bpdu (bridge_row b.bridge).is_rstp) h

-- ---- a sender by name
-- an enabled logical port of the network
pub record IsEnabledPort (net : Net) (port : PortName) : Type 0 where
  pub logical : LogicalPort
  pub there : Contains (view_ports net) logical
  pub enabled : logical.is_enabled ≡ true
  pub is_name : logical.name ≡ port

pub is_enabled_port : (net : Net) (bpdu : Bpdu) (port : PortName) → sender_of net bpdu ≡ Some port → IsEnabledPort net port
is_enabled_port net bpdu port e = by_bridge (find (has_mac bpdu) (fin.entries net.bridges)) e
  where
    by_port : (bridge : List ℕ) (o : Option LogicalPort) → find (is_port bridge (number_of bpdu)) (view_ports net) ≡ o → option_map (λ (p : LogicalPort). p.name) o ≡ Some port → IsEnabledPort net port
    by_port bridge None f h = absurd (no_some port h)
    by_port bridge (Some p) f h =
        let passes = and_parts (p.is_enabled && p.name.number == number_of bpdu) (same_name p.name.bridge bridge) (found_passes (is_port bridge (number_of bpdu)) (view_ports net) p f) in
        record {
          logical = p;
          there = found_in (is_port bridge (number_of bpdu)) (view_ports net) p f;
          enabled = (and_parts p.is_enabled (p.name.number == number_of bpdu) passes.0).0;
          is_name = some_is p.name port h;
        }

    by_kind : (bridge : List ℕ) (t : Bool) → (if t then option_map (λ (p : LogicalPort). p.name) (find (is_port bridge (number_of bpdu)) (view_ports net)) else None) ≡ Some port → IsEnabledPort net port
    by_kind bridge true h = by_port bridge (find (is_port bridge (number_of bpdu)) (view_ports net)) refl h
    by_kind bridge false h = absurd (no_some port h)

    by_bridge : (o : Option (List ℕ × BridgeRow)) → option_and_then (sender_at net bpdu) o ≡ Some port → IsEnabledPort net port
    by_bridge None h = absurd (no_some port h)
    by_bridge (Some b) h = by_kind b.0 (sends bpdu b.1.is_rstp) h

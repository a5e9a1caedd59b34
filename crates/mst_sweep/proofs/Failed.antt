-- What failures leave as it is.
use Rattle.std.proofs.Common.{◌≡◌, ℕ, Bool, true, false, cond, List, [], ◌∷◌, map, filter, Option, Some, None, refl, sym, ap, ◌∙◌}
use Rattle.std.specs.FinMap as fin
use Rattle.std.specs.List.{find}
use Rattle.std.specs.Option.{option_map, unwrap_or}
use Rattle.mst_lang.specs.declared.line.BridgeChange.TheVariants.{Power}
use Rattle.mst_lang.specs.declared.line.LanChange.TheVariants.{State}
use Rattle.mst_lang.specs.declared.line.LanState.TheVariants.{Down}
use Rattle.mst_lang.specs.declared.line.Power.TheVariants.{Off}
use Rattle.mst_net.specs.tables.After.{effect, bridge_with, lan_with}
use Rattle.mst_net.specs.tables.Tables.{Net, BridgeRow, port_eq}
use Rattle.mst_net.proofs.tables_lemmas.Changed.{get_changed}
use Rattle.mst_net.proofs.tables_lemmas.Keys.{names}
use Rattle.mst_net.proofs.tables_lemmas.NamesInOrder.{names_stay}
use Rattle.mst_view.specs.Aggregation.{Plug, plugs, lans_as_one, same_name}
use Rattle.mst_view.specs.View.{LogicalPort, logical_lan, logical_port, as_port, port_names}
use Rattle.mst_vlan.proofs.forest_lemmas.Lists.{mapped_twice}
use Rattle.mst_sweep.specs.declared.failure.Failure.{Failure}
use Rattle.mst_sweep.specs.declared.failure.Failure.TheVariants.{Lan, Bridge}
use Rattle.mst_sweep.specs.Failures.{edit_of, failed}
use Rattle.mst_sweep.specs.Left.{AreLeft, lan_names}

-- the names of logical ports are those of plugs
names_of_plugs : (net : Net) → port_names net ≡ map (λ (p : Plug). p.port) (filter (λ p. port_eq (logical_port net p).port p.port) (plugs net))
names_of_plugs net = mapped_twice (λ (p : LogicalPort). p.name) (as_port net) (filter (λ p. port_eq (logical_port net p).port p.port) (plugs net))

lans_of_plugs : (net : Net) → lan_names net ≡ map (λ (p : Plug). logical_lan net p.lan) (filter (λ p. port_eq (logical_port net p).port p.port) (plugs net))
lans_of_plugs net = mapped_twice (λ (p : LogicalPort). p.lan) (as_port net) (filter (λ p. port_eq (logical_port net p).port p.port) (plugs net))

-- the least of the LANs that count as one is found among their names
lans_by : (a : Net) (olds news : List (List ℕ)) → olds ≡ news
    → map (λ (p : Plug). unwrap_or (find (lans_as_one a p.lan) olds) p.lan) (filter (λ p. port_eq (logical_port a p).port p.port) (plugs a))
    ≡ map (λ (p : Plug). unwrap_or (find (lans_as_one a p.lan) news) p.lan) (filter (λ p. port_eq (logical_port a p).port p.port) (plugs a))
lans_by a olds news e = ap (λ ns. map (λ (p : Plug). unwrap_or (find (lans_as_one a p.lan) ns) p.lan) (filter (λ p. port_eq (logical_port a p).port p.port) (plugs a))) e

kind_stays : (t : Bool) (o : Option BridgeRow) → option_map (λ (row : BridgeRow). row.is_rstp) o ≡ option_map (λ (row : BridgeRow). row.is_rstp) (cond t (option_map (bridge_with (Power Off)) o) o)
kind_stays true None = refl
kind_stays true (Some row) = refl
kind_stays false o = refl

pub left_by : (failure : Failure) (a : Net) → AreLeft a (effect (edit_of failure) a)
left_by (Lan lan) a = record {
  bridges = refl;
  kinds = λ name. refl;
  ports = names_of_plugs a ∙ sym (names_of_plugs (effect (edit_of (Lan lan)) a));
  lans =
      lans_of_plugs a ∙ lans_by a (fin.keys a.lans) (fin.keys (effect (edit_of (Lan lan)) a).lans) (names_stay names a.lans lan (lan_with (State Down)))
      ∙ sym (lans_of_plugs (effect (edit_of (Lan lan)) a));
  settings = refl;
}
left_by (Bridge bridge) a = record {
  bridges = names_stay names a.bridges bridge (bridge_with (Power Off));
  kinds = λ name. kind_stays (same_name bridge name) (fin.get a.bridges name) ∙ sym (ap (option_map (λ (row : BridgeRow). row.is_rstp)) (get_changed names a.bridges bridge (bridge_with (Power Off)) name));
  ports = names_of_plugs a ∙ sym (names_of_plugs (effect (edit_of (Bridge bridge)) a));
  lans = lans_of_plugs a ∙ sym (lans_of_plugs (effect (edit_of (Bridge bridge)) a));
  settings = refl;
}

-- what is left as it is by one and then by others
left_then : (a b c : Net) → AreLeft a b → AreLeft b c → AreLeft a c
left_then a b c x y = record {
  bridges = x.bridges ∙ y.bridges;
  kinds = λ name. x.kinds name ∙ y.kinds name;
  ports = x.ports ∙ y.ports;
  lans = x.lans ∙ y.lans;
  settings = x.settings ∙ y.settings;
}

pub are_left : (failures : List Failure) (a : Net) → AreLeft a (failed failures a)
are_left [] a = record { bridges = refl; kinds = λ name. refl; ports = refl; lans = refl; settings = refl }
are_left (Lan lan ∷ others) a = let one = effect (edit_of (Lan lan)) a in left_then a one (failed others one) (left_by (Lan lan) a) (are_left others one)
are_left (Bridge bridge ∷ others) a = let one = effect (edit_of (Bridge bridge)) a in left_then a one (failed others one) (left_by (Bridge bridge) a) (are_left others one)

-- A network with failures: it is one, and its records stay but for what fails.
use Rattle.std.proofs.Common.{◌≡◌, ℕ, Bool, true, false, cond, ◌||◌, List, [], ◌∷◌, Option, Some, None, refl, sym, ap, ◌∙◌}
use Rattle.std.specs.FinMap as fin
use Rattle.std.specs.List.{list_any}
use Rattle.std.specs.Option.{option_map}
use Rattle.mst_ids.specs.Names.{name_cmp}
use Rattle.mst_lang.specs.declared.line.BridgeChange.TheVariants.{Power}
use Rattle.mst_lang.specs.declared.line.LanChange.TheVariants.{State}
use Rattle.mst_lang.specs.declared.line.LanState.TheVariants.{Down}
use Rattle.mst_lang.specs.declared.line.Power.TheVariants.{Off}
use Rattle.mst_net.specs.tables.After.{bridge_with, lan_with, change_bridge, change_lan, change}
use Rattle.mst_net.specs.tables.Contents.{IsNumbered}
use Rattle.mst_net.specs.tables.Tables.{Net, Numbers, BridgeRow, LanRow, IsNetwork}
use Rattle.mst_net.proofs.tables_lemmas.AfterLemmas.{bridge_changed, lan_changed}
use Rattle.mst_net.proofs.tables_lemmas.Changed.{get_changed, contains_changed}
use Rattle.mst_net.proofs.tables_lemmas.Keys.{names}
use Rattle.mst_net.proofs.tables_lemmas.NamesInOrder.{names_stay}
use Rattle.mst_view.specs.Aggregation.{same_name}
use Rattle.mst_sweep.specs.declared.failure.Failure.{Failure}
use Rattle.mst_sweep.specs.declared.failure.Failure.TheVariants.{Lan, Bridge}
use Rattle.mst_sweep.specs.Failures.{failed, lans_failed, bridges_failed}
use Rattle.mst_sweep.specs.Failing.{fails_lan, fails_bridge, down_if, off_if}

-- ---- it is a network
pub failed_network : (fs : List Failure) (net : Net) → IsNetwork net → IsNetwork (failed fs net)
failed_network [] net is = is
failed_network (Lan lan ∷ fs) net is = failed_network fs (change_lan lan (lan_with (State Down)) net) (lan_changed net is lan (lan_with (State Down)) (λ row _ fits. fits))
failed_network (Bridge bridge ∷ fs) net is =
    failed_network fs (change_bridge bridge (bridge_with (Power Off)) net)
    (bridge_changed net is bridge (bridge_with (Power Off)) (λ row _. record { mac = refl; name = λ h. h; sixteen_bits = λ h. h; limits = λ h. h }))

-- and its records have their numbers
pub failed_numbered : (fs : List Failure) (net : Net) (numbers : Numbers) → IsNumbered net numbers → IsNumbered (failed fs net) numbers
failed_numbered [] net numbers is = is
failed_numbered (Lan lan ∷ fs) net numbers is =
    failed_numbered fs (change_lan lan (lan_with (State Down)) net) numbers (record {
      bridges = is.bridges;
      ports = is.ports;
      lans = λ l. is.lans l ∙ sym (contains_changed names net.lans lan (lan_with (State Down)) l);
      bridges_differ = is.bridges_differ;
      ports_differ = is.ports_differ;
      lans_differ = is.lans_differ;
    })
failed_numbered (Bridge bridge ∷ fs) net numbers is =
    failed_numbered fs (change_bridge bridge (bridge_with (Power Off)) net) numbers (record {
      bridges = λ a. is.bridges a ∙ sym (contains_changed names net.bridges bridge (bridge_with (Power Off)) a);
      ports = is.ports;
      lans = is.lans;
      bridges_differ = is.bridges_differ;
      ports_differ = is.ports_differ;
      lans_differ = is.lans_differ;
    })

-- ---- its names are those of before
pub lan_names_stay : (fs : List Failure) (lans : fin.FinMap name_cmp LanRow) → fin.keys lans ≡ fin.keys (lans_failed fs lans)
lan_names_stay [] lans = refl
lan_names_stay (Lan lan ∷ fs) lans = names_stay names lans lan (lan_with (State Down)) ∙ lan_names_stay fs (change lans lan (lan_with (State Down)))
lan_names_stay (Bridge bridge ∷ fs) lans = lan_names_stay fs lans

pub bridge_names_stay : (fs : List Failure) (bridges : fin.FinMap name_cmp BridgeRow) → fin.keys bridges ≡ fin.keys (bridges_failed fs bridges)
bridge_names_stay [] bridges = refl
bridge_names_stay (Lan lan ∷ fs) bridges = bridge_names_stay fs bridges
bridge_names_stay (Bridge bridge ∷ fs) bridges = names_stay names bridges bridge (bridge_with (Power Off)) ∙ bridge_names_stay fs (change bridges bridge (bridge_with (Power Off)))

-- ---- a row of it
down_itself : (o : Option LanRow) → o ≡ option_map (down_if false) o
down_itself None = refl
down_itself (Some row) = refl

off_itself : (o : Option BridgeRow) → o ≡ option_map (off_if false) o
off_itself None = refl
off_itself (Some row) = refl

down_twice : (here others : Bool) (o : Option LanRow) → option_map (down_if others) (cond here (option_map (lan_with (State Down)) o) o) ≡ option_map (down_if (here || others)) o
down_twice true true None = refl
down_twice true false None = refl
down_twice true true (Some row) = refl
down_twice true false (Some row) = refl
down_twice false others o = refl

off_twice : (here others : Bool) (o : Option BridgeRow) → option_map (off_if others) (cond here (option_map (bridge_with (Power Off)) o) o) ≡ option_map (off_if (here || others)) o
off_twice true true None = refl
off_twice true false None = refl
off_twice true true (Some row) = refl
off_twice true false (Some row) = refl
off_twice false others o = refl

pub lan_failed : (fs : List Failure) (lans : fin.FinMap name_cmp LanRow) (name : List ℕ) → fin.get (lans_failed fs lans) name ≡ option_map (down_if (list_any (fails_lan name) fs)) (fin.get lans name)
lan_failed [] lans name = down_itself (fin.get lans name)
lan_failed (Lan lan ∷ fs) lans name =
    lan_failed fs (change lans lan (lan_with (State Down))) name
    ∙ ap (option_map (down_if (list_any (fails_lan name) fs))) (get_changed names lans lan (lan_with (State Down)) name)
    ∙ down_twice (same_name lan name) (list_any (fails_lan name) fs) (fin.get lans name)
lan_failed (Bridge bridge ∷ fs) lans name = lan_failed fs lans name

pub bridge_failed : (fs : List Failure) (bridges : fin.FinMap name_cmp BridgeRow) (name : List ℕ) → fin.get (bridges_failed fs bridges) name ≡ option_map (off_if (list_any (fails_bridge name) fs)) (fin.get bridges name)
bridge_failed [] bridges name = off_itself (fin.get bridges name)
bridge_failed (Lan lan ∷ fs) bridges name = bridge_failed fs bridges name
bridge_failed (Bridge bridge ∷ fs) bridges name =
    bridge_failed fs (change bridges bridge (bridge_with (Power Off))) name
    ∙ ap (option_map (off_if (list_any (fails_bridge name) fs))) (get_changed names bridges bridge (bridge_with (Power Off)) name)
    ∙ off_twice (same_name bridge name) (list_any (fails_bridge name) fs) (fin.get bridges name)

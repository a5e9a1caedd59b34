-- A failure starts no port anew.
use Rattle.std.proofs.Common.{◌≡◌, ℕ, ◌==◌, ◌&&◌, ◌||◌, not, nat_eq, Bool, true, false, cond, List, [], ◌∷◌, map, Option, Some, None, refl, sym, ap, ◌∙◌, eq-eqb}
use Rattle.std.specs.Prelude.{if◌then◌else◌}
use Rattle.std.specs.Cmp.Lexicographic.{pointwise, bytes_decides}
use Rattle.std.specs.FinMap as fin
use Rattle.std.specs.List.{AllByRecursion, Contains, filter, find, list_any}
use Rattle.std.specs.Option.{option_and_then, option_map, option_map_or}
use Rattle.mst_ids.specs.declared.name.PortName.{PortName}
use Rattle.mst_lang.specs.declared.line.BridgeChange.TheVariants.{Power}
use Rattle.mst_lang.specs.declared.line.Power.TheVariants.{Off}
use Rattle.mst_net.specs.tables.After.{effect, bridge_with, table_of}
use Rattle.mst_net.specs.tables.Tables.{Net, BridgeRow, PortRow, port_eq}
use Rattle.mst_net.proofs.tables_lemmas.Changed.{get_changed}
use Rattle.mst_net.proofs.tables_lemmas.Keys.{names}
use Rattle.mst_view.specs.Aggregation.{same_name}
use Rattle.mst_view.specs.View.{LogicalPort, view_ports, bridge_names}
use Rattle.mst_plan.proofs.forest_lemmas.Entries.{all_weaker}
use Rattle.mst_plan.proofs.forest_lemmas.Lists.{all_there}
use Rattle.mst_sweep.specs.Failures.{edit_of, failed}
use Rattle.mst_sweep.specs.declared.failure.Failure.{Failure}
use Rattle.mst_sweep.specs.declared.failure.Failure.TheVariants.{Lan, Bridge}
use Rattle.mst_sweeping.specs.Restarts.{is_as_it_was, starts_anew, bridges_anew, is_replugged, own_lan, port_anew, restarts, restarting}

-- ---- bridges
own_kind : (rstp : Bool) (name : List ℕ) (revision : ℕ) → (if rstp then rstp else not rstp && same_name name name && revision == revision) ≡ true
own_kind true name revision = refl
own_kind false name revision = λ i. (bytes_decides name name).1 refl i && eq-eqb revision revision refl i

own_table : (rstp : Bool) (table : List ℕ) → (rstp || pointwise nat_eq table table) ≡ true
own_table true table = refl
own_table false table = (bytes_decides table table).1 refl

-- one that goes off at most stays what it was
pub as_it_was : (mac revision : ℕ) (rstp : Bool) (name table : List ℕ)
    → not (mac == mac && (if rstp then rstp else not rstp && same_name name name && revision == revision) && (rstp || pointwise nat_eq table table)) ≡ false
as_it_was mac revision rstp name table = λ i. not (eq-eqb mac mac refl i && own_kind rstp name revision i && own_table rstp table i)

stays : (failure : Failure) (a : Net) (name : List ℕ) → starts_anew a (effect (edit_of failure) a) name ≡ false
stays (Lan lan) a name = go (fin.get a.bridges name)
  where
    go : (o : Option BridgeRow) → option_map_or (λ x. option_map_or (λ y. not (is_as_it_was a (effect (edit_of (Lan lan)) a) name x y)) o false) o false ≡ false
    go None = refl
    go (Some row) = as_it_was row.mac row.revision row.is_rstp row.conf_name (table_of a name)
stays (Bridge bridge) a name =
    ap (λ (new : Option BridgeRow). option_map_or (λ x. option_map_or (λ y. not (is_as_it_was a (effect (edit_of (Bridge bridge)) a) name x y)) new false) (fin.get a.bridges name) false)
    (get_changed names a.bridges bridge (bridge_with (Power Off)) name)
    ∙ go (same_name bridge name) (fin.get a.bridges name)
  where
    go : (t : Bool) (o : Option BridgeRow)
        → option_map_or (λ x. option_map_or (λ y. not (is_as_it_was a (effect (edit_of (Bridge bridge)) a) name x y)) (cond t (option_map (bridge_with (Power Off)) o) o) false) o false ≡ false
    go true None = refl
    go false None = refl
    go true (Some row) = as_it_was row.mac row.revision row.is_rstp row.conf_name (table_of a name)
    go false (Some row) = as_it_was row.mac row.revision row.is_rstp row.conf_name (table_of a name)

-- ---- lists
pub none_pass : {A : Type 0} (test : A → Bool) (xs : List A) → AllByRecursion (λ x. test x ≡ false) xs → filter test xs ≡ []
none_pass test [] h = refl
none_pass test (x ∷ xs) h = ap (λ t. cond t (x ∷ filter test xs) (filter test xs)) h.0 ∙ none_pass test xs h.1

-- ---- ports
module _ (a b : Net) (none : (name : List ℕ) → starts_anew a b name ≡ false) (stay : (port : PortName) → is_replugged a b port ≡ false) where
  no_bridge : bridges_anew a b ≡ []
  no_bridge = none_pass (starts_anew a b) (bridge_names a) (all_weaker (Contains (bridge_names a)) _ (λ name _. none name) (bridge_names a) (all_there (bridge_names a)))

  none_of : (old new : Bool) → (old && new && false) ≡ false
  none_of true true = refl
  none_of true false = refl
  none_of false new = refl

  no_port : (p : LogicalPort) → restarts a b p ≡ false
  no_port p = go (find (λ (q : LogicalPort). port_eq q.name p.name) (view_ports b))
    where
      go : (o : Option LogicalPort) → option_map_or (port_anew a b p) o false ≡ false
      go None = refl
      go (Some q) =
          (λ i. p.is_enabled && q.is_enabled && (list_any (λ bridge. same_name bridge p.name.bridge) (no_bridge i) || stay p.name i))
          ∙ none_of p.is_enabled q.is_enabled

  pub no_ports : restarting a b ≡ []
  no_ports = ap (map (λ (p : LogicalPort). p.name)) (none_pass (restarts a b) (view_ports a) (all_weaker (Contains (view_ports a)) _ (λ p _. no_port p) (view_ports a) (all_there (view_ports a))))

-- a port with one row is plugged where it was
pub own_plug_stays : (a b : Net) (port : PortName) → fin.get a.ports port ≡ fin.get b.ports port → is_replugged a b port ≡ false
own_plug_stays a b port same = sym (ap (over_to (own_lan a port)) (ap lan_in same)) ∙ go (own_lan a port)
  where
    lan_in : Option PortRow → Option (List ℕ)
    lan_in row = option_and_then (λ (row : PortRow). row.lan) row

    over_to : Option (List ℕ) → Option (List ℕ) → Bool
    over_to from to = option_map_or (λ old. option_map_or (λ new. not (same_name old new)) to false) from false

    go : (lan : Option (List ℕ)) → over_to lan lan ≡ false
    go None = refl
    go (Some lan) = ap not ((bytes_decides lan lan).1 refl)

ports_stay : (failure : Failure) (a : Net) (port : PortName) → is_replugged a (effect (edit_of failure) a) port ≡ false
ports_stay (Lan lan) a port = own_plug_stays a (effect (edit_of (Lan lan)) a) port refl
ports_stay (Bridge bridge) a port = own_plug_stays a (effect (edit_of (Bridge bridge)) a) port refl

by_edit : (failure : Failure) (a : Net) → effect (edit_of failure) a ≡ failed (failure ∷ []) a
by_edit (Lan lan) a = refl
by_edit (Bridge bridge) a = refl

pub none_restarts : (failure : Failure) (a b : Net) → failed (failure ∷ []) a ≡ b → restarting a b ≡ []
none_restarts failure a b e =
    let made = sym (by_edit failure a ∙ e) in
    no_ports a b (λ name. ap (λ n. starts_anew a n name) made ∙ stays failure a name) (λ port. ap (λ n. is_replugged a n port) made ∙ ports_stay failure a port)

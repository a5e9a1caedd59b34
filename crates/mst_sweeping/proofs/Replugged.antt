-- Ports that are plugged into LANs of other names.
use Rattle.std.proofs.Common.{◌≡◌, ℕ, ◌&&◌, ◌||◌, Bool, true, false, List, [], ◌∷◌, Option, Some, None, is_some, refl, sym, ap, ◌∙◌}
use Rattle.std.specs.FinMap as fin
use Rattle.std.specs.FinMap.{contains_key-keys}
use Rattle.std.specs.List.{list_any}
use Rattle.std.specs.Option.{option_and_then, option_map, option_map_or}
use Rattle.mst_ids.specs.declared.name.PortName.{PortName}
use Rattle.mst_net.specs.tables.Tables.{Net, PortRow, port_eq}
use Rattle.mst_net.proofs.tables_lemmas.Keyed.{flipped}
use Rattle.mst_net.proofs.tables_lemmas.Keys.{ports}
use Rattle.mst_roles.proofs.Named.{port_is}
use Rattle.mst_sweeping.specs.Restarts.{is_elsewhere, is_replugged, own_plug, own_plugs}
use Rattle.mst_sweeping.specs.Seen.{AreReplugged}
use Rattle.mst_sweeping.proofs.Anew.{any_made}

-- some name passes a test and is a port's, where the port's passes and is among them
module _ (test : PortName → Bool) (port : PortName) where
  abbrev is_own : PortName → Bool
  is_own name = port_eq name port

  abbrev OnlyOwn : List PortName → Type 0
  OnlyOwn names = list_any (λ name. test name && is_own name) names ≡ (test port && list_any is_own names)

  only_own : (names : List PortName) → OnlyOwn names
  only_own [] = go (test port)
    where
      go : (t : Bool) → false ≡ (t && false)
      go true = refl
      go false = refl
  only_own (name ∷ names) = go (is_own name) refl (only_own names)
    where
      later : (t : Bool) → (x y : Bool) → x ≡ y → ((t && false) || x) ≡ y
      later true x y e = e
      later false x y e = e

      here : (t : Bool) (x y : Bool) → x ≡ (t && y) → ((t && true) || x) ≡ (t && true)
      here true x y e = refl
      here false x y e = e

      go : (own : Bool) → is_own name ≡ own → OnlyOwn names → ((test name && is_own name) || list_any (λ name. test name && is_own name) names) ≡ (test port && (is_own name || list_any is_own names))
      go true e rest =
          (λ i. (test (port_is name port e i) && e i) || list_any (λ name. test name && is_own name) names)
          ∙ here (test port) (list_any (λ name. test name && is_own name) names) (list_any is_own names) rest
          ∙ sym (ap (λ own. test port && (own || list_any is_own names)) e)
      go false e rest =
          ap (λ own. (test name && own) || list_any (λ name. test name && is_own name) names) e
          ∙ later (test name) (list_any (λ name. test name && is_own name) names) (test port && list_any is_own names) rest
          ∙ sym (ap (λ own. test port && (own || list_any is_own names)) e)

any_same : {A : Type 0} (f g : A → Bool) → ((x : A) → f x ≡ g x) → (xs : List A) → list_any f xs ≡ list_any g xs
any_same f g same [] = refl
any_same f g same (x ∷ xs) = λ i. same x i || any_same f g same xs i

-- a name is among the keys where it has a row
key_there : (net : Net) (port : PortName) → list_any (λ name. port_eq name port) (fin.keys net.ports) ≡ is_some (fin.get net.ports port)
key_there net port = sym (contains_key-keys net.ports port ∙ any_same _ _ (flipped ports port) (fin.keys net.ports))

module _ (a b : Net) where
  -- whether a port's plug is elsewhere
  each : (port name : PortName) → option_map_or (λ plug. is_elsewhere b plug && port_eq plug.0 port) (own_plug a name) false ≡ (is_replugged a b name && port_eq name port)
  each port name = go (option_and_then (λ (row : PortRow). row.lan) (fin.get a.ports name))
    where
      go : (lan : Option (List ℕ)) → option_map_or (λ plug. is_elsewhere b plug && port_eq plug.0 port) (option_map (λ l. (name, l)) lan) false ≡ (option_map_or (λ l. is_elsewhere b (name, l)) lan false && port_eq name port)
      go None = refl
      go (Some lan) = refl

  -- one that isn't there isn't plugged over
  there : (port : PortName) → (is_replugged a b port && is_some (fin.get a.ports port)) ≡ is_replugged a b port
  there port = go (fin.get a.ports port)
    where
      both : (x : Bool) → (x && true) ≡ x
      both true = refl
      both false = refl

      by_row : Option PortRow → Bool
      by_row row = option_map_or (λ l. is_elsewhere b (port, l)) (option_and_then (λ (row : PortRow). row.lan) row) false

      go : (row : Option PortRow) → (by_row row && is_some row) ≡ by_row row
      go None = refl
      go (Some row) = both (by_row (Some row))

  -- some plug of a port is elsewhere where it is plugged over
  pub are_replugged : AreReplugged a b (λ port. list_any (λ plug. is_elsewhere b plug && port_eq plug.0 port) (own_plugs a))
  are_replugged port =
      any_made (λ plug. is_elsewhere b plug && port_eq plug.0 port) (own_plug a) (fin.keys a.ports)
      ∙ any_same _ _ (each port) (fin.keys a.ports)
      ∙ only_own (is_replugged a b) port (fin.keys a.ports)
      ∙ ap (λ x. is_replugged a b port && x) (key_there a port)
      ∙ there port

-- What failures leave as it is.
use Rattle.std.specs.Prelude.{◌≡◌, ℕ, Bool, List, map, Option}
use Rattle.std.specs.FinMap as fin
use Rattle.std.specs.Option.{option_map}
use Rattle.mst_net.specs.tables.ByTree.{by_tree}
use Rattle.mst_net.specs.tables.Tables.{Net}
use Rattle.mst_view.specs.View.{view_ports, bridge_names, port_names}

-- the kind of the bridge of a name
abbrev pub kind_in : Net → List ℕ → Option Bool
kind_in net name = option_map (λ row. row.is_rstp) (fin.get net.bridges name)

-- the LANs of the logical ports
abbrev pub lan_names : Net → List (List ℕ)
lan_names net = map (λ p. p.lan) (view_ports net)

-- the names and kinds of bridges, the names of logical ports and of their LANs, and what is set by tree or VID
pub record AreLeft (a b : Net) : Type 0 where
  pub bridges : bridge_names a ≡ bridge_names b
  pub kinds : (name : List ℕ) → kind_in a name ≡ kind_in b name
  pub ports : port_names a ≡ port_names b
  pub lans : lan_names a ≡ lan_names b
  pub settings : by_tree a ≡ by_tree b

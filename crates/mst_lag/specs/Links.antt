-- What a view has of links, as it is made.
use Rattle.std.specs.Prelude.{◌≡◌, ℕ, List, map, Some, None, nat_eq}
use Rattle.std.specs.List.{AllByRecursion}
use Rattle.std.specs.Map.{lookup}
use Rattle.std.specs.FinMap as fin
use Rattle.mst_tables.specs.Tables.{Net, Numbers}
use Rattle.mst_view.specs.Aggregation.{plugs}
use Rattle.mst_view.specs.Lag.{lag_of}
use Rattle.mst_view.specs.View.{view_lans, view_ports}
use Rattle.mst_lag.specs.declared.viewed.Links.{Links}
use Rattle.mst_view.specs.Viewed.{HasNumbers, member_lan, member_port, named_lan, named_port}

-- it is what the view of this network has of links
pub record AreLinks (net : Net) (numbers : Numbers) (l : Links) : Type 0 where
  pub ports : map named_port l.ports ≡ view_ports net
  pub lans : map named_lan l.lans ≡ view_lans net
  pub member_lans : l.member_lans.items ≡ map (member_lan net) (fin.entries net.lans)
  pub member_ports : l.member_ports.items ≡ map (member_port net) (plugs net)
  pub port_numbers : AllByRecursion (HasNumbers numbers) l.ports
  pub lan_numbers : AllByRecursion (λ x. fin.get numbers.lans x.name ≡ Some x.number) l.lans
  pub lags : (lan : List ℕ) (n : ℕ) → fin.get numbers.lans lan ≡ Some n → lookup (nat_eq n) l.lags.entries ≡ lag_of net lan
  pub no_lags : (n : ℕ) → ((lan : List ℕ) → fin.get numbers.lans lan ≡ Some n → ⊥) → lookup (nat_eq n) l.lags.entries ≡ None

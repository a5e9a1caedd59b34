-- The keys of the network's tables.
use Rattle.std.proofs.Common.{ℕ, Bool, List, nat_eq, ap}
use Rattle.std.specs.FinMap.{IsAntisymmetric, slice_cmp-IsAntisymmetric, nat_cmp-IsAntisymmetric}
use Rattle.std.specs.Cmp.{nat_cmp_total, on_total, then_total, both_tied, unsigned_ties}
use Rattle.std.specs.Cmp.Lexicographic.{pointwise, nat_list_cmp_total, texts_ties}
use Rattle.std.specs.Ordering.{nat_cmp}
use Rattle.std.proofs.lemmas.Map.Lookups.{exact_pairs, exact_unsigned}
use Rattle.mst_ids.specs.Names.{name_cmp, port_cmp}
use Rattle.mst_ids.specs.declared.name.PortName.{PortName}
use Rattle.mst_tables.specs.Tables.{BridgeTree, PortTree, bridge_tree_cmp, port_tree_cmp, port_eq, bridge_tree_eq, port_tree_eq}
use Rattle.mst_tables.proofs.Keyed.{IsKeyed}

abbrev pub name_eq : List ℕ → List ℕ → Bool
name_eq = pointwise nat_eq

exact_names : IsAntisymmetric name_cmp
exact_names = slice_cmp-IsAntisymmetric nat_cmp-IsAntisymmetric

pub names : IsKeyed name_eq name_cmp
names = record { total = nat_list_cmp_total; same = exact_names; ties = texts_ties }

pub ports : IsKeyed port_eq port_cmp
ports = record {
  total = then_total (on_total (λ (p : PortName). p.bridge) nat_list_cmp_total) (on_total (λ (p : PortName). p.number) nat_cmp_total);
  same = λ p q h. ap (λ (x : List ℕ × ℕ). record { bridge = x.0; number = x.1 }) (exact_pairs name_cmp nat_cmp exact_names exact_unsigned (p.bridge, p.number) (q.bridge, q.number) h);
  ties = λ p q. both_tied _ _ _ _ (texts_ties p.bridge q.bridge) (unsigned_ties p.number q.number);
}

pub bridge_trees : IsKeyed bridge_tree_eq bridge_tree_cmp
bridge_trees = record {
  total = then_total (on_total (λ (k : BridgeTree). k.bridge) nat_list_cmp_total) (on_total (λ (k : BridgeTree). k.tree) nat_cmp_total);
  same = λ p q h. ap (λ (x : List ℕ × ℕ). record { bridge = x.0; tree = x.1 }) (exact_pairs name_cmp nat_cmp exact_names exact_unsigned (p.bridge, p.tree) (q.bridge, q.tree) h);
  ties = λ p q. both_tied _ _ _ _ (texts_ties p.bridge q.bridge) (unsigned_ties p.tree q.tree);
}

pub port_trees : IsKeyed port_tree_eq port_tree_cmp
port_trees = record {
  total = then_total (on_total (λ (k : PortTree). k.port) ports.total) (on_total (λ (k : PortTree). k.tree) nat_cmp_total);
  same = λ p q h. ap (λ (x : PortName × ℕ). record { port = x.0; tree = x.1 }) (exact_pairs port_cmp nat_cmp ports.same exact_unsigned (p.port, p.tree) (q.port, q.tree) h);
  ties = λ p q. both_tied _ _ _ _ (ports.ties p.port q.port) (unsigned_ties p.tree q.tree);
}

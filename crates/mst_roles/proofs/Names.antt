-- Names tell bridges and LANs.
use Rattle.std.proofs.Common.{ℕ, List, nat_eq, refl}
use Rattle.std.specs.Cmp.Lexicographic.{pointwise, bytes_decides}
use Rattle.mst_forest.specs.topology.Topology.{IsTest, KeyTests}

is_test : IsTest (pointwise nat_eq)
is_test = record { itself = λ a. (bytes_decides a a).1 refl; alone = λ a b e. (bytes_decides a b).0 e }

pub tests : KeyTests (List ℕ) (List ℕ)
tests = record { same_bridge = pointwise nat_eq; bridges = is_test; same_lan = pointwise nat_eq; lans = is_test }

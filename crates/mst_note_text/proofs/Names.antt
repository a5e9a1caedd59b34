-- Names are told apart byte by byte.
use Rattle.std.proofs.Common.{ℕ, List, nat_eq, refl}
use Rattle.std.specs.Cmp.Lexicographic.{pointwise, bytes_decides}
use Rattle.mst_roles.specs.forest.topology.Topology.{KeyTests, IsTest}

name_test : IsTest (pointwise nat_eq)
name_test = record { itself = λ a. (bytes_decides a a).1 refl; alone = λ a b e. (bytes_decides a b).0 e }

pub name_tests : KeyTests (List ℕ) (List ℕ)
name_tests = record { same_bridge = pointwise nat_eq; bridges = name_test; same_lan = pointwise nat_eq; lans = name_test }

-- The orders of names.
use Rattle.std.specs.Prelude.{ℕ, List, refl}
use Rattle.std.specs.declared.cmp.Ordering.{Ordering}
use Rattle.std.specs.Ordering.{nat_cmp, ordering_then}
use Rattle.std.specs.Cmp.Lexicographic.{slice_cmp}
use Rattle.std.specs.Coded.{Coded, code_by, coded×, coded_ℕ, coded_list}
use Rattle.mst_ids.specs.declared.name.PortName.{PortName}

-- names by their bytes
abbrev pub name_cmp : List ℕ → List ℕ → Ordering
name_cmp = slice_cmp nat_cmp

-- ports by the names of their bridges, and then by number
abbrev pub port_cmp : PortName → PortName → Ordering
port_cmp a b = ordering_then (name_cmp a.bridge b.bridge) (nat_cmp a.number b.number)

-- a port's name is stored as a pair
abbrev pub coded_port : Coded PortName
coded_port = code_by (List ℕ × ℕ) (coded× (coded_list coded_ℕ) coded_ℕ) (λ p. (p.bridge, p.number)) (λ p. record { bridge = p.0; number = p.1 }) (λ _. refl)

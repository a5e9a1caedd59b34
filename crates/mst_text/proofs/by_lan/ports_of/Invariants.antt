use Rattle.std.proofs.Common.{◌≡◌, ℕ, List, map, take}
use Rattle.mst_text.specs.KeptByLan.{kept_at}
use Rattle.mst_text.specs.LagView.{ports_in, port_of}
use Rattle.mst_text.proofs.by_lan.ports_of.Given as goal

-- the ports before the next
abbrev pub invariant-loop-port : goal.invariant-loop-port
invariant-loop-port l = (q : List ℕ) → kept_at l.kept q ≡ map port_of (ports_in q (take l.port-index l.ports))

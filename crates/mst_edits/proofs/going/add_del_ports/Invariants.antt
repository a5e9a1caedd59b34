use Rattle.std.proofs.Common.{◌≡◌, ◌++◌, take}
use Rattle.std.specs.List.{flat_map}
use Rattle.mst_edits.specs.Edits.{del_port_edits}
use Rattle.mst_edits.proofs.going.add_del_ports.Given as goal

-- the edits of those before it
abbrev pub invariant-loop-port : goal.invariant-loop-port
invariant-loop-port g l = l.edits.items ≡ l.fn.edits.items ++ flat_map (del_port_edits (g.C.Contents.tables l.old).net (g.D.Contents.tables l.new).net) (take l.port-index l.ports)

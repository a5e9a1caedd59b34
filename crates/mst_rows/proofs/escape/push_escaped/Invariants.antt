use Rattle.std.proofs.Common.{◌≡◌, ◌++◌, drop}
use Rattle.json.specs.Print.{escape}
use Rattle.mst_rows.proofs.escape.push_escaped.Given as goal

abbrev pub invariant-loop-byte : goal.invariant-loop-byte
invariant-loop-byte l = l.out.items ++ escape (drop l.byte-index l.text) ≡ l.initial.out.items ++ escape l.text

use Rattle.std.proofs.Common.{◌≡◌, take, drop}
use Rattle.mst_lang.specs.Lines.{lines_from}
use Rattle.mst_ask.specs.Lines.{ending, lines_in}
use Rattle.mst_ask.proofs.script.next_line.Given as goal

abbrev pub invariant-loop-end : goal.invariant-loop-end
invariant-loop-end l = lines_from (ending l.fn.is_whole) (take l.end l.text) (drop l.end l.text) ≡ lines_in l.fn.is_whole l.text

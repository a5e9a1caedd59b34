use Rattle.std.proofs.Common.{◌≡◌, ◌++◌, drop, map, false}
use Rattle.mst_rows.specs.Answers.{joined}
use Rattle.mst_rows.proofs.array.push_items.Given as goal

abbrev pub invariant-loop-item : goal.invariant-loop-item
invariant-loop-item g l = l.out.items ++ joined l.follows (map g.I.Item.json (drop l.item-index l.items)) ≡ l.fn.out.items ++ joined false (map g.I.Item.json l.items)

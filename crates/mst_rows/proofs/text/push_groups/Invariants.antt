use Rattle.std.proofs.Common.{◌≡◌, ◌++◌, drop, map}
use Rattle.std.specs.List.{flat_map}
use Rattle.mst_ids.specs.Words.{after_space, comma_list}
use Rattle.mst_rows.proofs.text.push_groups.Given as goal

abbrev pub invariant-loop-group : goal.invariant-loop-group
invariant-loop-group l = l.out.items ++ flat_map after_space (map comma_list (map (λ g. g.items) (drop l.group-index l.groups))) ≡ l.fn.out.items ++ flat_map after_space (map comma_list (map (λ g. g.items) l.groups))

use Rattle.std.proofs.Common.{◌≡◌, take}
use Rattle.std.specs.List.{filter_map, position_from}
use Rattle.indexmap.specs.IndexMap.{get}
use Rattle.mst_sweep.specs.Seen.{has_places, same_places, seen_places, seen_with_both}
use Rattle.mst_sweep.specs.declared.with_both.Places.{Places}
use Rattle.mst_sweep.proofs.with_both.staying_with_both.Given as goal

-- where the first of the bridges so far is that has some places, and those of them that stay
abbrev pub invariant-loop-here : goal.invariant-loop-here
invariant-loop-here l = record {
  firsts : (q : Places) → get same_places l.firsts q ≡ position_from (has_places (seen_places l.homes) q) 0 (take l.here l.both);
  all : l.all.items ≡ filter_map (seen_with_both (seen_places l.homes) l.news.entries l.both) (take l.here l.both);
}

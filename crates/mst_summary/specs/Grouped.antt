-- Things that are grouped by their keys.
use Rattle.std.specs.Prelude.{Bool, List, [], Vec}
use Rattle.std.specs.Option.{option_map_or}
use Rattle.std.specs.HashMap.{HashMap, get}
use Rattle.std.specs.declared.alloc.Global.{Global}

-- the things of a key, none where it has none
abbrev pub group_at : {K T S : Type 0} → (K → K → Bool) → HashMap K (Vec T Global) S → K → List T
group_at same grouped key = option_map_or (λ group. group.items) (get same grouped key) []

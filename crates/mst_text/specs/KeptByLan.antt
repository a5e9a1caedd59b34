-- What is kept for each logical LAN.
use Rattle.std.specs.Prelude.{ℕ, List, [], Vec}
use Rattle.std.specs.Option.{option_map_or}
use Rattle.std.specs.HashMap.{HashMap, get}
use Rattle.std.specs.declared.alloc.Global.{Global}
use Rattle.mst_view.specs.Aggregation.{same_name}

-- that of a logical LAN, nothing where nothing is kept
abbrev pub kept_at : {T S : Type 0} → HashMap (List ℕ) (Vec T Global) S → List ℕ → List T
kept_at kept lan = option_map_or (λ w. w.items) (get same_name kept lan) []

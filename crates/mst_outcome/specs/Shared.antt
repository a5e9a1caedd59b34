-- What trees share: an outcome, with the settlings of one of them, and the settings that ports have in one tree alone.
use Rattle.std.specs.Prelude.{ℕ, List, [], Option, Some, None, unwrap_or}
use Rattle.mst_outcome.specs.Assignment.{Assignment}

-- the same outcome, settled so often
abbrev pub settled_so_often : {V : Type 0} → Assignment V → ℕ → Assignment V
settled_so_often a n = record {
  bridges = a.bridges;
  lans = a.lans;
  touched_bridges = a.touched_bridges;
  touched_lans = a.touched_lans;
  settlings = n;
}

-- the outcome of a tree that may have none yet: then no bridge has a vector
abbrev pub outcome_of : {V : Type 0} → Option (Assignment V) → ℕ → Assignment V
outcome_of (Some a) n = settled_so_often a n
outcome_of None n = record { bridges = []; lans = []; touched_bridges = []; touched_lans = []; settlings = n }

-- the settings that ports have in a tree alone: none where it holds none
abbrev pub own_of : {P : Type 0} → Option (List (ℕ × P)) → List (ℕ × P)
own_of own = unwrap_or own []

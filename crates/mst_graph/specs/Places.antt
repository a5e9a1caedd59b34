-- Numbers and their places.
use Rattle.std.specs.Prelude.{ℕ, ◌+◌, List}
use Rattle.std.specs.List.{range_with_len}
use Rattle.mst_graph.specs.declared.number_places.NumberPlaces.{NumberPlaces}
use Rattle.mst_graph.specs.declared.number_places.NumberPlaces.TheVariants.{UpTo, Listed}

-- the numbers that have places, in the order of their places
abbrev pub placed : NumberPlaces → List ℕ
placed (UpTo greatest) = range_with_len 0 (greatest + 1)
placed (Listed set) = set.keys

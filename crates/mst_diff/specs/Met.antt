-- Islands that were met, to be found by hash.
use Rattle.std.specs.Prelude.{◌≡◌, ℕ, List}
use Rattle.std.specs.Borrow.{Bor}
use Rattle.std.specs.List.{list_any}
use Rattle.mst_diff.specs.Reach.{same_names}

-- an island is found among the keys just where it is one of these islands
abbrev pub AreMet : List (List (List ℕ)) → List (Bor (List (List ℕ))) → Type 0
AreMet groups keys = (group : List (List ℕ)) → list_any (λ key. same_names group key.now) keys ≡ list_any (λ other. same_names other group) groups

-- The trees in use, up to the last.
use Rattle.std.proofs.Common.{◌≡◌, ℕ, ap}
use Rattle.std.specs.List.{filter, range_with_len}
use Rattle.mst_view.specs.Viewed.{Viewed}
use Rattle.mst_forest.specs.InUse.{is_in_use, seen_mstis}

pub all_seen : (v : Viewed) (n : ℕ) → n ≡ 4094 → filter (is_in_use v) (range_with_len 1 n) ≡ seen_mstis v
unfolding seen_mstis
all_seen v n e = ap (λ m. filter (is_in_use v) (range_with_len 1 m)) e

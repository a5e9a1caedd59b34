-- Path costs.
use Rattle.std.specs.Prelude.{ℕ, ◌/◌, min, max}

-- what a port costs on a LAN of this speed in kb/s, where no cost was set: 20,000,000,000 divided by
-- the speed, held within 1 and 200,000,000
abbrev pub automatic_cost : ℕ → ℕ
automatic_cost kbps = max 1 (min 200_000_000 (20_000_000_000 / kbps))

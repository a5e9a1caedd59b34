-- Roles as numbers.
use Rattle.std.specs.Prelude.{ℕ}
use Rattle.mst_roles.specs.declared.kind.Role.{Role}
use Rattle.mst_roles.specs.declared.kind.Role.TheVariants.{Root, Designated, Alternate, Backup, Master, Disabled}

-- which of the roles one is
abbrev pub role_number : Role → ℕ
role_number Root = 0
role_number Designated = 1
role_number Alternate = 2
role_number Backup = 3
role_number Master = 4
role_number Disabled = 5

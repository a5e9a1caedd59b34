-- The names of roles, as texts have them.
use Rattle.std.specs.Prelude.{ℕ, List, codes}
use Rattle.mst_roles.specs.declared.kind.Role.{Role}
use Rattle.mst_roles.specs.declared.kind.Role.TheVariants.{Root, Designated, Alternate, Backup, Master, Disabled}

abbrev pub role_text : Role → List ℕ
role_text Root = codes "Root"
role_text Designated = codes "Designated"
role_text Alternate = codes "Alternate"
role_text Backup = codes "Backup"
role_text Master = codes "Master"
role_text Disabled = codes "Disabled"

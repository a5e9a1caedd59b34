-- What an outcome has of a subject: the root priority vector of a bridge, or the role of a logical port.
use Rattle.std.specs.Prelude.{ℕ, ◌==◌, ◌&&◌, Bool, false, List, Option, None, if◌then◌else◌}
use Rattle.std.specs.Option.{option_map, option_eq}
use Rattle.std.specs.FinMap as fin
use Rattle.mst_vector.specs.declared.cist.CistVector.{CistVector}
use Rattle.mst_vector.specs.declared.msti.MstiVector.{MstiVector}
use Rattle.mst_tables.specs.Tables.{Net}
use Rattle.mst_roles.specs.forest.Msti.{has_msti}
use Rattle.mst_roles.specs.forest.Outcome.{Outcome}
use Rattle.mst_roles.specs.Roles.{role_of}
use Rattle.mst_changes.specs.declared.subject.Item.{Item}
use Rattle.mst_changes.specs.declared.subject.Item.TheVariants.{Bridge, Port}
use Rattle.mst_changes.specs.declared.subject.Subject.{Subject}
use Rattle.mst_changes.specs.declared.value.VectorOrRole.{VectorOrRole}
use Rattle.mst_changes.specs.declared.value.VectorOrRole.TheVariants.{InCist, InMsti, HasRole}
use Rattle.mst_roles.specs.RoleNumbers.{role_number}

-- of a bridge in a tree, where it is there and has the tree. One that is off has no vector
abbrev pub vector_in : Net → Outcome → ℕ → List ℕ → Option VectorOrRole
vector_in net o tree name =
    if tree == 0
    then (if fin.contains_key net.bridges name then option_map InCist (o.cist.vector name) else None)
    else (if has_msti net tree name then option_map InMsti ((o.msti tree).vector name) else None)

-- of a subject; of a port where it is a logical port and its bridge has the tree
abbrev pub value_of : Net → Outcome → ℕ → Item → Option VectorOrRole
value_of net o tree (Bridge name) = vector_in net o tree name
value_of net o tree (Port name) = option_map HasRole (role_of net o tree name)

abbrev pub value_at : Net → Outcome → Subject → Option VectorOrRole
value_at net o subject = value_of net o subject.tree subject.item

-- whether two are the same
abbrev pub same_cist : CistVector → CistVector → Bool
same_cist v w =
    v.root == w.root && v.external == w.external && v.regional == w.regional && v.internal == w.internal && v.designated == w.designated && v.port == w.port && v.receiver == w.receiver

abbrev pub same_msti : MstiVector → MstiVector → Bool
same_msti v w = v.regional == w.regional && v.internal == w.internal && v.designated == w.designated && v.port == w.port && v.receiver == w.receiver

abbrev pub same_value : VectorOrRole → VectorOrRole → Bool
same_value (InCist v) (InCist w) = same_cist v w
same_value (InMsti v) (InMsti w) = same_msti v w
same_value (HasRole r) (HasRole s) = role_number r == role_number s
same_value (InCist v) (InMsti w) = false
same_value (InCist v) (HasRole s) = false
same_value (InMsti v) (InCist w) = false
same_value (InMsti v) (HasRole s) = false
same_value (HasRole r) (InCist w) = false
same_value (HasRole r) (InMsti w) = false

abbrev pub same_side : Option VectorOrRole → Option VectorOrRole → Bool
same_side = option_eq same_value

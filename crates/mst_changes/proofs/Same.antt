-- A network has no changes against itself.
use Rattle.std.proofs.Common.{◌≡◌, ℕ, ◌==◌, ◌&&◌, Bool, true, List, [], ◌∷◌, ◌++◌, Option, Some, None, refl, ap, ◌∙◌, eq-eqb}
use Rattle.std.specs.Prelude.{if◌then◌else◌}
use Rattle.std.specs.List.{flat_map}
use Rattle.mst_vector.specs.declared.cist.CistVector.{CistVector}
use Rattle.mst_vector.specs.declared.msti.MstiVector.{MstiVector}
use Rattle.mst_tables.specs.Tables.{Net}
use Rattle.mst_roles.specs.forest.Outcome.{Outcome}
use Rattle.mst_changes.specs.declared.subject.Subject.{Subject}
use Rattle.mst_changes.specs.declared.value.VectorOrRole.{VectorOrRole}
use Rattle.mst_changes.specs.declared.value.VectorOrRole.TheVariants.{InCist, InMsti, HasRole}
use Rattle.mst_changes.specs.Subjects.{subjects_of_either}
use Rattle.mst_changes.specs.Values.{value_at, same_cist, same_msti, same_value, same_side}
use Rattle.mst_roles.specs.RoleNumbers.{role_number}
use Rattle.mst_changes.specs.ChangesText.{item_row, change_rows, all_changes}

own : (n : ℕ) → (n == n) ≡ true
own n = eq-eqb n n refl

own_cist : (v : CistVector) → same_cist v v ≡ true
own_cist v = λ i. own v.root i && own v.external i && own v.regional i && own v.internal i && own v.designated i && own v.port i && own v.receiver i

own_msti : (v : MstiVector) → same_msti v v ≡ true
own_msti v = λ i. own v.regional i && own v.internal i && own v.designated i && own v.port i && own v.receiver i

own_value : (s : VectorOrRole) → same_value s s ≡ true
own_value (InCist v) = own_cist v
own_value (InMsti v) = own_msti v
own_value (HasRole r) = own (role_number r)

own_side : (s : Option VectorOrRole) → same_side s s ≡ true
own_side None = refl
own_side (Some s) = own_value s

pub none_at : (x : Subject → Option VectorOrRole) (subjects : List Subject) → flat_map (λ subject. change_rows subject (x subject) (x subject)) subjects ≡ []
none_at x [] = refl
none_at x (subject ∷ subjects) = ap (λ (b : Bool). (if b then [] else item_row subject.tree subject.item (x subject) (x subject) ∷ []) ++ flat_map (λ q. change_rows q (x q) (x q)) subjects) (own_side (x subject)) ∙ none_at x subjects

pub no_rows : (net : Net) (o : Outcome) → all_changes net o net o ≡ []
no_rows net o = none_at (value_at net o) (subjects_of_either net net)

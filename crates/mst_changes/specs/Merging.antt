-- Two lists of entries, of which the first ones are taken subject by subject.
use Rattle.std.specs.Prelude.{◌≡◌, List, [], ◌∷◌, Option, Some, None, if◌then◌else◌}
use Rattle.std.specs.Ordering.{is_eq, is_gt}
use Rattle.std.specs.declared.cmp.Ordering.TheVariants.{Less}
use Rattle.mst_roles.specs.forest.Apart.{Apart}
use Rattle.mst_changes.specs.declared.subject.Subject.{Subject}
use Rattle.mst_changes.specs.declared.value.VectorOrRole.{VectorOrRole}
use Rattle.mst_changes.specs.declared.subject.Entry.{Entry}
use Rattle.mst_changes.specs.Subjects.{subject_of, subject_cmp}

-- the subjects rise
abbrev pub Rise : List Subject → Type 0
Rise = Apart (λ a b. subject_cmp a b ≡ Less)

-- the first subject of two lists
abbrev pub first_subject : List Entry → List Entry → Option Subject
first_subject [] [] = None
first_subject (r ∷ rs) [] = Some (subject_of r)
first_subject [] (s ∷ ss) = Some (subject_of s)
first_subject (r ∷ rs) (s ∷ ss) = Some (if is_gt (subject_cmp (subject_of r) (subject_of s)) then (subject_of s) else (subject_of r))

-- what a list has there, if its first entry is of this subject
abbrev pub value_first : Subject → List Entry → Option VectorOrRole
value_first subject [] = None
value_first subject (r ∷ rs) = if is_eq (subject_cmp (subject_of r) subject) then Some r.value else None

-- the entries past this subject
abbrev pub entries_past : Subject → List Entry → List Entry
entries_past subject [] = []
entries_past subject (r ∷ rs) = if is_eq (subject_cmp (subject_of r) subject) then rs else r ∷ rs

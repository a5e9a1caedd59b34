-- Claims in a list: vectors, each with the port that it is of, and the first of them.
use Rattle.std.specs.Prelude.{Bool, true, false, not, List, [], ◌∷◌, Option, Some, None, if◌then◌else◌}
use Rattle.std.specs.Option.{option_map_or}
use Rattle.std.specs.Ordering.{is_gt}
use Rattle.std.specs.declared.cmp.Ordering.{Ordering}
use Rattle.mst_ids.specs.declared.name.PortName.{PortName}
use Rattle.mst_tables.specs.Tables.{port_eq}
use Rattle.mst_rows.specs.Rows.{Row}
use Rattle.mst_explain.specs.declared.claims.Claim.{Claim}
use Rattle.mst_explain.specs.declared.claims.Among.{Among}
use Rattle.mst_explain.specs.declared.claims.Among.TheVariants.{All, But, Only}
use Rattle.mst_explain.specs.Fields.{Field, decided}
use Rattle.mst_explain.specs.Lines.{over_rows, alone_rows}
use Rattle.mst_explain.specs.declared.lines.Contest.{Contest}

-- two keys are the same
abbrev pub same_key : Option PortName → Option PortName → Bool
same_key None None = true
same_key None (Some b) = false
same_key (Some a) None = false
same_key (Some a) (Some b) = port_eq a b

-- a key is among these: all, all but one, or one alone
abbrev pub is_in : Among → Option PortName → Bool
is_in All key = true
is_in (But one) key = not (same_key key one)
is_in (Only one) key = same_key key one

-- the better of the first so far, if any, and a claim, if its key is among these; the former where they are equal
abbrev pub better : {V : Type 0} → (V → V → Ordering) → Option (Claim V) → Claim V → Claim V
better order None c = c
better order (Some b) c = if is_gt (order b.vector c.vector) then c else b

abbrev pub better_among : {V : Type 0} → (V → V → Ordering) → Among → Option (Claim V) → Claim V → Option (Claim V)
better_among order among best c = if is_in among c.port then Some (better order best c) else best

-- the first of the best so far, if any, and of the claims whose keys are among these
abbrev pub first_from : {V : Type 0} → (V → V → Ordering) → Among → Option (Claim V) → List (Claim V) → Option (Claim V)
first_from order among best [] = best
first_from order among best (c ∷ cs) = first_from order among (better_among order among best c) cs

-- whom the first is told against, for this port
abbrev pub rivals_of : Option PortName → Option PortName → Among
rivals_of first me = if same_key first me then But first else Only me

-- the row of the first of all claims, against its rival for this port, or alone; nothing where there is no claim
abbrev pub rows_of_first : {V : Type 0} → (V → List Field) → Contest → Claim V → Option (Claim V) → List Row
rows_of_first fields contest c None = alone_rows contest c.port
rows_of_first fields contest c (Some d) = over_rows contest c.port d.port (decided (fields c.vector) (fields d.vector))

abbrev pub told_rows : {V : Type 0} → (V → V → Ordering) → (V → List Field) → Contest → Option PortName → List (Claim V) → List Row
told_rows order fields contest me claims = option_map_or (λ c. rows_of_first fields contest c (first_from order (rivals_of c.port me) None claims)) (first_from order All None claims) []

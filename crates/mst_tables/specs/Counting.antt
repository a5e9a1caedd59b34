-- How many entries of a table pass a test.
use Rattle.std.specs.Prelude.{ℕ, Bool, count_by}
use Rattle.std.specs.FinMap as fin
use Rattle.std.specs.declared.cmp.Ordering.{Ordering}

-- how many entries pass a test of their key and their value
abbrev pub count_where : {K X : Type 0} {R : K → K → Ordering} → (K → X → Bool) → fin.FinMap R X → ℕ
count_where test table = count_by (λ e. test e.0 e.1) (fin.entries table)

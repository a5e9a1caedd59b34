-- The fields of the objects that values are have the types of their keys.
use Rattle.std.proofs.Common.{ℕ, List, Option, Some, None, refl}
use Rattle.std.specs.List.{AllByRecursion}
use Rattle.mst_rows.specs.declared.value.Vector.{Vector}
use Rattle.mst_rows.specs.Rows.{region, vector}
use Rattle.mst_rows.specs.Fits.{IsField}

pub vector_fits : (root : Option (ℕ × ℕ)) (v : Vector) → AllByRecursion IsField (vector root v)
vector_fits (Some root) v = (refl, (refl, (refl, (refl, (refl, (refl, (refl, tt)))))))
vector_fits None v = (refl, (refl, (refl, (refl, (refl, tt)))))

pub region_fits : (configuration : Option (List ℕ × ℕ)) (first : List ℕ) → AllByRecursion IsField (region configuration first)
region_fits (Some configuration) first = (refl, (refl, (refl, tt)))
region_fits None first = (refl, (tt, (refl, tt)))

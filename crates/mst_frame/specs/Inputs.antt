-- What an input of the program gives, as far as it tells.
use Rattle.std.specs.Prelude.{ℕ, List, [], Option, Some}
use Rattle.mst_frame.specs.declared.inputs.Input.{Input}
use Rattle.mst_frame.specs.declared.inputs.Input.TheVariants.{Given, Opened, Nothing}

abbrev pub bytes_of : {G F : Type 0} → (G → Option (List ℕ)) → (F → Option (List ℕ)) → Input G F → Option (List ℕ)
bytes_of given opened (Given reader) = given reader
bytes_of given opened (Opened file) = opened file
bytes_of given opened Nothing = Some []

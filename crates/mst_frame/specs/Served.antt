-- How serving a word ends, on standard output and on standard error.
use Rattle.std.specs.Prelude.{ℕ, Bool, List, Option, Result}
use Rattle.mst_io.specs.Devices.{Seen}
use Rattle.mst_io.specs.declared.outcome.Outcome.{Outcome}
use Rattle.mst_io.specs.declared.outcome.RunFault.{RunFault}
use Rattle.mst_drive.specs.Words.{Inputs, Telling}
use Rattle.mst_frame.specs.declared.hinting.Scripts.{Scripts}
use Rattle.mst_frame.specs.Framed.{EndsThrough}
use Rattle.mst_frame.specs.Hinted.{AreHinted}

-- what came to the devices that the program writes to: what standard output has, as far as it tells, and standard error
pub record Outputs : Type 0 where
  pub written : Option (List ℕ)
  pub errors : Seen

abbrev pub outputs : {O K : Type 0} → (O → Option (List ℕ)) → (K → Seen) → O → K → Outputs
outputs contents seen writer errors = record { written = contents writer; errors = seen errors }

-- a word that tells this of so many inputs ended so, and the hints of its inputs, where they are asked for
pub record EndsHinted (telling : Telling) (count : ℕ) (scripts : Scripts) (hints : Bool) (given : Inputs) (old new : Outputs) (ended : Result Outcome RunFault) (told : Result (Unit {0}) RunFault) : Type 0 where
  pub left : Inputs
  pub ends : EndsThrough telling given left old.written new.written ended
  pub hinted : AreHinted count scripts hints ended given left old.errors new.errors told

-- A fault is answered.
use Rattle.std.proofs.Common.{◌≡◌, Result, Err, ap}
use Rattle.mst_io.specs.declared.outcome.RunFault.{RunFault}

abbrev pub fails : (A : Type 0) → RunFault → Result A RunFault
fails A fault = Err fault

pub err_of : {A : Type 0} {a b : RunFault} → a ≡ b → fails A a ≡ fails A b
err_of {A = A} e = ap (fails A) e

pub fault_of : {A : Type 0} {a b : RunFault} → fails A a ≡ fails A b → a ≡ b
fault_of e = cc

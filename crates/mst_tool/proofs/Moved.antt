-- A word that reads from readers and writes to a writer ends as it does with the devices that are made of these.
use Rattle.std.proofs.Common.{◌≡◌, ℕ, List, Option, Result, subst}
use Rattle.mst_drive.specs.Words.{Ended, Inputs, Telling}
use Rattle.mst_io.specs.declared.outcome.Outcome.{Outcome}
use Rattle.mst_io.specs.declared.outcome.RunFault.{RunFault}

pub ended_moved : (telling : Telling) (a c b d : Inputs) (w x y z : Option (List ℕ)) (result : Result Outcome RunFault) → a ≡ c → b ≡ d → w ≡ x → y ≡ z → Ended telling a b w y result → Ended telling c d x z result
ended_moved telling a c b d w x y z result p q r s h =
    subst (λ (given : Inputs). Ended telling given d x z result) p
    (subst (λ (left : Inputs). Ended telling a left x z result) q
    (subst (λ (old : Option (List ℕ)). Ended telling a b old z result) r
    (subst (λ (new : Option (List ℕ)). Ended telling a b w new result) s h)))

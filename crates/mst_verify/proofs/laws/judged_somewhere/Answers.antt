use Rattle.std.proofs.Common.{true, false, not, refl, ap}
use Rattle.mst_verify.proofs.JudgedSomewhere.{judged_somewhere}
use Rattle.mst_verify.proofs.laws.judged_somewhere.Goals as goal

pub returns-clause-beside : goal.returns-clause-beside
returns-clause-beside c net events promise none = judged_somewhere net events true promise refl none

pub returns-clause-alone : goal.returns-clause-alone
returns-clause-alone c net events promise none looks = judged_somewhere net events false promise (ap not looks) none

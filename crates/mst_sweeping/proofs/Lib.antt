pub use Rattle.mst_sweep.proofs as sweep_lemmas
pub mod Swept
pub mod SweptParts
pub mod SweepThere
mod OneRisks
pub mod WithFailures
pub mod Paired
pub mod OnNamed
pub mod Carried
pub mod CarryAlike
pub mod Users
pub mod PortsByName
pub mod PortsOfBoth
pub mod Anew
pub mod Replugged
pub mod NoneAnew
pub mod RestartLaws
pub mod Flagged
pub mod Remaining
pub mod OfHomes
pub mod SameFate
pub mod CutMoves
pub mod OneStep
pub mod Turned
pub mod TurnLists
pub mod TurnLaws

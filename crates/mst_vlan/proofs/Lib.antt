pub use Rattle.mst_roles.proofs as roles_lemmas
pub use Rattle.mst_roles.proofs.forest_lemmas as forest_lemmas
pub use Rattle.mst_classes.proofs as classes_lemmas
pub mod LogicalLans
pub mod EnabledEnds
pub mod Renumbered
pub mod Listed
pub mod Reached
pub mod IslandLaw
pub mod Crossing
pub mod Lists
pub mod VidsAlike
pub mod Links
pub mod ByNumber
pub mod NamedInView
pub mod LinksAlike
pub mod OneList

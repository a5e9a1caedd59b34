pub use Rattle.mst_tables.proofs as tables_lemmas
pub mod StandingLemmas
pub mod SoundLemmas
pub mod EditLemmas
pub mod ForeseenLemmas
pub mod NumbersAfter
pub mod NamesAfter

pub use Rattle.mst_view.specs as view
pub use Rattle.mst_vlan.specs.forest as forest
pub use Rattle.mst_text.specs as text
pub mod PlanText
pub mod Bodies

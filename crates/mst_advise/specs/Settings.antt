-- The edits that make settings, and which settings are the same.
use Rattle.std.specs.Prelude.{◌==◌, ◌&&◌, Bool, false, Some, List, [], ◌∷◌}
use Rattle.mst_view.specs.Aggregation.{same_name}
use Rattle.mst_lang.specs.declared.line.Edit.{Edit}
use Rattle.mst_lang.specs.declared.line.Edit.TheVariants.{SetByTree, SetPort}
use Rattle.mst_lang.specs.declared.line.PortChange.TheVariants.{PathCost}
use Rattle.mst_lang.specs.declared.line.TreeChange.TheVariants as by_tree
use Rattle.mst_net.specs.tables.Tables.{port_eq}
use Rattle.mst_advise.specs.declared.setting.Setting.{Setting}
use Rattle.mst_advise.specs.declared.setting.Setting.TheVariants.{Priority, PortPriority, ExternalCost, InternalCost}

-- `settreeprio B T PRIO`, `settreeportprio B P T PRIO`, `setportpathcost B P COST`, `settreeportcost B P T COST`
abbrev pub edit_of : Setting → Edit
edit_of (Priority bridge tree priority) = SetByTree (by_tree.Priority bridge tree priority)
edit_of (PortPriority port tree priority) = SetByTree (by_tree.PortPriority port tree priority)
edit_of (ExternalCost port cost) = SetPort port (PathCost (Some cost))
edit_of (InternalCost port tree cost) = SetByTree (by_tree.PortCost port tree (Some cost))

-- two settings set the same thing to the same number
abbrev pub same_setting : Setting → Setting → Bool
same_setting (Priority a t n) (Priority b u m) = same_name a b && ((t == u) && (n == m))
same_setting (PortPriority p t n) (PortPriority q u m) = port_eq p q && ((t == u) && (n == m))
same_setting (ExternalCost p n) (ExternalCost q m) = port_eq p q && (n == m)
same_setting (InternalCost p t n) (InternalCost q u m) = port_eq p q && ((t == u) && (n == m))
same_setting _ _ = false

-- one setting by itself
abbrev pub alone : Setting → List Setting
alone setting = setting ∷ []

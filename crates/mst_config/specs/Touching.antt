-- Which edits touch regions.
use Rattle.std.specs.Prelude.{Bool, true, false}
use Rattle.mst_lang.specs.declared.line.Edit.{Edit}
use Rattle.mst_lang.specs.declared.line.Edit.TheVariants.{AddBridge, DelBridge, SetBridge, SetByTree}
use Rattle.mst_lang.specs.declared.line.BridgeChange.TheVariants.{Kind, Configuration}
use Rattle.mst_lang.specs.declared.line.TreeChange.TheVariants.{Table}

-- an edit that adds a bridge or takes one away, or sets a bridge's kind, its configuration or its table may change which
-- bridges share a region, or their numbers. No other does
abbrev pub touches_regions : Edit → Bool
touches_regions (AddBridge bridge mac) = true
touches_regions (DelBridge bridge) = true
touches_regions (SetBridge bridge (Kind kind)) = true
touches_regions (SetBridge bridge (Configuration revision name)) = true
touches_regions (SetByTree (Table bridge tree vids)) = true
touches_regions _ = false

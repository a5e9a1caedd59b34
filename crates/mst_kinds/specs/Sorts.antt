-- The types of values: a key has one.
use Rattle.std.specs.Prelude.{List, [], ◌∷◌}
use Rattle.std.specs.List.{flat_map}
use Rattle.mst_kinds.specs.declared.kind.Kind.{Kind}
use Rattle.mst_kinds.specs.declared.key.Key.{Key}
use Rattle.mst_kinds.specs.declared.key.Key.TheVariants as key
use Rattle.mst_kinds.specs.declared.part.Part.{Part}
use Rattle.mst_kinds.specs.declared.part.Part.TheVariants as part
use Rattle.mst_kinds.specs.Kinds.{parts_of}

-- a giver is a port, or a bridge's own vector; an own port is that of a record; lines are a first one and a last one; flags stand in promises alone
pub data Sort : Type 0 where
  words : Sort
  numbers : Sort
  a_port : Sort
  giver : Sort
  vids : Sort
  names : Sort
  ports : Sort
  trees : Sort
  groups : Sort
  active_ports : Sort
  objects : Sort
  failures : Sort
  own_port : Sort
  lines : Sort
  promises : Sort
  flags : Sort

abbrev pub sort_of : Key → Sort
sort_of key.Tree = numbers
sort_of key.Vid = numbers
sort_of key.Port = numbers
sort_of key.Part = numbers
sort_of key.PartCount = numbers
sort_of key.Ext = numbers
sort_of key.Int = numbers
sort_of key.Vids = vids
sort_of key.Active = active_ports
sort_of key.Bridges = names
sort_of key.Lans = names
sort_of key.Revision = numbers
sort_of key.Speed = numbers
sort_of key.Up = names
sort_of key.Ports = ports
sort_of key.Depth = numbers
sort_of key.Limit = numbers
sort_of key.OldVector = objects
sort_of key.NewVector = objects
sort_of key.OldRegion = objects
sort_of key.NewRegion = objects
sort_of key.OldIslands = groups
sort_of key.NewIslands = groups
sort_of key.RegionCount = numbers
sort_of key.RootCount = numbers
sort_of key.PortCount = numbers
sort_of key.VlanCount = numbers
sort_of key.Version = numbers
sort_of key.SystemPriority = numbers
sort_of key.MaxHops = numbers
sort_of key.MaxAge = numbers
sort_of key.Priority = numbers
sort_of key.AggregationKey = numbers
sort_of key.PortPriority = numbers
sort_of key.Designated = a_port
sort_of key.Winner = giver
sort_of key.Loser = giver
sort_of key.Value = numbers
sort_of key.LoserValue = numbers
sort_of key.Failure = failures
sort_of key.OtherFailure = failures
sort_of key.Trees = trees
sort_of key.Parts = groups
sort_of key.LanCount = numbers
sort_of key.BridgeCount = numbers
sort_of key.CutCount = numbers
sort_of key.PairCount = numbers
sort_of key.RiskCount = numbers
sort_of key.OnCount = numbers
sort_of key.EnabledCount = numbers
sort_of key.TreeCount = numbers
sort_of key.NextPriority = numbers
sort_of key.IslandCount = numbers
sort_of key.Line = numbers
sort_of key.Plan = numbers
sort_of key.Captured = numbers
sort_of key.Status = numbers
sort_of key.Joined = groups
sort_of key.ExpectationCount = numbers
sort_of key.CaptureCount = numbers
sort_of key.AgreeCount = numbers
sort_of key.HoldCount = numbers
sort_of key.Step = numbers
sort_of key.MovedVids = vids
sort_of key.CutVids = vids
sort_of key.JoinedVids = vids
sort_of key.StepCount = numbers
sort_of key.MovingCount = numbers
sort_of key.CuttingCount = numbers
sort_of key.FailingCount = numbers
sort_of key.EditCount = numbers
sort_of key.OtherBridges = names
sort_of key.NextSpeed = numbers
sort_of key.Lines = lines
sort_of key.UnkeptCount = numbers
sort_of key.FailureCount = numbers
sort_of key.NetworkCount = numbers
sort_of key.TrialCount = numbers
sort_of key.Promises = promises
sort_of key.Finally = flags
sort_of key.Holds = flags
sort_of key.OtherPort = a_port
sort_of key.OtherVids = vids
sort_of key.Hop = numbers
sort_of key.HopCount = numbers
sort_of key.OtherCount = numbers
sort_of key.NoneCount = numbers
sort_of k = words

-- the types of the values that a part takes, and those of a kind, in their order
abbrev pub sorts_at : Part → List Sort
sorts_at (part.Mark m) = []
sorts_at (part.Key k) = sort_of k ∷ []
sorts_at (part.Commas k) = sort_of k ∷ []
sorts_at (part.Above k) = sort_of k ∷ []
sorts_at (part.Said k m) = []
sorts_at (part.Told k m) = []
sorts_at part.Port = own_port ∷ []
sorts_at part.AbovePort = own_port ∷ []

abbrev pub sorts_of : Kind → List Sort
sorts_of kind = flat_map sorts_at (parts_of kind)

-- The table, kind by kind.
use Rattle.std.proofs.Common.{◌≡◌, ◌∙◌, ℕ, ◌+◌, ◌*◌, Bool, true, false, List, [], ◌∷◌, Option, Some, None, map, refl, sym, ap}
use Rattle.std.proofs.lemmas.Bool.{and_parts}
use Rattle.std.specs.Prelude.{◌==◌, if◌then◌else◌, fold}
use Rattle.std.specs.List.{list_all}
use Rattle.mst_kinds.specs.Words.{key_text}
use Rattle.mst_kinds.specs.Shapes.{has_keys_once, keeps_all_words, shape_of, worded}
use Rattle.mst_kinds.specs.declared.key.Key.{Key}
use Rattle.mst_kinds.specs.declared.key.Key.TheVariants as key
use Rattle.mst_kinds.specs.declared.kind.Kind.{Kind}
use Rattle.mst_kinds.specs.declared.kind.Kind.TheVariants as kind
use Rattle.mst_kinds.specs.declared.query.Query.{Query}
use Rattle.mst_kinds.specs.declared.query.Query.TheVariants as query
use Rattle.mst_kinds.specs.declared.tree_line.TreeLine.{TreeLine}
use Rattle.mst_kinds.specs.declared.tree_line.TreeLine.TheVariants as tree_line
use Rattle.mst_kinds.specs.declared.vlan_line.VlanLine.{VlanLine}
use Rattle.mst_kinds.specs.declared.vlan_line.VlanLine.TheVariants as vlan_line
use Rattle.mst_kinds.specs.declared.region_line.RegionLine.{RegionLine}
use Rattle.mst_kinds.specs.declared.region_line.RegionLine.TheVariants as region_line
use Rattle.mst_kinds.specs.declared.note_line.NoteLine.{NoteLine}
use Rattle.mst_kinds.specs.declared.note_line.NoteLine.TheVariants as note_line
use Rattle.mst_kinds.specs.declared.change_line.ChangeLine.{ChangeLine}
use Rattle.mst_kinds.specs.declared.change_line.ChangeLine.TheVariants as change_line
use Rattle.mst_kinds.specs.declared.bridge_command.BridgeCommand.{BridgeCommand}
use Rattle.mst_kinds.specs.declared.bridge_command.BridgeCommand.TheVariants as bridge_command
use Rattle.mst_kinds.specs.declared.port_command.PortCommand.{PortCommand}
use Rattle.mst_kinds.specs.declared.port_command.PortCommand.TheVariants as port_command
use Rattle.mst_kinds.specs.declared.explain_line.ExplainLine.{ExplainLine}
use Rattle.mst_kinds.specs.declared.explain_line.ExplainLine.TheVariants as explain_line
use Rattle.mst_kinds.specs.declared.contest_line.ContestLine.{ContestLine}
use Rattle.mst_kinds.specs.declared.contest_line.ContestLine.TheVariants as contest_line
use Rattle.mst_kinds.specs.declared.sweep_line.SweepLine.{SweepLine}
use Rattle.mst_kinds.specs.declared.sweep_line.SweepLine.TheVariants as sweep_line
use Rattle.mst_kinds.specs.declared.summary_line.SummaryLine.{SummaryLine}
use Rattle.mst_kinds.specs.declared.summary_line.SummaryLine.TheVariants as summary_line
use Rattle.mst_kinds.specs.declared.capture_line.CaptureLine.{CaptureLine}
use Rattle.mst_kinds.specs.declared.capture_line.CaptureLine.TheVariants as capture_line
use Rattle.mst_kinds.specs.declared.refusal_line.RefusalLine.{RefusalLine}
use Rattle.mst_kinds.specs.declared.refusal_line.RefusalLine.TheVariants as refusal_line
use Rattle.mst_kinds.specs.declared.ask_line.AskLine.{AskLine}
use Rattle.mst_kinds.specs.declared.ask_line.AskLine.TheVariants as ask_line
use Rattle.mst_kinds.specs.declared.verify_line.VerifyLine.{VerifyLine}
use Rattle.mst_kinds.specs.declared.verify_line.VerifyLine.TheVariants as verify_line
use Rattle.mst_kinds.specs.declared.step_line.StepLine.{StepLine}
use Rattle.mst_kinds.specs.declared.step_line.StepLine.TheVariants as step_line
use Rattle.mst_kinds.specs.declared.advise_line.AdviseLine.{AdviseLine}
use Rattle.mst_kinds.specs.declared.advise_line.AdviseLine.TheVariants as advise_line
use Rattle.mst_kinds.specs.declared.path_line.PathLine.{PathLine}
use Rattle.mst_kinds.specs.declared.path_line.PathLine.TheVariants as path_line

-- ---- a number of a text and of a shape
abbrev text_number : ℕ → List ℕ → ℕ
text_number n text = fold (λ m b. m * 256 + b) (n * 256 + 1) text

abbrev members_number : ℕ → List (List ℕ × List ℕ) → ℕ
members_number n members = fold (λ m p. text_number (text_number m p.0) p.1) n members

abbrev shape_number : List ℕ × List (List ℕ × List ℕ) → ℕ
shape_number shape = members_number (text_number 0 shape.0) shape.1

-- the first of some whose number this is
abbrev found : {A : Type 0} → ℕ → List (ℕ × A) → Option A
found n [] = None
found n (p ∷ ps) = if p.0 == n then Some p.1 else found n ps

-- ---- keys
all_keys : List Key
all_keys = key.Tree ∷ key.Vid ∷ key.Bridge ∷ key.Port ∷ key.Part ∷ key.PartCount ∷ key.Of ∷ key.Power ∷ key.BridgeId ∷ key.RootId ∷ key.Ext ∷ key.RegionalId ∷ key.Regional ∷ key.Int ∷ key.DesignatedId ∷ key.DesignatedBridge ∷ key.DesignatedPortId ∷ key.ReceiverId ∷ key.Lan ∷ key.Role ∷ key.PortId ∷ key.Vids ∷ key.Active ∷ key.Bridges ∷ key.Lans ∷ key.Region ∷ key.RegionKind ∷ key.Name ∷ key.Revision ∷ key.Digest ∷ key.LagId ∷ key.Speed ∷ key.Up ∷ key.Ports ∷ key.Note ∷ key.Depth ∷ key.Limit ∷ key.OldVector ∷ key.NewVector ∷ key.OldRole ∷ key.NewRole ∷ key.OldRegion ∷ key.NewRegion ∷ key.OldRoot ∷ key.NewRoot ∷ key.OldIslands ∷ key.NewIslands ∷ key.RegionCount ∷ key.RootCount ∷ key.PortCount ∷ key.VlanCount ∷ key.Version ∷ key.Mac ∷ key.BridgeKind ∷ key.SystemPriority ∷ key.MaxHops ∷ key.MaxAge ∷ key.Priority ∷ key.AggregationKey ∷ key.PortPriority ∷ key.Vlans ∷ key.Restricted ∷ key.State ∷ key.Designated ∷ key.OffBridge ∷ key.DownLan ∷ key.Winner ∷ key.Loser ∷ key.Field ∷ key.Value ∷ key.LoserValue ∷ key.ValueId ∷ key.LoserId ∷ key.Failure ∷ key.OtherFailure ∷ key.Trees ∷ key.Parts ∷ key.LanCount ∷ key.BridgeCount ∷ key.CutCount ∷ key.PairCount ∷ key.Risk ∷ key.RiskCount ∷ key.OnCount ∷ key.EnabledCount ∷ key.TreeCount ∷ key.Root ∷ key.Next ∷ key.NextPriority ∷ key.IslandCount ∷ key.Line ∷ key.Result ∷ key.TreeKind ∷ key.Plan ∷ key.Captured ∷ key.PlanText ∷ key.CapturedText ∷ key.Error ∷ key.Text ∷ key.Hint ∷ key.Side ∷ key.Status ∷ key.Expectation ∷ key.Joined ∷ key.ExpectationCount ∷ key.HoldCount ∷ key.Step ∷ key.Lines ∷ key.MovedVids ∷ key.CutVids ∷ key.JoinedVids ∷ key.StepCount ∷ key.MovingCount ∷ key.CuttingCount ∷ key.FailingCount ∷ key.Goal ∷ key.Command ∷ key.EditCount ∷ key.Look ∷ key.OtherName ∷ key.OtherBridges ∷ key.NextSpeed ∷ key.CaptureCount ∷ key.AgreeCount ∷ key.UnkeptCount ∷ key.FailureCount ∷ key.NetworkCount ∷ key.TrialCount ∷ key.Promises ∷ key.Promise ∷ key.Scope ∷ key.Finally ∷ key.Holds ∷ key.Because ∷ key.OtherPort ∷ key.OtherVids ∷ key.From ∷ key.To ∷ key.Hop ∷ key.HopCount ∷ key.OtherCount ∷ key.NoneCount ∷ []

numbered_keys : List (ℕ × Key)
unfolding all_keys
numbered_keys = map (λ k. (text_number 0 (key_text k), k)) all_keys

key_found : (k : Key) → found (text_number 0 (key_text k)) numbered_keys ≡ Some k
unfolding all_keys numbered_keys
key_found key.Tree = refl
key_found key.Vid = refl
key_found key.Bridge = refl
key_found key.Port = refl
key_found key.Part = refl
key_found key.PartCount = refl
key_found key.Of = refl
key_found key.Power = refl
key_found key.BridgeId = refl
key_found key.RootId = refl
key_found key.Ext = refl
key_found key.RegionalId = refl
key_found key.Regional = refl
key_found key.Int = refl
key_found key.DesignatedId = refl
key_found key.DesignatedBridge = refl
key_found key.DesignatedPortId = refl
key_found key.ReceiverId = refl
key_found key.Lan = refl
key_found key.Role = refl
key_found key.PortId = refl
key_found key.Vids = refl
key_found key.Active = refl
key_found key.Bridges = refl
key_found key.Lans = refl
key_found key.Region = refl
key_found key.RegionKind = refl
key_found key.Name = refl
key_found key.Revision = refl
key_found key.Digest = refl
key_found key.LagId = refl
key_found key.Speed = refl
key_found key.Up = refl
key_found key.Ports = refl
key_found key.Note = refl
key_found key.Depth = refl
key_found key.Limit = refl
key_found key.OldVector = refl
key_found key.NewVector = refl
key_found key.OldRole = refl
key_found key.NewRole = refl
key_found key.OldRegion = refl
key_found key.NewRegion = refl
key_found key.OldRoot = refl
key_found key.NewRoot = refl
key_found key.OldIslands = refl
key_found key.NewIslands = refl
key_found key.RegionCount = refl
key_found key.RootCount = refl
key_found key.PortCount = refl
key_found key.VlanCount = refl
key_found key.Version = refl
key_found key.Mac = refl
key_found key.BridgeKind = refl
key_found key.SystemPriority = refl
key_found key.MaxHops = refl
key_found key.MaxAge = refl
key_found key.Priority = refl
key_found key.AggregationKey = refl
key_found key.PortPriority = refl
key_found key.Vlans = refl
key_found key.Restricted = refl
key_found key.State = refl
key_found key.Designated = refl
key_found key.OffBridge = refl
key_found key.DownLan = refl
key_found key.Winner = refl
key_found key.Loser = refl
key_found key.Field = refl
key_found key.Value = refl
key_found key.LoserValue = refl
key_found key.ValueId = refl
key_found key.LoserId = refl
key_found key.Failure = refl
key_found key.OtherFailure = refl
key_found key.Trees = refl
key_found key.Parts = refl
key_found key.LanCount = refl
key_found key.BridgeCount = refl
key_found key.CutCount = refl
key_found key.PairCount = refl
key_found key.Risk = refl
key_found key.RiskCount = refl
key_found key.OnCount = refl
key_found key.EnabledCount = refl
key_found key.TreeCount = refl
key_found key.Root = refl
key_found key.Next = refl
key_found key.NextPriority = refl
key_found key.IslandCount = refl
key_found key.Line = refl
key_found key.Result = refl
key_found key.TreeKind = refl
key_found key.Plan = refl
key_found key.Captured = refl
key_found key.PlanText = refl
key_found key.CapturedText = refl
key_found key.Error = refl
key_found key.Text = refl
key_found key.Hint = refl
key_found key.Side = refl
key_found key.Status = refl
key_found key.Expectation = refl
key_found key.Joined = refl
key_found key.ExpectationCount = refl
key_found key.HoldCount = refl
key_found key.Step = refl
key_found key.Lines = refl
key_found key.MovedVids = refl
key_found key.CutVids = refl
key_found key.JoinedVids = refl
key_found key.StepCount = refl
key_found key.MovingCount = refl
key_found key.CuttingCount = refl
key_found key.FailingCount = refl
key_found key.Goal = refl
key_found key.Command = refl
key_found key.EditCount = refl
key_found key.Look = refl
key_found key.OtherName = refl
key_found key.OtherBridges = refl
key_found key.NextSpeed = refl
key_found key.CaptureCount = refl
key_found key.AgreeCount = refl
key_found key.UnkeptCount = refl
key_found key.FailureCount = refl
key_found key.NetworkCount = refl
key_found key.TrialCount = refl
key_found key.Promises = refl
key_found key.Promise = refl
key_found key.Scope = refl
key_found key.Finally = refl
key_found key.Holds = refl
key_found key.Because = refl
key_found key.OtherPort = refl
key_found key.OtherVids = refl
key_found key.From = refl
key_found key.To = refl
key_found key.Hop = refl
key_found key.HopCount = refl
key_found key.OtherCount = refl
key_found key.NoneCount = refl

pub keys_differ : (k l : Key) → key_text k ≡ key_text l → k ≡ l
keys_differ k l e =
    let same : Some k ≡ Some l = sym (key_found k) ∙ ap (λ (t : List ℕ). found (text_number 0 t) numbered_keys) e ∙ key_found l in cc

-- ---- kinds
all_kinds : List Kind
all_kinds = kind.Query query.ShowTree ∷ kind.Query query.ShowPlan ∷ kind.Query query.ShowVlan ∷ kind.Query query.ShowLag ∷ kind.Query query.ShowRegions ∷ kind.Query query.ShowMstconfid ∷ kind.Query query.ShowNotes ∷ kind.Query query.Changes ∷ kind.Query query.Save ∷ kind.Query query.Explain ∷ kind.Query query.ExplainIn ∷ kind.Query query.Diff ∷ kind.Query query.Sweep ∷ kind.Query query.SweepPart ∷ kind.Query query.SweepPairs ∷ kind.Query query.SweepRisks ∷ kind.Query query.SweepPairsPart ∷ kind.Query query.Summary ∷ kind.Query query.Check ∷ kind.Query query.Verify ∷ kind.Query query.Steps ∷ kind.Query query.Edits ∷ kind.Query query.AdviseRoot ∷ kind.Query query.AdviseForward ∷ kind.Query query.Digest ∷ kind.Query query.Path ∷ kind.Query query.PathAlways ∷ kind.Tree tree_line.Heading ∷ kind.Tree tree_line.BridgeOff ∷ kind.Tree tree_line.BridgeInCist ∷ kind.Tree tree_line.BridgeInMsti ∷ kind.Tree tree_line.PortDisabled ∷ kind.Tree tree_line.PortInCist ∷ kind.Tree tree_line.PortInMsti ∷ kind.Vlan vlan_line.Heading ∷ kind.Vlan vlan_line.Active ∷ kind.Vlan vlan_line.Island ∷ kind.Region region_line.Mstp ∷ kind.Region region_line.Rstp ∷ kind.Region region_line.Configuration ∷ kind.Region region_line.Msti ∷ kind.Region region_line.Lag ∷ kind.Note note_line.Hops ∷ kind.Note note_line.Age ∷ kind.Note note_line.ExternalCost ∷ kind.Note note_line.InternalCost ∷ kind.Note note_line.Restricted ∷ kind.Change change_line.Bridge ∷ kind.Change change_line.Port ∷ kind.Change change_line.Region ∷ kind.Change change_line.Root ∷ kind.Change change_line.Reach ∷ kind.Change change_line.Counts ∷ kind.OfBridge bridge_command.Version ∷ kind.OfBridge bridge_command.Add ∷ kind.OfBridge bridge_command.Off ∷ kind.OfBridge bridge_command.Rstp ∷ kind.OfBridge bridge_command.SystemPriority ∷ kind.OfBridge bridge_command.Configuration ∷ kind.OfBridge bridge_command.Msti ∷ kind.OfBridge bridge_command.MaxHops ∷ kind.OfBridge bridge_command.MaxAge ∷ kind.OfBridge bridge_command.Priority ∷ kind.OfBridge bridge_command.Delete ∷ kind.OfBridge bridge_command.On ∷ kind.OfBridge bridge_command.Mstp ∷ kind.OfPort port_command.Add ∷ kind.OfPort port_command.Key ∷ kind.OfPort port_command.ExternalCost ∷ kind.OfPort port_command.InternalCost ∷ kind.OfPort port_command.Priority ∷ kind.OfPort port_command.Vlans ∷ kind.OfPort port_command.NoVlans ∷ kind.OfPort port_command.Restricted ∷ kind.OfPort port_command.Plug ∷ kind.OfPort port_command.AddLan ∷ kind.OfPort port_command.LanDown ∷ kind.OfPort port_command.Speed ∷ kind.OfPort port_command.Delete ∷ kind.OfPort port_command.AllVlans ∷ kind.OfPort port_command.Unrestricted ∷ kind.OfPort port_command.Unplug ∷ kind.OfPort port_command.DeleteLan ∷ kind.OfPort port_command.LanUp ∷ kind.Explain explain_line.Port ∷ kind.Explain explain_line.Restricted ∷ kind.Explain explain_line.Boundary ∷ kind.Explain explain_line.BridgeOff ∷ kind.Explain explain_line.LanDown ∷ kind.Contest contest_line.DesignatedAlone ∷ kind.Contest contest_line.DesignatedOver ∷ kind.Contest contest_line.DesignatedByCost ∷ kind.Contest contest_line.DesignatedById ∷ kind.Contest contest_line.RootAlone ∷ kind.Contest contest_line.RootOver ∷ kind.Contest contest_line.RootByCost ∷ kind.Contest contest_line.RootById ∷ kind.Sweep sweep_line.Lan ∷ kind.Sweep sweep_line.Bridge ∷ kind.Sweep sweep_line.Risk ∷ kind.Sweep sweep_line.Cut ∷ kind.Sweep sweep_line.Counts ∷ kind.Sweep sweep_line.Pair ∷ kind.Sweep sweep_line.CutByPair ∷ kind.Sweep sweep_line.PairCounts ∷ kind.Sweep sweep_line.RiskCounts ∷ kind.Summary summary_line.Counts ∷ kind.Summary summary_line.Root ∷ kind.Summary summary_line.RootAlone ∷ kind.Summary summary_line.Blocked ∷ kind.Summary summary_line.Vlan ∷ kind.Summary summary_line.Carries ∷ kind.Summary summary_line.CarriesAll ∷ kind.Summary summary_line.LookRegion ∷ kind.Summary summary_line.LookTable ∷ kind.Summary summary_line.LookLan ∷ kind.Summary summary_line.LookVlans ∷ kind.Summary summary_line.Digest ∷ kind.Capture capture_line.Agrees ∷ kind.Capture capture_line.Number ∷ kind.Capture capture_line.Text ∷ kind.Capture capture_line.MstiNumber ∷ kind.Capture capture_line.MstiText ∷ kind.Capture capture_line.Unplanned ∷ kind.Capture capture_line.Repeated ∷ kind.Capture capture_line.Missing ∷ kind.Capture capture_line.Unread ∷ kind.Capture capture_line.Counts ∷ kind.Refusal refusal_line.Line ∷ kind.Refusal refusal_line.Hinted ∷ kind.Refusal refusal_line.OldLine ∷ kind.Refusal refusal_line.NewLine ∷ kind.Refusal refusal_line.Explain ∷ kind.Refusal refusal_line.Dot ∷ kind.Refusal refusal_line.Policy ∷ kind.Refusal refusal_line.Change ∷ kind.Refusal refusal_line.Advise ∷ kind.Refusal refusal_line.StepPolicy ∷ kind.Refusal refusal_line.StepChange ∷ kind.Refusal refusal_line.Path ∷ kind.Ask ask_line.Undone ∷ kind.Ask ask_line.Done ∷ kind.Verify verify_line.OtherRoot ∷ kind.Verify verify_line.NoRoot ∷ kind.Verify verify_line.OtherNext ∷ kind.Verify verify_line.Region ∷ kind.Verify verify_line.Role ∷ kind.Verify verify_line.Reach ∷ kind.Verify verify_line.Apart ∷ kind.Verify verify_line.Leaves ∷ kind.Verify verify_line.Together ∷ kind.Verify verify_line.Leaf ∷ kind.Verify verify_line.Depth ∷ kind.Verify verify_line.Carries ∷ kind.Verify verify_line.Avoids ∷ kind.Verify verify_line.TooManyHops ∷ kind.Verify verify_line.NotVia ∷ kind.Verify verify_line.Hops ∷ kind.Verify verify_line.Age ∷ kind.Verify verify_line.ExternalCost ∷ kind.Verify verify_line.InternalCost ∷ kind.Verify verify_line.Same ∷ kind.Verify verify_line.Counts ∷ kind.StepVerify verify_line.OtherRoot ∷ kind.StepVerify verify_line.NoRoot ∷ kind.StepVerify verify_line.OtherNext ∷ kind.StepVerify verify_line.Region ∷ kind.StepVerify verify_line.Role ∷ kind.StepVerify verify_line.Reach ∷ kind.StepVerify verify_line.Apart ∷ kind.StepVerify verify_line.Leaves ∷ kind.StepVerify verify_line.Together ∷ kind.StepVerify verify_line.Leaf ∷ kind.StepVerify verify_line.Depth ∷ kind.StepVerify verify_line.Carries ∷ kind.StepVerify verify_line.Avoids ∷ kind.StepVerify verify_line.TooManyHops ∷ kind.StepVerify verify_line.NotVia ∷ kind.StepVerify verify_line.Hops ∷ kind.StepVerify verify_line.Age ∷ kind.StepVerify verify_line.ExternalCost ∷ kind.StepVerify verify_line.InternalCost ∷ kind.StepVerify verify_line.Same ∷ kind.StepVerify verify_line.Counts ∷ kind.Step step_line.Step ∷ kind.Step step_line.Cut ∷ kind.Step step_line.Start ∷ kind.Step step_line.Mends ∷ kind.Step step_line.Turns ∷ kind.Step step_line.Restarts ∷ kind.Step step_line.Counts ∷ kind.Step step_line.JudgedCounts ∷ kind.Advise advise_line.Priority ∷ kind.Advise advise_line.ExternalCost ∷ kind.Advise advise_line.InternalCost ∷ kind.Advise advise_line.PortPriority ∷ kind.Advise advise_line.Does ∷ kind.Advise advise_line.Cut ∷ kind.Advise advise_line.Counts ∷ kind.Advise advise_line.None ∷ kind.Advise advise_line.BecauseOff ∷ kind.Advise advise_line.BecauseDown ∷ kind.Advise advise_line.BecauseApart ∷ kind.Advise advise_line.BecauseRestricted ∷ kind.Advise advise_line.BecauseTried ∷ kind.Path path_line.Path ∷ kind.Path path_line.None ∷ kind.Path path_line.Hop ∷ kind.Path path_line.Lan ∷ kind.Path path_line.Bridge ∷ kind.Path path_line.NoneByLan ∷ kind.Path path_line.NoneByBridge ∷ kind.Path path_line.Counts ∷ []

numbered_kinds : List (ℕ × Kind)
unfolding all_kinds
numbered_kinds = map (λ k. (shape_number (shape_of k), k)) all_kinds

query_found : (l : Query) → found (shape_number (shape_of (kind.Query l))) numbered_kinds ≡ Some (kind.Query l)
unfolding all_kinds numbered_kinds
query_found query.ShowTree = refl
query_found query.ShowPlan = refl
query_found query.ShowVlan = refl
query_found query.ShowLag = refl
query_found query.ShowRegions = refl
query_found query.ShowMstconfid = refl
query_found query.ShowNotes = refl
query_found query.Changes = refl
query_found query.Save = refl
query_found query.Explain = refl
query_found query.ExplainIn = refl
query_found query.Diff = refl
query_found query.Sweep = refl
query_found query.SweepPart = refl
query_found query.SweepPairs = refl
query_found query.SweepRisks = refl
query_found query.SweepPairsPart = refl
query_found query.Summary = refl
query_found query.Check = refl
query_found query.Verify = refl
query_found query.Steps = refl
query_found query.Edits = refl
query_found query.AdviseRoot = refl
query_found query.AdviseForward = refl
query_found query.Digest = refl
query_found query.Path = refl
query_found query.PathAlways = refl

tree_line_found : (l : TreeLine) → found (shape_number (shape_of (kind.Tree l))) numbered_kinds ≡ Some (kind.Tree l)
unfolding all_kinds numbered_kinds
tree_line_found tree_line.Heading = refl
tree_line_found tree_line.BridgeOff = refl
tree_line_found tree_line.BridgeInCist = refl
tree_line_found tree_line.BridgeInMsti = refl
tree_line_found tree_line.PortDisabled = refl
tree_line_found tree_line.PortInCist = refl
tree_line_found tree_line.PortInMsti = refl

vlan_line_found : (l : VlanLine) → found (shape_number (shape_of (kind.Vlan l))) numbered_kinds ≡ Some (kind.Vlan l)
unfolding all_kinds numbered_kinds
vlan_line_found vlan_line.Heading = refl
vlan_line_found vlan_line.Active = refl
vlan_line_found vlan_line.Island = refl

region_line_found : (l : RegionLine) → found (shape_number (shape_of (kind.Region l))) numbered_kinds ≡ Some (kind.Region l)
unfolding all_kinds numbered_kinds
region_line_found region_line.Mstp = refl
region_line_found region_line.Rstp = refl
region_line_found region_line.Configuration = refl
region_line_found region_line.Msti = refl
region_line_found region_line.Lag = refl

note_line_found : (l : NoteLine) → found (shape_number (shape_of (kind.Note l))) numbered_kinds ≡ Some (kind.Note l)
unfolding all_kinds numbered_kinds
note_line_found note_line.Hops = refl
note_line_found note_line.Age = refl
note_line_found note_line.ExternalCost = refl
note_line_found note_line.InternalCost = refl
note_line_found note_line.Restricted = refl

change_line_found : (l : ChangeLine) → found (shape_number (shape_of (kind.Change l))) numbered_kinds ≡ Some (kind.Change l)
unfolding all_kinds numbered_kinds
change_line_found change_line.Bridge = refl
change_line_found change_line.Port = refl
change_line_found change_line.Region = refl
change_line_found change_line.Root = refl
change_line_found change_line.Reach = refl
change_line_found change_line.Counts = refl

bridge_command_found : (l : BridgeCommand) → found (shape_number (shape_of (kind.OfBridge l))) numbered_kinds ≡ Some (kind.OfBridge l)
unfolding all_kinds numbered_kinds
bridge_command_found bridge_command.Version = refl
bridge_command_found bridge_command.Add = refl
bridge_command_found bridge_command.Off = refl
bridge_command_found bridge_command.Rstp = refl
bridge_command_found bridge_command.SystemPriority = refl
bridge_command_found bridge_command.Configuration = refl
bridge_command_found bridge_command.Msti = refl
bridge_command_found bridge_command.MaxHops = refl
bridge_command_found bridge_command.MaxAge = refl
bridge_command_found bridge_command.Priority = refl
bridge_command_found bridge_command.Delete = refl
bridge_command_found bridge_command.On = refl
bridge_command_found bridge_command.Mstp = refl

port_command_found : (l : PortCommand) → found (shape_number (shape_of (kind.OfPort l))) numbered_kinds ≡ Some (kind.OfPort l)
unfolding all_kinds numbered_kinds
port_command_found port_command.Add = refl
port_command_found port_command.Key = refl
port_command_found port_command.ExternalCost = refl
port_command_found port_command.InternalCost = refl
port_command_found port_command.Priority = refl
port_command_found port_command.Vlans = refl
port_command_found port_command.NoVlans = refl
port_command_found port_command.Restricted = refl
port_command_found port_command.Plug = refl
port_command_found port_command.AddLan = refl
port_command_found port_command.LanDown = refl
port_command_found port_command.Speed = refl
port_command_found port_command.Delete = refl
port_command_found port_command.AllVlans = refl
port_command_found port_command.Unrestricted = refl
port_command_found port_command.Unplug = refl
port_command_found port_command.DeleteLan = refl
port_command_found port_command.LanUp = refl

explain_line_found : (l : ExplainLine) → found (shape_number (shape_of (kind.Explain l))) numbered_kinds ≡ Some (kind.Explain l)
unfolding all_kinds numbered_kinds
explain_line_found explain_line.Port = refl
explain_line_found explain_line.Restricted = refl
explain_line_found explain_line.Boundary = refl
explain_line_found explain_line.BridgeOff = refl
explain_line_found explain_line.LanDown = refl

contest_line_found : (l : ContestLine) → found (shape_number (shape_of (kind.Contest l))) numbered_kinds ≡ Some (kind.Contest l)
unfolding all_kinds numbered_kinds
contest_line_found contest_line.DesignatedAlone = refl
contest_line_found contest_line.DesignatedOver = refl
contest_line_found contest_line.DesignatedByCost = refl
contest_line_found contest_line.DesignatedById = refl
contest_line_found contest_line.RootAlone = refl
contest_line_found contest_line.RootOver = refl
contest_line_found contest_line.RootByCost = refl
contest_line_found contest_line.RootById = refl

sweep_line_found : (l : SweepLine) → found (shape_number (shape_of (kind.Sweep l))) numbered_kinds ≡ Some (kind.Sweep l)
unfolding all_kinds numbered_kinds
sweep_line_found sweep_line.Lan = refl
sweep_line_found sweep_line.Bridge = refl
sweep_line_found sweep_line.Risk = refl
sweep_line_found sweep_line.Cut = refl
sweep_line_found sweep_line.Counts = refl
sweep_line_found sweep_line.Pair = refl
sweep_line_found sweep_line.CutByPair = refl
sweep_line_found sweep_line.PairCounts = refl
sweep_line_found sweep_line.RiskCounts = refl

summary_line_found : (l : SummaryLine) → found (shape_number (shape_of (kind.Summary l))) numbered_kinds ≡ Some (kind.Summary l)
unfolding all_kinds numbered_kinds
summary_line_found summary_line.Counts = refl
summary_line_found summary_line.Root = refl
summary_line_found summary_line.RootAlone = refl
summary_line_found summary_line.Blocked = refl
summary_line_found summary_line.Vlan = refl
summary_line_found summary_line.Carries = refl
summary_line_found summary_line.CarriesAll = refl
summary_line_found summary_line.LookRegion = refl
summary_line_found summary_line.LookTable = refl
summary_line_found summary_line.LookLan = refl
summary_line_found summary_line.LookVlans = refl
summary_line_found summary_line.Digest = refl

capture_line_found : (l : CaptureLine) → found (shape_number (shape_of (kind.Capture l))) numbered_kinds ≡ Some (kind.Capture l)
unfolding all_kinds numbered_kinds
capture_line_found capture_line.Agrees = refl
capture_line_found capture_line.Number = refl
capture_line_found capture_line.Text = refl
capture_line_found capture_line.MstiNumber = refl
capture_line_found capture_line.MstiText = refl
capture_line_found capture_line.Unplanned = refl
capture_line_found capture_line.Repeated = refl
capture_line_found capture_line.Missing = refl
capture_line_found capture_line.Unread = refl
capture_line_found capture_line.Counts = refl

refusal_line_found : (l : RefusalLine) → found (shape_number (shape_of (kind.Refusal l))) numbered_kinds ≡ Some (kind.Refusal l)
unfolding all_kinds numbered_kinds
refusal_line_found refusal_line.Line = refl
refusal_line_found refusal_line.Hinted = refl
refusal_line_found refusal_line.OldLine = refl
refusal_line_found refusal_line.NewLine = refl
refusal_line_found refusal_line.Explain = refl
refusal_line_found refusal_line.Dot = refl
refusal_line_found refusal_line.Policy = refl
refusal_line_found refusal_line.Change = refl
refusal_line_found refusal_line.Advise = refl
refusal_line_found refusal_line.StepPolicy = refl
refusal_line_found refusal_line.StepChange = refl
refusal_line_found refusal_line.Path = refl

ask_line_found : (l : AskLine) → found (shape_number (shape_of (kind.Ask l))) numbered_kinds ≡ Some (kind.Ask l)
unfolding all_kinds numbered_kinds
ask_line_found ask_line.Undone = refl
ask_line_found ask_line.Done = refl

verify_line_found : (l : VerifyLine) → found (shape_number (shape_of (kind.Verify l))) numbered_kinds ≡ Some (kind.Verify l)
unfolding all_kinds numbered_kinds
verify_line_found verify_line.OtherRoot = refl
verify_line_found verify_line.NoRoot = refl
verify_line_found verify_line.OtherNext = refl
verify_line_found verify_line.Region = refl
verify_line_found verify_line.Role = refl
verify_line_found verify_line.Reach = refl
verify_line_found verify_line.Apart = refl
verify_line_found verify_line.Leaves = refl
verify_line_found verify_line.Together = refl
verify_line_found verify_line.Leaf = refl
verify_line_found verify_line.Depth = refl
verify_line_found verify_line.Carries = refl
verify_line_found verify_line.Avoids = refl
verify_line_found verify_line.TooManyHops = refl
verify_line_found verify_line.NotVia = refl
verify_line_found verify_line.Hops = refl
verify_line_found verify_line.Age = refl
verify_line_found verify_line.ExternalCost = refl
verify_line_found verify_line.InternalCost = refl
verify_line_found verify_line.Same = refl
verify_line_found verify_line.Counts = refl

step_verify_found : (l : VerifyLine) → found (shape_number (shape_of (kind.StepVerify l))) numbered_kinds ≡ Some (kind.StepVerify l)
unfolding all_kinds numbered_kinds
step_verify_found verify_line.OtherRoot = refl
step_verify_found verify_line.NoRoot = refl
step_verify_found verify_line.OtherNext = refl
step_verify_found verify_line.Region = refl
step_verify_found verify_line.Role = refl
step_verify_found verify_line.Reach = refl
step_verify_found verify_line.Apart = refl
step_verify_found verify_line.Leaves = refl
step_verify_found verify_line.Together = refl
step_verify_found verify_line.Leaf = refl
step_verify_found verify_line.Depth = refl
step_verify_found verify_line.Carries = refl
step_verify_found verify_line.Avoids = refl
step_verify_found verify_line.TooManyHops = refl
step_verify_found verify_line.NotVia = refl
step_verify_found verify_line.Hops = refl
step_verify_found verify_line.Age = refl
step_verify_found verify_line.ExternalCost = refl
step_verify_found verify_line.InternalCost = refl
step_verify_found verify_line.Same = refl
step_verify_found verify_line.Counts = refl

step_line_found : (l : StepLine) → found (shape_number (shape_of (kind.Step l))) numbered_kinds ≡ Some (kind.Step l)
unfolding all_kinds numbered_kinds
step_line_found step_line.Step = refl
step_line_found step_line.Cut = refl
step_line_found step_line.Start = refl
step_line_found step_line.Mends = refl
step_line_found step_line.Turns = refl
step_line_found step_line.Restarts = refl
step_line_found step_line.Counts = refl
step_line_found step_line.JudgedCounts = refl

advise_line_found : (l : AdviseLine) → found (shape_number (shape_of (kind.Advise l))) numbered_kinds ≡ Some (kind.Advise l)
unfolding all_kinds numbered_kinds
advise_line_found advise_line.Priority = refl
advise_line_found advise_line.ExternalCost = refl
advise_line_found advise_line.InternalCost = refl
advise_line_found advise_line.PortPriority = refl
advise_line_found advise_line.Does = refl
advise_line_found advise_line.Cut = refl
advise_line_found advise_line.Counts = refl
advise_line_found advise_line.None = refl
advise_line_found advise_line.BecauseOff = refl
advise_line_found advise_line.BecauseDown = refl
advise_line_found advise_line.BecauseApart = refl
advise_line_found advise_line.BecauseRestricted = refl
advise_line_found advise_line.BecauseTried = refl

path_line_found : (l : PathLine) → found (shape_number (shape_of (kind.Path l))) numbered_kinds ≡ Some (kind.Path l)
unfolding all_kinds numbered_kinds
path_line_found path_line.Path = refl
path_line_found path_line.None = refl
path_line_found path_line.Hop = refl
path_line_found path_line.Lan = refl
path_line_found path_line.Bridge = refl
path_line_found path_line.NoneByLan = refl
path_line_found path_line.NoneByBridge = refl
path_line_found path_line.Counts = refl

kind_found : (k : Kind) → found (shape_number (shape_of k)) numbered_kinds ≡ Some k
kind_found (kind.Query l) = query_found l
kind_found (kind.Tree l) = tree_line_found l
kind_found (kind.Vlan l) = vlan_line_found l
kind_found (kind.Region l) = region_line_found l
kind_found (kind.Note l) = note_line_found l
kind_found (kind.Change l) = change_line_found l
kind_found (kind.OfBridge l) = bridge_command_found l
kind_found (kind.OfPort l) = port_command_found l
kind_found (kind.Explain l) = explain_line_found l
kind_found (kind.Contest l) = contest_line_found l
kind_found (kind.Sweep l) = sweep_line_found l
kind_found (kind.Summary l) = summary_line_found l
kind_found (kind.Capture l) = capture_line_found l
kind_found (kind.Refusal l) = refusal_line_found l
kind_found (kind.Ask l) = ask_line_found l
kind_found (kind.Verify l) = verify_line_found l
kind_found (kind.StepVerify l) = step_verify_found l
kind_found (kind.Step l) = step_line_found l
kind_found (kind.Advise l) = advise_line_found l
kind_found (kind.Path l) = path_line_found l

pub kinds_differ : (k l : Kind) → shape_of k ≡ shape_of l → k ≡ l
kinds_differ k l e =
    let same : Some k ≡ Some l = sym (kind_found k) ∙ ap (λ (s : List ℕ × List (List ℕ × List ℕ)). found (shape_number s) numbered_kinds) e ∙ kind_found l in cc

-- what holds of all kinds holds of one that is found
holds_of : (test : Kind → Bool) (n : ℕ) (ks : List Kind) (k : Kind) → found n (map (λ l. (shape_number (shape_of l), l)) ks) ≡ Some k → list_all test ks ≡ true → test k ≡ true
holds_of test n [] k is all = absurd (cc)
holds_of test n (l ∷ ks) k is all =
    let both = and_parts (test l) (list_all test ks) all in
    go (shape_number (shape_of l) == n) both.0 (λ e. holds_of test n ks k e both.1) is
  where
    go : (here : Bool) → test l ≡ true → (found n (map (λ l. (shape_number (shape_of l), l)) ks) ≡ Some k → test k ≡ true) → (if here then Some l else found n (map (λ l. (shape_number (shape_of l), l)) ks)) ≡ Some k → test k ≡ true
    go true first others e = let same : l ≡ k = cc in ap test (sym same) ∙ first
    go false first others e = others e

holds : (test : Kind → Bool) → list_all test all_kinds ≡ true → (k : Kind) → test k ≡ true
unfolding numbered_kinds
holds test all k = holds_of test (shape_number (shape_of k)) all_kinds k (kind_found k) all

pub keys_once : (k : Kind) → has_keys_once k ≡ true
unfolding all_kinds
keys_once = holds has_keys_once refl

pub words_kept : (k : Kind) → keeps_all_words k ≡ true
unfolding all_kinds worded
words_kept = holds keeps_all_words refl

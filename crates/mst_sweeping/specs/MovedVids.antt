-- The VIDs that a change cuts, joins and moves.
use Rattle.std.specs.Prelude.{◌≡◌, ℕ, ◌||◌, not, Bool, true, List, filter}
use Rattle.mst_policy.specs.Leaving.{Leaving, leaves}
use Rattle.mst_ids.specs.Vids.{is_vid}
use Rattle.mst_net.specs.tables.Tables.{Net}
use Rattle.mst_plan.specs.forest.Outcome.{Outcome}
use Rattle.mst_sweep.specs.vlan.classes.AllVids.{all_vids}
use Rattle.mst_graph.specs.Lists.{has_any}
use Rattle.mst_sweep.specs.Parts.{AreParts, ArePartsOf}
use Rattle.mst_view.specs.View.{bridge_names}
use Rattle.mst_sweeping.specs.Links.{links_between, same_links, stays}

-- whether a VID is cut: it has parts
abbrev pub IsCut : Net → Outcome → Net → Outcome → ℕ → Bool → Type 0
IsCut a o b p vid cut = (parts : List (List (List ℕ))) × AreParts a o b p vid parts × (cut ≡ has_any parts)

-- whether it is joined: it would be cut with before and after changed over
abbrev pub IsJoined : Net → Outcome → Net → Outcome → ℕ → Bool → Type 0
IsJoined a o b p vid joined = IsCut b p a o vid joined

-- ---- but for bridges that are meant to leave
-- the bridges of a network that aren't to leave a VID
abbrev pub remaining : Leaving → ℕ → Net → List (List ℕ)
remaining leaving vid net = filter (λ bridge. not (leaves leaving vid bridge)) (bridge_names net)

-- the parts of a VID, of these bridges alone
abbrev pub ArePartsBut : Leaving → Net → Outcome → Net → Outcome → ℕ → List (List (List ℕ)) → Type 0
ArePartsBut leaving a o b p vid parts = ArePartsOf (remaining leaving vid a) a o b p vid parts

-- whether it would be cut so with before and after changed over
abbrev pub IsJoinedBut : Leaving → Net → Outcome → Net → Outcome → ℕ → Bool → Type 0
IsJoinedBut leaving a o b p vid joined = (parts : List (List (List ℕ))) × ArePartsBut leaving b p a o vid parts × (joined ≡ has_any parts)

-- ---- what moves
-- its links between bridges that are on before and afterwards aren't the same
abbrev pub links_differ : Net → Outcome → Net → Outcome → ℕ → Bool
links_differ a o b p vid = not (same_links (links_between (stays a b) a o vid) (links_between (stays a b) b p vid))

-- whether it moves: it is cut or joined, also by what is meant to leave, or these links aren't the same
abbrev pub IsMoved : Net → Outcome → Net → Outcome → ℕ → Bool → Type 0
IsMoved a o b p vid moved = (cut joined : Bool) × IsCut a o b p vid cut × IsJoined a o b p vid joined × (moved ≡ (cut || joined || links_differ a o b p vid))

-- these are the VIDs that are so
pub record AreVidsWhere (Is : ℕ → Bool → Type 0) (vids : List ℕ) : Type 0 where
  pub flags : ℕ → Bool
  pub each : (vid : ℕ) → is_vid vid ≡ true → Is vid (flags vid)
  pub are : vids ≡ filter flags all_vids

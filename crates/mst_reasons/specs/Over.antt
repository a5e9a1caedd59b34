-- Which VIDs go over a LAN.
use Rattle.std.specs.Prelude.{◌≡◌, ℕ, Bool, true, not, List, filter, if◌then◌else◌, ⊤}
use Rattle.std.specs.FinMap as fin
use Rattle.mst_tables.specs.Tables.{Net}
use Rattle.mst_view.specs.View.{logical_lan}
use Rattle.mst_roles.specs.forest.Outcome.{Outcome}
use Rattle.mst_summary.specs.Carries as carries
use Rattle.mst_policy.specs.declared.expectation.Expectation.{Expectation}
use Rattle.mst_policy.specs.declared.expectation.Expectation.TheVariants as expect
use Rattle.mst_reasons.specs.Named.{vids_in}

-- frames of a VID go over a LAN: over its logical LAN
abbrev pub goes_over : Net → Outcome → List ℕ → ℕ → Bool
goes_over net o lan vid = carries.goes_over net o (logical_lan net lan) vid

-- a LAN of this name is there
abbrev pub is_lan : Net → List ℕ → Bool
is_lan net lan = fin.contains_key net.lans lan

-- those of the VIDs for which it isn't as it is wanted: all are to go over the LAN, or none
abbrev pub is_wrong : Bool → Bool → Bool
is_wrong wanted over = if wanted then not over else over

abbrev pub not_as_wanted : Net → Outcome → List ℕ → Bool → List Bool → List ℕ
not_as_wanted net o lan wanted vids = filter (λ vid. is_wrong wanted (goes_over net o lan vid)) (vids_in vids)

-- the LAN that an expectation names is there
abbrev pub HasItsLan : Net → Expectation → Type 0
HasItsLan net (expect.Carries lan vids) = is_lan net lan ≡ true
HasItsLan net (expect.Avoids lan vids) = is_lan net lan ≡ true
HasItsLan net _ = ⊤

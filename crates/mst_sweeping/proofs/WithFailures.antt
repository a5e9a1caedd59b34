-- Views and regions of networks with failures.
use Rattle.std.proofs.Common.{◌≡◌, ℕ, false, List, [], ◌∷◌, ◌++◌, refl}
use Rattle.mst_lang.specs.declared.line.Edit.{Edit}
use Rattle.mst_lang.specs.declared.line.BridgeChange.TheVariants.{Power}
use Rattle.mst_lang.specs.declared.line.LanChange.TheVariants.{State}
use Rattle.mst_lang.specs.declared.line.Power.TheVariants.{Off}
use Rattle.mst_lang.specs.declared.line.LanState.TheVariants.{Down}
use Rattle.mst_net.specs.tables.After.{effect}
use Rattle.mst_net.specs.tables.Contents.{PerKind, numbers_after}
use Rattle.mst_net.specs.tables.Tables.{Net, Numbers}
use Rattle.mst_config.specs.Shared.{AreRegions}
use Rattle.mst_config.specs.Touching.{touches_regions}
use Rattle.mst_view.specs.Viewed.{Viewed, IsView}
use Rattle.mst_plan.proofs.lag_lemmas.LanAlone as lan_alone
use Rattle.mst_plan.proofs.lag_lemmas.BridgeAlone as bridge_alone
use Rattle.mst_sweep.specs.declared.failure.Failure.{Failure}
use Rattle.mst_sweep.specs.declared.failure.Failure.TheVariants.{Lan, Bridge}
use Rattle.mst_sweep.specs.Failures.{edit_of, failed}
use Rattle.mst_sweeping.specs.Sweeping.{IsViewBut}

-- ---- views of a network with a failure more, and with one less
one_ahead : (f : Failure) (net : Net) (numbers : Numbers) (v : Viewed) → IsView net numbers v → IsViewBut f (failed (f ∷ []) net) numbers v
one_ahead (Lan lan) net numbers v view = lan_alone.alone_ahead lan (State Down) net numbers v view
one_ahead (Bridge bridge) net numbers v view = bridge_alone.alone_ahead bridge (Power Off) net numbers v refl view

one_back : (f : Failure) (net : Net) (numbers : Numbers) (v : Viewed) → IsView (failed (f ∷ []) net) numbers v → IsViewBut f net numbers v
one_back (Lan lan) net numbers v view = lan_alone.alone_back lan (State Down) net numbers v view
one_back (Bridge bridge) net numbers v view = bridge_alone.alone_back bridge (Power Off) net numbers v refl view

pub more_ahead : (fs : List Failure) (f : Failure) (net : Net) (numbers : Numbers) (v : Viewed) → IsView (failed fs net) numbers v → IsViewBut f (failed (fs ++ f ∷ []) net) numbers v
more_ahead [] f net numbers v view = one_ahead f net numbers v view
more_ahead (Lan lan ∷ fs) f net numbers v view = more_ahead fs f (effect (edit_of (Lan lan)) net) numbers v view
more_ahead (Bridge bridge ∷ fs) f net numbers v view = more_ahead fs f (effect (edit_of (Bridge bridge)) net) numbers v view

pub less_back : (fs : List Failure) (f : Failure) (net : Net) (numbers : Numbers) (v : Viewed) → IsView (failed (fs ++ f ∷ []) net) numbers v → IsViewBut f (failed fs net) numbers v
less_back [] f net numbers v view = one_back f net numbers v view
less_back (Lan lan ∷ fs) f net numbers v view = less_back fs f (effect (edit_of (Lan lan)) net) numbers v view
less_back (Bridge bridge ∷ fs) f net numbers v view = less_back fs f (effect (edit_of (Bridge bridge)) net) numbers v view

-- ---- and its regions
module _ (stay : (edit : Edit) (net : Net) (numbers : Numbers) (next : PerKind) (region_ids : List (ℕ × ℕ)) → touches_regions edit ≡ false → AreRegions net numbers region_ids → AreRegions (effect edit net) (numbers_after edit next numbers) region_ids) where
  abbrev nothing_next : PerKind
  nothing_next = record { bridge = 0; port = 0; lan = 0 }

  pub regions_too : (fs : List Failure) (net : Net) (numbers : Numbers) (region_ids : List (ℕ × ℕ)) → AreRegions net numbers region_ids → AreRegions (failed fs net) numbers region_ids
  regions_too [] net numbers ids are = are
  regions_too (Lan lan ∷ fs) net numbers ids are = regions_too fs (effect (edit_of (Lan lan)) net) numbers ids (stay (edit_of (Lan lan)) net numbers nothing_next ids refl are)
  regions_too (Bridge bridge ∷ fs) net numbers ids are = regions_too fs (effect (edit_of (Bridge bridge)) net) numbers ids (stay (edit_of (Bridge bridge)) net numbers nothing_next ids refl are)

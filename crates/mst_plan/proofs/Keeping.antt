-- What stands of what is kept.
use Rattle.std.proofs.Common.{◌≡◌, ℕ, Bool, true, List, refl, sym, subst}
use Rattle.mst_config.specs.Shared.{AreRegions}
use Rattle.mst_net.specs.tables.Tables.{Net, Numbers}
use Rattle.mst_trees.specs.forest.Forest.{Forest}
use Rattle.mst_plan.specs.Kept.{HasRegions, IsKept, regions_stand_in, settled_by, standing_in}
use Rattle.mst_plan.specs.Standing.{standing_of}
use Rattle.mst_plan.specs.declared.kept.KeptPlan.{KeptPlan}
use Rattle.mst_plan.specs.declared.kept.KeptPlan.TheVariants.{Nothing, Settled, Earlier}
use Rattle.mst_plan.specs.declared.plan.Plan.{Plan}

-- its regions, where they stood, are those of a network in which those of any plan stay
pub regions_last : (old new : Net) (was now : Numbers) (kept : KeptPlan) → IsKept old was kept → regions_stand_in kept ≡ true
    → ((regions : List (ℕ × ℕ)) → AreRegions old was regions → AreRegions new now regions) → HasRegions new now kept
regions_last old new was now Nothing is stood stay = tt
regions_last old new was now (Settled p) is stood stay = stay p.regions is.regions
regions_last old new was now (Earlier p regions_stand view_stands) is stood stay = stay p.regions (is.0 stood)

-- the trees by which it is settled stand in it then
pub settled_trees : (kept : KeptPlan) (regions : List (ℕ × ℕ)) (forest : Forest) (p : Plan) (regions_stand view_stands : Bool) → kept ≡ Earlier p regions_stand view_stands
    → standing_of forest ≡ standing_in (settled_by kept regions forest)
settled_trees kept regions forest p regions_stand view_stands is = subst (λ (k : KeptPlan). standing_of forest ≡ standing_in (settled_by k regions forest)) (sym is) refl

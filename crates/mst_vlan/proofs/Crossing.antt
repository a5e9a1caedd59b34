-- A port between parts forwards where it is the exit of its bridge's part, whatever the tree.
use Rattle.std.proofs.Common.{◌≡◌, ℕ, zero, suc, ◌&&◌, Bool, true, false, List, Option, Some, None, refl, sym, ap, ◌∙◌}
use Rattle.std.specs.Prelude.{if◌then◌else◌, ◌↔◌}
use Rattle.mst_ids.specs.declared.name.PortName.{PortName}
use Rattle.mst_vector.specs.Msti.{msti_rules}
use Rattle.mst_vector.specs.declared.cist.CistPort.{CistPort}
use Rattle.mst_roles.specs.forest.topology.Topology.{TreePort}
use Rattle.mst_graph.specs.Walks.{bridge_at, lan_at}
use Rattle.mst_roles.specs.forest.nested.Exits.{IsCrossing, IsExit}
use Rattle.mst_roles.specs.forest.nested.Roles.{Forwards}
use Rattle.mst_roles.specs.forest.nested.Trees.{IsSettled, SamePart, HasTree}
use Rattle.mst_tables.specs.Tables.{Net, IsNetwork}
use Rattle.mst_tables.specs.ByTree.{by_tree}
use Rattle.mst_view.specs.View.{LogicalPort, view_ports}
use Rattle.mst_roles.specs.forest.Msti.{msti_bridge, has_msti, msti_sight}
use Rattle.mst_roles.specs.forest.Outcome.{Outcome, trees_of}
use Rattle.mst_roles.proofs.forest_lemmas.Lists.{no_some, all_contained}
use Rattle.mst_roles.proofs.forest_lemmas.MstiTopology.{msti_is_sight}
use Rattle.mst_roles.proofs.forest_lemmas.Sights.{bridge_in}
use Rattle.mst_roles.proofs.forest_lemmas.Views.{IsPort, ports_are, row_on}
use Rattle.mst_roles.specs.Roles.{cist_role, msti_role, role_in, forwards}
use Rattle.mst_roles.specs.declared.kind.Role.{Role}
use Rattle.mst_roles.specs.Active.{IsEnabled}
use Rattle.mst_roles.proofs.ActiveLaw.{Forwarding, not_zero}
use Rattle.mst_roles.proofs.Plugs.{plug, enabled_plug}

-- a port has a role in the trees of its bridge alone
has_tree : (net : Net) (o : Outcome) → IsNetwork net → IsSettled (trees_of net o) → (p : LogicalPort) → IsEnabled net p → (tree : ℕ) (role : Role) → role_in net o tree p ≡ Some role → HasTree (trees_of net o) tree p.name.bridge
has_tree net o ok settled p enabled zero role e = let on = enabled_plug net ok p enabled in settled.cist.topology.has_bridge (plug net p) on.0 on.1
has_tree net o ok settled p enabled (suc i) role e = go (has_msti net (suc i) p.name.bridge) refl (sym (ap by_number (not_zero i)) ∙ e)
  where
    by_number : Bool → Option Role
    by_number b = if b then Some (cist_role net o p) else (if has_msti net (suc i) p.name.bridge then Some (msti_role net o (suc i) p) else None)

    go : (b : Bool) → has_msti net (suc i) p.name.bridge ≡ b → (if b then Some (msti_role net o (suc i) p) else None) ≡ Some role → HasTree (trees_of net o) (suc i) p.name.bridge
    go false has k = absurd (no_some role k)
    go true has k =
        let is_port = all_contained (IsPort net) (view_ports net) p (ports_are net) enabled.0 in
        let on = row_on net p.name.bridge (is_port.bridge_on enabled.1) in
        let b = msti_bridge (by_tree net) (suc i) p.name.bridge on.row in (
          b,
          bridge_in net ok msti_rules (msti_sight net (suc i) o.cist.designated) (msti_is_sight net ok (suc i) o.cist.designated) p.name.bridge b (record {
            row = on.row;
            has_row = on.is_row;
            seen = ap (λ (t : Bool). if t && has_msti net (suc i) p.name.bridge then Some b else None) on.is_power ∙ ap (λ (t : Bool). if t then Some b else None) has;
          }),
        )

module _ (net : Net) (o : Outcome) (ok : IsNetwork net) (settled : IsSettled (trees_of net o)) (law : Forwarding net o)
    (only : (p : TreePort (List ℕ) (List ℕ) PortName CistPort) (tree : ℕ) → IsCrossing (trees_of net o) p → Forwards (trees_of net o) tree p → IsExit (trees_of net o) p)
    (all : (p : TreePort (List ℕ) (List ℕ) PortName CistPort) (tree : ℕ) → IsExit (trees_of net o) p → HasTree (trees_of net o) tree p.bridge → Forwards (trees_of net o) tree p) where
  pub exit_forwards : (p : LogicalPort) → IsEnabled net p → (SamePart (trees_of net o) (bridge_at p.name.bridge) (lan_at p.lan) → ⊥) → (tree : ℕ) (role : Role) → role_in net o tree p ≡ Some role
      → forwards role ≡ true ↔ IsExit (trees_of net o) (plug net p)
  exit_forwards p enabled apart tree role e =
      let told = law p enabled.0 enabled.1 tree role e in (
        λ h. only (plug net p) tree (record { is_enabled = enabled_plug net ok p enabled; apart = apart }) (told.0 h),
        λ exit. told.1 (all (plug net p) tree exit (has_tree net o ok settled p enabled tree role e)),
      )

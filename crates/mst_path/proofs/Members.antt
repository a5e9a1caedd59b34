-- The members of a VLAN among ports, by name.
use Rattle.std.proofs.Common.{◌≡◌, ℕ, Bool, true, false, cond, List, [], ◌∷◌, map, filter, refl, sym, ap, ◌∙◌}
use Rattle.mst_ids.specs.Vids.{has}
use Rattle.mst_tables.specs.Tables.{Net}
use Rattle.mst_tables.specs.ByTree.{ByTree, by_tree, vlans_in}
use Rattle.mst_view.specs.Viewed.{Viewed, named_port}
use Rattle.mst_view.specs.declared.in_view.PortInView.{PortInView}
use Rattle.mst_vlan.specs.forest.Outcome.{Outcome}
use Rattle.mst_vlan.specs.roles.Active.{active_ports}
use Rattle.mst_vlan.specs.Reach.{is_member}
use Rattle.mst_vlan.specs.Seen.{seen_member}
use Rattle.mst_path.specs.Paths.{carrying}

module _ (net : Net) (v : Viewed) (vid : ℕ) (settings : v.settings ≡ by_tree net) where
  same : (p : PortInView) → is_member net vid (named_port p) ≡ seen_member v vid p
  same p = ap (λ (s : ByTree). has (vlans_in s.vlans p.name) vid) (sym settings)

  pub named_members : (ports : List PortInView) → map named_port (filter (seen_member v vid) ports) ≡ filter (is_member net vid) (map named_port ports)
  named_members [] = refl
  named_members (p ∷ ports) = go (seen_member v vid p) refl (named_members ports)
    where
      go : (b : Bool) → seen_member v vid p ≡ b → map named_port (filter (seen_member v vid) ports) ≡ filter (is_member net vid) (map named_port ports)
          → map named_port (filter (seen_member v vid) (p ∷ ports)) ≡ filter (is_member net vid) (map named_port (p ∷ ports))
      go true e rest =
          ap (λ b. map named_port (cond b (p ∷ filter (seen_member v vid) ports) (filter (seen_member v vid) ports))) e
          ∙ ap (λ l. named_port p ∷ l) rest
          ∙ sym (ap (λ b. cond b (named_port p ∷ filter (is_member net vid) (map named_port ports)) (filter (is_member net vid) (map named_port ports))) (same p ∙ e))
      go false e rest =
          ap (λ b. map named_port (cond b (p ∷ filter (seen_member v vid) ports) (filter (seen_member v vid) ports))) e
          ∙ rest
          ∙ sym (ap (λ b. cond b (named_port p ∷ filter (is_member net vid) (map named_port ports)) (filter (is_member net vid) (map named_port ports))) (same p ∙ e))

  -- those that carry a VID, of the active ports
  pub carried : (o : Outcome) (ports active : List PortInView) → ports ≡ filter (seen_member v vid) active → map named_port active ≡ active_ports net o vid → map named_port ports ≡ carrying net o vid
  carried o ports active e f = ap (map named_port) e ∙ named_members active ∙ ap (filter (is_member net vid)) f

-- The role of a port by number is Root where it takes part in the tree and the vector of its bridge came by it.
use Rattle.std.proofs.Common.{◌≡◌, ℕ, ◌==◌, ◌&&◌, Bool, true, false, Option, Some, None, refl, ap, ◌∙◌}
use Rattle.std.specs.Prelude.{if◌then◌else◌}
use Rattle.std.specs.List.{find}
use Rattle.std.specs.Option.{option_map, option_map_or}
use Rattle.mst_vector.specs.declared.cist.CistVector.{CistVector}
use Rattle.mst_vector.specs.declared.msti.MstiVector.{MstiVector}
use Rattle.mst_roles.specs.forest.outcome.Assignment.{vector_of, designated_of}
use Rattle.mst_view.specs.Trees.{is_among}
use Rattle.mst_view.specs.Viewed.{Viewed, named_port}
use Rattle.mst_view.specs.declared.in_view.PortInView.{PortInView}
use Rattle.mst_roles.specs.forest.Cist.{cist_port}
use Rattle.mst_roles.specs.forest.Msti.{msti_port}
use Rattle.mst_roles.specs.forest.Seen.{trees_at, seen_internal}
use Rattle.mst_roles.specs.forest.Forest.{Forest, msti_vector, designated_in}
use Rattle.mst_roles.specs.Roles.{outside}
use Rattle.mst_roles.specs.SeenRoles.{seen_beside, seen_role_by, seen_cist_role, seen_msti_role, seen_role}
use Rattle.mst_roles.specs.declared.kind.Role.{Role}
use Rattle.mst_roles.specs.declared.kind.Role.TheVariants.{Root, Designated, Alternate, Backup, Master, Disabled}
use Rattle.mst_note_text.specs.SeenTree.{is_root}

-- a vector came by the port of this identifier
abbrev pub came_by : Option ℕ → ℕ → Bool
came_by receiver id = option_map_or (λ r. r == id) receiver false

-- beside the designated port of its LAN no port is a root port
never_beside : (a b : Bool) → is_root (Some (if a then Designated else (if b then Backup else Alternate))) ≡ false
never_beside true b = refl
never_beside false true = refl
never_beside false false = refl

-- nor by external information
never_outside : (role : Role) → is_root (Some (outside role)) ≡ false
never_outside Root = refl
never_outside Designated = refl
never_outside Alternate = refl
never_outside Backup = refl
never_outside Master = refl
never_outside Disabled = refl

module _ (v : Viewed) (f : Forest) (q : PortInView) where
  by_vector : (id : ℕ) (receiver designated : Option ℕ) → is_root (Some (seen_role_by v id receiver designated q)) ≡ came_by receiver id
  by_vector id receiver designated = go (came_by receiver id) designated
    where
      other : (k : ℕ) (x : Option PortInView) → is_root (Some (if k == q.number then Designated else option_map_or (λ (p : PortInView). if p.bridge == q.bridge then Backup else Alternate) x Alternate)) ≡ false
      other k None = never_beside (k == q.number) false
      other k (Some p) = never_beside (k == q.number) (p.bridge == q.bridge)

      go : (b : Bool) (d : Option ℕ) → is_root (Some (if b then Root else option_map_or (seen_beside v q) d Alternate)) ≡ b
      go true d = refl
      go false None = refl
      go false (Some k) = other k (find (λ (p : PortInView). k == p.number) v.ports)

  abbrev cist_receiver : Option ℕ
  cist_receiver = option_map (λ (x : CistVector). x.receiver) (vector_of f.cist q.bridge)

  abbrev cist_id : ℕ
  cist_id = (cist_port v.settings (named_port q)).id

  pub root_in_cist : is_root (seen_role v f 0 q) ≡ (q.is_enabled && came_by cist_receiver cist_id)
  root_in_cist = go q.is_enabled
    where
      go : (b : Bool) → is_root (Some (if b then seen_role_by v cist_id cist_receiver (designated_in f 0 q.lan_number) q else Disabled)) ≡ (b && came_by cist_receiver cist_id)
      go true = by_vector cist_id cist_receiver (designated_in f 0 q.lan_number)
      go false = refl

  module _ (tree : ℕ) (other : (tree == 0) ≡ false) where
    abbrev receiver : Option ℕ
    receiver = option_map (λ (x : MstiVector). x.receiver) (msti_vector f tree q.bridge)

    abbrev id : ℕ
    id = (msti_port v.settings tree (named_port q)).id

    abbrev internal : Bool
    internal = seen_internal v f.regions (designated_of f.cist) q

    pub root_in_msti : is_root (seen_role v f tree q) ≡ (is_among (trees_at v q.bridge) tree && (q.is_enabled && (internal && came_by receiver id)))
    root_in_msti =
        ap (λ (t : Bool). is_root (if t then Some (seen_cist_role v f q) else (if is_among (trees_at v q.bridge) tree then Some (seen_msti_role v f tree q) else None))) other
        ∙ go (is_among (trees_at v q.bridge) tree) q.is_enabled internal
      where
        go : (a b c : Bool) → is_root (if a then Some (if b then (if c then seen_role_by v id receiver (designated_in f tree q.lan_number) q else outside (seen_cist_role v f q)) else Disabled) else None) ≡ (a && (b && (c && came_by receiver id)))
        go true true true = by_vector id receiver (designated_in f tree q.lan_number)
        go true true false = never_outside (seen_cist_role v f q)
        go true false c = refl
        go false b c = refl

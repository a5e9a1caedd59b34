-- The names of a network's bridges: each stands once, and a bridge of a tree is one of them.
use Rattle.std.proofs.Common.{◌≡◌, ℕ, zero, suc, List, [], ◌∷◌, Some, refl, sym, ap, ◌∙◌, Less, Bool, ◌&&◌}
use Rattle.std.specs.List.{Contains, filter}
use Rattle.std.specs.FinMap as fin
use Rattle.mst_ids.specs.Names.{name_cmp}
use Rattle.mst_graph.specs.Groups.{StandOnce}
use Rattle.mst_graph.proofs.Members.{in_map, from_map}
use Rattle.mst_tables.specs.ByTree.{by_tree}
use Rattle.mst_tables.specs.Tables.{Net, BridgeRow, IsNetwork}
use Rattle.mst_vector.specs.Cist.{cist_rules}
use Rattle.mst_vector.specs.Msti.{msti_rules}
use Rattle.mst_vector.specs.declared.cist.CistBridge.{CistBridge}
use Rattle.mst_vector.specs.declared.msti.MstiBridge.{MstiBridge}
use Rattle.mst_roles.specs.forest.topology.Topology.{HasBridge}
use Rattle.mst_roles.specs.forest.config.Regions.{region_of}
use Rattle.mst_roles.specs.forest.Apart.{Apart}
use Rattle.mst_roles.specs.forest.Cist.{cist_bridge, cist_of, cist_sight}
use Rattle.mst_roles.specs.forest.InUse.{id_in}
use Rattle.mst_roles.specs.forest.Msti.{has_msti, msti_bridge, msti_of, msti_sight}
use Rattle.mst_roles.specs.forest.Outcome.{Outcome, IsOutcome, trees_of}
use Rattle.mst_roles.proofs.forest_lemmas.CistTopology.{given, cist_is_sight}
use Rattle.mst_roles.proofs.forest_lemmas.Lists.{all_contained, apart_filtered, apart_mapped}
use Rattle.mst_roles.proofs.forest_lemmas.MstiTopology.{msti_is_sight}
use Rattle.mst_roles.proofs.forest_lemmas.Sights.{bridge_from}
use Rattle.mst_roles.proofs.forest_lemmas.Views.{bridges_are, bridges_rise, entry_there, names_differ}
use Rattle.mst_roles.specs.forest.nested.Trees.{HasTree}
use Rattle.mst_judged.specs.reasons.sweep.vlan.Reach.{bridges_on}
use Rattle.mst_judged.specs.reasons.note_text.Depths.{ParentIn}

-- ---- names
rising_once : (names : List (List ℕ)) → Apart (λ a b. name_cmp a b ≡ Less) names → StandOnce names
rising_once [] h = tt
rising_once (a ∷ names) h = (λ there. names_differ a a (all_contained (λ b. name_cmp a b ≡ Less) names a h.0 there) refl, rising_once names h.1)

keys_rise : (net : Net) → Apart (λ a b. name_cmp a b ≡ Less) (fin.keys net.bridges)
keys_rise net = apart_mapped (λ (e f : List ℕ × BridgeRow). name_cmp e.0 f.0 ≡ Less) (λ a b. name_cmp a b ≡ Less) (λ (e : List ℕ × BridgeRow). e.0) (λ e f l. l) (fin.entries net.bridges) (bridges_rise net)

-- the names stand once, and those of them that pass a test, and those that are on
pub keys_once : (net : Net) → StandOnce (fin.keys net.bridges)
keys_once net = rising_once (fin.keys net.bridges) (keys_rise net)

pub names_once : (net : Net) (test : List ℕ → Bool) → StandOnce (filter test (fin.keys net.bridges))
names_once net test = rising_once (filter test (fin.keys net.bridges)) (apart_filtered (λ a b. name_cmp a b ≡ Less) test (fin.keys net.bridges) (keys_rise net))

pub on_once : (net : Net) → StandOnce (bridges_on net)
on_once net =
    rising_once (bridges_on net)
    (apart_mapped (λ (e f : List ℕ × BridgeRow). name_cmp e.0 f.0 ≡ Less) (λ a b. name_cmp a b ≡ Less) (λ (e : List ℕ × BridgeRow). e.0) (λ e f l. l) (filter (λ (e : List ℕ × BridgeRow). e.1.is_on) (fin.entries net.bridges))
    (apart_filtered (λ (e f : List ℕ × BridgeRow). name_cmp e.0 f.0 ≡ Less) (λ (e : List ℕ × BridgeRow). e.1.is_on) (fin.entries net.bridges) (bridges_rise net)))

-- a bridge that has a row is one of them, and the other way round
pub key_there : (net : Net) (name : List ℕ) (row : BridgeRow) → fin.get net.bridges name ≡ Some row → Contains (fin.keys net.bridges) name
key_there net name row e = in_map (λ (e : List ℕ × BridgeRow). e.0) (fin.entries net.bridges) (name, row) (entry_there net name row e)

pub key_row : (net : Net) (name : List ℕ) → Contains (fin.keys net.bridges) name → (row : BridgeRow) × (fin.get net.bridges name ≡ Some row)
key_row net name h =
    let e = from_map (λ (e : List ℕ × BridgeRow). e.0) (fin.entries net.bridges) name h in
    (e.0.1, ap (fin.get net.bridges) (sym e.2) ∙ all_contained (λ (e : List ℕ × BridgeRow). fin.get net.bridges e.0 ≡ Some e.1) (fin.entries net.bridges) e.0 (bridges_are net) e.1)

module _ (net : Net) (ok : IsNetwork net) (o : Outcome) where
  -- a bridge of the CIST and of an MSTI, with its identifier there
  pub record InNet (tree : ℕ) (name : List ℕ) (id : ℕ) : Type 0 where
    pub row : BridgeRow
    pub has_row : fin.get net.bridges name ≡ Some row
    pub is_id : id_in (by_tree net) tree name row ≡ id

  pub cist_there : (name : List ℕ) (b : CistBridge) → HasBridge (cist_of net) name b → InNet 0 name b.id
  cist_there name b h =
      let r = bridge_from net ok cist_rules (cist_sight net) (cist_is_sight net ok) name b h in
      record { row = r.row; has_row = r.has_row; is_id = ap (λ (c : CistBridge). c.id) (given r.row.is_on (cist_bridge (by_tree net) (region_of net name) name r.row) b r.seen).1 }

  pub msti_there : (tree : ℕ) (name : List ℕ) (b : MstiBridge) → HasBridge (msti_of net tree o.cist.designated) name b → InNet tree name b.id
  msti_there tree name b h =
      let r = bridge_from net ok msti_rules (msti_sight net tree o.cist.designated) (msti_is_sight net ok tree o.cist.designated) name b h in
      record { row = r.row; has_row = r.has_row; is_id = ap (λ (c : MstiBridge). c.id) (given (r.row.is_on && has_msti net tree name) (msti_bridge (by_tree net) tree name r.row) b r.seen).1 }

  pub tree_there : (tree : ℕ) (name : List ℕ) → HasTree (trees_of net o) tree name → Contains (fin.keys net.bridges) name
  tree_there zero name h = let r = cist_there name h.0 h.1 in key_there net name r.row r.has_row
  tree_there (suc i) name h = let r = msti_there (suc i) name h.0 h.1 in key_there net name r.row r.has_row

  -- and so is a bridge that has a parent
  pub child_there : IsOutcome net o → (tree : ℕ) (n k : List ℕ) → ParentIn (trees_of net o) tree n k → Contains (fin.keys net.bridges) n
  child_there is zero n k h = tree_there 0 n (is.cist.settled.is_bridge n h.is_root.vector (ap o.cist.vector (sym h.on_bridge) ∙ h.is_root.is_vector))
  child_there is (suc i) n k h = tree_there (suc i) n ((is.mstis (suc i)).settled.is_bridge n h.is_root.vector (ap (o.msti (suc i)).vector (sym h.on_bridge) ∙ h.is_root.is_vector))

-- What is seen of the CIST and of each MSTI of a settled network, under the numbers of records, is what they have under names.
use Rattle.std.proofs.Common.{◌≡◌, ℕ, ◌==◌, ◌&&◌, Bool, true, false, List, Option, Some, None, refl, sym, ap, subst, ◌∙◌}
use Rattle.std.specs.Prelude.{if◌then◌else◌}
use Rattle.std.specs.List.{Contains}
use Rattle.std.specs.Option.{option_map, option_and_then}
use Rattle.std.specs.FinMap as fin
use Rattle.mst_vector.specs.Cist.{cist_rules}
use Rattle.mst_vector.specs.Msti.{msti_rules}
use Rattle.mst_vector.specs.CistLaws.{cist_lawful}
use Rattle.mst_vector.specs.MstiLaws.{msti_lawful}
use Rattle.mst_vector.specs.declared.cist.CistBridge.{CistBridge}
use Rattle.mst_vector.specs.declared.msti.MstiBridge.{MstiBridge}
use Rattle.mst_vector.specs.declared.msti.MstiPort.{MstiPort}
use Rattle.mst_vector.specs.declared.msti.MstiVector.{MstiVector}
use Rattle.mst_roles.specs.forest.outcome.Assignment.{vector_of, designated_of}
use Rattle.mst_tables.specs.Tables.{BridgeRow}
use Rattle.mst_tables.specs.ByTree.{by_tree}
use Rattle.mst_tables.specs.Seen.{bridge_row}
use Rattle.mst_view.specs.Viewed.{named_port}
use Rattle.mst_view.specs.declared.in_view.BridgeInView.{BridgeInView}
use Rattle.mst_view.specs.declared.in_view.PortInView.{PortInView}
use Rattle.mst_roles.specs.forest.Cist.{cist_bridge, cist_port, cist_sight, cist_of}
use Rattle.mst_roles.specs.forest.Msti.{msti_bridge, msti_port, msti_sight, msti_of, has_msti, is_internal}
use Rattle.mst_roles.specs.forest.Outcome.{Outcome}
use Rattle.mst_roles.specs.forest.Agrees.{Agrees}
use Rattle.mst_roles.specs.forest.Seen.{seen_internal}
use Rattle.mst_roles.specs.forest.Forest.{msti_vector, msti_designated}
use Rattle.mst_roles.specs.forest.Settled.{SettledNet, outcome_of, IsSettledNet}
use Rattle.mst_roles.proofs.forest_lemmas.CistTopology.{cist_is_sight}
use Rattle.mst_roles.proofs.forest_lemmas.MstiTopology.{msti_is_sight}
use Rattle.mst_roles.proofs.forest_lemmas.Seen.{SeenBridge, SeenPort, bridge_seen, port_seen}
use Rattle.mst_roles.proofs.forest_lemmas.Looking.{internal_same, has_tree_at}
use Rattle.mst_explain.specs.Fields.{cist_fields, msti_fields}
use Rattle.mst_explain.specs.Explained.{TellsContest}
use Rattle.mst_explain.specs.Seen.{TreeSeen, CanStep, contest_rows}
use Rattle.mst_explain.specs.TreesSeen.{bridge_found, cist_bridge_in, cist_seen, msti_bridge_in, msti_port_in, msti_seen}
use Rattle.mst_explain.proofs.SeenTrees.{bridge_found_at, IsSeenTree}
use Rattle.mst_explain.proofs.Contested.{CostsBounded, can_step, tells_contest}

module _ (s : SettledNet) (is : IsSettledNet s) where
  abbrev o : Outcome
  o = outcome_of s

  -- a bridge that is found by its number is that of the name
  found_bridge : {A : Type 0} (h : BridgeInView → Option A) (g : List ℕ → BridgeRow → Option A) → ((b : BridgeInView) → SeenBridge s.net s.numbers b → h b ≡ g b.name (bridge_row b.bridge))
      → (a : List ℕ) (n : ℕ) → fin.get s.numbers.bridges a ≡ Some n → option_and_then h (bridge_found s.view n) ≡ option_and_then (g a) (fin.get s.net.bridges a)
  found_bridge h g each a n e =
      let x = bridge_found_at s.net s.numbers s.view s.forest.regions is.of a n e in
      ap (option_and_then h) x.found ∙ each x.bridge (bridge_seen s.net s.numbers s.view is.of.view x.bridge x.there) ∙ ap (λ name. g name (bridge_row x.bridge.bridge)) x.name
      ∙ sym (ap (option_and_then (g a)) x.has_row)

  -- ---- the CIST
  cist_bridge_same : (b : BridgeInView) → SeenBridge s.net s.numbers b → cist_bridge_in s b ≡ (cist_sight s.net).bridge b.name (bridge_row b.bridge)
  cist_bridge_same b seen =
      ap (λ (r : Option ℕ). if◌then◌else◌ {A = Option CistBridge} (bridge_row b.bridge).is_on (option_map (λ region. cist_bridge (by_tree s.net) region b.name (bridge_row b.bridge)) r) None)
      (is.of.regions.identifiers b.name b.bridge.number seen.has_number)

  pub cist_is_seen : (tree : ℕ) → (tree == 0) ≡ true → IsSeenTree s.net s.numbers s.view s.forest.regions is.of (cist_sight s.net) o.cist (cist_seen s tree)
  cist_is_seen tree zero_is = record {
    bridges = found_bridge (cist_bridge_in s) (cist_sight s.net).bridge cist_bridge_same;
    ports = λ p there. refl;
    agrees = subst (Agrees s.numbers o.cist (vector_of s.forest.cist)) (λ i lan. if sym zero_is i then designated_of s.forest.cist lan else msti_designated s.forest tree lan) is.cist;
  }

  pub cist_can_step : CostsBounded cist_rules → (tree : ℕ) → CanStep cist_rules s.view (cist_seen s tree)
  cist_can_step bounded tree =
      let steps = can_step s.net s.numbers s.view s.forest.regions is.of cist_rules cist_lawful (cist_sight s.net) (cist_is_sight s.net is.of.network) o.cist is.is_outcome.cist (cist_seen s 0) (cist_is_seen 0 refl) bounded in
      record { in_range = steps.in_range; costs = steps.costs }

  pub cist_contest : (tree : ℕ) → (tree == 0) ≡ true → (p : PortInView) → Contains s.view.ports p → p.is_enabled ≡ true
      → TellsContest cist_rules cist_fields (cist_of s.net) o.cist tree (named_port p) (contest_rows cist_rules s.view (cist_seen s tree) cist_fields tree p)
  cist_contest tree zero_is p there enabled =
      tells_contest s.net s.numbers s.view s.forest.regions is.of cist_rules cist_lawful (cist_sight s.net) (cist_is_sight s.net is.of.network) o.cist is.is_outcome.cist (cist_seen s tree) (cist_is_seen tree zero_is)
      cist_fields tree p there (cist_port (by_tree s.net) (named_port p)) (ap (λ (b : Bool). if b then Some (cist_port (by_tree s.net) (named_port p)) else None) enabled)

  -- ---- an MSTI
  msti_bridge_same : (tree : ℕ) (b : BridgeInView) → SeenBridge s.net s.numbers b → msti_bridge_in s tree b ≡ (msti_sight s.net tree o.cist.designated).bridge b.name (bridge_row b.bridge)
  msti_bridge_same tree b seen = λ i.
      if◌then◌else◌ {A = Option MstiBridge} ((bridge_row b.bridge).is_on && has_tree_at s.net s.numbers s.view s.forest.regions is.of tree b.name b.bridge.number seen.has_number i)
      (Some (msti_bridge (is.of.view.settings i) tree b.name (bridge_row b.bridge))) None

  pub internal_is : (p : PortInView) → SeenPort s.net s.numbers p → seen_internal s.view s.forest.regions (designated_of s.forest.cist) p ≡ (p.is_enabled && is_internal s.net o.cist.designated (named_port p))
  internal_is p seen = internal_same s.net s.numbers s.view s.forest.regions is.of o.cist is.is_outcome.cist (vector_of s.forest.cist) (designated_of s.forest.cist) is.cist p seen

  msti_port_same : (tree : ℕ) (p : PortInView) → SeenPort s.net s.numbers p → msti_port_in s tree p ≡ (msti_sight s.net tree o.cist.designated).port (named_port p)
  msti_port_same tree p seen =
      λ i. if internal_is p seen i && has_tree_at s.net s.numbers s.view s.forest.regions is.of tree p.name.bridge p.bridge seen.has_numbers.bridge i
      then Some (msti_port (by_tree s.net) tree (named_port p)) else None

  msti_is_seen : (tree : ℕ) → (tree == 0) ≡ false → IsSeenTree s.net s.numbers s.view s.forest.regions is.of (msti_sight s.net tree o.cist.designated) (o.msti tree) (msti_seen s tree)
  msti_is_seen tree other = record {
    bridges = found_bridge (msti_bridge_in s tree) (msti_sight s.net tree o.cist.designated).bridge (msti_bridge_same tree);
    ports = λ p there. msti_port_same tree p (port_seen s.net s.numbers s.view is.of.view p there);
    agrees = subst (Agrees s.numbers (o.msti tree) (msti_vector s.forest tree)) (λ i lan. if sym other i then designated_of s.forest.cist lan else msti_designated s.forest tree lan) (is.mstis tree);
  }

  -- whatever the tree
  abbrev msti_bridge_vector : ℕ → TreeSeen MstiBridge MstiPort MstiVector
  msti_bridge_vector tree = record {
    bridge = λ n. option_and_then (msti_bridge_in s tree) (bridge_found s.view n);
    vector = msti_vector s.forest tree;
    port = msti_port_in s tree;
    designated = msti_designated s.forest tree;
  }

  msti_seen_as : (tree : ℕ) → IsSeenTree s.net s.numbers s.view s.forest.regions is.of (msti_sight s.net tree o.cist.designated) (o.msti tree) (msti_bridge_vector tree)
  msti_seen_as tree = record {
    bridges = found_bridge (msti_bridge_in s tree) (msti_sight s.net tree o.cist.designated).bridge (msti_bridge_same tree);
    ports = λ p there. msti_port_same tree p (port_seen s.net s.numbers s.view is.of.view p there);
    agrees = is.mstis tree;
  }

  pub msti_can_step : CostsBounded msti_rules → (tree : ℕ) → CanStep msti_rules s.view (msti_seen s tree)
  msti_can_step bounded tree =
      let steps = can_step s.net s.numbers s.view s.forest.regions is.of msti_rules msti_lawful (msti_sight s.net tree o.cist.designated) (msti_is_sight s.net is.of.network tree o.cist.designated) (o.msti tree)
      (is.is_outcome.mstis tree) (msti_bridge_vector tree) (msti_seen_as tree) bounded in
      record { in_range = steps.in_range; costs = steps.costs }

  pub msti_contest : (tree : ℕ) → (tree == 0) ≡ false → (p : PortInView) → Contains s.view.ports p → p.is_enabled ≡ true → is_internal s.net o.cist.designated (named_port p) ≡ true → has_msti s.net tree p.name.bridge ≡ true
      → TellsContest msti_rules msti_fields (msti_of s.net tree o.cist.designated) (o.msti tree) tree (named_port p) (contest_rows msti_rules s.view (msti_seen s tree) msti_fields tree p)
  msti_contest tree other p there enabled internal has =
      tells_contest s.net s.numbers s.view s.forest.regions is.of msti_rules msti_lawful (msti_sight s.net tree o.cist.designated) (msti_is_sight s.net is.of.network tree o.cist.designated) (o.msti tree)
      (is.is_outcome.mstis tree) (msti_seen s tree) (msti_is_seen tree other) msti_fields tree p there (msti_port (by_tree s.net) tree (named_port p))
      (ap (λ (b : Bool). if b && is_internal s.net o.cist.designated (named_port p) && has_msti s.net tree p.name.bridge then Some (msti_port (by_tree s.net) tree (named_port p)) else None) enabled
      ∙ ap (λ (b : Bool). if b && has_msti s.net tree p.name.bridge then Some (msti_port (by_tree s.net) tree (named_port p)) else None) internal
      ∙ ap (λ (b : Bool). if b then Some (msti_port (by_tree s.net) tree (named_port p)) else None) has)

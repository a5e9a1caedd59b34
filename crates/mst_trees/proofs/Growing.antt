-- A forest answers by the outcome of its network.
use Rattle.std.proofs.Common.{◌≡◌, ℕ, ◌&&◌, true, nat_eq, List, Option, Some, None, is_some, refl, sym, ap, subst, ◌∙◌, true≢false}
use Rattle.std.specs.Option.{option_and_then}
use Rattle.std.specs.Map.{lookup}
use Rattle.std.specs.FinMap as fin
use Rattle.std.proofs.lemmas.Bool.{and_parts}
use Rattle.mst_ids.specs.declared.name.PortName.{PortName}
use Rattle.mst_vector.specs.Cist.{cist_rules}
use Rattle.mst_vector.specs.Msti.{msti_rules}
use Rattle.mst_vector.specs.declared.cist.CistVector.{CistVector}
use Rattle.mst_vector.specs.declared.msti.MstiVector.{MstiVector}
use Rattle.mst_vector.specs.declared.msti.MstiBridge.{MstiBridge}
use Rattle.mst_forest.specs.topology.Topology.{HasBridge}
use Rattle.mst_forest.specs.topology.Settled.{IsDesignated}
use Rattle.mst_forest.specs.outcome.Assignment.{Assignment, vector_of, designated_of, IsSettledFor}
use Rattle.mst_net.specs.tables.Tables.{Net, Numbers, BridgeRow}
use Rattle.mst_net.specs.tables.ByTree.{by_tree}
use Rattle.mst_view.specs.Viewed.{Viewed}
use Rattle.mst_view.specs.declared.in_view.BridgeInView.{BridgeInView}
use Rattle.mst_view.specs.declared.in_view.PortInView.{PortInView}
use Rattle.mst_view.specs.Trees.{is_among}
use Rattle.mst_forest.specs.config.Shared.{AreRegions}
use Rattle.mst_forest.specs.Cist.{cist_sight, cist_of}
use Rattle.mst_forest.specs.Msti.{msti_bridge, has_msti, msti_sight, msti_of}
use Rattle.mst_forest.specs.Outcome.{TreeOutcome, IsTreeOutcome, Outcome, IsOutcome}
use Rattle.mst_forest.specs.Seen.{cist_seen, internal_seen, trees_at}
use Rattle.mst_forest.specs.Agrees.{Agrees, AreOf, internal_ports_of}
use Rattle.mst_trees.specs.Mstis.{AreOutcomes}
use Rattle.mst_forest.specs.Forest.{IsForest, Forest}
use Rattle.mst_forest.proofs.Lists.{all_contained}
use Rattle.mst_forest.proofs.CistTopology.{given, cist_is_sight}
use Rattle.mst_forest.proofs.MstiTopology.{msti_is_sight, msti_topology}
use Rattle.mst_forest.proofs.Sights.{bridge_from}
use Rattle.mst_forest.proofs.Seen.{bridge_seen, bridge_there}
use Rattle.mst_trees.proofs.Agreeing.{RenamedVectors, RenamedPorts, agrees}
use Rattle.mst_forest.proofs.Looking.{cist_is_seen, has_tree_at, internal_is_seen, msti_is_seen}

module _ (net : Net) (numbers : Numbers) (v : Viewed) (region_ids : List (ℕ × ℕ)) (of : AreOf net numbers v region_ids) where
  -- the CIST that is settled by numbers is the one by names
  pub cist_agrees : RenamedVectors cist_rules → RenamedPorts cist_rules → (o : TreeOutcome CistVector) → IsTreeOutcome cist_rules (cist_of net) o
      → (a : Assignment CistVector) → IsSettledFor cist_rules (cist_seen v region_ids) a → Agrees numbers o (vector_of a) (designated_of a)
  cist_agrees vectors ports o is a settled =
      agrees net numbers of.network of.numbered v of.view cist_rules (cist_sight net) (cist_is_sight net of.network) vectors ports o is a
      (subst (λ t. IsSettledFor cist_rules t a) (cist_is_seen net numbers v region_ids of) settled)

  -- by which the internal ports are those by names
  pub internal_agrees : RenamedVectors cist_rules → RenamedPorts cist_rules → (o : TreeOutcome CistVector) → IsTreeOutcome cist_rules (cist_of net) o
      → (a : Assignment CistVector) → IsSettledFor cist_rules (cist_seen v region_ids) a → internal_seen v region_ids (designated_of a) ≡ internal_ports_of net o.designated v
  internal_agrees vectors ports o is a settled =
      internal_is_seen net numbers v region_ids of o is (vector_of a) (designated_of a) (cist_agrees vectors ports o is a settled)

  module _ (tree : ℕ) (designated : List ℕ → Option PortName) (internal : List PortInView) (internal_is : internal ≡ internal_ports_of net designated v)
      (former mstis : List (ℕ × Assignment MstiVector)) (are : AreOutcomes v internal former mstis) (o : TreeOutcome MstiVector) (is : IsTreeOutcome msti_rules (msti_of net tree designated) o) where
    -- a tree that isn't there has no bridge
    pub no_bridge : lookup (nat_eq tree) mstis ≡ None → (n : List ℕ) (b : MstiBridge) → HasBridge (msti_of net tree designated) n b → ⊥
    no_bridge none n b h =
        let x = bridge_from net of.network msti_rules (msti_sight net tree designated) (msti_is_sight net of.network tree designated) n b h in
        let part = given (x.row.is_on && has_msti net tree n) (msti_bridge (by_tree net) tree n x.row) b x.seen in
        let has : has_msti net tree n ≡ true = (and_parts x.row.is_on (has_msti net tree n) part.0).1 in
        let z = bridge_there net numbers v of.view n x.row x.has_row in
        let name : z.0.name ≡ n = ap (λ (e : List ℕ × BridgeRow). e.0) z.2 in
        let number : fin.get numbers.bridges n ≡ Some z.0.bridge.number = ap (fin.get numbers.bridges) (sym name) ∙ (bridge_seen net numbers v of.view z.0 z.1).has_number in
        let there = all_contained (λ (b : BridgeInView). (tree : ℕ) → is_among (trees_at v b.bridge.number) tree ≡ true → is_some (lookup (nat_eq tree) mstis) ≡ true) v.bridges z.0 are.there z.1 in
        true≢false (sym (there tree (has_tree_at net numbers v region_ids of tree n z.0.bridge.number number ∙ has)) ∙ ap is_some none)

    absent : lookup (nat_eq tree) mstis ≡ None → Agrees numbers o (λ n. None) (λ n. None)
    absent none = record {
      vectors = λ a n e. sym (no_vector a);
      no_vector = λ n unused. refl;
      designated_ports = λ l n e. no_port l;
      no_designated = λ n unused. refl;
    }
      where
        no_vector : (a : List ℕ) → o.vector a ≡ None
        no_vector a = go (o.vector a) refl
          where
            go : (x : Option MstiVector) → o.vector a ≡ x → o.vector a ≡ None
            go None e = e
            go (Some x) e = let b = is.settled.is_bridge a x e in absurd (no_bridge none a b.0 b.1)

        no_port : (l : List ℕ) → o.designated l ≡ None
        no_port l = go (o.designated l) refl
          where
            go : (x : Option PortName) → o.designated l ≡ x → o.designated l ≡ None
            go None e = e
            go (Some q) e =
                let d = subst (λ x. IsDesignated msti_rules (msti_of net tree designated) o.vector l x) e (is.designated l) in
                let b = (msti_topology net of.network tree designated).has_bridge d.0 d.3.says.has_port d.3.says.is_part in
                absurd (no_bridge none d.0.bridge b.0 b.1)

    pub msti_agrees : RenamedVectors msti_rules → RenamedPorts msti_rules
        → Agrees numbers o (λ n. option_and_then (λ a. vector_of a n) (lookup (nat_eq tree) mstis)) (λ n. option_and_then (λ a. designated_of a n) (lookup (nat_eq tree) mstis))
    msti_agrees vectors ports = go (lookup (nat_eq tree) mstis) refl
      where
        go : (x : Option (Assignment MstiVector)) → lookup (nat_eq tree) mstis ≡ x
            → Agrees numbers o (λ n. option_and_then (λ a. vector_of a n) (lookup (nat_eq tree) mstis)) (λ n. option_and_then (λ a. designated_of a n) (lookup (nat_eq tree) mstis))
        go None e = subst (λ (x : Option (Assignment MstiVector)). Agrees numbers o (λ n. option_and_then (λ a. vector_of a n) x) (λ n. option_and_then (λ a. designated_of a n) x)) (sym e) (absent e)
        go (Some a) e =
            subst (λ (x : Option (Assignment MstiVector)). Agrees numbers o (λ n. option_and_then (λ a. vector_of a n) x) (λ n. option_and_then (λ a. designated_of a n) x)) (sym e)
            (agrees net numbers of.network of.numbered v of.view msti_rules (msti_sight net tree designated) (msti_is_sight net of.network tree designated) vectors ports o is a
            (subst (λ t. IsSettledFor msti_rules t a) (msti_is_seen net numbers v region_ids of tree designated internal internal_is) (are.settled tree a e).outcome))

  pub is_forest : RenamedVectors cist_rules → RenamedPorts cist_rules → RenamedVectors msti_rules → RenamedPorts msti_rules
      → (o : Outcome) → IsOutcome net o → (f : Forest) → f.regions ≡ region_ids → IsSettledFor cist_rules (cist_seen v region_ids) f.cist
      → (internal : List PortInView) → internal ≡ internal_seen v region_ids (designated_of f.cist) → (former : List (ℕ × Assignment MstiVector)) → AreOutcomes v internal former f.mstis → IsForest net numbers f
  is_forest vectors ports msti_vectors msti_ports o is f regions settled internal internal_is former are = record {
    outcome = o;
    is_outcome = is;
    cist = cist_agrees vectors ports o.cist is.cist f.cist settled;
    mstis = λ tree.
        msti_agrees tree o.cist.designated internal (internal_is ∙ internal_agrees vectors ports o.cist is.cist f.cist settled) former f.mstis are (o.msti tree) (is.mstis tree) msti_vectors msti_ports;
    regions = subst (AreRegions net numbers) (sym regions) of.regions;
  }

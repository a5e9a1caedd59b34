-- The rows of an explanation under the numbers of records are some under names.
use Rattle.std.proofs.Common.{◌≡◌, ℕ, zero, suc, ◌<◌, ◌==◌, ◌&&◌, ◌||◌, Bool, true, false, cond, nat_eq, get_or, List, [], ◌∷◌, ◌++◌, length, map, Option, Some, None, refl, sym, ap, subst, ◌∙◌, true≢false, eq-eqb, arith}
use Rattle.std.specs.Prelude.{if◌then◌else◌}
use Rattle.std.specs.List.{AllByRecursion, Contains, filter, flat_map, list_any}
use Rattle.std.specs.Option.{option_map, option_map_or, unwrap_or}
use Rattle.std.specs.Map.{lookup}
use Rattle.std.specs.FinMap as fin
use Rattle.mst_vector.specs.Cist.{cist_rules}
use Rattle.mst_vector.specs.Msti.{msti_rules}
use Rattle.mst_vector.specs.CistLaws.{cist_lawful}
use Rattle.mst_roles.specs.forest.outcome.Assignment.{designated_of}
use Rattle.mst_tables.specs.Tables.{Net, BridgeRow, LanRow}
use Rattle.mst_tables.specs.Seen.{bridge_row}
use Rattle.mst_view.specs.Aggregation.{same_name}
use Rattle.mst_view.specs.Trees.{mstis_of, is_among}
use Rattle.mst_view.specs.View.{logical_lan, is_on, is_up}
use Rattle.mst_view.specs.Viewed.{named_port, member_lan}
use Rattle.mst_view.specs.declared.in_view.BridgeInView.{BridgeInView}
use Rattle.mst_view.specs.declared.in_view.PortInView.{PortInView}
use Rattle.mst_view.specs.declared.in_view.MemberLan.{MemberLan}
use Rattle.mst_view.proofs.Placing.{pair_found}
use Rattle.mst_roles.specs.forest.Cist.{cist_sight}
use Rattle.mst_roles.specs.forest.Msti.{has_msti, is_internal}
use Rattle.mst_roles.specs.forest.Outcome.{Outcome}
use Rattle.mst_roles.specs.forest.Seen.{seen_internal, trees_at}
use Rattle.mst_roles.specs.forest.Settled.{SettledNet, outcome_of, IsSettledNet}
use Rattle.mst_roles.proofs.forest_lemmas.Entries.{all_weaker}
use Rattle.mst_roles.proofs.forest_lemmas.Lists.{all_contained, all_there}
use Rattle.mst_roles.proofs.forest_lemmas.CistTopology.{cist_is_sight}
use Rattle.mst_roles.proofs.forest_lemmas.Seen.{SeenPort, port_seen}
use Rattle.mst_roles.specs.Roles.{cist_role, msti_role, role_in}
use Rattle.mst_roles.specs.declared.kind.Role.{Role}
use Rattle.mst_rows.specs.Rows.{Row}
use Rattle.mst_explain.specs.Fields.{cist_fields, msti_fields}
use Rattle.mst_explain.specs.Lines.{explain_rows, boundary_rows, disabled_rows}
use Rattle.mst_explain.specs.Explained.{TellsBoundary, TellsInMsti, TellsEnabled, TellsReason, IsExplained, AreExplained, trees_of_bridge}
use Rattle.mst_explain.specs.Seen.{contest_rows}
use Rattle.mst_explain.specs.TreesSeen.{cist_seen, msti_seen}
use Rattle.mst_explain.specs.SeenText.{bridge_is_on, lan_is_up, off_rows, outside_rows, msti_rows, enabled_rows, reason_rows, explanation_rows}
use Rattle.mst_explain.proofs.SeenTrees.{bridge_found_at}
use Rattle.mst_explain.proofs.Givers.{designated_found}
use Rattle.mst_explain.proofs.Planned.{cist_is_seen, cist_contest, msti_contest, internal_is}

-- one that passes is among those of which some pass
any_of : {A : Type 0} (test : A → Bool) (xs : List A) (x : A) → Contains xs x → test x ≡ true → list_any test xs ≡ true
any_of {A} test xs x = all_contained (λ x. test x ≡ true → list_any test xs ≡ true) xs x (each xs)
  where
    each : (xs : List A) → AllByRecursion (λ x. test x ≡ true → list_any test xs ≡ true) xs
    each [] = tt
    each (y ∷ ys) = (λ e. ap (λ t. t || list_any test ys) e, all_weaker _ _ (λ z h e. ap (λ t. test y || t) (h e) ∙ last (test y)) ys (each ys))
      where
        last : (t : Bool) → (t || true) ≡ true
        last true = refl
        last false = refl

-- a tree of a bridge is the CIST or one that it has
pub tree_there : (net : Net) (a : List ℕ) (tree : ℕ) → Contains (trees_of_bridge net a) tree → (tree == 0) ≡ false → has_msti net tree a ≡ true
tree_there net a tree c other = at c.0 c.1 c.2
  where
    own : Option BridgeRow → List ℕ
    own o = option_map_or (mstis_of net a) o []

    later : (o : Option BridgeRow) → Contains (own o) tree → option_map_or (λ row. is_among (mstis_of net a row) tree) o false ≡ true
    later None k = let l = k.1 in absurd (omega arith)
    later (Some row) k = any_of (λ t. t == tree) (mstis_of net a row) tree k (eq-eqb tree tree refl)

    at : (k : ℕ) → k < length (trees_of_bridge net a) → get_or (trees_of_bridge net a) k tree ≡ tree → has_msti net tree a ≡ true
    at zero l e = absurd (true≢false (sym (eq-eqb tree 0 (sym e)) ∙ other))
    at (suc k) l e = later (fin.get net.bridges a) (k, omega arith, e)

-- the members of a LAN that are up
some_up : (net : Net) (lan : List ℕ) (es : List (List ℕ × LanRow))
    → list_any (λ m. same_name m.lan lan && m.is_up) (map (member_lan net) es) ≡ list_any (λ e. e.1.is_up) (filter (λ e. same_name (logical_lan net e.0) lan) es)
some_up net lan [] = refl
some_up net lan (e ∷ es) = go (same_name (logical_lan net e.0) lan) (some_up net lan es)
  where
    rest : List (List ℕ × LanRow)
    rest = filter (λ e. same_name (logical_lan net e.0) lan) es

    go : (b : Bool) → list_any (λ m. same_name m.lan lan && m.is_up) (map (member_lan net) es) ≡ list_any (λ e. e.1.is_up) rest
        → ((b && e.1.is_up) || list_any (λ m. same_name m.lan lan && m.is_up) (map (member_lan net) es)) ≡ list_any (λ e. e.1.is_up) (cond b (e ∷ rest) rest)
    go true h = ap (λ t. e.1.is_up || t) h
    go false h = h

module _ (s : SettledNet) (is : IsSettledNet s) (p : PortInView) (there : Contains s.view.ports p) where
  abbrev o : Outcome
  o = outcome_of s

  seen : SeenPort s.net s.numbers p
  seen = port_seen s.net s.numbers s.view is.of.view p there

  -- ---- why it isn't enabled
  bridge_on : bridge_is_on s.view p.bridge ≡ is_on s.net p.name.bridge
  bridge_on =
      let x = bridge_found_at s.net s.numbers s.view s.forest.regions is.of p.name.bridge p.bridge seen.has_numbers.bridge in
      ap (λ (b : Option BridgeInView). option_map_or (λ c. (bridge_row c.bridge).is_on) b false) x.found ∙ sym (ap (λ (r : Option BridgeRow). option_map_or (λ row. row.is_on) r false) x.has_row)

  lan_up : lan_is_up s.view p.lan ≡ is_up s.net p.lan
  lan_up = ap (list_any (λ (m : MemberLan). same_name m.lan p.lan && m.is_up)) is.of.view.member_lans ∙ some_up s.net p.lan (fin.entries s.net.lans)

  off_is : (tree : ℕ) → off_rows s.view tree p ≡ disabled_rows tree p.name (is_on s.net p.name.bridge) (is_up s.net p.lan) p.lan
  off_is tree = λ i. disabled_rows tree p.name (bridge_on i) (lan_up i) p.lan

  -- ---- external information
  outside_is : (tree : ℕ) → p.is_enabled ≡ true → TellsBoundary s.net o tree (named_port p) (outside_rows s tree p)
  outside_is tree enabled =
      let c = cist_contest s is 0 refl p there enabled in
      let d =
      designated_found s.net s.numbers s.view s.forest.regions is.of cist_rules cist_lawful (cist_sight s.net) (cist_is_sight s.net is.of.network) o.cist is.is_outcome.cist (cist_seen s 0) (cist_is_seen s is 0 refl)
      p there c.designated c.is_designated in
      let line = boundary_rows tree p.name (cist_role s.net o (named_port p)) in
      (c.designated, c.is_designated, ap (λ (q : Option PortInView). option_map_or (λ (x : PortInView). line x.name) q []) d.found ∙ ap line d.name)

  -- ---- the reason
  module _ (tree : ℕ) (has : Contains (trees_of_bridge s.net p.name.bridge) tree) where
    internal_ports_of : p.is_enabled ≡ true → seen_internal s.view s.forest.regions (designated_of s.forest.cist) p ≡ is_internal s.net o.cist.designated (named_port p)
    internal_ports_of enabled = internal_is s is p seen ∙ ap (λ b. b && is_internal s.net o.cist.designated (named_port p)) enabled

    tells_msti : p.is_enabled ≡ true → (tree == 0) ≡ false → TellsInMsti s.net o tree (named_port p) (is_internal s.net o.cist.designated (named_port p)) (msti_rows s tree p)
    tells_msti enabled other =
        subst (λ b. TellsInMsti s.net o tree (named_port p) (is_internal s.net o.cist.designated (named_port p)) (seen b)) (sym (internal_ports_of enabled)) (go (is_internal s.net o.cist.designated (named_port p)) refl)
      where
        seen : Bool → List Row
        seen b = if b then contest_rows msti_rules s.view (msti_seen s tree) msti_fields tree p else outside_rows s tree p

        go : (b : Bool) → is_internal s.net o.cist.designated (named_port p) ≡ b → TellsInMsti s.net o tree (named_port p) b (seen b)
        go true e = msti_contest s is tree other p there enabled e (tree_there s.net p.name.bridge tree has other)
        go false e = outside_is tree enabled

    tells_enabled : p.is_enabled ≡ true → TellsEnabled s.net o tree (named_port p) (tree == 0) (enabled_rows s tree p)
    tells_enabled enabled = go (tree == 0) refl
      where
        go : (b : Bool) → (tree == 0) ≡ b → TellsEnabled s.net o tree (named_port p) b (if b then contest_rows cist_rules s.view (cist_seen s tree) cist_fields tree p else msti_rows s tree p)
        go true e = cist_contest s is tree e p there enabled
        go false e = tells_msti enabled e

    tells_reason : TellsReason s.net o tree (named_port p) p.is_enabled (reason_rows s tree p)
    tells_reason = go p.is_enabled refl
      where
        go : (b : Bool) → p.is_enabled ≡ b → TellsReason s.net o tree (named_port p) b (if b then enabled_rows s tree p else off_rows s.view tree p)
        go true e = tells_enabled e
        go false e = off_is tree

    role_there : (r : Role) × (role_in s.net o tree (named_port p) ≡ Some r)
    role_there = go (tree == 0) refl
      where
        go : (b : Bool) → (tree == 0) ≡ b
            → (r : Role) × ((if b then Some (cist_role s.net o (named_port p)) else (if has_msti s.net tree p.name.bridge then Some (msti_role s.net o tree (named_port p)) else None)) ≡ Some r)
        go true e = (cist_role s.net o (named_port p), refl)
        go false e = (msti_role s.net o tree (named_port p), ap (λ (b : Bool). if b then Some (msti_role s.net o tree (named_port p)) else None) (tree_there s.net p.name.bridge tree has e))

    pub explained : IsExplained s.net o tree (named_port p) (explanation_rows s tree p)
    explained = record {
      role = role_there.0;
      has_role = role_there.1;
      reason = reason_rows s tree p;
      tells = tells_reason;
      is = ap (λ (r : Option Role). option_map_or (λ role. explain_rows tree p.name p.lan role ++ reason_rows s tree p) r []) role_there.1;
    }

  -- ---- in each tree of the bridge
  abbrev pub explanations_rows : List ℕ → List Row
  explanations_rows trees = flat_map (λ tree. explanation_rows s tree p) trees

  each_explained : (trees : List ℕ) → AllByRecursion (Contains (trees_of_bridge s.net p.name.bridge)) trees → AreExplained s.net o (named_port p) trees (explanations_rows trees)
  each_explained [] h = refl
  each_explained (tree ∷ trees) h = (explanation_rows s tree p, explanations_rows trees, explained tree h.0, each_explained trees h.1, refl)

  trees_are : trees_at s.view p.bridge ≡ option_map_or (mstis_of s.net p.name.bridge) (fin.get s.net.bridges p.name.bridge) []
  trees_are =
      let x = bridge_found_at s.net s.numbers s.view s.forest.regions is.of p.name.bridge p.bridge seen.has_numbers.bridge in
      ap (λ es. unwrap_or (lookup (nat_eq p.bridge) es) []) is.of.view.trees
      ∙ ap (λ (r : Option (List ℕ)). unwrap_or r [])
      (pair_found (λ (b : BridgeInView). b.bridge.number) (λ (b : BridgeInView). mstis_of s.net b.name (bridge_row b.bridge)) p.bridge s.view.bridges
      ∙ ap (option_map (λ (b : BridgeInView). mstis_of s.net b.name (bridge_row b.bridge))) x.found)
      ∙ ap (λ a. mstis_of s.net a (bridge_row x.bridge.bridge)) x.name
      ∙ sym (ap (λ (r : Option BridgeRow). option_map_or (mstis_of s.net p.name.bridge) r []) x.has_row)

  pub all_explained : AreExplained s.net o (named_port p) (trees_of_bridge s.net p.name.bridge) (explanation_rows s 0 p ++ explanations_rows (trees_at s.view p.bridge))
  all_explained =
      subst (λ ts. AreExplained s.net o (named_port p) (trees_of_bridge s.net p.name.bridge) (explanation_rows s 0 p ++ explanations_rows ts)) (sym trees_are)
      (each_explained (trees_of_bridge s.net p.name.bridge) (all_there (trees_of_bridge s.net p.name.bridge)))

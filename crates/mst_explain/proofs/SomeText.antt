-- Each port has an explanation in each tree that its bridge has.
use Rattle.std.proofs.Common.{◌≡◌, ◌==◌, ◌&&◌, ◌||◌, Bool, true, false, List, [], ◌∷◌, ◌++◌, Option, Some, None, refl, sym, ap, ◌∙◌, true≢false}
use Rattle.std.specs.Prelude.{◌≢◌, ℕ, nat_eq, if◌then◌else◌}
use Rattle.std.specs.List.{AllByRecursion, Contains}
use Rattle.std.specs.Cmp.Lexicographic.{pointwise, bytes_decides}
use Rattle.mst_ids.specs.declared.name.PortName.{PortName}
use Rattle.mst_vector.specs.Rules.{Rules, IsMetric}
use Rattle.mst_vector.specs.Cist.{cist_rules}
use Rattle.mst_vector.specs.CistLaws.{cist_lawful}
use Rattle.mst_vector.specs.Msti.{msti_rules}
use Rattle.mst_vector.specs.MstiLaws.{msti_lawful}
use Rattle.mst_roles.specs.forest.topology.Topology.{Topology}
use Rattle.mst_tables.specs.Tables.{Net, IsNetwork}
use Rattle.mst_tables.specs.ByTree.{by_tree}
use Rattle.mst_view.specs.View.{LogicalPort, view_ports, is_on, is_up}
use Rattle.mst_roles.specs.forest.Sight.{Sight, tree_of}
use Rattle.mst_roles.specs.forest.Cist.{cist_port, cist_sight, cist_of}
use Rattle.mst_roles.specs.forest.Msti.{msti_port, msti_sight, msti_of, has_msti, is_internal}
use Rattle.mst_roles.specs.forest.Outcome.{TreeOutcome, IsTreeOutcome, Outcome, IsOutcome}
use Rattle.mst_roles.proofs.forest_lemmas.Sights.{IsSight, is_topology, has_port_ids}
use Rattle.mst_roles.proofs.forest_lemmas.CistTopology.{cist_is_sight}
use Rattle.mst_roles.proofs.forest_lemmas.MstiTopology.{msti_is_sight}
use Rattle.mst_roles.specs.Roles.{cist_role, msti_role, role_in}
use Rattle.mst_roles.specs.declared.kind.Role.{Role}
use Rattle.mst_rows.specs.Rows.{Row}
use Rattle.mst_explain.specs.declared.claims.Claim.{Claim}
use Rattle.mst_explain.specs.Claims.{told_rows}
use Rattle.mst_explain.specs.Contest.{IsDesignatedVectorOn}
use Rattle.mst_explain.specs.Explained.{TellsRoot, TellsContest, TellsBoundary, TellsInMsti, TellsEnabled, TellsReason, IsExplained, AreExplained}
use Rattle.mst_explain.specs.Fields.{Field, cist_fields, msti_fields}
use Rattle.mst_explain.specs.Lines.{explain_rows, designated_contest, root_contest, restricted_rows, boundary_rows, disabled_rows}
use Rattle.mst_explain.proofs.Firsts.{Hold}
use Rattle.mst_explain.proofs.OneText.{TellsReceiver, cist_tells, msti_tells}
use Rattle.mst_explain.proofs.ByName.{own, Chosen, chosen, tells_root}
use Rattle.mst_explain.proofs.SomeClaims.{other_name, some_lan_claims, some_bridge_claims}

-- ---- in one tree
module _ (net : Net) (ok : IsNetwork net) {B P V : Type 0} (m : Rules B P V) (law : IsMetric m) (receiver : V → ℕ) (tells : TellsReceiver m receiver) (s : Sight B P) (sight : IsSight net m s)
    (o : TreeOutcome V) (is : IsTreeOutcome m (tree_of net s) o) (fields : V → List Field) (tree : ℕ) (p : LogicalPort) (here : Contains (view_ports net) p) (settings : P) (has_settings : s.port p ≡ Some settings) where
  abbrev t : Topology (List ℕ) (List ℕ) PortName B P
  t = tree_of net s

  -- claims on its LAN, and of them its designated port
  lan : (claims : List (Claim V)) × Hold claims (IsDesignatedVectorOn m t o.vector p.lan)
  lan = some_lan_claims m law receiver tells t (is_topology net ok m s sight) (has_port_ids net ok m s sight) o is p.lan

  abbrev lan_rows : List Row
  lan_rows = told_rows m.order fields (designated_contest tree p.name) (Some p.name) lan.0

  -- the designated port is told
  designated_port : Chosen net ok m law s sight o is fields tree p here settings has_settings lan_rows
  designated_port = chosen net ok m law s sight o is fields tree p here settings has_settings lan.0 lan.1

  -- what follows where the designated port is d
  record Second (d : PortName) : Type 0 where
    rows : List Row
    own : d.bridge ≡ p.name.bridge → rows ≡ []
    restricted : d.bridge ≢ p.name.bridge → p.settings.is_restricted ≡ true → rows ≡ restricted_rows tree p.name
    free : d.bridge ≢ p.name.bridge → p.settings.is_restricted ≡ false → TellsRoot m fields t o tree p rows

  -- there is a line of the bridge's vector
  root_told : (d : PortName) → o.designated p.lan ≡ Some d → d.bridge ≢ p.name.bridge → p.settings.is_restricted ≡ false → (rows : List Row) × TellsRoot m fields t o tree p rows
  root_told d e other free =
      let mine = own net ok m law s sight o is fields tree p here settings has_settings in
      let claims = some_bridge_claims m law receiver tells t (is_topology net ok m s sight) (has_port_ids net ok m s sight) o is p.name.bridge mine.bridge in (
        told_rows m.order fields (root_contest tree p.name) (Some p.name) claims.0,
        tells_root net ok m law s sight o is fields tree p here settings has_settings mine.bridge mine.is_bridge claims.0 claims.1 d e other free,
      )

  -- there is a second line, or none is wanted
  second : (d : PortName) → o.designated p.lan ≡ Some d → Second d
  second d e = go (pointwise nat_eq d.bridge p.name.bridge) refl p.settings.is_restricted refl
    where
      go : (a : Bool) → pointwise nat_eq d.bridge p.name.bridge ≡ a → (r : Bool) → p.settings.is_restricted ≡ r → Second d
      go true f r g = let mine = (bytes_decides d.bridge p.name.bridge).0 f in record { rows = []; own = λ _. refl; restricted = λ n _. absurd (n mine); free = λ n _. absurd (n mine) }
      go false f true g = record { rows = restricted_rows tree p.name; own = λ i. absurd (other_name d.bridge p.name.bridge f i); restricted = λ _ _. refl; free = λ _ i. absurd (true≢false (sym g ∙ i)) }
      go false f false g =
          let told = root_told d e (other_name d.bridge p.name.bridge f) g in
          record { rows = told.0; own = λ i. absurd (other_name d.bridge p.name.bridge f i); restricted = λ _ i. absurd (true≢false (sym i ∙ g)); free = λ _ _. told.1 }

  -- an enabled port of the tree has a reason
  pub some_contest : (rows : List Row) × TellsContest m fields t o tree p rows
  some_contest =
      let c = designated_port in
      let more = second c.port c.is_designated in (
        lan_rows ++ more.rows,
        record {
          designated = c.port;
          is_designated = c.is_designated;
          first = lan_rows;
          tells_designated = c.tells;
          second = more.rows;
          own = more.own;
          restricted = more.restricted;
          free = more.free;
          is = refl;
        },
      )

-- ---- in all trees
module _ (net : Net) (ok : IsNetwork net) (o : Outcome) (is : IsOutcome net o) (p : LogicalPort) (here : Contains (view_ports net) p) where
  abbrev d : List ℕ → Option PortName
  d = o.cist.designated

  -- an enabled port is in the CIST
  cist_settings : p.is_enabled ≡ true → (cist_sight net).port p ≡ Some (cist_port (by_tree net) p)
  cist_settings enabled = ap (λ (b : Bool). if b then Some (cist_port (by_tree net) p) else None) enabled

  -- and has its reason there
  cist_contest : (tree : ℕ) → p.is_enabled ≡ true → (rows : List Row) × TellsContest cist_rules cist_fields (cist_of net) o.cist tree p rows
  cist_contest tree enabled =
      some_contest net ok cist_rules cist_lawful (λ x. x.receiver) cist_tells (cist_sight net) (cist_is_sight net ok) o.cist is.cist cist_fields tree p here (cist_port (by_tree net) p) (cist_settings enabled)

  -- so it has one where it has received external information
  some_boundary : (tree : ℕ) → p.is_enabled ≡ true → (rows : List Row) × TellsBoundary net o tree p rows
  some_boundary tree enabled = let c = cist_contest tree enabled in let q = c.1.designated in (boundary_rows tree p.name (cist_role net o p) q, (q, c.1.is_designated, refl))

  -- the bridge has the tree
  abbrev IsHad : ℕ → Type 0
  IsHad tree = (tree == 0 || has_msti net tree p.name.bridge) ≡ true

  module _ (tree : ℕ) (had : IsHad tree) where
    -- which is then an MSTI of it, or the CIST
    msti_had : (tree == 0) ≡ false → has_msti net tree p.name.bridge ≡ true
    msti_had e = ap (λ b. b || has_msti net tree p.name.bridge) (sym e) ∙ had

    -- a port whose LAN belongs to its region has a reason in an MSTI
    msti_contest : p.is_enabled ≡ true → is_internal net d p ≡ true → has_msti net tree p.name.bridge ≡ true → (rows : List Row) × TellsContest msti_rules msti_fields (msti_of net tree d) (o.msti tree) tree p rows
    msti_contest enabled internal has =
        some_contest net ok msti_rules msti_lawful (λ x. x.receiver) msti_tells (msti_sight net tree d) (msti_is_sight net ok tree d) (o.msti tree) (is.mstis tree) msti_fields tree p here (msti_port (by_tree net) tree p)
        (ap (λ (b : Bool). if b && is_internal net d p && has_msti net tree p.name.bridge then Some (msti_port (by_tree net) tree p) else None) enabled
        ∙ ap (λ (b : Bool). if b && has_msti net tree p.name.bridge then Some (msti_port (by_tree net) tree p) else None) internal
        ∙ ap (λ (b : Bool). if b then Some (msti_port (by_tree net) tree p) else None) has)

    -- a port has one in an MSTI, in any tree where it is enabled, and in any tree
    some_in_msti : p.is_enabled ≡ true → has_msti net tree p.name.bridge ≡ true → (b : Bool) → is_internal net d p ≡ b → (rows : List Row) × TellsInMsti net o tree p b rows
    some_in_msti enabled has true e = msti_contest enabled e has
    some_in_msti enabled has false e = some_boundary tree enabled

    some_enabled : p.is_enabled ≡ true → (b : Bool) → (tree == 0) ≡ b → (rows : List Row) × TellsEnabled net o tree p b rows
    some_enabled enabled true e = cist_contest tree enabled
    some_enabled enabled false e = some_in_msti enabled (msti_had e) (is_internal net d p) refl

    some_reason : (b : Bool) → p.is_enabled ≡ b → (rows : List Row) × TellsReason net o tree p b rows
    some_reason true e = some_enabled e (tree == 0) refl
    some_reason false e = (disabled_rows tree p.name (is_on net p.name.bridge) (is_up net p.lan) p.lan, refl)

    -- it has a role
    some_role : (r : Role) × (role_in net o tree p ≡ Some r)
    some_role = go (tree == 0) refl
      where
        go : (b : Bool) → (tree == 0) ≡ b → (r : Role) × ((if b then Some (cist_role net o p) else (if has_msti net tree p.name.bridge then Some (msti_role net o tree p) else None)) ≡ Some r)
        go true e = (cist_role net o p, refl)
        go false e = (msti_role net o tree p, ap (λ (b : Bool). if b then Some (msti_role net o tree p) else None) (msti_had e))

    -- a port has an explanation in a tree that its bridge has
    pub some_rows : (rows : List Row) × IsExplained net o tree p rows
    some_rows =
        let role = some_role in
        let reason = some_reason p.is_enabled refl in
        (explain_rows tree p.name p.lan role.0 ++ reason.0, record { role = role.0; has_role = role.1; reason = reason.0; tells = reason.1; is = refl })

  -- and in each of such trees
  pub all_rows : (trees : List ℕ) → AllByRecursion IsHad trees → (rows : List Row) × AreExplained net o p trees rows
  all_rows [] h = ([], refl)
  all_rows (tree ∷ trees) h =
      let one = some_rows tree h.0 in
      let rest = all_rows trees h.1 in
      (one.0 ++ rest.0, (one.0, rest.0, one.1, rest.1, refl))

-- The settings that ports have in one tree alone are noted where something is set.
use Rattle.std.proofs.Common.{◌≡◌, ◌≢◌, ℕ, ◌==◌, ◌&&◌, ◌||◌, Bool, true, false, if◌then◌else◌, not, max, List, [], ◌∷◌, Option, Some, None, is_some, refl, sym, ap, subst, ◌∙◌, true≢false}
use Rattle.std.specs.List.{AllByRecursion, filter_map, fold}
use Rattle.std.specs.Option.{unwrap_or}
use Rattle.std.specs.BTreeMap.{BTreeMap}
use Rattle.std.proofs.lemmas.Bool.{eqb-true, eq-eqb, ne_eqb, or_parts, not-false}
use Rattle.mst_ids.specs.Identifiers.{port_id}
use Rattle.mst_ids.specs.Costs.{automatic_cost}
use Rattle.mst_ids.specs.declared.name.PortName.{PortName}
use Rattle.mst_vector.specs.declared.msti.MstiPort.{MstiPort}
use Rattle.mst_forest.specs.topology.Places.{in_map}
use Rattle.mst_forest.specs.topology.Wiring.{settings_in}
use Rattle.mst_net.specs.tables.ByTree.{ByTree, AreInTrees, port_priority_in, port_cost_in}
use Rattle.mst_net.specs.tables.Tables.{Net, Numbers}
use Rattle.mst_net.specs.tables.TreesSet.{trees_where}
use Rattle.mst_net.proofs.tables_lemmas.SettingsLemmas.{network_in_trees}
use Rattle.mst_net.proofs.tables_lemmas.TreesListed.{priority_told, cost_told}
use Rattle.mst_view.specs.Trees.{is_among}
use Rattle.mst_view.specs.Viewed.{Viewed, named_port}
use Rattle.mst_view.specs.declared.in_view.PortInView.{PortInView}
use Rattle.mst_trees.specs.Internal.{KnownInternal}
use Rattle.mst_forest.specs.Apart.{Apart}
use Rattle.mst_forest.specs.Agrees.{AreOf}
use Rattle.mst_forest.specs.Msti.{is_internal, msti_port}
use Rattle.mst_forest.specs.Seen.{seen_cist_port, seen_tree_port}
use Rattle.mst_trees.specs.Own.{is_set, noted_at, IsNoted}
use Rattle.mst_trees.specs.Wirings.{AreOwn, own_in, base_settings, base_port, cist_wires, own_cist_port}
use Rattle.mst_forest.proofs.Entries.{all_weaker, all_both}
use Rattle.mst_forest.proofs.Lists.{all_passing, apart_weaker, kept_same}
use Rattle.mst_forest.proofs.Seen.{PortsRise, ports_apart}
use Rattle.mst_forest.proofs.Views.{port_names_differ}
use Rattle.mst_trees.proofs.Among.{among_where}

-- ---- one port
pub set_among : (set : ByTree) (port : PortName) → AreInTrees set → (tree : ℕ)
    → (is_among (trees_where (λ t. not (port_priority_in set.port_priorities port t == 8))) tree || is_among (trees_where (λ t. is_some (port_cost_in set.port_costs port t))) tree) ≡ is_set set port tree
set_among set port small tree = λ i.
    among_where (λ t. not (port_priority_in set.port_priorities port t == 8)) tree (λ e. let n = priority_told _ e in small.port_priorities port tree n.0 n.1) i
    || among_where (λ t. is_some (port_cost_in set.port_costs port t)) tree (λ e. let n = cost_told _ e in small.port_costs port tree n.0 n.1) i

pub noted_in_both : (a b test : ℕ → Bool) (v : Viewed) (p : PortInView) (old now new : List (ℕ × BTreeMap ℕ MstiPort)) → ((tree : ℕ) → (a tree || b tree) ≡ test tree)
    → IsNoted a v p old now → IsNoted b v p now new → IsNoted test v p old new
noted_in_both a b test v p old now new same before after tree k =
    after tree k ∙ ap (noted_at b v p tree k) (before tree k) ∙ by (k == p.number) (a tree) (b tree) (Some (msti_port v.settings tree (named_port p))) _
    ∙ ap (λ s. if k == p.number && s then Some (msti_port v.settings tree (named_port p)) else in_map (own_in old tree) k) (same tree)
  where
    by : (at x y : Bool) (s o : Option MstiPort) → (if at && y then s else (if at && x then s else o)) ≡ (if at && (x || y) then s else o)
    by false x y s o = refl
    by true true true s o = refl
    by true true false s o = refl
    by true false y s o = refl

-- ---- one port after another
module _ (v : Viewed) (tree : ℕ) where
  -- what the tree has under a number once these ports are noted, where it had this before
  abbrev pub noted_from : Option MstiPort → List PortInView → ℕ → Option MstiPort
  noted_from had ports k = fold (λ had p. noted_at (is_set v.settings p.name) v p tree k had) had ports

  -- and where it had nothing
  abbrev pub noted_of : List PortInView → ℕ → Option MstiPort
  noted_of ports k = noted_from None ports k

  passed_by : (k : ℕ) (had : Option MstiPort) (p : PortInView) → k ≢ p.number → noted_at (is_set v.settings p.name) v p tree k had ≡ had
  passed_by k had p other = ap (λ b. if b && is_set v.settings p.name tree then Some (msti_port v.settings tree (named_port p)) else had) (ne_eqb k p.number other)

  all_passed_by : (k : ℕ) (had : Option MstiPort) (ps : List PortInView) → AllByRecursion (λ p. k ≢ p.number) ps → noted_from had ps k ≡ had
  all_passed_by k had [] h = refl
  all_passed_by k had (p ∷ ps) h = ap (λ o. noted_from o ps k) (passed_by k had p h.0) ∙ all_passed_by k had ps h.1

  -- where nothing is set the port has the settings that ports have then
  one_noted : (p : PortInView) → unwrap_or (noted_at (is_set v.settings p.name) v p tree p.number None) (base_settings p) ≡ msti_port v.settings tree (named_port p)
  one_noted p = ap (λ b. unwrap_or (if b && is_set v.settings p.name tree then Some (msti_port v.settings tree (named_port p)) else None) (base_settings p)) (eq-eqb p.number p.number refl) ∙ by (is_set v.settings p.name tree) refl
    where
      no_cost : (o : Option ℕ) → is_some o ≡ false → o ≡ None
      no_cost None e = refl
      no_cost (Some n) e = absurd (true≢false e)

      by : (b : Bool) → is_set v.settings p.name tree ≡ b → unwrap_or (if b then Some (msti_port v.settings tree (named_port p)) else None) (base_settings p) ≡ msti_port v.settings tree (named_port p)
      by true e = refl
      by false e =
          let none = or_parts (not (port_priority_in v.settings.port_priorities p.name tree == 8)) (is_some (port_cost_in v.settings.port_costs p.name tree)) e in
          let priority = eqb-true (port_priority_in v.settings.port_priorities p.name tree) 8 (not-false _ none.0) in
          λ i. record { id = port_id (sym priority i) p.name.number; internal = unwrap_or (sym (no_cost (port_cost_in v.settings.port_costs p.name tree) none.1) i) (automatic_cost (max 1 p.speed)) }

  all_noted : (ps : List PortInView) → Apart (λ p q. p.number ≢ q.number) ps → AllByRecursion (λ p. unwrap_or (noted_of ps p.number) (base_settings p) ≡ msti_port v.settings tree (named_port p)) ps
  all_noted [] h = tt
  all_noted (p ∷ ps) h = (
    ap (λ o. unwrap_or o (base_settings p)) (all_passed_by p.number (noted_at (is_set v.settings p.name) v p tree p.number None) ps h.0) ∙ one_noted p,
    all_both (λ q. p.number ≢ q.number) _ _ (λ q other noted. ap (λ o. unwrap_or (noted_from o ps q.number) (base_settings q)) (passed_by q.number None p (λ e. other (sym e))) ∙ noted) ps h.0 (all_noted ps h.1),
  )

  pub are_own : (ports : List PortInView) (own : List (ℕ × MstiPort)) → Apart (λ p q. p.number ≢ q.number) ports → ((k : ℕ) → in_map own k ≡ noted_of ports k) → AreOwn v ports tree own
  are_own ports own numbers noted = all_weaker _ _ (λ p right. ap (λ o. unwrap_or o (base_settings p)) (noted p.number) ∙ right) ports (all_noted ports numbers)

-- ---- a view of a network
pub known_in_trees : (v : Viewed) (internal : List PortInView) → KnownInternal v internal → AreInTrees v.settings
known_in_trees v internal known = subst AreInTrees (sym known.of.view.settings) (network_in_trees known.net known.of.network)

module _ (net : Net) (numbers : Numbers) (v : Viewed) (region_ids : List (ℕ × ℕ)) (of : AreOf net numbers v region_ids) where
  pub seen_in_trees : AreInTrees v.settings
  seen_in_trees = subst AreInTrees (sym of.view.settings) (network_in_trees net of.network)

  -- its ports have distinct numbers
  pub seen_numbers : Apart (λ p q. p.number ≢ q.number) v.ports
  seen_numbers =
      apart_weaker (PortsRise net numbers) (λ p q. p.number ≢ q.number)
      (λ p q l same. port_names_differ p.name q.name l.less (of.numbered.ports_differ p.name q.name q.number (l.first.has_numbers.port ∙ ap Some same) l.second.has_numbers.port)) v.ports
      (ports_apart net numbers v of.view)

-- the settings of all ports are those of the internal ones
pub own_internal : (v : Viewed) (internal : List PortInView) → KnownInternal v internal → (tree : ℕ) (own : List (ℕ × MstiPort)) → AreOwn v v.ports tree own → AreOwn v internal tree own
own_internal v internal known tree own are =
    subst (λ ports. AreOwn v ports tree own) (sym known.is)
    (all_passing _ _ (λ p. p.is_enabled && is_internal known.net known.designated (named_port p)) (λ p right _. right) v.ports are)

-- ---- the CIST
one_cist_port : (v : Viewed) (own : List (ℕ × MstiPort)) (p : PortInView) → settings_in own (base_port p) ≡ msti_port v.settings 0 (named_port p) → own_cist_port own p ≡ seen_cist_port v.settings p
one_cist_port v own p e i = if p.is_enabled then Some (seen_tree_port p (record { id = (e i).id; external = unwrap_or p.settings.external (automatic_cost (max 1 p.speed)); internal = (e i).internal })) else None

pub own_cist_ports : (v : Viewed) (own : List (ℕ × MstiPort)) → AreOwn v v.ports 0 own → filter_map (own_cist_port own) v.ports ≡ cist_wires v
own_cist_ports v own are = kept_same (own_cist_port own) (seen_cist_port v.settings) v.ports (all_weaker _ _ (one_cist_port v own) v.ports are)

-- The rows of a tree by runs of ports are its rows by bridge.
use Rattle.std.proofs.Common.{◌≡◌, ℕ, ◌||◌, ◌++◌, Bool, true, false, cond, List, [], ◌∷◌, Option, Some, None, is_some, refl, sym, ap, ◌∙◌, true≢false, Less, Greater}
use Rattle.std.specs.Ordering.{is_lt, nat_cmp, ordering_reverse, ordering_then}
use Rattle.std.specs.List.{AllByRecursion, Contains, filter, flat_map, list_any}
use Rattle.std.specs.Cmp.Lexicographic.{bytes_decides, nat_list_cmp_total}
use Rattle.std.proofs.lemmas.List.Folds.{flat_map-map}
use Rattle.std.specs.FinMap as fin
use Rattle.mst_ids.specs.Names.{name_cmp, port_cmp}
use Rattle.mst_ids.specs.declared.name.PortName.{PortName}
use Rattle.mst_tables.specs.Tables.{Net, BridgeRow}
use Rattle.mst_view.specs.Aggregation.{same_name}
use Rattle.mst_view.specs.View.{LogicalPort}
use Rattle.mst_view.specs.Viewed.{Viewed, named_bridge, named_port}
use Rattle.mst_view.specs.declared.in_view.BridgeInView.{BridgeInView}
use Rattle.mst_view.specs.declared.in_view.PortInView.{PortInView}
use Rattle.mst_vlan.specs.forest.Outcome.{Outcome}
use Rattle.mst_vlan.specs.forest.Settled.{SettledNet, outcome_of, IsSettledNet}
use Rattle.mst_vlan.proofs.forest_lemmas.Entries.{all_weaker}
use Rattle.mst_vlan.proofs.forest_lemmas.Lists.{all_contained, filter_mapped}
use Rattle.mst_vlan.proofs.forest_lemmas.Views.{names_differ}
use Rattle.mst_vlan.proofs.forest_lemmas.Seen.{SeenPort, BridgesRise, PortsRise, ports_seen, bridges_apart, ports_apart, bridge_there}
use Rattle.mst_rows.specs.Rows.{Row}
use Rattle.mst_text.specs.TreeRows.{heading}
use Rattle.mst_text.specs.TreeRuns.{port_of, bridge_with, is_of, by_runs}
use Rattle.mst_vlan.specs.forest.Msti.{has_tree}
use Rattle.mst_text.specs.TreeText.{ports_of, rows_of_port, own_rows, rows_of_bridge, tree_rows}
use Rattle.mst_text.proofs.TreeRuns.{runs_of}

-- ---- the order of bridges and ports
-- of two names, one isn't both before and behind the other
not_behind : (a b : List ℕ) → name_cmp a b ≡ Less → name_cmp b a ≡ Greater
not_behind a b e = nat_list_cmp_total.antisymm b a ∙ ap ordering_reverse e

greater_less : Greater ≡ Less → ⊥
greater_less e = true≢false (sym (ap is_lt e))

-- ports come by the names of their bridges
bridge_behind : (p q : PortName) → name_cmp q.bridge p.bridge ≡ Less → port_cmp p q ≡ Less → ⊥
bridge_behind p q e l = greater_less (sym (ap (λ o. ordering_then o (nat_cmp p.number q.number)) (not_behind q.bridge p.bridge e)) ∙ l)

-- one that passes is among those of which some pass
any_of : {A : Type 0} (test : A → Bool) (xs : List A) (x : A) → Contains xs x → test x ≡ true → list_any test xs ≡ true
any_of {A} test xs x = all_contained (λ x. test x ≡ true → list_any test xs ≡ true) xs x (each xs)
  where
    each : (xs : List A) → AllByRecursion (λ x. test x ≡ true → list_any test xs ≡ true) xs
    each [] = tt
    each (y ∷ ys) = (λ e. ap (λ t. t || list_any test ys) e, all_weaker _ _ (λ z h e. ap (λ t. test y || t) (h e) ∙ last (test y)) ys (each ys))
      where
        last : (t : Bool) → (t || true) ≡ true
        last true = refl
        last false = refl

-- the rows of those that pass
flat_map_passed : {A : Type 0} (test : A → Bool) (f : A → List Row) (xs : List A) → flat_map (λ x. cond (test x) (f x) []) xs ≡ flat_map f (filter test xs)
flat_map_passed test f [] = refl
flat_map_passed {A} test f (x ∷ xs) = go (test x) (flat_map_passed test f xs)
  where
    go : (t : Bool) → flat_map (λ x. cond (test x) (f x) []) xs ≡ flat_map f (filter test xs)
        → cond t (f x) [] ++ flat_map (λ x. cond (test x) (f x) []) xs ≡ flat_map f (cond t (x ∷ filter test xs) (filter test xs))
    go true e = ap (λ t. f x ++ t) e
    go false e = e

module _ (s : SettledNet) (is : IsSettledNet s) where
  abbrev net : Net
  net = s.net

  abbrev v : Viewed
  v = s.view

  abbrev o : Outcome
  o = outcome_of s

  -- ---- each bridge has a run of ports
  abbrev owns : BridgeInView → PortInView → Bool
  owns b p = is_of b.name p

  one_owner : (b c : BridgeInView) → BridgesRise net s.numbers b c → (p : PortInView) → owns b p ≡ true → owns c p ≡ true → ⊥
  one_owner b c rise p e g = names_differ b.name c.name rise.less (sym ((bytes_decides p.name.bridge b.name).0 e) ∙ (bytes_decides p.name.bridge c.name).0 g)

  in_turn : (p q : PortInView) → PortsRise net s.numbers p q → (b c : BridgeInView) → BridgesRise net s.numbers b c → owns c p ≡ true → owns b q ≡ true → ⊥
  in_turn p q rise b c before e g =
      let first : p.name.bridge ≡ c.name = (bytes_decides p.name.bridge c.name).0 e in
      let second : q.name.bridge ≡ b.name = (bytes_decides q.name.bridge b.name).0 g in
      bridge_behind p.name q.name ((λ i. name_cmp (second i) (first i)) ∙ before.less) rise.less

  -- the bridge of a port is in the view
  owned : (p : PortInView) → SeenPort net s.numbers p → list_any (λ b. owns b p) v.bridges ≡ true
  owned p seen = go (fin.get net.bridges p.name.bridge) refl
    where
      go : (o : Option BridgeRow) → fin.get net.bridges p.name.bridge ≡ o → list_any (λ b. owns b p) v.bridges ≡ true
      go None e = absurd (true≢false (sym (ap is_some seen.has_numbers.bridge) ∙ is.of.numbered.bridges p.name.bridge ∙ ap is_some e))
      go (Some row) e =
          let b = bridge_there net s.numbers v is.of.view p.name.bridge row e in
          any_of (λ b. owns b p) v.bridges b.0 b.1 ((bytes_decides p.name.bridge b.0.name).1 (sym (ap (λ (x : List ℕ × BridgeRow). x.0) b.2)))

  in_runs : (f : BridgeInView → List PortInView → List Row) → by_runs f v.bridges v.ports ≡ flat_map (λ b. f b (filter (owns b) v.ports)) v.bridges
  in_runs f =
      runs_of owns (BridgesRise net s.numbers) (PortsRise net s.numbers) one_owner in_turn f (by_runs f) (λ ps. refl) (λ b bs ps. refl) v.bridges v.ports
      (bridges_apart net s.numbers v is.of.view) (all_weaker (SeenPort net s.numbers) _ owned v.ports (ports_seen net s.numbers v is.of.view)) (ports_apart net s.numbers v is.of.view)

  -- ---- the rows
  module _ (tree : ℕ) where
    ports_named : (name : List ℕ) → flat_map (port_of s tree) (filter (is_of name) v.ports) ≡ flat_map (rows_of_port net o tree) (ports_of net name)
    ports_named name =
        sym (flat_map-map (rows_of_port net o tree) named_port (filter (is_of name) v.ports))
        ∙ ap (flat_map (rows_of_port net o tree)) (sym (filter_mapped (λ (p : LogicalPort). same_name p.name.bridge name) named_port v.ports) ∙ ap (filter (λ (p : LogicalPort). same_name p.name.bridge name)) is.of.view.ports)

    abbrev given : List ℕ × BridgeRow → List Row
    given e = cond (has_tree net tree e.0) (rows_of_bridge net o tree e) []

    bridge_named : (b : BridgeInView) → bridge_with s tree b (filter (owns b) v.ports) ≡ given (named_bridge b)
    bridge_named b = λ i. cond (has_tree net tree b.name) (own_rows net o tree (named_bridge b) ++ ports_named b.name i) []

    pub rows_named : heading tree ∷ by_runs (bridge_with s tree) v.bridges v.ports ≡ tree_rows net o tree
    rows_named =
        ap (λ (t : List Row). heading tree ∷ t)
        (in_runs (bridge_with s tree)
        ∙ (λ i. flat_map (λ b. bridge_named b i) v.bridges)
        ∙ sym (flat_map-map given named_bridge v.bridges)
        ∙ ap (flat_map given) is.of.view.bridges
        ∙ flat_map_passed (λ (e : List ℕ × BridgeRow). has_tree net tree e.0) (rows_of_bridge net o tree) (fin.entries net.bridges))

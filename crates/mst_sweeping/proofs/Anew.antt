-- What starts anew, under names.
use Rattle.std.proofs.Common.{◌≡◌, ℕ, ◌==◌, ◌&&◌, ◌||◌, not, nat_eq, Bool, true, false, cond, List, [], ◌∷◌, map, Option, Some, None, refl, sym, ap, ◌∙◌}
use Rattle.std.specs.Cmp.Lexicographic.{pointwise}
use Rattle.std.specs.FinMap as fin
use Rattle.std.specs.List.{AllByRecursion, Contains, filter, filter_map, find, list_any, cons_option}
use Rattle.std.specs.Option.{option_map, option_map_or}
use Rattle.mst_ids.specs.declared.name.PortName.{PortName}
use Rattle.mst_net.specs.tables.ByTree.{ByTree, table_in}
use Rattle.mst_net.specs.tables.Seen.{bridge_row}
use Rattle.mst_net.specs.tables.Tables.{Net, Numbers, BridgeRow, port_eq}
use Rattle.mst_view.specs.Aggregation.{same_name}
use Rattle.mst_view.specs.View.{LogicalPort, bridge_names}
use Rattle.mst_view.specs.Viewed.{Viewed, named_port}
use Rattle.mst_view.specs.declared.in_view.BridgeInView.{BridgeInView}
use Rattle.mst_view.specs.declared.in_view.PortInView.{PortInView}
use Rattle.mst_plan.specs.forest.Agrees.{AreOf}
use Rattle.mst_plan.specs.forest.Forest.{Forest}
use Rattle.mst_sweep.specs.facts.Told.{same_told}
use Rattle.mst_sweep.specs.facts.Both.{seen_in_both, seen_both}
use Rattle.mst_plan.proofs.forest_lemmas.Entries.{all_weaker}
use Rattle.mst_plan.proofs.forest_lemmas.Lists.{all_there, filter_mapped, mapped_twice}
use Rattle.mst_plan.proofs.forest_lemmas.Seen.{bridge_seen}
use Rattle.mst_sweep.proofs.facts_lemmas.Lists.{find-map, list_any-map}
use Rattle.mst_sweep.proofs.facts_lemmas.Named.{found_named, names_are}
use Rattle.mst_sweeping.specs.declared.ports.BothPorts.{BothPorts}
use Rattle.mst_sweeping.specs.Restarts.{is_as_it_was, starts_anew, bridges_anew, port_anew, restarts, restarting}
use Rattle.mst_sweeping.specs.Seen.{AreReplugged, seen_anew, seen_both_ports, seen_port_in_both, seen_restarts}
use Rattle.mst_sweeping.proofs.OnNamed.{any-filter}

-- ---- lists
-- whether some of what is made of things passes
pub any_made : {A B : Type 0} (test : B → Bool) (h : A → Option B) (xs : List A) → list_any test (filter_map h xs) ≡ list_any (λ x. option_map_or test (h x) false) xs
any_made test h [] = refl
any_made {A} {B} test h (x ∷ xs) = go (h x) (any_made test h xs)
  where
    go : (o : Option B) → list_any test (filter_map h xs) ≡ list_any (λ x. option_map_or test (h x) false) xs
        → list_any test (cons_option o (filter_map h xs)) ≡ (option_map_or test o false || list_any (λ x. option_map_or test (h x) false) xs)
    go None rest = rest
    go (Some y) rest = ap (λ b. test y || b) rest

any_alike : {A : Type 0} (f g : A → Bool) (xs : List A) → AllByRecursion (λ x. f x ≡ g x) xs → list_any f xs ≡ list_any g xs
any_alike f g [] h = refl
any_alike f g (x ∷ xs) h = let first = h.0 in let rest = any_alike f g xs h.1 in λ i. first i || rest i

-- the names of those that pass, of ports of both
module _ (test : BothPorts → Bool) (others : List PortInView) where
  abbrev with_other : PortInView → PortInView → BothPorts
  with_other x y = record { old = x; new = y }

  abbrev made : List PortInView → List BothPorts
  made xs = filter test (filter_map (seen_port_in_both others) xs)

  abbrev passed : List PortInView → List PortInView
  passed xs = filter (λ x. option_map_or test (seen_port_in_both others x) false) xs

  abbrev Same : List BothPorts → List PortInView → Type 0
  Same ps xs = map (λ (p : BothPorts). p.old.name) ps ≡ map (λ (x : PortInView). x.name) xs

  pick : (t : Bool) (x y : PortInView) (ps : List BothPorts) (xs : List PortInView) → Same ps xs → Same (cond t (with_other x y ∷ ps) ps) (cond t (x ∷ xs) xs)
  pick true x y ps xs rest = ap (λ ns. x.name ∷ ns) rest
  pick false x y ps xs rest = rest

  pub names_passed : (xs : List PortInView) → Same (made xs) (passed xs)
  names_passed [] = refl
  names_passed (x ∷ xs) = go (find (λ (y : PortInView). port_eq y.name x.name) others) (names_passed xs)
    where
      go : (o : Option PortInView) → Same (made xs) (passed xs) → Same (filter test (cons_option (option_map (with_other x) o) (filter_map (seen_port_in_both others) xs))) (cond (option_map_or test (option_map (with_other x) o) false) (x ∷ passed xs) (passed xs))
      go None rest = rest
      go (Some y) rest = pick (test (with_other x y)) x y (made xs) (passed xs) rest

-- ---- two networks
module _ (a b : Net) (n k : Numbers) (v w : Viewed) (f g : Forest) (of : AreOf a n v f.regions) (so : AreOf b k w g.regions) where
  -- by the rows of a bridge
  abbrev by_rows : List ℕ → Option BridgeRow → Option BridgeRow → Bool
  by_rows name old new = option_map_or (λ x. option_map_or (λ y. not (is_as_it_was a b name x y)) new false) old false

  -- and as they are seen, by these settings
  abbrev seen_by : ByTree → ByTree → BridgeInView → BridgeInView → Bool
  seen_by s t x y =
      let old = bridge_row x.bridge in
      let new = bridge_row y.bridge in
      not (old.mac == new.mac && same_told old new && (old.is_rstp || pointwise nat_eq (table_in s.tables x.name) (table_in t.tables x.name)))

  each_anew : (name : List ℕ) (x : BridgeInView) → Contains v.bridges x
      → option_map_or (λ both. seen_anew v w both && same_name both.old.name name) (seen_in_both w x) false ≡ (starts_anew a b x.name && same_name x.name name)
  each_anew name x there = go (find (λ (y : BridgeInView). same_name y.name x.name) w.bridges) refl
    where
      own : fin.get a.bridges x.name ≡ Some (bridge_row x.bridge)
      own = (bridge_seen a n v of.view x there).has_row

      go : (o : Option BridgeInView) → find (λ (y : BridgeInView). same_name y.name x.name) w.bridges ≡ o
          → option_map_or (λ both. seen_anew v w both && same_name both.old.name name) (option_map (λ y. record { old = x; new = y }) o) false ≡ (starts_anew a b x.name && same_name x.name name)
      go None e =
          let other : fin.get b.bridges x.name ≡ None = found_named b k w g so x.name ∙ ap (option_map (λ (y : BridgeInView). bridge_row y.bridge)) e in
          sym (λ i. by_rows x.name (own i) (other i) && same_name x.name name)
      go (Some y) e =
          let other : fin.get b.bridges x.name ≡ Some (bridge_row y.bridge) = found_named b k w g so x.name ∙ ap (option_map (λ (y : BridgeInView). bridge_row y.bridge)) e in
          (λ i. seen_by (of.view.settings i) (so.view.settings i) x y && same_name x.name name)
          ∙ sym (λ i. by_rows x.name (own i) (other i) && same_name x.name name)

  -- whether the bridge of a name starts anew
  pub anew_named : (name : List ℕ) → list_any (λ both. seen_anew v w both && same_name both.old.name name) (seen_both v w) ≡ list_any (λ bridge. same_name bridge name) (bridges_anew a b)
  anew_named name =
      any_made (λ both. seen_anew v w both && same_name both.old.name name) (seen_in_both w) v.bridges
      ∙ any_alike _ (λ (x : BridgeInView). starts_anew a b x.name && same_name x.name name) v.bridges (all_weaker (Contains v.bridges) _ (each_anew name) v.bridges (all_there v.bridges))
      ∙ sym (list_any-map (λ bridge. starts_anew a b bridge && same_name bridge name) (λ (x : BridgeInView). x.name) v.bridges)
      ∙ ap (list_any (λ bridge. starts_anew a b bridge && same_name bridge name)) (names_are a n v f of)
      ∙ sym (any-filter (starts_anew a b) (λ bridge. same_name bridge name) (bridge_names a))

  module _ (is_anew : List ℕ → Bool) (is : (name : List ℕ) → is_anew name ≡ list_any (λ bridge. same_name bridge name) (bridges_anew a b)) (is_over : PortName → Bool) (over : AreReplugged a b is_over) where
    each_port : (x : PortInView) → option_map_or (seen_restarts is_anew is_over) (seen_port_in_both w.ports x) false ≡ restarts a b (named_port x)
    each_port x =
        go (find (λ (y : PortInView). port_eq y.name x.name) w.ports)
        ∙ sym (ap (λ o. option_map_or (port_anew a b (named_port x)) o false)
        (ap (find (λ (q : LogicalPort). port_eq q.name x.name)) (sym so.view.ports) ∙ find-map (λ (q : LogicalPort). port_eq q.name x.name) named_port w.ports))
      where
        go : (o : Option PortInView)
            → option_map_or (seen_restarts is_anew is_over) (option_map (λ y. record { old = x; new = y }) o) false ≡ option_map_or (port_anew a b (named_port x)) (option_map named_port o) false
        go None = refl
        go (Some y) = λ i. x.is_enabled && y.is_enabled && (is x.name.bridge i || over x.name i)

    -- the ports that start anew
    pub restarting_named : map (λ (p : BothPorts). p.old.name) (filter (seen_restarts is_anew is_over) (seen_both_ports v w)) ≡ restarting a b
    restarting_named =
        names_passed (seen_restarts is_anew is_over) w.ports v.ports
        ∙ (λ i. map (λ (x : PortInView). x.name) (filter (λ x. each_port x i) v.ports))
        ∙ sym (mapped_twice (λ (p : LogicalPort). p.name) named_port (filter (λ x. restarts a b (named_port x)) v.ports))
        ∙ ap (map (λ (p : LogicalPort). p.name)) (sym (filter_mapped (restarts a b) named_port v.ports) ∙ ap (filter (restarts a b)) of.view.ports)

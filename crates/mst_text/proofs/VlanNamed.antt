-- The rows of a VID under the numbers of records are its rows under names.
use Rattle.std.proofs.Common.{◌≡◌, ℕ, Bool, List, [], ◌∷◌, map, Some, refl, sym, ap, ◌∙◌}
use Rattle.std.specs.List.{AllByRecursion, Contains}
use Rattle.std.specs.FinMap as fin
use Rattle.mst_ids.specs.Vids.{has}
use Rattle.mst_graph.specs.Islands.{Island}
use Rattle.mst_tables.specs.Tables.{Net, Numbers}
use Rattle.mst_tables.specs.ByTree.{vlans_in}
use Rattle.mst_view.proofs.Lists.{map_itself}
use Rattle.mst_view.specs.Viewed.{Viewed, named_port}
use Rattle.mst_view.specs.declared.in_view.PortInView.{PortInView}
use Rattle.mst_vlan.specs.forest.Outcome.{Outcome}
use Rattle.mst_vlan.specs.forest.Agrees.{AreOf}
use Rattle.mst_vlan.specs.forest.Forest.{Forest, IsForest}
use Rattle.mst_vlan.proofs.forest_lemmas.Entries.{all_weaker}
use Rattle.mst_vlan.proofs.forest_lemmas.Lists.{all_there, mapped_twice}
use Rattle.mst_vlan.specs.roles.Active.{active_ports}
use Rattle.mst_vlan.specs.Reach.{bridges_on, lans_up, vid_links, AreReached}
use Rattle.mst_vlan.specs.roles.SeenActive.{seen_active}
use Rattle.mst_vlan.specs.Seen.{seen_bridge, seen_lan}
use Rattle.mst_vlan.specs.declared.island.Island.{Island as IslandNos}
use Rattle.mst_vlan.proofs.roles_lemmas.ActiveListed.{active_listed}
use Rattle.mst_vlan.proofs.Renumbered.{bridge_listed, lan_listed}
use Rattle.mst_rows.specs.declared.value.ActivePort.{ActivePort}
use Rattle.mst_text.specs.VlanRows.{active_row, island_row}
use Rattle.mst_text.specs.VlanText.{active_port, row_of_island, AreBodyRows}
use Rattle.mst_text.specs.VlanSeen.{seen_port, seen_island}
use Rattle.mst_vlan.proofs.ByNumber.{by_number}
use Rattle.mst_vlan.proofs.NamedInView.{bridge_named, lan_named}

-- for each element of a list
each_of : {A : Type 0} (P : A → Type 0) (xs : List A) → ((x : A) → Contains xs x → P x) → AllByRecursion P xs
each_of P xs f = all_weaker (Contains xs) P f xs (all_there xs)

module _ (net : Net) (numbers : Numbers) (v : Viewed) (f : Forest) (of : AreOf net numbers v f.regions) where
  -- ---- active ports
  pub active_named : (is : IsForest net numbers f) (vid : ℕ) → map (seen_port v vid) (seen_active v f vid) ≡ map (active_port net vid) (active_ports net is.outcome vid)
  active_named is vid =
      (λ i. map (λ (p : PortInView). the_port p (has (vlans_in (of.view.settings i).vlans p.name) vid)) (seen_active v f vid))
      ∙ sym (mapped_twice (active_port net vid) named_port (seen_active v f vid))
      ∙ ap (map (active_port net vid)) (sym (active_listed net numbers v f of is vid))
    where
      the_port : PortInView → Bool → ActivePort
      the_port p is_member = record { port = p.name; is_member = is_member }

  -- ---- islands
  module _ (o : Outcome) (vid : ℕ) (runs : List (ℕ × ℕ)) where
    -- the lists of an island have the numbers of these names
    record HasNames (i : IslandNos) (j : Island (List ℕ) (List ℕ)) : Type 0 where
      bridges : map Some i.bridges ≡ map (fin.get numbers.bridges) j.bridges
      lans : map Some i.lans ≡ map (fin.get numbers.lans) j.lans

    -- and these names are those of bridges that are on and of logical LANs that are up
    record AreListed (j : Island (List ℕ) (List ℕ)) : Type 0 where
      bridges : (a : List ℕ) → Contains j.bridges a → Contains (bridges_on net) a
      lans : (a : List ℕ) → Contains j.lans a → Contains (lans_up net) a

    island_named : (i : IslandNos) (j : Island (List ℕ) (List ℕ)) → HasNames i j → AreListed j → seen_island v runs i ≡ row_of_island runs j
    island_named i j e listed =
        let bridges = by_number (fin.get numbers.bridges) (seen_bridge v) (λ a. a) i.bridges j.bridges e.bridges (each_of _ j.bridges (λ a h. bridge_named net numbers v f of a (listed.bridges a h))) ∙ map_itself j.bridges in
        let lans = by_number (fin.get numbers.lans) (seen_lan v) (λ a. a) i.lans j.lans e.lans (each_of _ j.lans (λ a h. lan_named net numbers v f of a (listed.lans a h))) ∙ map_itself j.lans in
        λ k. island_row runs (bridges k) (lans k)

    each_named : (islands : List IslandNos) (named : List (Island (List ℕ) (List ℕ)))
        → map (λ (i : IslandNos). map Some i.bridges) islands ≡ map (λ (j : Island (List ℕ) (List ℕ)). map (fin.get numbers.bridges) j.bridges) named
        → map (λ (i : IslandNos). map Some i.lans) islands ≡ map (λ (j : Island (List ℕ) (List ℕ)). map (fin.get numbers.lans) j.lans) named
        → AllByRecursion AreListed named → map (seen_island v runs) islands ≡ map (row_of_island runs) named
    each_named [] [] e g h = refl
    each_named [] (j ∷ named) e g h = cc
    each_named (i ∷ islands) [] e g h = cc
    each_named (i ∷ islands) (j ∷ named) e g h =
        let bridges : map Some i.bridges ≡ map (fin.get numbers.bridges) j.bridges = cc in
        let lans : map Some i.lans ≡ map (fin.get numbers.lans) j.lans = cc in
        let more : map (λ (i : IslandNos). map Some i.bridges) islands ≡ map (λ (j : Island (List ℕ) (List ℕ)). map (fin.get numbers.bridges) j.bridges) named = cc in
        let others : map (λ (i : IslandNos). map Some i.lans) islands ≡ map (λ (j : Island (List ℕ) (List ℕ)). map (fin.get numbers.lans) j.lans) named = cc in
        let first = island_named i j (record { bridges = bridges; lans = lans }) h.0 in
        let rest = each_named islands named more others h.1 in
        λ k. first k ∷ rest k

    pub islands_named : (islands : List IslandNos) → (r : AreReached net numbers o vid islands) → map (seen_island v runs) islands ≡ map (row_of_island runs) r.named
    islands_named islands r =
        each_named islands r.named r.bridges r.lans
        (each_of AreListed r.named
        (λ j h. record {
          bridges = bridge_listed (bridges_on net) (lans_up net) (vid_links net o vid) r.named r.are_islands j h;
          lans = lan_listed (bridges_on net) (lans_up net) (vid_links net o vid) r.named r.are_islands j h;
        }))

  -- ---- the body
  pub are_body_rows : (is : IsForest net numbers f) (vid : ℕ) (runs : List (ℕ × ℕ)) (islands : List IslandNos) → AreReached net numbers is.outcome vid islands
      → AreBodyRows net is.outcome vid runs (active_row runs (map (seen_port v vid) (seen_active v f vid)) ∷ map (seen_island v runs) islands)
  are_body_rows is vid runs islands r = (r.named, r.are_islands, λ k. active_row runs (active_named is vid k) ∷ islands_named is.outcome vid runs islands r k)

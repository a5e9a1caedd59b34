-- Which ports carry a VID, by their flags and sets of VLANs.
use Rattle.std.proofs.Common.{◌≡◌, ℕ, ◌+◌, ◌<◌, ◌&&◌, Bool, true, false, List, [], ◌∷◌, ◌++◌, length, map, filter, take, get_or, cond, refl, sym, ap, subst, ◌∙◌, append-nil}
use Rattle.std.proofs.lemmas.List.{length-map, map-append, get_or-map, ext_get_or}
use Rattle.mst_ids.specs.Vids.{has}
use Rattle.mst_graph.specs.Islands.{Link, Island, AreIslands, HaveEnds}
use Rattle.mst_tables.specs.ByTree.{vlans_in}
use Rattle.mst_view.specs.Viewed.{Viewed}
use Rattle.mst_view.specs.declared.in_view.PortInView.{PortInView}
use Rattle.mst_roles.specs.forest.Forest.{Forest}
use Rattle.mst_roles.specs.SeenRoles.{seen_forwards}
use Rattle.mst_roles.specs.forest.Agrees.{Known}
use Rattle.mst_vlan.specs.Seen.{seen_member, seen_bridges, seen_lans, seen_links}
use Rattle.mst_vlan.proofs.Listed.{seen_have}
use Rattle.mst_vlan.specs.Carried.{ViewWithTrees, seen_is_link, names_of, CarryAlike}
use Rattle.mst_vlan.specs.Kept.{seen_row, seen_vlans, link_at}
use Rattle.mst_vlan.proofs.Lists.{both_at, tested_at, more_passed, same_kept}

module _ (v : Viewed) (f : Forest) (vid : ℕ) where
  abbrev own : PortInView → List Bool
  own p = vlans_in v.settings.vlans p.name

  -- the port at a place
  pub is_link_at : (i : ℕ) → link_at (seen_row v f vid) (seen_vlans v) vid i ≡ get_or (map (seen_is_link v f vid) v.ports) i false
  is_link_at i =
      sym (both_at (seen_member v vid) (seen_forwards v f vid) v.ports i
      ∙ ap (λ t. get_or (seen_row v f vid) i false && t) (tested_at (λ set. has set vid) own [] refl v.ports i))

  module _ {C : Type 0} (value : PortInView → C) (ports : List PortInView) (row : List Bool) (sets : List (List Bool)) (rows : row ≡ map (seen_forwards v f vid) ports) (vlans : sets ≡ map own ports) (i : ℕ) (port : PortInView)
      (below : i < length ports) (is : port ≡ get_or ports i port) (out : List C) (so_far : out ≡ map value (filter (seen_member v vid) (filter (seen_forwards v f vid) (take i ports)))) where
    tests : link_at row sets vid i ≡ (seen_forwards v f vid port && seen_member v vid port)
    tests =
        let flag : get_or row i false ≡ seen_forwards v f vid port = ap (λ r. get_or r i false) rows ∙ get_or-map (seen_forwards v f vid) ports i port false below ∙ ap (seen_forwards v f vid) (sym is) in
        let set : get_or sets i [] ≡ own port = ap (λ r. get_or r i []) vlans ∙ get_or-map own ports i port [] below ∙ ap own (sym is) in
        λ j. flag j && has (set j) vid

    more : (b : Bool) → link_at row sets vid i ≡ b → map value (filter (seen_member v vid) (filter (seen_forwards v f vid) (take (i + 1) ports))) ≡ out ++ map value (cond b (port ∷ []) [])
    more b e =
        ap (map value) (more_passed (seen_member v vid) (seen_forwards v f vid) ports i port b below (sym is) (sym tests ∙ e))
        ∙ map-append value (filter (seen_member v vid) (filter (seen_forwards v f vid) (take i ports))) (cond b (port ∷ []) [])
        ∙ ap (λ l. l ++ map value (cond b (port ∷ []) [])) (sym so_far)

    -- it comes after those before it, where it carries the VID
    pub one_more : (new : List C) → new ≡ out ++ value port ∷ [] → link_at row sets vid i ≡ true → new ≡ map value (filter (seen_member v vid) (filter (seen_forwards v f vid) (take (i + 1) ports)))
    one_more new e h = e ∙ sym (more true h)

    pub no_more : link_at row sets vid i ≡ false → out ≡ map value (filter (seen_member v vid) (filter (seen_forwards v f vid) (take (i + 1) ports)))
    no_more h = sym (more false h ∙ append-nil out)

filters_as_one : {A : Type 0} (test other : A → Bool) (xs : List A) → filter test (filter other xs) ≡ filter (λ x. test x && other x) xs
filters_as_one test other [] = refl
filters_as_one test other (x ∷ xs) = go (filters_as_one test other xs) (other x) refl (test x) refl
  where
    go : filter test (filter other xs) ≡ filter (λ x. test x && other x) xs → (o : Bool) → other x ≡ o → (t : Bool) → test x ≡ t → filter test (filter other (x ∷ xs)) ≡ filter (λ x. test x && other x) (x ∷ xs)
    go rest true e true h = rw e (rw h (ap (λ l. x ∷ l) rest))
    go rest true e false h = rw e (rw h rest)
    go rest false e true h = rw e (rw h rest)
    go rest false e false h = rw e (rw h rest)

-- the same ports carry a VID, where those at each place do in both or in neither
pub carry_alike : (a b : ViewWithTrees) (vid : ℕ) → map names_of a.view.ports ≡ map names_of b.view.ports
    → ((i : ℕ) → i < length a.view.ports → link_at (seen_row a.view a.forest vid) (seen_vlans a.view) vid i ≡ link_at (seen_row b.view b.forest vid) (seen_vlans b.view) vid i) → CarryAlike a b vid
carry_alike a b vid names links =
    let v = a.view in
    let w = b.view in
    let as_long : length (map (seen_is_link v a.forest vid) v.ports) ≡ length (map (seen_is_link w b.forest vid) w.ports) =
    length-map v.ports (seen_is_link v a.forest vid) ∙ sym (length-map v.ports names_of) ∙ ap length names ∙ length-map w.ports names_of ∙ sym (length-map w.ports (seen_is_link w b.forest vid)) in
    let flags : map (seen_is_link v a.forest vid) v.ports ≡ map (seen_is_link w b.forest vid) w.ports =
    ext_get_or false (map (seen_is_link v a.forest vid) v.ports) (map (seen_is_link w b.forest vid) w.ports) as_long
    (λ i l. sym (is_link_at v a.forest vid i) ∙ links i (subst (λ n. i < n) (length-map v.ports (seen_is_link v a.forest vid)) l) ∙ is_link_at w b.forest vid i) in
    ap (map names_of) (filters_as_one (seen_member v vid) (seen_forwards v a.forest vid) v.ports)
    ∙ same_kept names_of (seen_is_link v a.forest vid) names_of (seen_is_link w b.forest vid) v.ports w.ports names flags
    ∙ sym (ap (map names_of) (filters_as_one (seen_member w vid) (seen_forwards w b.forest vid) w.ports))

-- of links that are those of a VID both ends are there
pub have_ends : (s : ViewWithTrees) → Known s.view s.forest.regions → (vid : ℕ) (bridges lans : List ℕ) (links : List (Link ℕ ℕ)) → bridges ≡ seen_bridges s.view → lans ≡ seen_lans s.view → links ≡ seen_links s.view s.forest vid
    → HaveEnds bridges lans links
have_ends s known vid bridges lans links on up are =
    subst (λ bs. HaveEnds bs lans links) (sym on)
    (subst (λ ls. HaveEnds (seen_bridges s.view) ls links) (sym up)
    (subst (λ ks. HaveEnds (seen_bridges s.view) (seen_lans s.view) ks) (sym are) (seen_have known.net known.numbers s.view s.forest known.of vid)))

-- and what they join are the islands of the VID
pub are_islands : (s : ViewWithTrees) (vid : ℕ) (bridges lans : List ℕ) (links : List (Link ℕ ℕ)) → bridges ≡ seen_bridges s.view → lans ≡ seen_lans s.view → links ≡ seen_links s.view s.forest vid
    → (islands : List (Island ℕ ℕ)) → AreIslands bridges lans links islands → AreIslands (seen_bridges s.view) (seen_lans s.view) (seen_links s.view s.forest vid) islands
are_islands s vid bridges lans links on up are islands h = subst (λ ks. AreIslands (seen_bridges s.view) (seen_lans s.view) ks islands) are
    (subst (λ ls. AreIslands (seen_bridges s.view) ls links islands) up (subst (λ bs. AreIslands bs lans links islands) on h))

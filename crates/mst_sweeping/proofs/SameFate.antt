-- What becomes of VIDs: where nothing else carries one, it isn't cut, joined or moved; and VIDs that nothing tells apart have one fate.
use Rattle.std.proofs.Common.{◌≡◌, ℕ, ◌||◌, not, Bool, false, List, [], map, sym, ap, subst, ◌∙◌}
use Rattle.std.specs.Bool.{Decides}
use Rattle.std.specs.Cmp.Lexicographic.{bytes_decides, pointwise_decides}
use Rattle.std.specs.List.{filter}
use Rattle.std.proofs.lemmas.Bool.{and_parts, and_from}
use Rattle.mst_graph.specs.Islands.{Island, AreIslands, AreJoined}
use Rattle.mst_graph.specs.Walks.{bridge_at}
use Rattle.mst_net.specs.tables.Tables.{Net, Numbers, port_eq}
use Rattle.mst_view.specs.Aggregation.{same_name}
use Rattle.mst_view.specs.Viewed.{Viewed}
use Rattle.mst_sweep.specs.vlan.Reach.{bridges_on, lans_up, vid_links, AreIslandsOf}
use Rattle.mst_plan.specs.forest.Agrees.{AreOf}
use Rattle.mst_plan.specs.forest.Forest.{Forest, IsForest}
use Rattle.mst_plan.specs.forest.Outcome.{Outcome}
use Rattle.mst_sweep.specs.vlan.classes.Alike.{AreAlike}
use Rattle.mst_roles.proofs.Named.{port_is, port_same}
use Rattle.mst_policy.specs.Leaving.{Leaving, leaves}
use Rattle.mst_view.specs.View.{bridge_names}
use Rattle.mst_sweep.specs.Parts.{all_parts, staying as staying_in, AreParts, ArePartsOf}
use Rattle.mst_sweep.proofs.StillJoined.{no_parts}
use Rattle.mst_sweeping.specs.declared.links.Link.{Link}
use Rattle.mst_sweeping.specs.Links.{carried, shared, staying, stays, same_link, same_links}
use Rattle.mst_sweeping.specs.MovedVids.{ArePartsBut, IsCut, IsJoined, IsJoinedBut, IsMoved, links_differ, remaining}
use Rattle.mst_sweep.specs.vlan.classes.Classes.{HasOnly}
use Rattle.mst_sweeping.specs.Seen.{seen_carried, seen_differ}
use Rattle.mst_sweeping.proofs.Carried.{carried_alike, carried_same, ends_alike, ends_by, links_by}
use Rattle.mst_sweeping.proofs.OnNamed.{stays_same}
use Rattle.mst_sweeping.proofs.Remaining.{InSame, none_of_all, same_remain}

-- ---- links are compared by their names
link_decides : (k j : Link) → Decides (same_link k j) (k ≡ j)
link_decides k j = (
  λ e.
      let parts = and_parts (port_eq k.port j.port) (same_name k.lan j.lan) e in
      let port : k.port ≡ j.port = port_is k.port j.port parts.0 in
      let lan : k.lan ≡ j.lan = (bytes_decides k.lan j.lan).0 parts.1 in
      λ i. record { port = port i; lan = lan i },
  λ e. and_from (port_eq k.port j.port) (same_name k.lan j.lan) (port_same k.port j.port (ap (λ (m : Link). m.port) e)) ((bytes_decides k.lan j.lan).1 (ap (λ (m : Link). m.lan) e)),
)

pub links_decide : (ks js : List Link) → Decides (same_links ks js) (ks ≡ js)
links_decide = pointwise_decides link_decides

-- ---- where the same carries a VID
module _ (a b : Net) (o p : Outcome) (vid : ℕ) (same : carried a o vid ≡ carried b p vid) (olds news : List (Island (List ℕ) (List ℕ))) (are : AreIslandsOf a o vid olds) (so : AreIslandsOf b p vid news) where
  same_ends : vid_links a o vid ≡ vid_links b p vid
  same_ends = links_by a o vid ∙ ap (map ends_by) same ∙ sym (links_by b p vid)

  none : all_parts (staying_in olds news (bridge_names a)) ≡ []
  none = no_parts a b o p vid olds news are so (λ x y walk. subst (λ ks. AreJoined ks (bridge_at x) (bridge_at y)) same_ends walk)

  pub not_cut : AreParts a o b p vid []
  not_cut = (olds, news, are, so, sym none)

  pub not_cut_but : (leaving : Leaving) → ArePartsBut leaving a o b p vid []
  not_cut_but leaving = (olds, news, are, so, sym (none_of_all (λ bridge. not (leaves leaving vid bridge)) olds news (bridge_names a) none))

pub same_differ : (a b : Net) (o p : Outcome) (vid : ℕ) → carried a o vid ≡ carried b p vid → links_differ a o b p vid ≡ false
same_differ a b o p vid same =
    ap not ((links_decide (shared (staying (stays a b) (carried a o vid))) (shared (staying (stays a b) (carried b p vid)))).1 (ap (λ ks. shared (staying (stays a b) ks)) same))

-- ---- as they are seen
module _ (a b : Net) (n k : Numbers) (v w : Viewed) (f g : Forest) (of : AreOf a n v f.regions) (so : AreOf b k w g.regions) (is : IsForest a n f) (are : IsForest b k g) (vid : ℕ) where
  pub differ_same : seen_differ v w (seen_carried v f vid) (seen_carried w g vid) ≡ links_differ a is.outcome b are.outcome vid
  differ_same = λ i.
      not (same_links (shared (filter (λ j. stays_same a b n k v w f g of so j.port.bridge i) (carried_same a n v f of is vid i)))
      (shared (filter (λ j. stays_same a b n k v w f g of so j.port.bridge i) (carried_same b k w g so are vid i))))

-- ---- VIDs that nothing tells apart
module _ (a b : Net) (n k : Numbers) (v w : Viewed) (f g : Forest) (of : AreOf a n v f.regions) (so : AreOf b k w g.regions) (o p : Outcome) (tables : List (List ℕ)) (sets : List (List Bool))
    (old : HasOnly v tables sets) (new : HasOnly w tables sets) (x y : ℕ) (alike : AreAlike tables sets x y) where
  parts_of_alike : (bridges : List (List ℕ)) (parts : List (List (List ℕ))) → ArePartsOf bridges a o b p x parts → ArePartsOf bridges a o b p y parts
  parts_of_alike bridges parts s = (
    s.0,
    s.1,
    subst (λ ks. AreIslands (bridges_on a) (lans_up a) ks s.0) (ends_alike a n v f of o tables sets old x y alike) s.2,
    subst (λ ks. AreIslands (bridges_on b) (lans_up b) ks s.1) (ends_alike b k w g so p tables sets new x y alike) s.3,
    s.4,
  )

  pub parts_but_alike : (leaving : Leaving) → InSame leaving x y → (parts : List (List (List ℕ))) → ArePartsBut leaving a o b p x parts → ArePartsBut leaving a o b p y parts
  parts_but_alike leaving same parts s = parts_of_alike (remaining leaving y a) parts (subst (λ bridges. ArePartsOf bridges a o b p x parts) (same_remain leaving x y a same) s)

  pub cut_alike : (c : Bool) → IsCut a o b p x c → IsCut a o b p y c
  cut_alike c s = (s.0, parts_of_alike (bridge_names a) s.0 s.1, s.2)

  differ_alike : links_differ a o b p x ≡ links_differ a o b p y
  differ_alike = λ i.
      not (same_links (shared (staying (stays a b) (carried_alike a n v f of o tables sets old x y alike i))) (shared (staying (stays a b) (carried_alike b k w g so p tables sets new x y alike i))))

module _ (a b : Net) (n k : Numbers) (v w : Viewed) (f g : Forest) (of : AreOf a n v f.regions) (so : AreOf b k w g.regions) (o p : Outcome) (tables : List (List ℕ)) (sets : List (List Bool))
    (old : HasOnly v tables sets) (new : HasOnly w tables sets) (x y : ℕ) (alike : AreAlike tables sets x y) where
  pub joined_alike : (c : Bool) → IsJoined a o b p x c → IsJoined a o b p y c
  joined_alike = cut_alike b a k n w v g f so of p o tables sets new old x y alike

  pub joined_but_alike : (leaving : Leaving) → InSame leaving x y → (c : Bool) → IsJoinedBut leaving a o b p x c → IsJoinedBut leaving a o b p y c
  joined_but_alike leaving same c s = (s.0, parts_but_alike b a k n w v g f so of p o tables sets new old x y alike leaving same s.0 s.1, s.2)

  pub moved_alike : (c : Bool) → IsMoved a o b p x c → IsMoved a o b p y c
  moved_alike c s = (
    s.0,
    s.1,
    cut_alike a b n k v w f g of so o p tables sets old new x y alike s.0 s.2,
    joined_alike s.1 s.3,
    s.4 ∙ ap (λ d. s.0 || s.1 || d) (differ_alike a b n k v w f g of so o p tables sets old new x y alike),
  )

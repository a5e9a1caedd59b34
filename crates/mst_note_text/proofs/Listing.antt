-- A list of parents by places is that of a tree's bridges.
use Rattle.std.proofs.Common.{◌≡◌, ℕ, zero, suc, ◌<◌, ◌==◌, Bool, true, false, not, true≢false, nat_eq, List, [], ◌∷◌, length, get_or, Option, Some, is_some, refl, sym, ap, subst, ◌∙◌, eq-eqb, arith, Less}
use Rattle.std.specs.Prelude.{slice_get}
use Rattle.std.specs.List.{Contains, find}
use Rattle.std.specs.Option.{option_map_or}
use Rattle.std.specs.Map.{lookup}
use Rattle.std.specs.FinMap as fin
use Rattle.std.proofs.lemmas.Bool.{eqb-true}
use Rattle.std.proofs.lemmas.Option.{get_or_from_slice_get}
use Rattle.mst_ids.specs.Names.{name_cmp}
use Rattle.mst_tables.specs.Tables.{Net, Numbers}
use Rattle.mst_tables.specs.ByTree.{by_tree}
use Rattle.mst_view.specs.Viewed.{Viewed}
use Rattle.mst_view.specs.declared.in_view.BridgeInView.{BridgeInView}
use Rattle.mst_view.specs.declared.in_view.PortInView.{PortInView}
use Rattle.mst_roles.specs.forest.config.Shared.{same_in}
use Rattle.mst_roles.specs.forest.config.Regions.{region_of}
use Rattle.mst_roles.proofs.forest_lemmas.config_lemmas.SameRegion.{told}
use Rattle.mst_vector.specs.Cist.{cist_rules}
use Rattle.mst_vector.specs.declared.cist.CistBridge.{CistBridge}
use Rattle.mst_roles.specs.forest.topology.Topology.{HasBridge}
use Rattle.mst_roles.specs.forest.nested.Trees.{HasTree, SameRegion}
use Rattle.mst_roles.specs.forest.Apart.{Apart}
use Rattle.mst_roles.specs.forest.Cist.{cist_sight, cist_of, cist_bridge}
use Rattle.mst_roles.specs.forest.Agrees.{AreOf}
use Rattle.mst_roles.specs.forest.Forest.{designated_in, Forest}
use Rattle.mst_roles.specs.forest.Outcome.{Outcome, trees_of}
use Rattle.mst_roles.proofs.forest_lemmas.Lists.{some_is, all_contained, apart_kept, kept_from, kept_in}
use Rattle.mst_roles.proofs.forest_lemmas.Seen.{BridgesRise, bridge_seen, port_seen, bridges_apart}
use Rattle.mst_roles.proofs.forest_lemmas.Sights.{bridge_from}
use Rattle.mst_roles.proofs.forest_lemmas.CistTopology.{given, cist_is_sight}
use Rattle.mst_note_text.specs.Depths.{ParentIn}
use Rattle.mst_note_text.specs.Places.{IsParent}
use Rattle.mst_note_text.specs.Listed.{IsListed}
use Rattle.mst_note_text.specs.declared.parent.Parent.{Parent}
use Rattle.mst_note_text.specs.declared.member.Member.{Member}
use Rattle.mst_note_text.specs.Parents.{AreGiven}
use Rattle.mst_note_text.specs.Placed.{ArePlaces}
use Rattle.mst_note_text.specs.SeenTree.{is_root_port, seen_member, members_in, name_at}
use Rattle.mst_note_text.specs.SeenTree as seen_tree
use Rattle.mst_note_text.proofs.TreeParents.{parts, from_parts, is_there_some, one_place}

-- the element at a place
pub some_at : {A : Type 0} (xs : List A) (n : ℕ) → n < length xs → (x : A) × (slice_get xs n ≡ Some x) × Contains xs x
some_at [] n l = absurd (omega arith)
some_at (x ∷ xs) zero l = (x, refl, (0, omega arith, refl))
some_at (x ∷ xs) (suc n) l = let r = some_at xs n (omega arith) in let k = r.2.1 in (r.0, r.1, (suc r.2.0, omega arith, r.2.2))

is_same : (b : Bool) → not b ≡ false → b ≡ true
is_same true e = refl
is_same false e = absurd (true≢false e)

is_other : (b : Bool) → not b ≡ true → b ≡ false
is_other true e = absurd (true≢false (sym e))
is_other false e = refl

module _ (net : Net) (numbers : Numbers) (v : Viewed) (f : Forest) (o : Outcome) (of : AreOf net numbers v f.regions) where
  -- what is seen of a tree is in it
  pub record InTree (tree : ℕ) : Type 0 where
    pub has : (b : BridgeInView) → Contains v.bridges b → (x : Member) → seen_member f tree b ≡ Some x → HasTree (trees_of net o) tree b.name
    pub names : (b : BridgeInView) (x : Member) → seen_member f tree b ≡ Some x → (x.name ≡ b.name) × (x.number ≡ b.bridge.number)
    pub member : (a : List ℕ) → HasTree (trees_of net o) tree a → (b : BridgeInView) × Contains v.bridges b × (b.name ≡ a) × ((x : Member) × (seen_member f tree b ≡ Some x))
    pub in_cist : (a : List ℕ) → HasTree (trees_of net o) tree a → HasTree (trees_of net o) 0 a
    pub ends : (a b : List ℕ) → ParentIn (trees_of net o) tree a b → HasTree (trees_of net o) tree a × HasTree (trees_of net o) tree b
    pub gives : (q r : PortInView) (k : ℕ) → Contains v.ports q → is_root_port v f tree q ≡ true → designated_in f tree q.lan_number ≡ Some k → find (λ (x : PortInView). k == x.number) v.ports ≡ Some r
        → (b : List ℕ) × ParentIn (trees_of net o) tree q.name.bridge b × (fin.get numbers.bridges b ≡ Some r.bridge)
    pub given_by : (a b : List ℕ) → ParentIn (trees_of net o) tree a b → (q : PortInView) × Contains v.ports q × (q.name.bridge ≡ a) × ((r : PortInView) × ((k : ℕ) × (is_root_port v f tree q ≡ true) × (designated_in f tree q.lan_number ≡ Some k)
        × (find (λ (x : PortInView). k == x.number) v.ports ≡ Some r) × (fin.get numbers.bridges b ≡ Some r.bridge)))

  -- ---- regions
  cist_region : (a : List ℕ) (c : CistBridge) → HasBridge (cist_of net) a c → c.region ≡ region_of net a
  cist_region a c h =
      let b = bridge_from net of.network cist_rules (cist_sight net) (cist_is_sight net of.network) a c h in
      ap (λ (x : CistBridge). x.region) (sym (given b.row.is_on (cist_bridge (by_tree net) (region_of net a) a b.row) c b.seen).1)

  regions_told : (a b : List ℕ) (n m : ℕ) → HasTree (trees_of net o) 0 a → HasTree (trees_of net o) 0 b → fin.get numbers.bridges a ≡ Some n → fin.get numbers.bridges b ≡ Some m → same_in f.regions n m ≡ (region_of net a == region_of net b)
  regions_told a b n m h k e g =
      let x = bridge_from net of.network cist_rules (cist_sight net) (cist_is_sight net of.network) a h.0 h.1 in
      let y = bridge_from net of.network cist_rules (cist_sight net) (cist_is_sight net of.network) b k.0 k.1 in
      of.regions.regions a b n m e g ∙ sym (told net of.network a b x.row y.row x.has_row y.has_row)

  together : (a b : List ℕ) (n m : ℕ) → HasTree (trees_of net o) 0 a → HasTree (trees_of net o) 0 b → fin.get numbers.bridges a ≡ Some n → fin.get numbers.bridges b ≡ Some m → same_in f.regions n m ≡ true → SameRegion (trees_of net o) a b
  together a b n m h k e g same = record {
    bridge = h.0;
    has_bridge = h.1;
    other = k.0;
    has_other = k.1;
    same = cist_region a h.0 h.1 ∙ eqb-true (region_of net a) (region_of net b) (sym (regions_told a b n m h k e g) ∙ same) ∙ sym (cist_region b k.0 k.1);
  }

  apart : (a b : List ℕ) (n m : ℕ) → HasTree (trees_of net o) 0 a → HasTree (trees_of net o) 0 b → fin.get numbers.bridges a ≡ Some n → fin.get numbers.bridges b ≡ Some m → same_in f.regions n m ≡ false → SameRegion (trees_of net o) a b → ⊥
  apart a b n m h k e g other s =
      true≢false (sym (eq-eqb (region_of net a) (region_of net b) (sym (cist_region a s.bridge s.has_bridge) ∙ s.same ∙ cist_region b s.other s.has_other)) ∙ sym (regions_told a b n m h k e g) ∙ other)

  -- ---- places
  module _ (tree : ℕ) (in_tree : InTree tree) (members : List Member) (are : members ≡ members_in v f tree) (places : List (ℕ × ℕ)) (placed : ArePlaces (λ (m : Member). m.number) members places) where
    -- the bridge at a place
    pub record At (n : ℕ) : Type 0 where
      pub member : Member
      pub is : slice_get members n ≡ Some member
      pub bridge : BridgeInView
      pub there : Contains v.bridges bridge
      pub seen : seen_member f tree bridge ≡ Some member
      pub named : name_at members n ≡ bridge.name

    pub at : (n : ℕ) → n < length members → At n
    at n low =
        let s = some_at members n low in
        let k = kept_from (seen_member f tree) v.bridges s.0 (subst (λ l. Contains l s.0) are s.2) in
        record { member = s.0; is = s.1; bridge = k.0; there = k.1; seen = k.2; named = ap (λ (x : Option Member). option_map_or (λ m. m.name) x []) s.1 ∙ (in_tree.names k.0 s.0 k.2).0 }

    pub has_tree_at : (n : ℕ) → n < length members → HasTree (trees_of net o) tree (name_at members n)
    has_tree_at n low = let x = at n low in subst (HasTree (trees_of net o) tree) (sym x.named) (in_tree.has x.bridge x.there x.member x.seen)

    number_at : (n number : ℕ) → lookup (nat_eq number) places ≡ Some n → fin.get numbers.bridges (name_at members n) ≡ Some number
    number_at n number e =
        let x = at n (placed.in_list number n e) in
        let own = (bridge_seen net numbers v of.view x.bridge x.there).has_number in
        let is : x.member.number ≡ number = ap (λ (m : Member). m.number) (sym (get_or_from_slice_get members n x.member x.member x.is)) ∙ placed.has_number number n x.member e in
        ap (fin.get numbers.bridges) x.named ∙ own ∙ ap Some (sym (in_tree.names x.bridge x.member x.seen).1 ∙ is)

    named_place : (n number : ℕ) (a : List ℕ) → lookup (nat_eq number) places ≡ Some n → fin.get numbers.bridges a ≡ Some number → name_at members n ≡ a
    named_place n number a e has = of.numbered.bridges_differ (name_at members n) a number (number_at n number e) has

    -- a bridge of the tree has a place
    has_place : (a : List ℕ) (number : ℕ) → HasTree (trees_of net o) tree a → fin.get numbers.bridges a ≡ Some number → (n : ℕ) × (lookup (nat_eq number) places ≡ Some n)
    has_place a number h e =
        let m = in_tree.member a h in
        let x = m.3.0 in
        let own = (bridge_seen net numbers v of.view m.0 m.1).has_number in
        let is : x.number ≡ number = (in_tree.names m.0 x m.3.1).1 ∙ some_is m.0.bridge.number number (sym own ∙ ap (fin.get numbers.bridges) m.2 ∙ e) in
        let among = subst (λ l. Contains l x) (sym are) (kept_in (seen_member f tree) v.bridges m.0 x m.1 m.3.1) in
        let found = all_contained (λ (y : Member). is_some (lookup (nat_eq y.number) places) ≡ true) members x placed.each among in
        is_there_some (lookup (nat_eq number) places) (ap (λ k. is_some (lookup (nat_eq k) places)) (sym is) ∙ found)

    members_apart : Apart (λ (x y : Member). name_cmp x.name y.name ≡ Less) members
    members_apart =
        subst (Apart (λ (x y : Member). name_cmp x.name y.name ≡ Less)) (sym are)
        (apart_kept (BridgesRise net numbers) (λ (x y : Member). name_cmp x.name y.name ≡ Less) (seen_member f tree)
        (λ a b x y rise e g. (λ i. name_cmp ((in_tree.names a x e).0 i) ((in_tree.names b y g).0 i)) ∙ rise.less) v.bridges (bridges_apart net numbers v of.view))

    one_named : (n k : ℕ) → n < length members → k < length members → name_at members n ≡ name_at members k → n ≡ k
    one_named n k l m e =
        let x = at n l in
        let y = at k m in
        let here : get_or members n x.member ≡ x.member = get_or_from_slice_get members n x.member x.member x.is in
        let there : get_or members k x.member ≡ y.member = get_or_from_slice_get members k y.member x.member y.is in
        one_place (λ (z : Member). z.name) members n k x.member l m members_apart
        (ap (λ (z : Member). z.name) here ∙ (in_tree.names x.bridge x.member x.seen).0 ∙ sym x.named ∙ e ∙ y.named ∙ sym (in_tree.names y.bridge y.member y.seen).0 ∙ sym (ap (λ (z : Member). z.name) there))

    module _ (parents : List (Option Parent)) (gave : AreGiven (seen_tree.given v f tree places) v.ports v.ports (length members) parents) where
      -- a parent in the list
      record Step (n : ℕ) (p : Parent) : Type 0 where
        is_parent : ParentIn (trees_of net o) tree (name_at members n) (name_at members p.place)
        low : p.place < length parents
        here : ℕ
        here_is : fin.get numbers.bridges (name_at members n) ≡ Some here
        there : ℕ
        there_is : fin.get numbers.bridges (name_at members p.place) ≡ Some there
        between : p.is_between ≡ not (same_in f.regions here there)

      step : (n : ℕ) (p : Parent) → IsParent parents n p → Step n p
      step n p e =
          let g = gave.from_port n p e in
          let x = parts v f tree places g.0 n p g.2 in
          let seen = port_seen net numbers v of.view g.0 g.1 in
          let b = in_tree.gives g.0 x.port x.number g.1 x.is_root x.designates x.found in
          let here : name_at members n ≡ g.0.name.bridge = named_place n g.0.bridge g.0.name.bridge x.here seen.has_numbers.bridge in
          let there : name_at members p.place ≡ b.0 = named_place p.place x.port.bridge b.0 x.there b.2 in
          let low = placed.in_list x.port.bridge p.place x.there in
          let long = gave.long in
          record {
            is_parent = subst (λ a. ParentIn (trees_of net o) tree a (name_at members p.place)) (sym here) (subst (ParentIn (trees_of net o) tree g.0.name.bridge) (sym there) b.1);
            low = omega arith;
            here = g.0.bridge;
            here_is = ap (fin.get numbers.bridges) here ∙ seen.has_numbers.bridge;
            there = x.port.bridge;
            there_is = ap (fin.get numbers.bridges) there ∙ b.2;
            between = x.between;
          }

      cist_ends : (n : ℕ) (p : Parent) → Step n p → HasTree (trees_of net o) 0 (name_at members n) × HasTree (trees_of net o) 0 (name_at members p.place)
      cist_ends n p s = let e = in_tree.ends (name_at members n) (name_at members p.place) s.is_parent in (in_tree.in_cist (name_at members n) e.0, in_tree.in_cist (name_at members p.place) e.1)

      all : (n : ℕ) (b : List ℕ) → n < length members → ParentIn (trees_of net o) tree (name_at members n) b → (p : Parent) × IsParent parents n p
      all n b low h =
          let g = in_tree.given_by (name_at members n) b h in
          let seen = port_seen net numbers v of.view g.0 g.1 in
          let ends = in_tree.ends (name_at members n) b h in
          let r = g.3.0 in
          let k = g.3.1 in
          let own : fin.get numbers.bridges (name_at members n) ≡ Some g.0.bridge = ap (fin.get numbers.bridges) (sym g.2) ∙ seen.has_numbers.bridge in
          let here = has_place (name_at members n) g.0.bridge ends.0 own in
          let there = has_place b r.bridge ends.1 k.4 in
          let gives = from_parts v f tree places g.0 k.0 here.0 there.0 r k.1 k.2 k.3 here.1 there.1 in
          let one : here.0 ≡ n = one_named here.0 n (placed.in_list g.0.bridge here.0 here.1) low (named_place here.0 g.0.bridge (name_at members n) here.1 own) in
          let p = all_contained (λ q. (place : ℕ) (p : Parent) → seen_tree.given v f tree places q ≡ Some (place, p) → (other : Parent) × IsParent parents place other) v.ports g.0 gave.each_port g.1
          here.0 (record { place = there.0; is_between = not (same_in f.regions g.0.bridge r.bridge) }) gives in
          (p.0, subst (λ m. IsParent parents m p.0) one p.1)

      pub is_listed : IsListed (trees_of net o) tree (name_at members) parents
      is_listed = record {
        has_tree = λ n low. (let long = gave.long in has_tree_at n (omega arith));
        in_list = λ n p e. (step n p e).low;
        is_parent = λ n p e. (step n p e).is_parent;
        within = λ n p e near.
            let s = step n p e in
            let c = cist_ends n p s in
            together (name_at members n) (name_at members p.place) s.here s.there c.0 c.1 s.here_is s.there_is (is_same (same_in f.regions s.here s.there) (sym s.between ∙ near));
        between = λ n p e far.
            let s = step n p e in
            let c = cist_ends n p s in
            apart (name_at members n) (name_at members p.place) s.here s.there c.0 c.1 s.here_is s.there_is (is_other (same_in f.regions s.here s.there) (sym s.between ∙ far));
        all = λ n b low h. (let long = gave.long in all n b (omega arith) h);
      }

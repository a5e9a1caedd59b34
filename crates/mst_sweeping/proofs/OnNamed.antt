-- The bridges that are on, under names.
use Rattle.std.proofs.Common.{◌≡◌, ℕ, ◌&&◌, ◌||◌, Bool, true, false, cond, List, [], ◌∷◌, map, refl, sym, ap, ◌∙◌}
use Rattle.std.specs.List.{filter, list_any}
use Rattle.mst_net.specs.tables.Seen.{bridge_row}
use Rattle.mst_net.specs.tables.Tables.{Net, Numbers, BridgeRow}
use Rattle.mst_view.specs.Aggregation.{same_name}
use Rattle.mst_view.specs.Viewed.{Viewed, named_bridge}
use Rattle.mst_view.specs.declared.in_view.BridgeInView.{BridgeInView}
use Rattle.mst_plan.specs.forest.Agrees.{AreOf}
use Rattle.mst_plan.specs.forest.Forest.{Forest}
use Rattle.mst_plan.proofs.forest_lemmas.Lists.{filter_mapped, mapped_twice}
use Rattle.mst_sweep.proofs.facts_lemmas.Lists.{list_any-map}
use Rattle.mst_sweep.specs.vlan.Reach.{bridges_on}
use Rattle.mst_sweeping.specs.Links.{is_on, stays}
use Rattle.mst_sweeping.specs.Seen.{seen_on, seen_stays}

-- a test of those that pass another
pub any-filter : {A : Type 0} (f test : A → Bool) (xs : List A) → list_any test (filter f xs) ≡ list_any (λ x. f x && test x) xs
any-filter f test [] = refl
any-filter {A} f test (x ∷ xs) = go (f x) (any-filter f test xs)
  where
    go : (b : Bool) → list_any test (filter f xs) ≡ list_any (λ x. f x && test x) xs → list_any test (cond b (x ∷ filter f xs) (filter f xs)) ≡ ((b && test x) || list_any (λ x. f x && test x) xs)
    go true rest = ap (λ c. test x || c) rest
    go false rest = rest

module _ (net : Net) (numbers : Numbers) (v : Viewed) (f : Forest) (of : AreOf net numbers v f.regions) where
  abbrev on : BridgeInView → Bool
  on b = (bridge_row b.bridge).is_on

  on_named : bridges_on net ≡ map (λ (b : BridgeInView). b.name) (filter on v.bridges)
  on_named =
      ap (λ (es : List (List ℕ × BridgeRow)). map (λ e. e.0) (filter (λ e. e.1.is_on) es)) (sym of.view.bridges)
      ∙ ap (map (λ (e : List ℕ × BridgeRow). e.0)) (filter_mapped (λ (e : List ℕ × BridgeRow). e.1.is_on) named_bridge v.bridges)
      ∙ mapped_twice (λ (e : List ℕ × BridgeRow). e.0) named_bridge (filter on v.bridges)

  pub on_same : (name : List ℕ) → seen_on v name ≡ is_on net name
  on_same name =
      sym (ap (list_any (λ x. same_name x name)) on_named
      ∙ list_any-map (λ x. same_name x name) (λ (b : BridgeInView). b.name) (filter on v.bridges)
      ∙ any-filter on (λ (b : BridgeInView). same_name b.name name) v.bridges)

pub stays_same : (a b : Net) (n k : Numbers) (v w : Viewed) (f g : Forest) → AreOf a n v f.regions → AreOf b k w g.regions → (name : List ℕ) → seen_stays v w name ≡ stays a b name
stays_same a b n k v w f g of so name = λ i. on_same a n v f of name i && on_same b k w g so name i

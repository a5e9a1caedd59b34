-- The parts of bridges in regions, by the numbers of the regions' identifiers.
use Rattle.std.proofs.Common.{◌≡◌, ℕ, ◌==◌, nat_eq, Bool, true, List, [], ◌∷◌, map, Option, Some, refl, sym, ap, ◌∙◌}
use Rattle.std.specs.List.{Contains, filter}
use Rattle.std.specs.Map.{lookup}
use Rattle.std.specs.FinMap as fin
use Rattle.std.proofs.lemmas.List.Elements.{All-contains_itself, All-map, All-weaker}
use Rattle.mst_graph.specs.Adding.{AreKeyed}
use Rattle.mst_graph.specs.Groups.{AreGroups}
use Rattle.mst_graph.proofs.Alike.{alike_groups}
use Rattle.mst_view.specs.Viewed.{Viewed}
use Rattle.mst_view.specs.declared.in_view.BridgeInView.{BridgeInView}
use Rattle.mst_tables.specs.Tables.{Net, Numbers}
use Rattle.mst_roles.specs.forest.config.Regions.{region_of, same_region}
use Rattle.mst_roles.specs.forest.Agrees.{AreOf}
use Rattle.mst_roles.specs.forest.Forest.{Forest}
use Rattle.mst_roles.proofs.forest_lemmas.config_lemmas.SameRegion.{told}
use Rattle.mst_judged.specs.reasons.Seen.{names_in}
use Rattle.mst_judged.specs.reasons.Reasons.{Parts}
use Rattle.mst_tree_judges.proofs.Keys.{key_row}
use Rattle.mst_judged.proofs.NamedIn.{have_numbers}

abbrev pub with_regions : List (ℕ × ℕ) → List BridgeInView → List (List ℕ × Option ℕ)
with_regions regions bridges = map (λ b. (b.name, lookup (nat_eq b.bridge.number) regions)) bridges

pub first_names : (regions : List (ℕ × ℕ)) (bridges : List BridgeInView) → map (λ (p : List ℕ × Option ℕ). p.0) (with_regions regions bridges) ≡ names_in bridges
first_names regions [] = refl
first_names regions (b ∷ bridges) = ap (λ names. b.name ∷ names) (first_names regions bridges)

module _ (net : Net) (numbers : Numbers) (v : Viewed) (f : Forest) (of : AreOf net numbers v f.regions) where
  abbrev pub key : List ℕ → Option ℕ
  key name = Some (region_of net name)

  pub are_keyed : (test : BridgeInView → Bool) → AreKeyed key (with_regions f.regions (filter test v.bridges))
  are_keyed test =
      let bridges = filter test v.bridges in
      All-map (λ (p : List ℕ × Option ℕ). p.1 ≡ key p.0) (λ (b : BridgeInView). (b.name, lookup (nat_eq b.bridge.number) f.regions)) bridges
      (All-weaker (Contains bridges) (λ (b : BridgeInView). lookup (nat_eq b.bridge.number) f.regions ≡ key b.name)
      (λ b h. of.regions.identifiers b.name b.bridge.number (have_numbers net numbers v of.view test b h)) bridges (All-contains_itself bridges))

  pub region_groups : (same : Option ℕ → Option ℕ → Bool) → ((a b : ℕ) → same (Some a) (Some b) ≡ (a == b)) → (bridges : List (List ℕ)) → ((x : List ℕ) → Contains bridges x → Contains (fin.keys net.bridges) x) → (parts : Parts)
      → AreGroups (λ x y. same (key x) (key y) ≡ true) bridges parts → AreGroups (λ x y. same_region net x y ≡ true) bridges parts
  region_groups same is bridges there parts =
      alike_groups (λ x y. same (key x) (key y) ≡ true) (λ x y. same_region net x y ≡ true) bridges parts
      (λ x y hx hy.
      let a = key_row net x (there x hx) in
      let b = key_row net y (there y hy) in
      let e : same (key x) (key y) ≡ same_region net x y = is (region_of net x) (region_of net y) ∙ told net of.network x y a.0 b.0 a.1 b.1 in
      (λ h. sym e ∙ h, λ h. e ∙ h))

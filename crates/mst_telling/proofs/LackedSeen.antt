-- What a promise names and the network hasn't, as it is seen in a view.
use Rattle.std.proofs.Common.{◌≡◌, ℕ, ◌&&◌, Bool, true, false, List, [], ◌∷◌, ◌++◌, map, refl, sym, ap, ◌∙◌}
use Rattle.std.specs.List.{list_all, list_any}
use Rattle.std.specs.FinMap as fin
use Rattle.mst_view.specs.Trees.{is_among}
use Rattle.mst_view.specs.View.{LogicalPort, port_names}
use Rattle.mst_view.specs.Viewed.{Viewed, member_lan, named_bridge, named_port}
use Rattle.mst_view.specs.declared.in_view.BridgeInView.{BridgeInView}
use Rattle.mst_view.specs.declared.in_view.MemberLan.{MemberLan}
use Rattle.mst_view.specs.declared.in_view.PortInView.{PortInView}
use Rattle.mst_tables.specs.Tables.{Net, Numbers, BridgeRow}
use Rattle.mst_roles.specs.forest.Msti.{is_had, has_msti}
use Rattle.mst_roles.specs.forest.Agrees.{AreOf}
use Rattle.mst_roles.specs.forest.Seen.{trees_at}
use Rattle.mst_reasons.proofs.summary_lemmas.Lists.{any_alike, any_mapped}
use Rattle.mst_roles.proofs.forest_lemmas.Entries.{all_weaker}
use Rattle.mst_roles.proofs.forest_lemmas.Lists.{mapped_twice}
use Rattle.mst_roles.proofs.forest_lemmas.Looking.{has_tree_at}
use Rattle.mst_roles.proofs.forest_lemmas.Seen.{SeenBridge, bridges_seen}

-- ---- items
-- each of the items of two lists passes
pub all_appended : {A : Type 0} (test : A → Bool) (xs ys : List A) → list_all test (xs ++ ys) ≡ (list_all test xs && list_all test ys)
all_appended test [] ys = refl
all_appended test (x ∷ xs) ys = ap (λ b. test x && b) (all_appended test xs ys) ∙ grouped (test x) (list_all test xs) (list_all test ys)
  where
    grouped : (a b c : Bool) → (a && (b && c)) ≡ ((a && b) && c)
    grouped true b c = refl
    grouped false b c = refl

-- ---- names
module _ (net : Net) (numbers : Numbers) (v : Viewed) (regions : List (ℕ × ℕ)) (of : AreOf net numbers v regions) where
  pub lan_names : map (λ (l : MemberLan). l.name) v.member_lans ≡ fin.keys net.lans
  lan_names = ap (map (λ (l : MemberLan). l.name)) of.view.member_lans ∙ mapped_twice (λ (l : MemberLan). l.name) (member_lan net) (fin.entries net.lans)

  pub names_of_ports : map (λ (p : PortInView). p.name) v.ports ≡ port_names net
  names_of_ports = sym (mapped_twice (λ (p : LogicalPort). p.name) named_port v.ports) ∙ ap (map (λ (p : LogicalPort). p.name)) of.view.ports

  -- ---- trees
  pub tree_seen : (tree : ℕ) → list_any (λ (b : BridgeInView). is_among (trees_at v b.bridge.number) tree) v.bridges ≡ is_had net tree
  tree_seen tree =
      any_alike (λ (b : BridgeInView). is_among (trees_at v b.bridge.number) tree) (λ b. has_msti net tree b.name) v.bridges
      (all_weaker (SeenBridge net numbers) _ (λ b seen. has_tree_at net numbers v regions of tree b.name b.bridge.number seen.has_number) v.bridges (bridges_seen net numbers v of.view))
      ∙ sym (any_mapped (λ (e : List ℕ × BridgeRow). has_msti net tree e.0) named_bridge v.bridges)
      ∙ ap (list_any (λ (e : List ℕ × BridgeRow). has_msti net tree e.0)) of.view.bridges
      ∙ sym (any_mapped (has_msti net tree) (λ (e : List ℕ × BridgeRow). e.0) (fin.entries net.bridges))

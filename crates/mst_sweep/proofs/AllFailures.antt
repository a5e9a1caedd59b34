-- The failures of a view are those of its network.
use Rattle.std.proofs.Common.{◌≡◌, ℕ, Bool, true, false, cond, List, [], ◌∷◌, ◌++◌, map, filter, refl, sym, ap, ◌∙◌}
use Rattle.std.specs.FinMap as fin
use Rattle.mst_net.specs.tables.Seen.{bridge_row}
use Rattle.mst_net.specs.tables.Tables.{Net, Numbers, BridgeRow, LanRow}
use Rattle.mst_view.specs.Viewed.{Viewed, IsView, member_lan, named_bridge}
use Rattle.mst_view.specs.declared.in_view.BridgeInView.{BridgeInView}
use Rattle.mst_view.specs.declared.in_view.MemberLan.{MemberLan}
use Rattle.mst_vlan.proofs.forest_lemmas.Lists.{mapped_twice}
use Rattle.mst_vlan.specs.Reach.{bridges_on}
use Rattle.mst_sweep.specs.declared.failure.Failure.TheVariants.{Lan, Bridge}
use Rattle.mst_sweep.specs.Failures.{failures}

filter_mapped : {A B : Type 0} (test : B → Bool) (f : A → B) (xs : List A) → filter test (map f xs) ≡ map f (filter (λ x. test (f x)) xs)
filter_mapped test f [] = refl
filter_mapped {A} {B} test f (x ∷ xs) = go (test (f x)) (filter_mapped test f xs)
  where
    go : (b : Bool) → filter test (map f xs) ≡ map f (filter (λ x. test (f x)) xs)
        → cond b (f x ∷ filter test (map f xs)) (filter test (map f xs)) ≡ map f (cond b (x ∷ filter (λ x. test (f x)) xs) (filter (λ x. test (f x)) xs))
    go true rest = ap (λ ys. f x ∷ ys) rest
    go false rest = rest

module _ (net : Net) (numbers : Numbers) (v : Viewed) (view : IsView net numbers v) where
  lans : map (λ (l : MemberLan). Lan l.name) (filter (λ (l : MemberLan). l.is_up) v.member_lans) ≡ map (λ (e : List ℕ × LanRow). Lan e.0) (filter (λ (e : List ℕ × LanRow). e.1.is_up) (fin.entries net.lans))
  lans =
      ap (λ ls. map (λ (l : MemberLan). Lan l.name) (filter (λ (l : MemberLan). l.is_up) ls)) view.member_lans
      ∙ ap (map (λ (l : MemberLan). Lan l.name)) (filter_mapped (λ (l : MemberLan). l.is_up) (member_lan net) (fin.entries net.lans))
      ∙ mapped_twice (λ (l : MemberLan). Lan l.name) (member_lan net) (filter (λ (e : List ℕ × LanRow). e.1.is_up) (fin.entries net.lans))

  bridges : map (λ (b : BridgeInView). Bridge b.name) (filter (λ (b : BridgeInView). (bridge_row b.bridge).is_on) v.bridges) ≡ map Bridge (bridges_on net)
  bridges =
      sym (mapped_twice (λ (e : List ℕ × BridgeRow). Bridge e.0) named_bridge (filter (λ (b : BridgeInView). (bridge_row b.bridge).is_on) v.bridges))
      ∙ ap (map (λ (e : List ℕ × BridgeRow). Bridge e.0)) (sym (filter_mapped (λ (e : List ℕ × BridgeRow). e.1.is_on) named_bridge v.bridges) ∙ ap (filter (λ (e : List ℕ × BridgeRow). e.1.is_on)) view.bridges)
      ∙ sym (mapped_twice Bridge (λ (e : List ℕ × BridgeRow). e.0) (filter (λ (e : List ℕ × BridgeRow). e.1.is_on) (fin.entries net.bridges)))

  pub failures_seen : map (λ (l : MemberLan). Lan l.name) (filter (λ (l : MemberLan). l.is_up) v.member_lans) ++ map (λ (b : BridgeInView). Bridge b.name) (filter (λ (b : BridgeInView). (bridge_row b.bridge).is_on) v.bridges) ≡ failures net
  failures_seen = λ i. lans i ++ bridges i

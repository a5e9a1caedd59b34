-- Ways of hops: where they come by, and the walks that they are.
use Rattle.std.proofs.Common.{◌≡◌, ◌⊎◌, inl, inr, ℕ, List, [], ◌∷◌, refl, sym, ap, subst}
use Rattle.std.specs.List.{Contains}
use Rattle.mst_graph.specs.Walks.{Walk, stay, along, bridge_at, lan_at}
use Rattle.mst_graph.proofs.Members.{cases, here, there, in_none}
use Rattle.mst_view.specs.View.{LogicalPort}
use Rattle.mst_vlan.specs.roles.Active.{port_ends}
use Rattle.mst_path.specs.Paths.{Hop, IsHop, IsWay, ends_of, lans_of}

-- what a way comes by
pub record IsMet (ports : List LogicalPort) (a : List ℕ) (hops : List Hop) (x : Hop) : Type 0 where
  pub hop : IsHop ports x
  pub begins : Contains (a ∷ ends_of hops) x.leaving.name.bridge
  pub ends : Contains (ends_of hops) x.arriving.name.bridge
  pub takes : Contains (lans_of hops) x.leaving.lan

module _ (ports : List LogicalPort) (b : List ℕ) where
  pub met : (hops : List Hop) (a : List ℕ) → IsWay ports a b hops → (x : Hop) → Contains hops x → IsMet ports a hops x
  met [] a w x h = absurd (in_none x h)
  met (k ∷ hops) a w x h = go (cases k x hops h) (met hops k.arriving.name.bridge w.2 x)
    where
      go : (k ≡ x) ⊎ Contains hops x → (Contains hops x → IsMet ports k.arriving.name.bridge hops x) → IsMet ports a (k ∷ hops) x
      go (inl e) rest = subst (IsMet ports a (k ∷ hops)) e (record {
        hop = w.0;
        begins = subst (λ n. Contains (a ∷ ends_of (k ∷ hops)) n) (sym w.1) (here a (ends_of (k ∷ hops)));
        ends = here k.arriving.name.bridge (ends_of hops);
        takes = here k.leaving.lan (lans_of hops);
      })
      go (inr c) rest =
          let r = rest c in
          record {
            hop = r.hop;
            begins = there a x.leaving.name.bridge (ends_of (k ∷ hops)) r.begins;
            ends = there k.arriving.name.bridge x.arriving.name.bridge (ends_of hops) r.ends;
            takes = there k.leaving.lan x.leaving.lan (lans_of hops) r.takes;
          }

  -- a way that isn't empty ends at one of its ends
  pub last_end : (k : Hop) (hops : List Hop) (a : List ℕ) → IsWay ports a b (k ∷ hops) → Contains (ends_of (k ∷ hops)) b
  last_end k [] a w = subst (λ n. Contains (ends_of (k ∷ [])) n) w.2 (here k.arriving.name.bridge [])
  last_end k (h ∷ hops) a w = there k.arriving.name.bridge b (ends_of (h ∷ hops)) (last_end h hops k.arriving.name.bridge w.2)

  -- the walk over the ports of a way
  pub as_walk : (P : LogicalPort → Type 0) (hops : List Hop) (a : List ℕ) → IsWay ports a b hops → ((x : Hop) → Contains hops x → P x.leaving × P x.arriving) → Walk port_ends P (bridge_at a) (bridge_at b)
  as_walk P [] a w f = subst (λ (n : List ℕ). Walk port_ends P (bridge_at a) (bridge_at n)) w stay
  as_walk P (k ∷ hops) a w f =
      let own = f k (here k hops) in
      along k.leaving own.0 (inl (ap bridge_at w.1, refl))
      (along k.arriving own.1 (inr (ap lan_at (sym w.0.one_lan), refl)) (as_walk P hops k.arriving.name.bridge w.2 (λ x h. f x (there k x hops h))))

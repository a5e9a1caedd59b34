-- Over ports that make no loop there is at most one path.
use Rattle.std.proofs.Common.{◌≡◌, ◌≢◌, ◌⊎◌, inl, inr, ℕ, List, [], ◌∷◌, refl, sym, ap, ◌∙◌, subst}
use Rattle.std.specs.List.{Contains}
use Rattle.mst_graph.specs.Joined.{HasNoLoop, Other}
use Rattle.mst_graph.specs.Walks.{Walk, stay, along, bridge_at, lan_at}
use Rattle.mst_graph.proofs.Members.{there}
use Rattle.mst_graph.proofs.Walks.{joined_to, back}
use Rattle.mst_view.specs.View.{LogicalPort}
use Rattle.mst_vlan.specs.roles.Active.{port_ends}
use Rattle.mst_path.specs.Paths.{Hop, IsHop, ends_of, lans_of, IsPath}
use Rattle.mst_path.proofs.Short.{rest_of}
use Rattle.mst_path.proofs.Ways.{met, last_end, as_walk}

module _ (ports active : List LogicalPort) (among : (p : LogicalPort) → Contains ports p → Contains active p) (no_loop : HasNoLoop port_ends (Contains active))
    (same : (p q : LogicalPort) → Contains ports p → Contains ports q → (p ≡ q) ⊎ (p ≢ q)) (b : List ℕ) where
  abbrev Others : LogicalPort → LogicalPort → Type 0
  Others e = Other (Contains active) e

  -- the ports of the hops after the first one are on other bridges than the first, and on other logical LANs
  record Beyond (k : Hop) (x : Hop) : Type 0 where
    hop : IsHop ports x
    leaving : x.leaving.name.bridge ≢ k.leaving.name.bridge
    arriving : x.arriving.name.bridge ≢ k.leaving.name.bridge
    leaving_lan : x.leaving.lan ≢ k.leaving.lan
    arriving_lan : x.arriving.lan ≢ k.leaving.lan

  beyond : (k : Hop) (hops : List Hop) (a : List ℕ) → IsPath ports a b (k ∷ hops) → (x : Hop) → Contains hops x → Beyond k x
  beyond k hops a p x h =
      let m = met ports b hops k.arriving.name.bridge p.way.2 x h in
      let off : (n : List ℕ) → Contains (ends_of (k ∷ hops)) n → n ≢ k.leaving.name.bridge =
      λ n there_is e. p.bridges_once.0 (subst (λ n. Contains (ends_of (k ∷ hops)) n) (e ∙ p.way.1) there_is) in
      record {
        hop = m.hop;
        leaving = off x.leaving.name.bridge m.begins;
        arriving = off x.arriving.name.bridge (there k.arriving.name.bridge x.arriving.name.bridge (ends_of hops) m.ends);
        leaving_lan = λ e. p.lans_once.0 (subst (λ n. Contains (lans_of hops) n) e m.takes);
        arriving_lan = λ e. p.lans_once.0 (subst (λ n. Contains (lans_of hops) n) (m.hop.one_lan ∙ e) m.takes);
      }

  -- two paths leave a bridge by one port
  one_leaving : (h k : Hop) (hs ks : List Hop) (a : List ℕ) → IsPath ports a b (h ∷ hs) → IsPath ports a b (k ∷ ks) → (h.leaving ≢ k.leaving) → ⊥
  one_leaving h k hs ks a p q apart = no_loop h.leaving (among h.leaving p.way.0.leaves) (joined_to port_ends out (joined_to port_ends (back port_ends home) up))
    where
      -- a port on another bridge
      off : (r : LogicalPort) → Contains ports r → (r.name.bridge ≢ h.leaving.name.bridge) → Others h.leaving r
      off r c n = (among r c, λ e. n (ap (λ (r : LogicalPort). r.name.bridge) e))

      start : k.leaving.name.bridge ≡ h.leaving.name.bridge
      start = q.way.1 ∙ sym p.way.1

      out : Walk port_ends (Others h.leaving) (bridge_at h.leaving.name.bridge) (bridge_at b)
      out =
          subst (λ (n : List ℕ). Walk port_ends (Others h.leaving) (bridge_at n) (bridge_at b)) start
          (along k.leaving (among k.leaving q.way.0.leaves, λ e. apart (sym e)) (inl (refl, refl))
          (along k.arriving (off k.arriving q.way.0.arrives (λ e. q.way.0.two_bridges (start ∙ sym e))) (inr (ap lan_at (sym q.way.0.one_lan), refl))
          (as_walk ports b (Others h.leaving) ks k.arriving.name.bridge q.way.2
          (λ x c.
          let y = beyond k ks a q x c in
          (off x.leaving y.hop.leaves (λ e. y.leaving (e ∙ sym start)), off x.arriving y.hop.arrives (λ e. y.arriving (e ∙ sym start)))))))

      home : Walk port_ends (Others h.leaving) (bridge_at h.arriving.name.bridge) (bridge_at b)
      home = as_walk ports b (Others h.leaving) hs h.arriving.name.bridge p.way.2 (λ x c. let y = beyond h hs a p x c in (off x.leaving y.hop.leaves y.leaving, off x.arriving y.hop.arrives y.arriving))

      up : Walk port_ends (Others h.leaving) (bridge_at h.arriving.name.bridge) (lan_at h.leaving.lan)
      up = along h.arriving (off h.arriving p.way.0.arrives (λ e. p.way.0.two_bridges (sym e))) (inl (refl, ap lan_at (sym p.way.0.one_lan))) stay

  -- and arrive by one
  one_arriving : (h k : Hop) (hs ks : List Hop) (a : List ℕ) → IsPath ports a b (h ∷ hs) → IsPath ports a b (k ∷ ks) → (h.leaving ≡ k.leaving) → (h.arriving ≢ k.arriving) → ⊥
  one_arriving h k hs ks a p q same_leaving apart = no_loop h.arriving (among h.arriving p.way.0.arrives) (joined_to port_ends home (joined_to port_ends (back port_ends out) up))
    where
      -- a port on another logical LAN
      off : (r : LogicalPort) → Contains ports r → (r.lan ≢ h.leaving.lan) → Others h.arriving r
      off r c n = (among r c, λ e. n (ap (λ (r : LogicalPort). r.lan) e ∙ sym p.way.0.one_lan))

      lan : h.leaving.lan ≡ k.leaving.lan
      lan = ap (λ (r : LogicalPort). r.lan) same_leaving

      home : Walk port_ends (Others h.arriving) (bridge_at h.arriving.name.bridge) (bridge_at b)
      home = as_walk ports b (Others h.arriving) hs h.arriving.name.bridge p.way.2 (λ x c. let y = beyond h hs a p x c in (off x.leaving y.hop.leaves y.leaving_lan, off x.arriving y.hop.arrives y.arriving_lan))

      out : Walk port_ends (Others h.arriving) (bridge_at k.arriving.name.bridge) (bridge_at b)
      out = as_walk ports b (Others h.arriving) ks k.arriving.name.bridge q.way.2 (λ x c. let y = beyond k ks a q x c in (off x.leaving y.hop.leaves (λ e. y.leaving_lan (e ∙ lan)), off x.arriving y.hop.arrives (λ e. y.arriving_lan (e ∙ lan))))

      up : Walk port_ends (Others h.arriving) (bridge_at k.arriving.name.bridge) (lan_at h.arriving.lan)
      up = along k.arriving (among k.arriving q.way.0.arrives, λ e. apart (sym e)) (inl (refl, ap lan_at (sym q.way.0.one_lan ∙ sym lan ∙ p.way.0.one_lan))) stay

  pub one_path : (hops others : List Hop) (a : List ℕ) → IsPath ports a b hops → IsPath ports a b others → hops ≡ others
  one_path [] [] a p q = refl
  one_path [] (k ∷ ks) a p q = absurd (q.bridges_once.0 (subst (λ n. Contains (ends_of (k ∷ ks)) n) (sym p.way) (last_end ports b k ks a q.way)))
  one_path (h ∷ hs) [] a p q = absurd (p.bridges_once.0 (subst (λ n. Contains (ends_of (h ∷ hs)) n) (sym q.way) (last_end ports b h hs a p.way)))
  one_path (h ∷ hs) (k ∷ ks) a p q = go (same h.leaving k.leaving p.way.0.leaves q.way.0.leaves) (same h.arriving k.arriving p.way.0.arrives q.way.0.arrives) (one_path hs ks h.arriving.name.bridge (rest_of ports b h hs a p))
    where
      go : (h.leaving ≡ k.leaving) ⊎ (h.leaving ≢ k.leaving) → (h.arriving ≡ k.arriving) ⊎ (h.arriving ≢ k.arriving) → (IsPath ports h.arriving.name.bridge b ks → hs ≡ ks) → h ∷ hs ≡ k ∷ ks
      go (inr n) other rest = absurd (one_leaving h k hs ks a p q n)
      go (inl e) (inr n) rest = absurd (one_arriving h k hs ks a p q e n)
      go (inl e) (inl f) rest =
          let tails : hs ≡ ks = rest (subst (λ (r : LogicalPort). IsPath ports r.name.bridge b ks) (sym f) (rest_of ports b k ks a q)) in
          λ i. record { leaving = e i; arriving = f i } ∷ tails i

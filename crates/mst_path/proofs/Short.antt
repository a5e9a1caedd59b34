-- Where there is a way there is a path, and it is no longer.
use Rattle.std.proofs.Common.{◌≡◌, ◌≢◌, ◌⊎◌, inl, inr, ℕ, ◌<◌, ◌≤◌, List, [], ◌∷◌, length, refl, sym, ◌∙◌, subst, arith}
use Rattle.std.specs.List.{Contains}
use Rattle.mst_graph.proofs.Members.{cases, here, there, in_none}
use Rattle.mst_view.specs.View.{LogicalPort}
use Rattle.mst_path.specs.Paths.{Hop, IsHop, IsWay, ends_of, lans_of, IsPath}
use Rattle.mst_path.proofs.Names.{name_cases, listed_or_not}

module _ (ports : List LogicalPort) (b : List ℕ) where
  abbrev pub HasPath : List ℕ → Type 0
  HasPath a = (hops : List Hop) × IsPath ports a b hops

  -- one of so many hops at most
  pub record HasShort (a : List ℕ) (n : ℕ) : Type 0 where
    pub hops : List Hop
    pub path : IsPath ports a b hops
    pub short : length hops ≤ n

  longer_room : (a : List ℕ) (m n : ℕ) → m ≤ n → HasShort a m → HasShort a n
  longer_room a m n l h = record { hops = h.hops; path = h.path; short = let s = h.short in omega arith }

  -- what is left of a path after its first hop
  pub rest_of : (k : Hop) (hops : List Hop) (a : List ℕ) → IsPath ports a b (k ∷ hops) → IsPath ports k.arriving.name.bridge b hops
  rest_of k hops a p = record { way = p.way.2; bridges_once = p.bridges_once.1; lans_once = p.lans_once.1 }

  -- a path from a bridge that a path meets
  cut_off : (hops : List Hop) (c a : List ℕ) → IsPath ports c b hops → Contains (c ∷ ends_of hops) a → HasShort a (length hops)
  cut_off [] c a p h = elim (cases c a [] h) [
    | inl e ↦ record { hops = []; path = subst (λ n. IsPath ports n b []) e p; short = omega arith }
    | inr k ↦ absurd (in_none a k)
  ]
  cut_off (k ∷ hops) c a p h = elim (cases c a (ends_of (k ∷ hops)) h) [
    | inl e ↦ record { hops = k ∷ hops; path = subst (λ n. IsPath ports n b (k ∷ hops)) e p; short = omega arith }
    | inr m ↦ longer_room a (length hops) (length (k ∷ hops)) (omega arith) (cut_off hops k.arriving.name.bridge a (rest_of k hops c p) m)
  ]

  -- a path on by a port of a bridge that a path doesn't meet, on one of its logical LANs
  bypass : (hops : List Hop) (c : List ℕ) (port : LogicalPort) → Contains ports port → IsPath ports c b hops → (Contains (c ∷ ends_of hops) port.name.bridge → ⊥) → Contains (lans_of hops) port.lan → HasShort port.name.bridge (length hops)
  bypass [] c port own p none l = absurd (in_none port.lan l)
  bypass (k ∷ hops) c port own p none l = go (name_cases k.leaving.lan port.lan) (bypass hops k.arriving.name.bridge port own (rest_of k hops c p) (λ h. none (there c port.name.bridge (ends_of (k ∷ hops)) h)))
    where
      go : (k.leaving.lan ≡ port.lan) ⊎ (k.leaving.lan ≢ port.lan) → (Contains (lans_of hops) port.lan → HasShort port.name.bridge (length hops)) → HasShort port.name.bridge (length (k ∷ hops))
      go (inl e) rest = record {
        hops = record { leaving = port; arriving = k.arriving } ∷ hops;
        path = record {
          way = (
            record {
              leaves = own;
              arrives = p.way.0.arrives;
              one_lan = sym e ∙ p.way.0.one_lan;
              two_bridges = λ same. none (there c port.name.bridge (ends_of (k ∷ hops)) (subst (λ n. Contains (ends_of (k ∷ hops)) n) (sym same) (here k.arriving.name.bridge (ends_of hops))));
            },
            refl,
            p.way.2,
          );
          bridges_once = (λ h. none (there c port.name.bridge (ends_of (k ∷ hops)) h), p.bridges_once.1);
          lans_once = (λ h. p.lans_once.0 (subst (λ n. Contains (lans_of hops) n) (sym e) h), p.lans_once.1);
        };
        short = omega arith;
      }
      go (inr n) rest = longer_room port.name.bridge (length hops) (length (k ∷ hops)) (omega arith) (rest (elim (cases k.leaving.lan port.lan (lans_of hops) l) [ inl e ↦ absurd (n e) | inr m ↦ m ]))

  -- a path with one more hop before it is one, or there is one that isn't longer than it was
  longer : (k : Hop) (hops : List Hop) → IsHop ports k → IsPath ports k.arriving.name.bridge b hops → IsPath ports k.leaving.name.bridge b (k ∷ hops) ⊎ HasShort k.leaving.name.bridge (length hops)
  longer k hops own p = go (listed_or_not (k.arriving.name.bridge ∷ ends_of hops) k.leaving.name.bridge) (listed_or_not (lans_of hops) k.leaving.lan)
    where
      go : Contains (k.arriving.name.bridge ∷ ends_of hops) k.leaving.name.bridge ⊎ (Contains (k.arriving.name.bridge ∷ ends_of hops) k.leaving.name.bridge → ⊥) → Contains (lans_of hops) k.leaving.lan ⊎ (Contains (lans_of hops) k.leaving.lan → ⊥)
          → IsPath ports k.leaving.name.bridge b (k ∷ hops) ⊎ HasShort k.leaving.name.bridge (length hops)
      go (inl h) l = inr (cut_off hops k.arriving.name.bridge k.leaving.name.bridge p h)
      go (inr n) (inl l) = inr (bypass hops k.arriving.name.bridge k.leaving own.leaves p n l)
      go (inr n) (inr m) = inl (record { way = (own, refl, p.way); bridges_once = (n, p.bridges_once); lans_once = (m, p.lans_once) })

  -- a way is a path, or there is a shorter one
  pub record HasLess (a : List ℕ) (n : ℕ) : Type 0 where
    pub hops : List Hop
    pub path : IsPath ports a b hops
    pub less : length hops < n

  pub path_or_less : (hops : List Hop) (a : List ℕ) → IsWay ports a b hops → IsPath ports a b hops ⊎ HasLess a (length hops)
  path_or_less [] a w = inl (record { way = w; bridges_once = (λ h. in_none a h, tt); lans_once = tt })
  path_or_less (k ∷ hops) a w = subst (λ a. IsPath ports a b (k ∷ hops) ⊎ HasLess a (length (k ∷ hops))) w.1 (go (path_or_less hops k.arriving.name.bridge w.2))
    where
      less : (n : ℕ) → n ≤ length hops → HasShort k.leaving.name.bridge n → HasLess k.leaving.name.bridge (length (k ∷ hops))
      less n l h = record { hops = h.hops; path = h.path; less = let s = h.short in omega arith }

      with_hop : (others : List Hop) → length others < length hops → IsPath ports k.leaving.name.bridge b (k ∷ others) ⊎ HasShort k.leaving.name.bridge (length others) → HasLess k.leaving.name.bridge (length (k ∷ hops))
      with_hop others l (inl p) = record { hops = k ∷ others; path = p; less = omega arith }
      with_hop others l (inr h) = less (length others) (omega arith) h

      own : IsPath ports k.leaving.name.bridge b (k ∷ hops) ⊎ HasShort k.leaving.name.bridge (length hops) → IsPath ports k.leaving.name.bridge b (k ∷ hops) ⊎ HasLess k.leaving.name.bridge (length (k ∷ hops))
      own (inl p) = inl p
      own (inr h) = inr (less (length hops) (omega arith) h)

      go : IsPath ports k.arriving.name.bridge b hops ⊎ HasLess k.arriving.name.bridge (length hops) → IsPath ports k.leaving.name.bridge b (k ∷ hops) ⊎ HasLess k.leaving.name.bridge (length (k ∷ hops))
      go (inl p) = own (longer k hops w.0 p)
      go (inr q) = inr (with_hop q.hops q.less (longer k q.hops w.0 q.path))

  pub shortened : (hops : List Hop) (a : List ℕ) → IsWay ports a b hops → HasPath a
  shortened hops a w = elim (path_or_less hops a w) [ inl p ↦ (hops, p) | inr h ↦ (h.hops, h.path) ]

  -- so a way than which no path is shorter is one
  pub shortest : (hops : List Hop) (a : List ℕ) → IsWay ports a b hops → ((others : List Hop) → IsPath ports a b others → length hops ≤ length others) → IsPath ports a b hops
  shortest hops a w low = elim (path_or_less hops a w) [ inl p ↦ p | inr h ↦ (let a = low h.hops h.path in let l = h.less in absurd (omega arith)) ]

-- A port on a wiring has an entry in the tables of its LAN and of its bridge.
use Rattle.std.proofs.Common.{◌≡◌, ℕ, ◌≤◌, List, length, Option, Some, None, is_some, refl, sym, ◌∙◌, ap, arith}
use Rattle.std.specs.List.{Contains}
use Rattle.mst_topology.specs.Places.{in_map, option_at, flat, HasRoomAt}
use Rattle.mst_topology.specs.Chains.{IsLast}

room_of : {V : Type 0} (values : List (ℕ × Option V)) (n : ℕ) (x : V) → option_at values n ≡ Some x → HasRoomAt values n
room_of {V} values n x e = go (in_map values n) refl
  where
    go : (o : Option (Option V)) → in_map values n ≡ o → HasRoomAt values n
    go None f = (let e2 : None ≡ Some x = sym (ap flat f) ∙ e in let g : ⊥ = cc in absurd g)
    go (Some o) f = ap is_some f

pub last_there : {A : Type 0} (xs : List A) (P : A → Type 0) (last : List (ℕ × Option ℕ)) (n : ℕ) → IsLast xs P (length xs) (option_at last n) → (x : A) → Contains xs x → P x → HasRoomAt last n
last_there xs P last n is x c p = go (option_at last n) refl
  where
    go : (o : Option ℕ) → option_at last n ≡ o → HasRoomAt last n
    go None e = absurd (is.none_after c.0 x (rw e (omega arith)) c.1 (c.1, c.2) p)
    go (Some k) e = room_of last n k e

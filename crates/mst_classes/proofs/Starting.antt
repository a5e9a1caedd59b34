-- Where a set begins to split numbers.
use Rattle.std.proofs.Common.{◌≡◌, ℕ, zero, ◌+◌, ◌<◌, ◌≤◌, ◌⊎◌, inl, inr, Bool, true, List, length, get_or, replicate, sym, ap, subst, ◌∙◌, arith, true≢false}
use Rattle.std.specs.Prelude.{Vec}
use Rattle.std.specs.declared.alloc.Global.{Global}
use Rattle.std.proofs.lemmas.Bool.{cases_lt}
use Rattle.std.proofs.lemmas.List.{get_or-replicate, get_or_past, length-replicate}
use Rattle.mst_ids.specs.Vids.{has, set_where, is_vid}
use Rattle.mst_ids.specs.VidBits.{has-set_where}
use Rattle.mst_classes.specs.Alike.{IsSplit}
use Rattle.mst_classes.specs.Splitting.{AreApart, IsReady, IsReadyFor}
use Rattle.mst_classes.specs.declared.splitting.Splitting.{Splitting}

-- nothing is given
pub nothing : (given : List ℕ) (n i : ℕ) → given ≡ replicate n 0 → get_or given i 0 ≡ 0
nothing given n i e = let here : get_or given i 0 ≡ get_or (replicate n zero) i 0 = ap (λ (g : List ℕ). get_or g i 0) e in here ∙ by (cases_lt i n)
  where
    by : (i < n) ⊎ (n ≤ i) → get_or (replicate n zero) i 0 ≡ zero
    by (inl l) = get_or-replicate n i 0 0 l
    by (inr past) = get_or_past (replicate n 0) i 0 (subst (λ k. k ≤ i) (sym (length-replicate n 0)) past)

module _ (numbers given : Vec ℕ Global) (n : ℕ) (none : given.items ≡ replicate n 0) (room : n ≡ 16384) (long : length numbers.items ≡ 4094) where
  length_given : length given.items ≡ 16384
  length_given = ap length none ∙ length-replicate n 0 ∙ room

  pub new_ready : ((i : ℕ) → get_or numbers.items i 0 < 4096) → IsReady (record { numbers = numbers; given = given; next = 4096 })
  new_ready small = record {
    as_long = long;
    room = length_given;
    some = omega arith;
    few = omega arith;
    below = small;
    given_below = λ i. let e : get_or given.items i 0 ≡ 0 = nothing given.items n i none in omega arith;
  }

  -- all VIDs get other numbers
  pub anew : ((i : ℕ) → get_or numbers.items i 0 < 16384) → (vids : List Bool) → vids ≡ set_where is_vid → IsReadyFor vids (record { numbers = numbers; given = given; next = 1 })
  anew within vids all = record {
    as_long = long;
    room = length_given;
    some = omega arith;
    few = omega arith;
    within = within;
    others_below = λ i l e. absurd (true≢false (sym (member i l) ∙ e));
    given_below = λ i. let e : get_or given.items i 0 ≡ 0 = nothing given.items n i none in omega arith;
  }
    where
      member : (i : ℕ) → i < 4094 → has vids (i + 1) ≡ true
      member i l = ap (λ s. has s (i + 1)) all ∙ has-set_where is_vid (i + 1) (omega arith) ∙ grind arith

-- some room is left for a set
pub with_room : (vids : List Bool) (s : Splitting) → IsReady s → s.next ≤ 12290 → IsReadyFor vids s
with_room vids s r few = record {
  as_long = r.as_long;
  room = r.room;
  some = r.some;
  few = few;
  within = λ i. let below : get_or s.numbers.items i 0 < s.next = r.below i in omega arith;
  others_below = λ i l e. r.below i;
  given_below = r.given_below;
}

-- numbers that were renewed and then split
pub split_after : {K : Type 0} (key : ℕ → K) (first numbers split : List ℕ) → ((i j : ℕ) → i < 4094 → j < 4094 → get_or numbers i 0 ≡ get_or numbers j 0 → get_or first i 0 ≡ get_or first j 0) → IsSplit key numbers split → IsSplit key first split
split_after key first numbers split before s = record { as_long = s.as_long; finer = λ i j li lj e. let f = s.finer i j li lj e in (before i j li lj f.0, f.1) }

-- or are all apart
pub split_apart : {K : Type 0} (key : ℕ → K) (first numbers : List ℕ) → length numbers ≡ 4094 → AreApart numbers → IsSplit key first numbers
split_apart key first numbers long apart = record { as_long = long; finer = λ i j li lj e. let same = apart i j li lj e in (ap (λ k. get_or first k 0) same, ap (λ k. key (k + 1)) same) }

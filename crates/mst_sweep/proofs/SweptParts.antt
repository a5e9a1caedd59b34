-- The parts of a sweep, one after another, are the sweep.
use Rattle.std.proofs.Common.{◌≡◌, ℕ, ◌+◌, ◌<◌, cond, List, [], ◌∷◌, ◌++◌, take, drop, refl, sym, ap, subst, ◌∙◌, append-nil, arith}
use Rattle.std.specs.List.{AllZip, Contains, flat_map, count_by, sum_by, range_with_len}
use Rattle.std.proofs.lemmas.Grind.{flat_map-append}
use Rattle.std.proofs.lemmas.List.{take-append-drop}
use Rattle.std.proofs.lemmas.List.Elements.{Contains-append_left, Contains-append_right}
use Rattle.std.proofs.lemmas.List.Sums.{sum_by-append, sum_by-cons}
use Rattle.mst_net.specs.tables.Tables.{Net}
use Rattle.mst_vlan.specs.forest.Outcome.{Outcome}
use Rattle.mst_sweep.specs.Failures.{alone, failures}
use Rattle.mst_rows.specs.Rows.{Row}
use Rattle.mst_sweep.specs.SweepText.{Told, IsTold, sweep_row, IsSweep, AreRowsOf}
use Rattle.mst_sweep.specs.Pairs.{pairs_of, last_of_pairs, IsPairTold, IsPairs, ArePairsParts}
use Rattle.mst_sweep.specs.SweepParts.{PartOf, whole_part, part_of, ToldOfPart, AreSweepParts, but_last_row}
use Rattle.mst_sweep.proofs.PartsJoined.{all_parts}

-- ---- a part
-- the whole is one
pub whole_is : {A : Type 0} (all : List A) → part_of whole_part all ≡ all
whole_is all = sym (append-nil (part_of whole_part all)) ∙ all_parts 1 (omega arith) all

-- what is in a part is in the list
pub from_part : {A : Type 0} (part : PartOf) (all : List A) (x : A) → Contains (part_of part all) x → Contains all x
from_part part all x h = from_drop _ all (from_take _ _ h)
  where
    from_take : (n : ℕ) (xs : List _) → Contains (take n xs) x → Contains xs x
    from_take n xs h = subst (λ l. Contains l x) (take-append-drop n xs) (Contains-append_left (take n xs) (drop n xs) x h)

    from_drop : (n : ℕ) (xs : List _) → Contains (drop n xs) x → Contains xs x
    from_drop n xs h = subst (λ l. Contains l x) (take-append-drop n xs) (Contains-append_right (take n xs) (drop n xs) x h)

-- ---- without the last
stays : (rows : List Row) (row last : Row) → but_last_row (row ∷ rows ++ last ∷ []) ≡ row ∷ but_last_row (rows ++ last ∷ [])
stays [] row last = refl
stays (next ∷ rows) row last = refl

goes : (rows : List Row) (last : Row) → but_last_row (rows ++ last ∷ []) ≡ rows
goes [] last = refl
goes (row ∷ rows) last = stays rows row last ∙ ap (λ l. row ∷ l) (goes rows last)

-- ---- parts of any things
pub zip_joined : {A B : Type 0} (R : A → B → Type 0) (xs ys : List A) (us vs : List B) → AllZip R xs us → AllZip R ys vs → AllZip R (xs ++ ys) (us ++ vs)
zip_joined R [] ys [] vs h k = k
zip_joined R [] ys (u ∷ us) vs h k = absurd h
zip_joined R (x ∷ xs) ys [] vs h k = absurd h
zip_joined R (x ∷ xs) ys (u ∷ us) vs h k = (h.0, zip_joined R xs ys us vs h.1 k)

module _ {A : Type 0} (Tells : A → Told → Type 0) (last : List A → ℕ → Row) where
  -- without the last row
  without_last : (xs : List A) (rows : List Row) (cuts : ℕ) (x : AreRowsOf Tells last xs rows cuts) → but_last_row rows ≡ flat_map (λ (t : Told). t.rows) x.told
  without_last xs rows cuts x = ap but_last_row x.is ∙ goes (flat_map (λ (t : Told). t.rows) x.told) (last xs cuts)

  -- what is told of parts of a list, one after another
  module _ (all : List A) (count : ℕ) where
    abbrev numbered : ℕ → List A
    numbered number = part_of (record { number = number; count = count }) all

    record Together (numbers : List ℕ) (parts : List ToldOfPart) : Type 0 where
      told : List Told
      each : AllZip Tells (flat_map numbered numbers) told
      rows : flat_map (λ (p : ToldOfPart). but_last_row p.rows) parts ≡ flat_map (λ (t : Told). t.rows) told
      cuts : sum_by (λ (p : ToldOfPart). p.cuts) parts ≡ count_by (λ (t : Told). t.cuts) told

    together : (numbers : List ℕ) (parts : List ToldOfPart) → AllZip (λ number (part : ToldOfPart). AreRowsOf Tells last (numbered number) part.rows part.cuts) numbers parts → Together numbers parts
    together [] [] h = record { told = []; each = tt; rows = refl; cuts = refl }
    together [] (part ∷ parts) h = absurd h
    together (n ∷ numbers) [] h = absurd h
    together (n ∷ numbers) (part ∷ parts) h =
        let x = h.0 in
        let rest = together numbers parts h.1 in
        let first = without_last (numbered n) part.rows part.cuts x in
        record {
          told = x.told ++ rest.told;
          each = zip_joined Tells (numbered n) (flat_map numbered numbers) x.told rest.told x.each rest.each;
          rows = (λ i. first i ++ rest.rows i) ∙ sym (flat_map-append (λ (t : Told). t.rows) x.told rest.told);
          cuts = sum_by-cons (λ (p : ToldOfPart). p.cuts) part parts ∙ (λ i. x.counted i + rest.cuts i) ∙ sym (sum_by-append (λ (t : Told). cond t.cuts 1 0) x.told rest.told);
        }

  -- all parts
  pub all_joined : (all : List A) → ((told others : List Told) → AllZip Tells all told → AllZip Tells all others → told ≡ others) → (count : ℕ) → 0 < count → (parts : List ToldOfPart) (rows : List Row) (cuts : ℕ)
      → AllZip (λ number (part : ToldOfPart). AreRowsOf Tells last (part_of (record { number = number; count = count }) all) part.rows part.cuts) (range_with_len 1 count) parts → AreRowsOf Tells last all rows cuts
      → (flat_map (λ (p : ToldOfPart). but_last_row p.rows) parts ≡ but_last_row rows) × (sum_by (λ (p : ToldOfPart). p.cuts) parts ≡ cuts)
  all_joined all one count some parts rows cuts are x =
      let t = together all count (range_with_len 1 count) parts are in
      let each : AllZip Tells all t.told = subst (λ l. AllZip Tells l t.told) (all_parts count some all) t.each in
      let same : t.told ≡ x.told = one t.told x.told each x.each in (
        t.rows ∙ ap (flat_map (λ (t : Told). t.rows)) same ∙ sym (without_last all rows cuts x),
        t.cuts ∙ ap (count_by (λ (t : Told). t.cuts)) same ∙ sym x.counted,
      )

-- of the failures of a network
pub joined : (net : Net) (o : Outcome) → ((told others : List Told) → AllZip (λ failure. IsTold net o (alone failure)) (failures net) told → AllZip (λ failure. IsTold net o (alone failure)) (failures net) others → told ≡ others)
    → (count : ℕ) → 0 < count → (parts : List ToldOfPart) (rows : List Row) (cuts : ℕ) → AreSweepParts net o count parts → IsSweep net o rows cuts
    → (flat_map (λ (p : ToldOfPart). but_last_row p.rows) parts ≡ but_last_row rows) × (sum_by (λ (p : ToldOfPart). p.cuts) parts ≡ cuts)
joined net o one count some parts rows cuts are x = all_joined (λ failure. IsTold net o (alone failure)) sweep_row (failures net) one count some parts rows cuts are x

-- and of pairs of them
pub pairs_joined : (net : Net) (o : Outcome) → ((told others : List Told) → AllZip (IsPairTold net o) (pairs_of (failures net)) told → AllZip (IsPairTold net o) (pairs_of (failures net)) others → told ≡ others)
    → (count : ℕ) → 0 < count → (parts : List ToldOfPart) (rows : List Row) (cuts : ℕ) → ArePairsParts net o count parts → IsPairs net o rows cuts
    → (flat_map (λ (p : ToldOfPart). but_last_row p.rows) parts ≡ but_last_row rows) × (sum_by (λ (p : ToldOfPart). p.cuts) parts ≡ cuts)
pairs_joined net o one count some parts rows cuts are x = all_joined (IsPairTold net o) last_of_pairs (pairs_of (failures net)) one count some parts rows cuts are x

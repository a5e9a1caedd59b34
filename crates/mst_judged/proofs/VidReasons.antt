-- The reasons of groups of VIDs, where their classes have the parts.
use Rattle.std.proofs.Common.{Vec, Global, ◌≡◌, ◌+◌, ◌<◌, ◌≤◌, ℕ, zero, suc, Bool, true, List, get_or, [], length, map, sym, ap, subst, ◌∙◌, arith}
use Rattle.std.specs.List.{All, Contains}
use Rattle.std.proofs.lemmas.List.{get_or_default}
use Rattle.mst_ids.specs.Vids.{has}
use Rattle.mst_graph.specs.declared.keys.Numbering.{Numbering}
use Rattle.mst_graph.proofs.Members.{from_filter}
use Rattle.mst_view.specs.Viewed.{Viewed}
use Rattle.mst_reasons.specs.sweep.vlan.classes.AllVids.{NumberEach, all_vids}
use Rattle.mst_reasons.specs.sweep.vlan.classes.Classes.{AreClasses}
use Rattle.mst_reasons.specs.sweep.vlan.classes.Flags.{flag_at}
use Rattle.mst_reasons.specs.sweep.Cuts.{names_of}
use Rattle.mst_judged.specs.Islands.{HasBody, AreOfClasses}
use Rattle.mst_judged.specs.Valued.{AreValuesOf, value_at}
use Rattle.mst_reasons.specs.Named.{vids_in}
use Rattle.mst_reasons.specs.Reasons.{AreVidReasons, Parts}
use Rattle.mst_reasons.specs.declared.reason.Reason.{Reason}
use Rattle.mst_judged.proofs.OfVids.{so_of_vids}
use Rattle.mst_judged.proofs.VidParts.{each_class, vids_have}

abbrev Kept : Type 0
Kept = Vec (Vec (List ℕ) Global) Global

module _ (v : Viewed) (c : Numbering) (k : AreClasses v c) where
  -- each VID has a class, by lists that are these
  pub numbered : (numbers : List ℕ) (count : ℕ) → numbers ≡ c.numbers.items → count ≡ length c.firsts.items → NumberEach numbers count
  numbered numbers count same long = subst (λ ns. NumberEach ns count) (sym same) (each_class v c k count long)

  -- the places of first VIDs
  pub firsts_below : All (λ place. place < 4094) c.firsts.items
  firsts_below i d l = subst (λ p. p < 4094) (get_or_default c.firsts.items i 0 d l) (subst (λ n. get_or c.firsts.items i 0 < n) k.tell.as_long (k.classes.first i l).0)

  -- they rise, so there are no more classes than VIDs
  at_least : (n : ℕ) → n < length c.firsts.items → n ≤ get_or c.firsts.items n 0
  at_least zero l = omega arith
  at_least (suc n) l =
      let before : n ≤ get_or c.firsts.items n 0 = at_least n (omega arith) in
      let above : get_or c.firsts.items n 0 < get_or c.firsts.items (suc n) 0 = k.classes.rising n (suc n) (omega arith) l in
      omega arith

  pub class_below : (n : ℕ) → n < length c.firsts.items → n < 4094
  class_below n l =
      let at : get_or c.firsts.items n 0 < length k.numbers = (k.classes.first n l).0 in
      let long : length k.numbers ≡ 4094 = k.tell.as_long in
      let low : n ≤ get_or c.firsts.items n 0 = at_least n l in
      omega arith

  -- where the values that are told are those of the classes, and VIDs of one class have one value
  pub value_reasons : {B : Type 0} (none : B) (Has : ℕ → B → Type 0)
      → ((i j : ℕ) → i < 4094 → j < 4094 → get_or c.numbers.items i 0 ≡ get_or c.numbers.items j 0 → (value : B) → Has (i + 1) value → Has (j + 1) value)
      → (tell : List ℕ → B → List Reason) (vids flags : List Bool) (values kept : List B) (numbers : List ℕ) (reasons : List Reason) → numbers ≡ c.numbers.items → kept ≡ values
      → AreValuesOf none Has c.firsts.items flags values
      → ((vid : ℕ) → Contains (vids_in vids) vid → flag_at numbers flags vid ≡ true)
      → AreVidReasons (λ vid value. value ≡ value_at none numbers kept vid) tell vids reasons → AreVidReasons Has tell vids reasons
  value_reasons none Has moved tell vids flags values kept numbers reasons same same_kept of asked told =
      so_of_vids (λ vid value. value ≡ value_at none numbers kept vid) Has tell vids reasons
      (λ vid h value is.
      let class_has = vids_have v c k none Has moved flags values of vid (from_filter (has vids) all_vids vid h).0 (subst (λ ns. flag_at ns flags vid ≡ true) same (asked vid h)) in
      subst (Has vid) (sym (is ∙ (λ i. value_at none (same i) (same_kept i) vid))) class_has) told

  -- the same of parts
  pub vid_reasons : (HasParts : ℕ → Parts → Type 0)
      → ((i j : ℕ) → i < 4094 → j < 4094 → get_or c.numbers.items i 0 ≡ get_or c.numbers.items j 0 → (parts : Parts) → HasParts (i + 1) parts → HasParts (j + 1) parts)
      → (tell : List ℕ → Parts → List Reason) (vids flags : List Bool) (bodies kept : List Kept) (numbers : List ℕ) (reasons : List Reason) → numbers ≡ c.numbers.items → kept ≡ bodies
      → AreOfClasses HasParts c.firsts.items flags (map names_of bodies)
      → ((vid : ℕ) → Contains (vids_in vids) vid → flag_at numbers flags vid ≡ true)
      → AreVidReasons (HasBody numbers (map names_of kept)) tell vids reasons → AreVidReasons HasParts tell vids reasons
  vid_reasons HasParts moved tell vids flags bodies kept numbers reasons same same_kept of asked told =
      value_reasons [] HasParts moved tell vids flags (map names_of bodies) (map names_of kept) numbers reasons same (ap (map names_of) same_kept) of asked told

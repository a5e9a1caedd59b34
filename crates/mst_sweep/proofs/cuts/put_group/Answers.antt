use Rattle.std.proofs.Common.{◌≡◌, ◌∙◌, ℕ, ◌-◌, ◌<◌, List, [], ◌∷◌, ◌++◌, get_or, map, Some, sym, ap, subst, arith}
use Rattle.std.specs.Prelude.{OnOk, slice_get}
use Rattle.std.proofs.lemmas.List.{get_or-map}
use Rattle.mst_vlan.proofs.forest_lemmas.Lists.{no_some, some_is}
use Rattle.mst_rows.specs.Rows.{Row}
use Rattle.mst_sweep.specs.declared.cuts.CutBy.{CutBy}
use Rattle.mst_sweep.specs.Cuts.{group_row, group_rows, names_of, parts_at}
use Rattle.mst_sweep.proofs.cuts.put_group.Goals as goal

-- the rows of a group that begins with a VID
begins : (by : CutBy) (parts : ℕ → List (List (List ℕ))) (group : List ℕ) (vid : ℕ) → Some vid ≡ slice_get group 0 → group_rows by parts group ≡ group_row by group (parts vid)
begins by parts [] vid e = absurd (no_some vid (sym e))
begins by parts (v ∷ vs) vid e = ap (λ u. group_row by (v ∷ vs) (parts u)) (some_is v vid (sym e))

pub returns : goal.returns
returns g c first rows grew =
    let by = c.args.by.now in
    let group = c.args.group.now in
    let numbers = c.args.numbers.now in
    let each = c.args.each.now in
    let vid : ℕ = c.in-Some.vid.now in
    let n : ℕ = get_or numbers (vid - 1) 0 in
    let parts = c.index-each-number.result in
    let place : c.from.result ≡ vid = c.from.ensures ∙ c.value.ensures.value in
    let is : parts ≡ get_or each n parts = c.index-each-number.is ∙ ap (λ v. get_or each (get_or numbers (v - 1) 0) parts) place in
    let least : vid - 1 < 4094 = omega (arith, c.value.ensures.range.1, c.value.ensures.value) in
    let read : map (λ names. names.items) c.as_slice.result.now ≡ parts_at numbers (map names_of each) vid =
    ap (map (λ names. names.items)) c.as_slice.ensures.value ∙ ap names_of is ∙ sym (get_or-map names_of each n parts [] (c.requires.below (vid - 1) least)) in
    subst (λ (l : List Row). OnOk c.put_if_cut.result (g.R.Rows.grew first c.put_if_cut.new.out (rows ++ l)))
    (ap (group_row by group) read ∙ sym (begins by (parts_at numbers (map names_of each)) group vid c.in-Some.ensures.value))
    (c.put_if_cut.ensures first rows grew)

use Rattle.std.proofs.Common.{◌≡◌, ◌∙◌, [], ◌++◌, List, map, subst, sym}
use Rattle.std.specs.List.{flat_map}
use Rattle.std.specs.Result.{OnOk}
use Rattle.mst_rows.specs.Rows.{Row}
use Rattle.mst_telling.specs.Judged.{AreTexts, found_at}
use Rattle.mst_telling.specs.Once.{left_out, others, rows_now, told_now}
use Rattle.mst_telling.specs.Rows.{row_at}
use Rattle.mst_telling.specs.Texts.{news}
use Rattle.mst_telling.specs.Told.{Found}
use Rattle.mst_telling.proofs.Only.{put_new}
use Rattle.mst_telling.proofs.once.put_folded.Goals as goal

pub returns : goal.returns
returns g c before are first rows grew =
    let number = c.args.at.number in
    let step = c.args.at.step in
    let scope = c.args.scope.now in
    let found : List Found = map (found_at c.args.n) c.args.found.now in
    let nows : List Row = rows_now number found in
    let of = c.in_ok-folding.ensures in
    let folding = c.in_ok-folding.folding in
    let left = c.in_ok-add_all_left.ensures.added nows [] of.folds c.new-left.ensures in
    let were : AreTexts before folding.told.now = subst (AreTexts before) (sym of.told_is) are in
    let all = c.put_all_others.ensures nows before of.folds were first _ (c.in_ok-put_now.ensures (flat_map (left_out folding.number folding.scope.now nows) found) before left were first rows grew) in
    put_new (λ (all : List Row). OnOk c.put_all_others.result (g.R.Rows.grew first c.put_all_others.new.out all)) step before rows (told_now scope nows (flat_map (left_out number scope nows) found)) (flat_map (others number scope nows) found)
    (subst (λ (all : List Row). OnOk c.put_all_others.result (g.R.Rows.grew first c.put_all_others.new.out all))
    (λ i.
    (rows ++ map (row_at (of.step i)) (news before (told_now (of.scope_is i) (rows_now (of.number i) found) (flat_map (left_out (of.number i) (of.scope_is i) nows) found))))
    ++ map (row_at (of.step i)) (news before (flat_map (others (of.number i) (of.scope_is i) nows) found))) all)

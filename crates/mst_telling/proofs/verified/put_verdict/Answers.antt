use Rattle.std.proofs.Common.{◌≡◌, ◌∙◌, ◌+◌, ◌∷◌, [], ◌++◌, ℕ, Bool, List, ap, arith, length, length-append, map, subst, sym}
use Rattle.std.specs.List.{count_by}
use Rattle.std.proofs.lemmas.List.{length-map}
use Rattle.mst_rows.specs.Cells.{PromiseSaid}
use Rattle.mst_rows.specs.Rows.{Row, said}
use Rattle.mst_graph.specs.Lists.{has_any}
use Rattle.mst_telling.specs.Judged.{counts_of, network_counts, refused_by, verdicts_by}
use Rattle.mst_telling.specs.Verified.{joined, judged_count, last_row, promises_of, whole_rows}
use Rattle.mst_telling.proofs.GoesOn.{each_length}
use Rattle.mst_telling.proofs.Lines.{counts_there, refused_there, verdicts_there}
use Rattle.mst_telling.proofs.Whole.{flags_counted, put_four, verified}
use Rattle.mst_telling.proofs.verified.put_verdict.Goals as goal

pub promises-requires-clause-counted : goal.promises-requires-clause-counted
promises-requires-clause-counted g c = ap length (c.as_slice-counts.ensures.value ∙ c.in_ok-networks.ensures) ∙ each_length _ 0 c.args.lines.now

pub promises-requires-clause-flagged : goal.promises-requires-clause-flagged
promises-requires-clause-flagged g c = ap length (c.as_slice-flags.ensures.value ∙ c.in_ok-unkept.ensures.is) ∙ length-map (verdicts_by c.args.lines.now c.args.judgement.now) has_any ∙ each_length _ 0 c.args.lines.now

pub returns-clause-told : goal.returns-clause-told
returns-clause-told g c net o of_net are =
    let lines = c.args.lines.now in
    let judgement = c.args.judgement.now in
    let told : List (List Row) = verdicts_by lines judgement in
    let those : List Row = refused_by lines judgement in
    let counts : List ℕ = network_counts lines c.args.events.now judgement in
    let counted : c.as_slice-counts.result.now ≡ counts = c.as_slice-counts.ensures.value ∙ c.in_ok-networks.ensures in
    let judged : c.count_judged-judged.result ≡ judged_count counts = c.count_judged-judged.ensures ∙ ap judged_count counted in
    let refused : c.in_ok-refused.refused ≡ length those = c.in_ok-refused.ensures.count in
    let flags : c.as_slice-flags.result.now ≡ map has_any told = c.as_slice-flags.ensures.value ∙ c.in_ok-unkept.ensures.is in
    let promises : map said c.as_slice.result.now ≡ promises_of lines counts (map has_any told) =
    ap (map said) c.as_slice.ensures.value ∙ c.in_ok-promises.ensures ∙ (λ i. promises_of lines (counted i) (flags i)) in
    let front : c.in_ok-refused.refused + c.in_ok-whole.whole ≡ length (those ++ whole_rows (judged_count counts) those) =
    (λ i. refused i + (c.in_ok-whole.ensures.count those refused ∙ ap (λ n. length (whole_rows n those)) judged) i) ∙ sym (length-append those (whole_rows (judged_count counts) those)) in
    let failing : c.count_set.result ≡ count_by has_any told = c.count_set.ensures ∙ ap (count_by (λ flag. flag)) flags ∙ flags_counted has_any told in (
      _,
      verified net o lines told (verdicts_there net o judgement lines are) those (refused_there net o judgement lines are) counts (counts_there net o judgement lines c.args.events.now of_net are) _ front judged failing,
      λ first before h.
          subst (g.R.Rows.grew first c.put_last.new.out)
          ((λ i. (((before ++ those) ++ whole_rows (judged i) those) ++ joined told) ++ last_row (judged i) (promises i) ∷ [])
          ∙ put_four before those (whole_rows (judged_count counts) those) (joined told) (last_row (judged_count counts) (promises_of lines counts (map has_any told))))
          (c.in_ok-put_last.ensures first _ (c.in_ok-unkept.ensures.put first _ (c.in_ok-whole.ensures.put those refused first _ (c.in_ok-refused.ensures.put first before h)))),
    )

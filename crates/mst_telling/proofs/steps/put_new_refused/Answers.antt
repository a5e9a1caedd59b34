use Rattle.std.proofs.Common.{◌≡◌, ◌∙◌, [], ◌++◌, List, Option, Some, None, ap, append-nil, map, subst, sym}
use Rattle.std.specs.Result.{OnOk}
use Rattle.mst_rows.specs.Rows.{Row}
use Rattle.mst_telling.specs.Judged.{line_lacks, line_rows}
use Rattle.mst_telling.specs.Rows.{behind}
use Rattle.mst_telling.specs.Texts.{news}
use Rattle.mst_telling.specs.Told.{missing_rows}
use Rattle.mst_telling.proofs.NewRows.{refused_is}
use Rattle.mst_telling.proofs.steps.put_new_refused.Goals as goal

pub returns-in-None : goal.returns-in-None
returns-in-None g c first rows grew =
    let n = c.args.n in
    let line = c.args.line.now in
    let before = c.args.before.now in
    let now = c.args.now.now in
    let lacks : line_lacks n now ≡ None = sym c.lacks.ensures ∙ c.in-None.is in
    let none = refused_is n line before now ∙ ap (λ what. news (line_rows n line before) (missing_rows line.number what)) lacks in
    subst (λ (all : List Row). g.R.Rows.grew first c.args.out.now all) (sym (ap (λ more. rows ++ map (behind c.args.step) more) none ∙ append-nil rows)) grew

pub returns-in_ok-texts-in-Some : goal.returns-in_ok-texts-in-Some
returns-in_ok-texts-in-Some g c first rows grew =
    let n = c.args.n in
    let line = c.args.line.now in
    let before = c.args.before.now in
    let now = c.args.now.now in
    let lacks : line_lacks n now ≡ Some c.in-Some.missing = sym c.lacks.ensures ∙ c.in-Some.is in
    let one = refused_is n line before now ∙ ap (λ what. news (line_rows n line before) (missing_rows line.number what)) lacks in
    subst (λ (more : List Row). OnOk c.put_missing_unless.result (g.R.Rows.grew first c.put_missing_unless.new.out (rows ++ map (behind c.args.step) more))) (sym one)
    (c.put_missing_unless.ensures (line_rows n line before) c.in_ok-texts-in-Some.ensures first rows grew)

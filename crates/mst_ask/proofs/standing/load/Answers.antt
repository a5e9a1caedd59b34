use Rattle.std.proofs.Common.{◌≡◌, ◌∙◌, [], ◌++◌, ◌∷◌, arith, refl, sym, ap, subst, length}
use Rattle.std.proofs.KnownBytes.{Appends-nil}
use Rattle.std.proofs.lemmas.Result.{err_from_is_err_and}
use Rattle.mst_io.proofs.Calls.{works_both}
use Rattle.mst_questions.specs.tool.engine.Engine.{Tally, begun, does, tally_of, tallied, version_from}
use Rattle.mst_questions.specs.tool.engine.Script.{version_of}
use Rattle.mst_questions.specs.tool.engine.Steps.{texts_of}
use Rattle.mst_questions.specs.tool.engine.declared.engine.Input.TheVariants.{Network}
use Rattle.mst_questions.specs.tool.engine.print.Shape.{of_script}
use Rattle.mst_ask.specs.Lines.{lines_in}
use Rattle.mst_ask.proofs.Loading.{Loading, loading_begins, loading_breaks, loading_ends, loading_on, texts_on}
use Rattle.mst_ask.proofs.standing.load.Goals as goal

pub loop-line-init : goal.loop-line-init
loop-line-init g c =
    let shape = of_script c.args.form in
    let script = c.args.script.now in
    let lines = lines_in script.is_whole script.bytes.items in
    let t = tally_of c.new-engine.result in
    let begins = c.new-engine.ensures.begins ∙ ap begun c.new-engine.ensures.empty in
    record {
      done = [];
      loading = subst (λ bytes. Loading shape lines (lines_in script.is_whole bytes) t []) (sym c.as_slice-left.ensures.value) (loading_begins shape lines t begins);
      shorter = omega (arith, ap length c.as_slice-left.ensures.value);
      few = omega (arith, ap (λ (t : Tally). t.number) begins, ap length c.as_slice-left.ensures.value, c.requires.few);
      written = Appends-nil _;
      works = record { working = c.requires.working; taken = refl; each = omega arith };
      lent = refl;
    }

pub returns-in_err-load_line-clause-err : goal.returns-in_err-load_line-clause-err
returns-in_err-load_line-clause-err g c =
    let p = err_from_is_err_and c.from_residual.result c.from_residual.ensures.1 in
    let script = c.args.script.now in
    let was = c.loop-line.invariant in
    let t = tally_of c.loop-line.engine in
    let h = c.in_err-load_line.ensures.err in
    rw p.1 (loading_breaks c.has_load.ensures.lines c.args.form (lines_in script.is_whole script.bytes.items) t was.done c.in-Some.line.now (lines_in script.is_whole c.loop-line.left.now) (lines_in script.is_whole c.in-Some.rest.now) h.0 _ _ _ c.in-Some.ensures.next was.loading
    (subst (λ shape. does (Network shape) t.version t.number t.state c.in-Some.line.now h.0) c.shape.ensures h.1) h.2 was.written h.3)

pub returns-in_err-load_line-clause-some : goal.returns-in_err-load_line-clause-some
returns-in_err-load_line-clause-some g c =
    let p = err_from_is_err_and c.from_residual.result c.from_residual.ensures.1 in
    rw p.1 (omega (arith, c.in-Some.ensures.shorter, c.loop-line.invariant.shorter))

pub loop-line-preserved : goal.loop-line-preserved
loop-line-preserved g c =
    let script = c.args.script.now in
    let was = c.loop-line.invariant in
    let t = tally_of c.loop-line.engine in
    let u = tally_of c.load_line.new.engine in
    let line = c.in-Some.line.now in
    let h = c.in_ok-load_line.ensures.ok in
    record {
      done = was.done ++ h.0 ∷ [];
      loading = loading_on (of_script c.args.form) (lines_in script.is_whole script.bytes.items) t u was.done line (lines_in script.is_whole c.loop-line.left.now) (lines_in script.is_whole c.in-Some.rest.now) h.0 c.in-Some.ensures.next was.loading
          (subst (λ shape. does (Network shape) t.version t.number t.state line h.0) c.shape.ensures h.1) (subst (λ shape. u ≡ tallied (Network shape) t line h.0) c.shape.ensures h.2);
      shorter = omega (arith, c.in-Some.ensures.shorter, was.shorter);
      few = omega (arith, ap (λ (t : Tally). t.number) h.2, c.in-Some.ensures.shorter, was.few);
      written = texts_on _ _ _ was.done h.0 was.written h.3;
      works = works_both _ _ _ was.works c.in_ok-load_line.ensures.works;
      lent = c.load_line.ensures.lent ∙ was.lent;
    }

pub returns-clause-ok : goal.returns-clause-ok
returns-clause-ok g c =
    let script = c.args.script.now in
    let lines = lines_in script.is_whole script.bytes.items in
    let left = lines_in script.is_whole c.loop-line.left.now in
    let was = c.loop-line.invariant in
    let t = tally_of c.loop-line.engine in
    let none : left ≡ [] = c.in_default.ensures.next in (
      texts_of was.done,
      record {
        loads = was.done;
        loaded = loading_ends (of_script c.args.form) lines t was.done left none was.loading;
        printed = refl;
        state = was.loading.state;
        refused = was.loading.refused;
        memory = was.loading.memory;
        version = subst (λ l. version_from t.version l ≡ version_of lines) none was.loading.version;
      },
      was.written,
    )

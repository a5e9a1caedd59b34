use Rattle.std.proofs.Common.{◌≡◌, ◌∙◌, [], ◌++◌, ◌∷◌, arith, sym, ap, subst}
use Rattle.mst_questions.specs.tool.engine.Engine.{Tally, begun, does, replied, shape_of, tally_of, tallied}
use Rattle.mst_questions.specs.tool.engine.declared.engine.Input.TheVariants.{Network}
use Rattle.mst_questions.specs.tool.engine.report.Planned.{planned_state}
use Rattle.mst_questions.specs.tool.engine.report.State.{State}
use Rattle.mst_lang.specs.Lines.{lines_of}
use Rattle.mst_questions.specs.tool.engine.print.Shape.{of_script}
use Rattle.mst_ask.proofs.Kept.{script_loaded}
use Rattle.mst_ask.proofs.Loading.{loading_begins, loading_ends, loading_on}
use Rattle.mst_ask.proofs.standing.load_again.Goals as goal

pub loop-line-init : goal.loop-line-init
loop-line-init c =
    let begins = c.new-engine.ensures.begins ∙ ap begun c.new-engine.ensures.empty in
    record {
      done = [];
      loading = loading_begins (of_script c.args.form) (lines_of c.args.script.now) (tally_of c.new-engine.result) begins;
      few = omega (arith, ap (λ (t : Tally). t.number) begins, c.requires);
    }

pub loop-line-preserved : goal.loop-line-preserved
loop-line-preserved c =
    let was = c.loop-line.invariant in
    let t = tally_of c.loop-line.engine in
    let u = tally_of c.reply.new.self in
    let line = c.in-Some.line.now in
    let made = replied (shape_of (Network c.shape.result)) c.loop-line.engine.number (planned_state c.reply.new.self.planner) c.reply.result in
    record {
      done = was.done ++ made ∷ [];
      loading = loading_on (of_script c.args.form) (lines_of c.args.script.now) t u was.done line (lines_of c.loop-line.left.now) (lines_of c.in-Some.rest.now) made c.in-Some.ensures.next was.loading
          (subst (λ shape. does (Network shape) t.version t.number t.state line made) c.shape.ensures c.reply.ensures.served) (subst (λ shape. u ≡ tallied (Network shape) t line made) c.shape.ensures c.reply.ensures.counted);
      few = omega (arith, ap (λ (t : Tally). t.number) c.reply.ensures.counted, c.in-Some.ensures.shorter, was.few);
    }

pub returns : goal.returns
returns c =
    let was = c.loop-line.invariant in
    let script = c.args.script.now in
    let loaded = loading_ends (of_script c.args.form) (lines_of script) (tally_of c.loop-line.engine) was.done (lines_of c.loop-line.left.now) c.in_default.ensures.next was.loading in
    ap (λ (s : State). s.net) was.loading.state ∙ script_loaded (of_script c.args.form) script was.done loaded (sym was.loading.memory ∙ c.if-engine-ne0.false)

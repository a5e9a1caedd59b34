use Rattle.std.proofs.Common.{refl, sym, subst, ◌∙◌, inl}
use Rattle.std.specs.Io.KnownBytes.{Appends}
use Rattle.mst_tool.specs.engine.Engine.{tally_of}
use Rattle.mst_io.specs.Devices.{seen_by}
use Rattle.mst_io.specs.Written.{AppendsFront}
use Rattle.mst_io.specs.declared.outcome.Outcome.{Outcome}
use Rattle.mst_io.proofs.Chains.{Hears-none}
use Rattle.mst_drive.specs.Words.{Wrote, two_inputs}
use Rattle.mst_drive.proofs.Turned.{turned_broken, turned_lacking, turned_on, turned_stopped, turned_then}
use Rattle.mst_drive.proofs.Words.{ended_fault, wrote_as}
use Rattle.mst_tool.specs.engine.print.Shape.{of_old}
use Rattle.mst_between.specs.Diff.{Diffs, counted_both, differing}
use Rattle.mst_tool.proofs.Faults.{err_of}
use Rattle.mst_between.proofs.NewTold.{new_behind}
use Rattle.mst_between.proofs.WholeDiff.{Laws, both_front, both_scripts, diffs_front, diffs_whole, front_in_new, front_in_old, new_ended}
use Rattle.mst_tool.proofs.WholeLoad.{loads_ended}
use Rattle.mst_between.proofs.diffs.diff_within.Goals as goal

pub returns-in-Err-clause-ended : goal.returns-in-Err-clause-ended
returns-in-Err-clause-ended g c =
    let form = c.args.form in
    let between = c.args.between in
    let given = two_inputs (g.O.Source.remaining c.args.old.now) (g.N.Source.remaining c.args.new.now) in
    let left = two_inputs (g.O.Source.remaining c.serve_first.new.source) (g.N.Source.remaining c.args.new.now) in
    let written = g.K.Sink.contents c.args.sink.now in
    let now = g.K.Sink.contents c.serve_first.new.sink in
    let laws : Laws = record { one = c.one_difference.ensures.one; some = c.one_difference.ensures.some } in
    let one = c.one_load.ensures.same in
    ended_fault (differing between form) given left written now c.in-Err.fault
    (front_in_old laws one c.states.ensures.network between form given left written now c.has_load.ensures.script c.in-Err.ensures.fault)
    (λ e. wrote_as written now _ ((differing between form).cut given left) (λ text h. inl (loads_ended one (of_old form) given.first left.first text h)) (c.in-Err.ensures.read (err_of e)))
    (λ e. absurd (c.in-Err.ensures.memory (err_of e)))

pub returns-in-Err-clause-turned : goal.returns-in-Err-clause-turned
returns-in-Err-clause-turned g c = turned_stopped c.args.turns _ _ _ _ _ c.in-Err.ensures.turned (λ e. cc) (refl, c.requires.new, tt)

pub returns-in-Err-clause-heard_new : goal.returns-in-Err-clause-heard_new
returns-in-Err-clause-heard_new g c = Hears-none g.N.Source.hears _ c.args.new.now

-- ---- the new script
pub returns-in-Err-serve_first-clause-ended : goal.returns-in-Err-serve_first-clause-ended
returns-in-Err-serve_first-clause-ended g c =
    let form = c.args.form in
    let between = c.args.between in
    let given = two_inputs (g.O.Source.remaining c.args.old.now) (g.N.Source.remaining c.args.new.now) in
    let left = two_inputs (g.O.Source.remaining c.serve_first.new.source) (g.N.Source.remaining c.serve_first-in-Ok.new.source) in
    let written = g.K.Sink.contents c.args.sink.now in
    let mid = g.K.Sink.contents c.serve_first.new.sink in
    let now = g.K.Sink.contents c.serve_first-in-Ok.new.sink in
    let laws : Laws = record { one = c.one_difference.ensures.one; some = c.one_difference.ensures.some } in
    let one = c.one_load.ensures.same in
    let t = tally_of c.in-Ok.before.engine in
    ended_fault (differing between form) given left written now c.in-Err-serve_first.fault
    (front_in_new laws one c.states.ensures.network between form given left written now mid t c.in-Ok.ensures.ok c.in-Err-serve_first.ensures.fault)
    (λ e. new_ended laws one c.states.ensures.network between form given left written now mid t c.in-Ok.ensures.ok (c.in-Err-serve_first.ensures.read (err_of e)))
    (λ e. absurd (c.in-Err-serve_first.ensures.memory (err_of e)))

pub returns-in-Err-serve_first-clause-turned : goal.returns-in-Err-serve_first-clause-turned
returns-in-Err-serve_first-clause-turned g c = turned_then c.args.turns _ _ _ _ _ _ c.in-Ok.ensures.turned c.in-Err-serve_first.ensures.turned

-- ---- what differs
pub returns-in-Err-what_differs-clause-ended : goal.returns-in-Err-what_differs-clause-ended
returns-in-Err-what_differs-clause-ended g c =
    let form = c.args.form in
    let between = c.args.between in
    let given = two_inputs (g.O.Source.remaining c.args.old.now) (g.N.Source.remaining c.args.new.now) in
    let left = two_inputs (g.O.Source.remaining c.serve_first.new.source) (g.N.Source.remaining c.serve_first-in-Ok.new.source) in
    let written = g.K.Sink.contents c.args.sink.now in
    let mid = g.K.Sink.contents c.serve_first.new.sink in
    let end = g.K.Sink.contents c.serve_first-in-Ok.new.sink in
    let laws : Laws = record { one = c.one_difference.ensures.one; some = c.one_difference.ensures.some } in
    let one = c.one_load.ensures.same in
    let t = tally_of c.in-Ok.before.engine in
    let u = tally_of c.in-Ok-serve_first.after.engine in (
      both_scripts laws one c.states.ensures.network between form given left written end mid t c.in-Ok.ensures.ok end u c.in-Ok-serve_first.ensures.ok,
      both_front laws one c.states.ensures.network between form given left written end mid t c.in-Ok.ensures.ok end u c.in-Ok-serve_first.ensures.ok,
    )

pub returns-in-Err-what_differs-clause-turned : goal.returns-in-Err-what_differs-clause-turned
returns-in-Err-what_differs-clause-turned g c = turned_lacking c.args.turns _ _ _ (turned_then c.args.turns _ _ _ _ _ _ c.in-Ok.ensures.turned c.in-Ok-serve_first.ensures.turned)

pub returns-in-Err-put-clause-ended : goal.returns-in-Err-put-clause-ended
returns-in-Err-put-clause-ended g c =
    let form = c.args.form in
    let between = c.args.between in
    let given = two_inputs (g.O.Source.remaining c.args.old.now) (g.N.Source.remaining c.args.new.now) in
    let left = two_inputs (g.O.Source.remaining c.serve_first.new.source) (g.N.Source.remaining c.serve_first-in-Ok.new.source) in
    let written = g.K.Sink.contents c.args.sink.now in
    let mid = g.K.Sink.contents c.serve_first.new.sink in
    let end = g.K.Sink.contents c.serve_first-in-Ok.new.sink in
    let now = g.K.Sink.contents c.put.new.sink in
    let laws : Laws = record { one = c.one_difference.ensures.one; some = c.one_difference.ensures.some } in
    let t = tally_of c.in-Ok.before.engine in
    let u = tally_of c.in-Ok-serve_first.after.engine in
    let found = c.in-Ok-what_differs.found in
    let is = c.in-Ok-what_differs.ensures in
    diffs_front laws c.one_load.ensures.same c.states.ensures.network between form given left written now mid t c.in-Ok.ensures.ok end u c.in-Ok-serve_first.ensures.ok is.0 found.text.items found.differs is.2 is.1
    (subst (AppendsFront end now) c.as_slice.ensures.value c.in-Err-put.ensures.err)

pub returns-in-Err-put-clause-turned : goal.returns-in-Err-put-clause-turned
returns-in-Err-put-clause-turned g c = turned_broken c.args.turns _ _ _ (turned_then c.args.turns _ _ _ _ _ _ c.in-Ok.ensures.turned c.in-Ok-serve_first.ensures.turned) _ c.in-Err-put.ensures.broken c.put.ensures.lent

pub returns-clause-turned : goal.returns-clause-turned
returns-clause-turned g c = turned_on c.args.turns _ _ _ (turned_then c.args.turns _ _ _ _ _ _ c.in-Ok.ensures.turned c.in-Ok-serve_first.ensures.turned) _ c.in-Ok-put.ensures.works c.put.ensures.lent

pub returns-clause-ended : goal.returns-clause-ended
returns-clause-ended g c =
    let form = c.args.form in
    let between = c.args.between in
    let given = two_inputs (g.O.Source.remaining c.args.old.now) (g.N.Source.remaining c.args.new.now) in
    let left = two_inputs (g.O.Source.remaining c.serve_first.new.source) (g.N.Source.remaining c.serve_first-in-Ok.new.source) in
    let written = g.K.Sink.contents c.args.sink.now in
    let mid = g.K.Sink.contents c.serve_first.new.sink in
    let end = g.K.Sink.contents c.serve_first-in-Ok.new.sink in
    let now = g.K.Sink.contents c.put.new.sink in
    let laws : Laws = record { one = c.one_difference.ensures.one; some = c.one_difference.ensures.some } in
    let t = tally_of c.in-Ok.before.engine in
    let u = tally_of c.in-Ok-serve_first.after.engine in
    let found = c.in-Ok-what_differs.found in
    let is = c.in-Ok-what_differs.ensures in
    subst (λ (outcome : Outcome). Wrote written now (λ text. Diffs between form given.first given.second text outcome)) (sym (c.with_difference.ensures ∙ (λ i. counted_both (c.outcome-old_served.ensures i) (c.outcome-new_served.ensures i) found.differs)))
    (diffs_whole laws c.one_load.ensures.same c.states.ensures.network between form given left written now mid t c.in-Ok.ensures.ok end u c.in-Ok-serve_first.ensures.ok is.0 found.text.items found.differs is.2 is.1
    (subst (Appends end now) c.as_slice.ensures.value c.in-Ok-put.ensures.ok))

pub returns-in-Err-serve_first-clause-heard_new : goal.returns-in-Err-serve_first-clause-heard_new
returns-in-Err-serve_first-clause-heard_new g c =
    let look = seen_by g.K.Sink.told g.K.Sink.contents g.K.Sink.lent in
    new_behind g.N.Source.hears g.N.Source.remaining (look c.args.sink.now) (look c.serve_first.new.sink) c.args.turns _ c.in-Ok.ensures.turned (tally_of c.in-Ok.before.engine) c.one_load.ensures.same c.args.form (g.O.Source.remaining c.args.old.now) (g.N.Source.remaining c.args.new.now) c.args.new.now c.serve_first-in-Ok.new.source c.in-Ok.ensures.ok c.serve_first-in-Ok.ensures.heard

pub returns-in-Err-what_differs-clause-heard_new : goal.returns-in-Err-what_differs-clause-heard_new
returns-in-Err-what_differs-clause-heard_new g c =
    let look = seen_by g.K.Sink.told g.K.Sink.contents g.K.Sink.lent in
    new_behind g.N.Source.hears g.N.Source.remaining (look c.args.sink.now) (look c.serve_first.new.sink) c.args.turns _ c.in-Ok.ensures.turned (tally_of c.in-Ok.before.engine) c.one_load.ensures.same c.args.form (g.O.Source.remaining c.args.old.now) (g.N.Source.remaining c.args.new.now) c.args.new.now c.serve_first-in-Ok.new.source c.in-Ok.ensures.ok c.serve_first-in-Ok.ensures.heard

pub returns-in-Err-put-clause-heard_new : goal.returns-in-Err-put-clause-heard_new
returns-in-Err-put-clause-heard_new g c =
    let look = seen_by g.K.Sink.told g.K.Sink.contents g.K.Sink.lent in
    new_behind g.N.Source.hears g.N.Source.remaining (look c.args.sink.now) (look c.serve_first.new.sink) c.args.turns _ c.in-Ok.ensures.turned (tally_of c.in-Ok.before.engine) c.one_load.ensures.same c.args.form (g.O.Source.remaining c.args.old.now) (g.N.Source.remaining c.args.new.now) c.args.new.now c.serve_first-in-Ok.new.source c.in-Ok.ensures.ok c.serve_first-in-Ok.ensures.heard

pub returns-clause-heard_new : goal.returns-clause-heard_new
returns-clause-heard_new g c =
    let look = seen_by g.K.Sink.told g.K.Sink.contents g.K.Sink.lent in
    new_behind g.N.Source.hears g.N.Source.remaining (look c.args.sink.now) (look c.serve_first.new.sink) c.args.turns _ c.in-Ok.ensures.turned (tally_of c.in-Ok.before.engine) c.one_load.ensures.same c.args.form (g.O.Source.remaining c.args.old.now) (g.N.Source.remaining c.args.new.now) c.args.new.now c.serve_first-in-Ok.new.source c.in-Ok.ensures.ok c.serve_first-in-Ok.ensures.heard

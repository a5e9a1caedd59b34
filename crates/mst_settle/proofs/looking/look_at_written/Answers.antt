use Rattle.std.proofs.Common.{None, ◌≡◌, ◌∙◌, ◌≢◌, sym, ap, is_some, true, false}
use Rattle.mst_topology.specs.Slots.{IsSetAt}
use Rattle.mst_topology.proofs.Effects.{looks_one}
use Rattle.mst_progress.specs.Progress.{vector_of}
use Rattle.mst_settle.proofs.Turns.{due_key}
use Rattle.mst_settle.proofs.looking.look_at_written.Goals as goal

pub returns-then-is_some-clause-looked : goal.returns-then-is_some-clause-looked
returns-then-is_some-clause-looked g c =
    let set : IsSetAt c.args.keys.now c.args.bridge None c.set.new.self = rw c.bridge.view_is at c.set.ensures in
    let some : vector_of c.args.progress.now c.args.bridge ≢ None = λ none. (let no : true ≡ false = sym c.if-is_some.true ∙ c.is_some.ensures ∙ ap is_some (c.vector.ensures ∙ none) in cc) in
    looks_one g.M.Metric.rules c.args.progress.now.topology (vector_of c.args.progress.now) c.args.bridge None c.args.keys.now c.set.new.self
    (due_key g.M.Metric.rules g.met.M.Metric.lawful c.args.progress.now.topology c.requires.topology (vector_of c.args.progress.now) c.args.bridge (c.requires.due some)) set

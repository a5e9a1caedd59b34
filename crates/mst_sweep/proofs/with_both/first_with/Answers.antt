use Rattle.std.proofs.Common.{sym}
use Rattle.indexmap.specs.IndexMap.{get}
use Rattle.mst_sweep.specs.Seen.{same_places}
use Rattle.mst_sweep.proofs.WithBoth.{first_put}
use Rattle.mst_sweep.proofs.with_both.first_with.Goals as goal

pub returns-clause-firsts : goal.returns-clause-firsts
returns-clause-firsts c = first_put (get same_places c.args.firsts.now) c.args.places c.args.here (get same_places c.insert.new.self) (sym c.in_default.ensures.value) c.in_ok-insert.ensures.updates.0

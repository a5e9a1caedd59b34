use Rattle.std.proofs.Common.{◌<◌, sym, subst}
use Rattle.mst_net.specs.tables.Contents.{Room, room_for}
use Rattle.mst_report.proofs.Staying.{kept_so, same_then}
use Rattle.mst_report.proofs.planner.Planner.rehearse.Goals as goal

pub returns-clause-room : goal.returns-clause-room
returns-clause-room c = subst (λ (room : Room). 0 < room_for c.args.edit.now room) (sym c.abandon.ensures.room) c.in_ok-prepared.ensures.ready.1.room

pub invariant_of-self : goal.invariant_of-self
invariant_of-self c =
    let was = c.self.inside in (
      kept_so was.network c.prepare.new.self c.prepare.ensures.same was.kept c.self.invariant.0,
      c.self.invariant.1,
    )

pub invariant_of-self-2 : goal.invariant_of-self-2
invariant_of-self-2 c =
    let was = c.self.inside in (
      kept_so was.network c.abandon.new.self (same_then was.network c.prepare.new.self c.abandon.new.self c.prepare.ensures.same c.abandon.ensures.same) was.kept c.self.invariant.0,
      c.self.invariant.1,
    )

use Rattle.std.proofs.Common.{subst}
use Rattle.mst_lang.specs.declared.line.Edit.{Edit}
use Rattle.mst_net.specs.tables.Contents.{Commits}
use Rattle.mst_report.proofs.Staying.{kept_so}
use Rattle.mst_report.proofs.planner.Planner.stage.Goals as goal

pub edited-requires : goal.edited-requires
edited-requires c =
    let was = c.self.inside in
    let now = c.prepare.new.self in
    record {
      old = now;
      network = c.known.ensures.network;
      numbered = c.known.ensures.numbered;
      made = subst (λ (e : Edit). Commits e now c.commit.new.self) c.in_ok-ready.ensures.ready.0 c.commit.ensures;
      stood = kept_so was.network now c.prepare.ensures.same was.kept c.self.invariant.0;
    }

pub invariant_of-self : goal.invariant_of-self
invariant_of-self c =
    let was = c.self.inside in (
      kept_so was.network c.prepare.new.self c.prepare.ensures.same was.kept c.self.invariant.0,
      c.self.invariant.1,
    )

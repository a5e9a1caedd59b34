use Rattle.std.proofs.Common.{subst}
use Rattle.std.proofs.lemmas.List.{take_all}
use Rattle.mst_sweeping.specs.Seen.{AreUsers}
use Rattle.mst_sweeping.proofs.Users.{users_more}
use Rattle.mst_sweeping.proofs.links.users.Goals as goal

pub loop-link-preserved : goal.loop-link-preserved
loop-link-preserved c =
    let l = c.loop-link in
    users_more c.args.links.now l.link-index c.link-item.result c.loop-link-test.true c.link-item.is l.users.entries c.insert.new.self.entries l.invariant c.in_ok-insert.ensures.updates.0

pub returns : goal.returns
returns c =
    let l = c.loop-link in
    subst (λ ks. AreUsers ks l.users.entries) (take_all l.link-index c.args.links.now c.loop-link-test.false) l.invariant

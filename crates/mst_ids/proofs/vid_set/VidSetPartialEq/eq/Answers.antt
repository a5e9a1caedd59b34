use Rattle.std.proofs.Common.{◌∙◌}
use Rattle.mst_ids.proofs.VidSetLemmas.{same_test}
use Rattle.mst_ids.proofs.vid_set.VidSetPartialEq.eq.Goals as goal

pub returns : goal.returns
returns c =
    c.eq.ensures
    ∙ same_test c.args.self.now c.args.other.now c.self.inside c.other.inside c.self.invariant c.other.invariant c.self.view_is c.other.view_is

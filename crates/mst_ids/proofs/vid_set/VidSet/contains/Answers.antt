use Rattle.std.proofs.Common.{sym, ◌∙◌, false, arith}
use Rattle.std.proofs.lemmas.Bool.{le-ltb}
use Rattle.std.proofs.lemmas.List.{get_or_past}
use Rattle.mst_ids.specs.Vids.{IsVidSet}
use Rattle.mst_ids.proofs.VidSetLemmas.{has_is, IsVidSet_is}
use Rattle.mst_ids.proofs.vid_set.VidSet.contains.Goals as goal

pub returns-then-vid-lt4096-clause-value : goal.returns-then-vid-lt4096-clause-value
returns-then-vid-lt4096-clause-value c =
    c.is_set.ensures ∙ sym (has_is c.args.self.now c.self.inside.words c.args.vid c.self.view_is (omega arith))

pub returns-then-vid-lt4096-clause-set : goal.returns-then-vid-lt4096-clause-set
returns-then-vid-lt4096-clause-set c =
    IsVidSet_is c.args.self.now c.self.inside.words c.self.view_is c.self.invariant.first c.self.invariant.last

pub returns-else-vid-lt4096-clause-value : goal.returns-else-vid-lt4096-clause-value
returns-else-vid-lt4096-clause-value c =
    let vids : IsVidSet c.args.self.now = IsVidSet_is c.args.self.now c.self.inside.words c.self.view_is c.self.invariant.first c.self.invariant.last in
    le-ltb c.args.vid 4096 (omega arith) ∙ sym (get_or_past c.args.self.now c.args.vid false (omega arith))

pub returns-else-vid-lt4096-clause-set : goal.returns-else-vid-lt4096-clause-set
returns-else-vid-lt4096-clause-set c =
    IsVidSet_is c.args.self.now c.self.inside.words c.self.view_is c.self.invariant.first c.self.invariant.last

use Rattle.std.proofs.Common.{◌+◌, ℕ, List, [], get_or, map, sym, ap, subst}
use Rattle.std.proofs.lemmas.Result.{IfOk-weaker}
use Rattle.mst_sweep.specs.Cuts.{names_of}
use Rattle.mst_sweep.specs.Parts.{AreParts}
use Rattle.mst_sweep.specs.Baseline.{AreHomes}
use Rattle.mst_sweep.proofs.cuts.parts_at.Goals as goal

pub returns-then-not-breaks : goal.returns-then-not-breaks
returns-then-not-breaks c a b n k is are of so left =
    subst (AreParts a is.outcome b are.outcome (get_or c.args.baseline.now.classes.firsts.items c.args.class 0 + 1)) (sym (ap (map (λ names. names.items)) c.new.ensures.items))
    (c.requires.others c.if-not-breaks.true a b n k is are of so left)

pub returns : goal.returns
returns c = IfOk-weaker c.parts.result _ _
    (λ parts told a b n k is are of so left.
    let vid = c.first_vid-vid.ensures in
    let entries = c.homes_before-homes.result.now.entries in
    let homes : AreHomes a n is.outcome c.first_vid-vid.result entries = subst (λ vid. AreHomes a n is.outcome vid entries) (sym vid) (c.homes_before-homes.ensures a n is of) in
    subst (λ vid. AreParts a is.outcome b are.outcome vid (names_of parts)) vid (told a b n k is are of so homes)) c.parts.ensures

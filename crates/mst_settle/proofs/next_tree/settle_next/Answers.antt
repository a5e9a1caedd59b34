use Rattle.std.proofs.Common.{◌≡◌, Some, None, refl, sym, ap, ◌∙◌}
use Rattle.mst_outcome.specs.Assignment.{Assignment, vector_of, designated_of}
use Rattle.mst_outcome.specs.Shared.{outcome_of}
use Rattle.mst_settle.proofs.Scratch.{space_kept}
use Rattle.mst_settle.proofs.Spaced.{space_same, space_then}
use Rattle.mst_settle.proofs.Touches.{bounds_same}
use Rattle.mst_settle.proofs.Standing.{vectors_have_space, ports_have_space, can_repair}
use Rattle.mst_settle.proofs.next_tree.settle_next.Goals as goal

pub settle_first-requires-clause-space : goal.settle_first-requires-clause-space
settle_first-requires-clause-space g c = space_kept c.args.to.now c.args.settler.now c.load-in-None.new.self c.requires.space_to (space_same c.args.settler.now c.load-in-None.new.self c.load-in-None.ensures.bridges c.load-in-None.ensures.lans)

pub returns-in-None-clause-bounds : goal.returns-in-None-clause-bounds
returns-in-None-clause-bounds g c =
    let outcome : outcome_of None c.args.standing.now.outcome.settlings ≡ c.args.standing.now.outcome = rw c.in-None.is at c.outcome.ensures in
    bounds_same c.args.standing.now.outcome c.load-in-None.new.self (λ n. c.load-in-None.ensures.vectors n ∙ c.new.ensures.vectors n ∙ ap (λ (a : Assignment g.row.M-Vector.Denot). vector_of a n) outcome)
    (vector_of c.settle_first.new.self) c.settle_first.new.self.settlings c.settle_first.ensures.bounds

pub load-requires-in-Some-clause-bridges : goal.load-requires-in-Some-clause-bridges
load-requires-in-Some-clause-bridges g c = λ n x e.
    let outcome : outcome_of (Some c.in-Some.outcome.value) c.args.standing.now.outcome.settlings ≡ c.args.standing.now.outcome = rw c.in-Some.is at c.outcome.ensures in
    vectors_have_space g.M.Metric.rules c.args.rewiring.now.from c.args.standing.now c.requires.held c.args.from.now c.requires.from c.args.settler.now c.requires.space_from n x
    (ap (λ (a : Assignment g.row.M-Vector.Denot). vector_of a n) (sym outcome) ∙ ap (λ (a : Assignment g.row.M-Vector.Denot). vector_of a n) (sym c.deref.ensures) ∙ e)

pub load-requires-in-Some-clause-lans : goal.load-requires-in-Some-clause-lans
load-requires-in-Some-clause-lans g c = λ lan port e.
    let outcome : outcome_of (Some c.in-Some.outcome.value) c.args.standing.now.outcome.settlings ≡ c.args.standing.now.outcome = rw c.in-Some.is at c.outcome.ensures in
    ports_have_space g.M.Metric.rules c.args.rewiring.now.from c.args.standing.now c.requires.held c.args.from.now c.requires.from c.args.settler.now c.requires.space_from lan port
    (ap (λ (a : Assignment g.row.M-Vector.Denot). designated_of a lan) (sym outcome) ∙ ap (λ (a : Assignment g.row.M-Vector.Denot). designated_of a lan) (sym c.deref.ensures) ∙ e)

pub touch_differences-requires-clause-space_from : goal.touch_differences-requires-clause-space_from
touch_differences-requires-clause-space_from g c = space_kept c.args.from.now c.args.settler.now c.load-in-Some.new.self c.requires.space_from (space_same c.args.settler.now c.load-in-Some.new.self c.load-in-Some.ensures.bridges c.load-in-Some.ensures.lans)

pub touch_differences-requires-clause-space_to : goal.touch_differences-requires-clause-space_to
touch_differences-requires-clause-space_to g c = space_kept c.args.to.now c.args.settler.now c.load-in-Some.new.self c.requires.space_to (space_same c.args.settler.now c.load-in-Some.new.self c.load-in-Some.ensures.bridges c.load-in-Some.ensures.lans)

pub repair-requires-clause-space : goal.repair-requires-clause-space
repair-requires-clause-space g c = space_kept c.args.to.now c.args.settler.now c.touch_differences.new.settler c.requires.space_to (space_then c.args.settler.now c.load-in-Some.new.self c.touch_differences.new.settler (space_same c.args.settler.now c.load-in-Some.new.self c.load-in-Some.ensures.bridges c.load-in-Some.ensures.lans) c.touch_differences.ensures.keeps.space)

pub repair-requires-clause-repairable : goal.repair-requires-clause-repairable
repair-requires-clause-repairable g c =
    let outcome : outcome_of (Some c.in-Some.outcome.value) c.args.standing.now.outcome.settlings ≡ c.args.standing.now.outcome = rw c.in-Some.is at c.outcome.ensures in
    can_repair g.M.Metric.rules c.args.rewiring.now.from c.args.standing.now c.requires.held c.args.from.now c.requires.from c.args.to.now c.args.to.now refl
    c.load-in-Some.new.self (λ n. c.load-in-Some.ensures.vectors n ∙ ap (λ (a : Assignment g.row.M-Vector.Denot). vector_of a n) c.deref.ensures ∙ ap (λ (a : Assignment g.row.M-Vector.Denot). vector_of a n) outcome)
    (λ lan. c.load-in-Some.ensures.designated lan ∙ ap (λ (a : Assignment g.row.M-Vector.Denot). designated_of a lan) c.deref.ensures ∙ ap (λ (a : Assignment g.row.M-Vector.Denot). designated_of a lan) outcome)
    c.touch_differences.new.settler c.touch_differences.ensures.keeps c.touch_differences.ensures.there c.touch_differences.ensures.back

pub returns-in-Some-clause-bounds : goal.returns-in-Some-clause-bounds
returns-in-Some-clause-bounds g c =
    let outcome : outcome_of (Some c.in-Some.outcome.value) c.args.standing.now.outcome.settlings ≡ c.args.standing.now.outcome = rw c.in-Some.is at c.outcome.ensures in
    bounds_same c.args.standing.now.outcome c.touch_differences.new.settler (λ n. c.touch_differences.ensures.keeps.vectors n ∙ c.load-in-Some.ensures.vectors n ∙ ap (λ (a : Assignment g.row.M-Vector.Denot). vector_of a n) c.deref.ensures ∙ ap (λ (a : Assignment g.row.M-Vector.Denot). vector_of a n) outcome)
    (vector_of c.repair.new.self) c.repair.new.self.settlings c.repair.ensures.bounds

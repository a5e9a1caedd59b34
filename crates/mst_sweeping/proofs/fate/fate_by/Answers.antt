use Rattle.std.proofs.Common.{subst, sym, ◌∙◌}
use Rattle.std.proofs.lemmas.Result.{IfOk-weaker}
use Rattle.mst_sweep.specs.Cuts.{names_of}
use Rattle.mst_sweeping.specs.MovedVids.{ArePartsBut, IsJoinedBut, IsMoved}
use Rattle.mst_sweeping.proofs.OfHomes.{by_carriage}
use Rattle.mst_sweeping.proofs.Remaining.{parts_of_all}
use Rattle.mst_sweeping.proofs.fate.fate_by.Goals as goal

-- ---- bridges are meant to leave the VID
pub returns-then-is_of-clause-parts : goal.returns-then-is_of-clause-parts
returns-then-is_of-clause-parts c = IfOk-weaker c.fate_but.result _ _
    (λ fate told. let change = c.args.change.now in
    by_carriage c.args.vid c.in_ok-olds.olds.entries c.in_ok-news.news.entries change.old.now change.new.now change.before.now change.afterwards.now change.is_before change.is_afterwards c.in_ok-olds.ensures c.in_ok-news.ensures
    (λ a o b p. ArePartsBut change.leaving.now a o b p c.args.vid (names_of fate.parts)) told) c.fate_but.ensures.parts

pub returns-then-is_of-clause-joins : goal.returns-then-is_of-clause-joins
returns-then-is_of-clause-joins c = IfOk-weaker c.fate_but.result _ _
    (λ fate told. let change = c.args.change.now in
    by_carriage c.args.vid c.in_ok-olds.olds.entries c.in_ok-news.news.entries change.old.now change.new.now change.before.now change.afterwards.now change.is_before change.is_afterwards c.in_ok-olds.ensures c.in_ok-news.ensures
    (λ a o b p. IsJoinedBut change.leaving.now a o b p c.args.vid fate.joins) told) c.fate_but.ensures.joins

pub returns-then-is_of-clause-moves : goal.returns-then-is_of-clause-moves
returns-then-is_of-clause-moves c = IfOk-weaker c.fate_but.result _ _
    (λ fate told. let change = c.args.change.now in
    by_carriage c.args.vid c.in_ok-olds.olds.entries c.in_ok-news.news.entries change.old.now change.new.now change.before.now change.afterwards.now change.is_before change.is_afterwards c.in_ok-olds.ensures c.in_ok-news.ensures
    (λ a o b p. IsMoved a o b p c.args.vid fate.moves)
    (λ a b n k is are of so homes others. subst (IsMoved a is.outcome b are.outcome c.args.vid) (sym told) (c.in_ok-fate.ensures.moves a b n k is are of so homes others))) c.fate_but.ensures.moves

-- ---- none are
pub returns-clause-parts : goal.returns-clause-parts
returns-clause-parts c =
    let change = c.args.change.now in
    by_carriage c.args.vid c.in_ok-olds.olds.entries c.in_ok-news.news.entries change.old.now change.new.now change.before.now change.afterwards.now change.is_before change.is_afterwards c.in_ok-olds.ensures c.in_ok-news.ensures
    (λ a o b p. ArePartsBut change.leaving.now a o b p c.args.vid (names_of c.in_ok-fate.fate.parts))
    (λ a b n k is are of so homes others. parts_of_all change.leaving.now a b is.outcome are.outcome c.args.vid (names_of c.in_ok-fate.fate.parts) (sym c.is_of.ensures ∙ c.if-is_of.false) (c.in_ok-fate.ensures.parts a b n k is are of so homes others))

pub returns-clause-joins : goal.returns-clause-joins
returns-clause-joins c =
    let change = c.args.change.now in
    by_carriage c.args.vid c.in_ok-olds.olds.entries c.in_ok-news.news.entries change.old.now change.new.now change.before.now change.afterwards.now change.is_before change.is_afterwards c.in_ok-olds.ensures c.in_ok-news.ensures
    (λ a o b p. IsJoinedBut change.leaving.now a o b p c.args.vid c.in_ok-fate.fate.joins)
    (λ a b n k is are of so homes others.
    let s = c.in_ok-fate.ensures.joins a b n k is are of so homes others in
    (s.0, parts_of_all change.leaving.now b a are.outcome is.outcome c.args.vid s.0 (sym c.is_of.ensures ∙ c.if-is_of.false) s.1, s.2))

pub returns-clause-moves : goal.returns-clause-moves
returns-clause-moves c =
    let change = c.args.change.now in
    by_carriage c.args.vid c.in_ok-olds.olds.entries c.in_ok-news.news.entries change.old.now change.new.now change.before.now change.afterwards.now change.is_before change.is_afterwards c.in_ok-olds.ensures c.in_ok-news.ensures
    (λ a o b p. IsMoved a o b p c.args.vid c.in_ok-fate.fate.moves) c.in_ok-fate.ensures.moves

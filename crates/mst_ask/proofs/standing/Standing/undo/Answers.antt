use Rattle.std.proofs.Common.{◌∙◌, ◌-◌, ap, arith, inl, inr, refl}
use Rattle.mst_net.specs.tables.Contents.{Contents}
use Rattle.mst_ask.proofs.Changes.{undo_kept, undo_may, undo_none, undo_stands}
use Rattle.mst_ask.proofs.standing.Standing.undo.Goals as goal

pub returns-then-count-made-clause-asked : goal.returns-then-count-made-clause-asked
returns-then-count-made-clause-asked c number line = inl (undo_none c.args.self.now c.requires.kept c.args.self.now.form number c.args.count (omega (arith, c.len-made.ensures, c.if-count-made.true)))

pub returns-in-Err-clause-asked : goal.returns-in-Err-clause-asked
returns-in-Err-clause-asked c number line = inr (undo_may c.args.self.now c.requires.kept c.args.count (omega (arith, c.len-made.ensures, c.if-count-made.false)), refl)

pub returns-in-Ok-clause-kept : goal.returns-in-Ok-clause-kept
returns-in-Ok-clause-kept c =
    let old = c.args.self.now in
    undo_kept old c.take_mark.new.self c.truncate.new.self c.requires.kept (c.len-made.result - c.args.count) c.args.count (omega (arith, c.len-made.ensures, c.if-count-made.false)) c.truncate.ensures.items
    (ap (λ (k : Contents). k.net) c.take_mark.ensures.same ∙ c.in-Ok.ensures.net)

pub returns-in-Ok-clause-asked : goal.returns-in-Ok-clause-asked
returns-in-Ok-clause-asked c number line =
    let old = c.args.self.now in
    inl (undo_stands old c.take_mark.new.self c.truncate.new.self c.requires.kept (c.len-made.result - c.args.count) c.args.count (omega (arith, c.len-made.ensures, c.if-count-made.false)) c.truncate.ensures.items
    (ap (λ (k : Contents). k.net) c.take_mark.ensures.same ∙ c.in-Ok.ensures.net) old.form number c.in-Ok.text c.in-Ok.ensures.text c.take_mark.ensures.mark)

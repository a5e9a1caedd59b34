use Rattle.std.proofs.Common.{rules, ap, sym, ◌∙◌}
use Rattle.mst_hinting.specs.Listening.{first_state}
use Rattle.mst_hinting.proofs.telling.Telling.new.Goals as goal
use Rattle.mst_hinting.proofs.telling.Telling.new.Goals.{then-wanted, else-wanted}

pub returns : goal.returns
returns c = record {
  state = elim c.if-wanted.branch [
    | then-wanted w ↦ w.result-is ∙ ap first_state (sym w.if-wanted.true)
    | else-wanted w ↦ w.result-is ∙ ap first_state (sym w.if-wanted.false)
  ];
  kept = search rules;
  held = search rules;
  text = search rules;
  at_end = search rules;
}

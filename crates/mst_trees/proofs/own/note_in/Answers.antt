use Rattle.std.proofs.Common.{◌==◌, inl, inr, arith}
use Rattle.std.proofs.lemmas.Bool.{cases_Bool}
use Rattle.std.proofs.lemmas.Grind.{common_steps}
use Rattle.mst_trees.proofs.own.note_in.Goals as goal

pub returns : goal.returns
returns c = λ tree k. elim (cases_Bool (c.args.tree == tree)) [ inl e ↦ grind (arith, common_steps) | inr e ↦ grind (arith, common_steps) ]

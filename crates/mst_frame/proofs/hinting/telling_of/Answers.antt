use Rattle.std.proofs.Common.{Option, sym, subst}
use Rattle.mst_hinting.specs.hints.declared.whose.Script.{Script}
use Rattle.mst_hinting.specs.hints.declared.whose.Script.TheVariants.{Run}
use Rattle.mst_hinting.specs.Listening.{IsFirst}
use Rattle.mst_frame.specs.Hinted.{are_told, script_of}
use Rattle.mst_frame.proofs.Hinted.{told_none, told_some}
use Rattle.mst_frame.proofs.hinting.telling_of.Goals as goal

pub returns-in-Some : goal.returns-in-Some
returns-in-Some c =
    subst (λ (of : Option Script). IsFirst (are_told c.args.hints of) (script_of of) c.new.result) (sym c.in-Some.is)
    (subst (λ wanted. IsFirst wanted c.in-Some.script c.new.result) (sym (told_some c.args.hints)) c.new.ensures)

pub returns-in-None : goal.returns-in-None
returns-in-None c =
    subst (λ (of : Option Script). IsFirst (are_told c.args.hints of) (script_of of) c.new-in-None.result) (sym c.in-None.is)
    (subst (λ wanted. IsFirst wanted Run c.new-in-None.result) (sym (told_none c.args.hints)) c.new-in-None.ensures)

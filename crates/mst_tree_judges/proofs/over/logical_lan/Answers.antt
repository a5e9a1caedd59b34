use Rattle.std.proofs.Common.{Option, sym, ap, ◌∙◌}
use Rattle.std.specs.Prelude.{option_copied}
use Rattle.std.specs.Option.{option_map_or}
use Rattle.mst_view.specs.declared.in_view.MemberLan.{MemberLan}
use Rattle.mst_tree_judges.proofs.over.logical_lan.Goals as goal

pub returns-in-None : goal.returns-in-None
returns-in-None c = ap (λ (o : Option MemberLan). option_map_or (λ m. m.lan) o c.args.lan.now) (sym (ap option_copied c.in-None.is) ∙ c.member_named.ensures)

pub returns-in-Some : goal.returns-in-Some
returns-in-Some c = ap (λ (o : Option MemberLan). option_map_or (λ m. m.lan) o c.args.lan.now) (sym (ap option_copied c.in-Some.is) ∙ c.member_named.ensures)

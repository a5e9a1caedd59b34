use Rattle.std.proofs.Common.{◌++◌, sym, ap, ◌∙◌, arith}
use Rattle.std.proofs.lemmas.Result.{on_ok_weaker}
use Rattle.mst_picture.specs.Lans.{lan_text}
use Rattle.mst_picture.proofs.TwoEnds.{two_ends}
use Rattle.mst_picture.proofs.lans.push_by_ends.Goals as goal

pub returns-in-len2 : goal.returns-in-len2
returns-in-len2 c =
    on_ok_weaker c.push_link.result
    (λ e. e ∙ ap (λ ends. c.args.out.now.items ++ lan_text c.args.lan.now ends) (sym (two_ends c.args.ends.now c.one-item.result c.other-item.result (omega arith) c.one-item.is c.other-item.is))) c.push_link.ensures

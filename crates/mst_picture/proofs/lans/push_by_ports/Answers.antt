use Rattle.std.proofs.Common.{◌++◌, sym, subst, ap, ◌∙◌, map}
use Rattle.std.proofs.lemmas.Result.{on_ok_weaker}
use Rattle.mst_picture.specs.InView.{AreAmong, end_at}
use Rattle.mst_picture.specs.Lans.{lan_text}
use Rattle.mst_picture.proofs.Named.{on_there, ends_named}
use Rattle.mst_picture.proofs.lans.push_by_ports.Goals as goal

pub ends_of-requires : goal.ends_of-requires
ends_of-requires c = subst (AreAmong c.args.plan.now.view.ports) (sym c.requires) (on_there c.args.plan.now.view c.args.lan.now)

pub returns : goal.returns
returns c =
    let s = c.args.plan.now in
    let ends = c.as_slice.ensures.value ∙ c.in_ok-ends.ensures ∙ ap (map (end_at s c.args.drawn)) c.requires ∙ ends_named s c.known.ensures c.args.drawn c.args.lan.now in
    on_ok_weaker c.push_by_ends.result (λ e. e ∙ ap (λ ends. c.args.out.now.items ++ lan_text c.args.lan.now ends) ends) c.push_by_ends.ensures

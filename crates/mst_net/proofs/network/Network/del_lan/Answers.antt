use Rattle.std.proofs.Common.{sym, subst, refl}
use Rattle.mst_lang.specs.declared.line.Edit.TheVariants.{DelLan}
use Rattle.mst_tables.specs.Contents.{Contents, CanCommit, Makes}
use Rattle.mst_net.specs.NetworkKept.{contents_of}
use Rattle.mst_net.specs.declared.network.Network.TheInside.{Inside}
use Rattle.mst_net.proofs.EditLemmas.{present_lan, lan_unmade, lan_left_sound}
use Rattle.mst_net.proofs.network.Network.del_lan.Goals as goal

pub remove-requires : goal.remove-requires
remove-requires c =
    let a = c.self.inside in
    present_lan a a c.args.lan.now (subst (CanCommit (DelLan c.args.lan.now)) (sym c.self.view_is) c.requires)

pub invariant_of-self : goal.invariant_of-self
invariant_of-self c =
    let a = c.self.inside in
    let b : Inside = record a { lans = c.remove.new.self } in
    lan_left_sound a b c.args.lan.now (subst (CanCommit (DelLan c.args.lan.now)) (sym c.self.view_is) c.requires) refl c.remove.ensures.rows c.self.invariant c.remove.ensures.numbered

pub returns : goal.returns
returns c =
    let a = c.self.inside in
    let b : Inside = record a { lans = c.remove.new.self } in
    subst (λ (old : Contents). CanCommit (DelLan c.args.lan.now) old → Makes (DelLan c.args.lan.now) old (contents_of b)) c.self.view_is
    (λ can. lan_unmade a b c.args.lan.now can refl c.remove.ensures.rows c.remove.ensures.numbers) c.requires

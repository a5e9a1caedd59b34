use Rattle.std.proofs.Common.{sym, subst, refl}
use Rattle.mst_lang.specs.declared.line.Edit.TheVariants.{SetByTree}
use Rattle.mst_tables.specs.Contents.{Contents, CanCommit, Makes}
use Rattle.mst_net.specs.NetworkKept.{contents_of}
use Rattle.mst_net.specs.declared.network.Network.TheInside.{Inside}
use Rattle.mst_net.proofs.EditLemmas.{setting_made, setting_sound}
use Rattle.mst_tables.proofs.SettingsLemmas.{has_room}
use Rattle.mst_net.proofs.network.Network.set_by_tree.Goals as goal

pub set-requires : goal.set-requires
set-requires c =
    let a = c.self.inside in
    let change = c.args.change.now in
    has_room change (contents_of a).room (subst (CanCommit (SetByTree change)) (sym c.self.view_is) c.requires).room

pub invariant_of-self : goal.invariant_of-self
invariant_of-self c =
    let a = c.self.inside in
    let b : Inside = record a { settings = c.set.new.self } in
    let change = c.args.change.now in
    setting_sound a b change (subst (CanCommit (SetByTree change)) (sym c.self.view_is) c.requires) refl c.set.ensures c.self.invariant

pub returns : goal.returns
returns c =
    let a = c.self.inside in
    let b : Inside = record a { settings = c.set.new.self } in
    let change = c.args.change.now in
    subst (λ (old : Contents). CanCommit (SetByTree change) old → Makes (SetByTree change) old (contents_of b)) c.self.view_is
    (λ can. setting_made a b change can refl c.set.ensures) c.requires

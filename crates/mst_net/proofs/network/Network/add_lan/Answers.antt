use Rattle.std.proofs.Common.{◌≡◌, ◌∙◌, ℕ, List, Some, cond, ap, sym, subst, refl}
use Rattle.std.specs.Map.{lookup}
use Rattle.mst_lang.specs.declared.line.Edit.TheVariants.{AddLan}
use Rattle.mst_tables.specs.After.{new_lan}
use Rattle.mst_tables.specs.Contents.{Contents, CanCommit, Makes}
use Rattle.mst_net.specs.NetworkKept.{contents_of}
use Rattle.mst_net.specs.declared.network.Network.TheInside.{Inside}
use Rattle.mst_tables.specs.Tables.{LanRow}
use Rattle.mst_tables.proofs.Keys.{name_eq}
use Rattle.mst_net.proofs.EditLemmas.{absent_lan, lan_made, lan_sound}
use Rattle.mst_net.proofs.network.Network.add_lan.Goals as goal

pub add-requires-clause-absent : goal.add-requires-clause-absent
add-requires-clause-absent c =
    let a = c.self.inside in
    absent_lan a a c.args.lan (subst (CanCommit (AddLan c.args.lan)) (sym c.self.view_is) c.requires)

pub invariant_of-self : goal.invariant_of-self
invariant_of-self c =
    let a = c.self.inside in
    let b : Inside = record a { lans = c.add.new.self } in
    let rows : (q : List ℕ) → lookup (name_eq q) b.lans.rows ≡ cond (name_eq c.args.lan q) (Some new_lan) (lookup (name_eq q) a.lans.rows) =
    λ q. c.add.ensures.rows q ∙ ap (λ (r : LanRow). cond (name_eq c.args.lan q) (Some r) (lookup (name_eq q) a.lans.rows)) c.new.ensures in
    lan_sound a b c.args.lan (subst (CanCommit (AddLan c.args.lan)) (sym c.self.view_is) c.requires) refl rows c.self.invariant c.add.ensures.numbered

pub returns : goal.returns
returns c =
    let a = c.self.inside in
    let b : Inside = record a { lans = c.add.new.self } in
    let rows : (q : List ℕ) → lookup (name_eq q) b.lans.rows ≡ cond (name_eq c.args.lan q) (Some new_lan) (lookup (name_eq q) a.lans.rows) =
    λ q. c.add.ensures.rows q ∙ ap (λ (r : LanRow). cond (name_eq c.args.lan q) (Some r) (lookup (name_eq q) a.lans.rows)) c.new.ensures in
    subst (λ (old : Contents). CanCommit (AddLan c.args.lan) old → Makes (AddLan c.args.lan) old (contents_of b)) c.self.view_is
    (λ can. lan_made a b c.args.lan can refl rows c.add.ensures.numbers) c.requires

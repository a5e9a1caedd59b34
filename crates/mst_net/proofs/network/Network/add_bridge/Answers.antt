use Rattle.std.proofs.Common.{◌≡◌, ◌∙◌, ℕ, List, Some, cond, ap, sym, subst, refl}
use Rattle.std.proofs.lemmas.Result.{IfOk-at_ok}
use Rattle.std.specs.Map.{lookup}
use Rattle.mst_lang.specs.declared.line.Edit.TheVariants.{AddBridge}
use Rattle.mst_tables.specs.After.{new_bridge}
use Rattle.mst_tables.specs.Contents.{Contents, CanCommit, Makes}
use Rattle.mst_net.specs.NetworkKept.{contents_of}
use Rattle.mst_net.specs.declared.network.Network.TheInside.{Inside}
use Rattle.mst_tables.specs.Tables.{BridgeRow}
use Rattle.mst_tables.proofs.Keys.{name_eq}
use Rattle.mst_net.proofs.EditLemmas.{absent_bridge, bridge_made, bridge_sound}
use Rattle.mst_net.proofs.network.Network.add_bridge.Goals as goal

pub add-requires-clause-absent : goal.add-requires-clause-absent
add-requires-clause-absent c =
    let a = c.self.inside in
    absent_bridge a a c.args.bridge c.args.mac (subst (CanCommit (AddBridge c.args.bridge c.args.mac)) (sym c.self.view_is) c.requires)

pub invariant_of-self : goal.invariant_of-self
invariant_of-self c =
    let a = c.self.inside in
    let b : Inside = record a { bridges = c.add.new.self; macs = c.insert.new.self } in
    let rows : (q : List ℕ) → lookup (name_eq q) b.bridges.rows ≡ cond (name_eq c.args.bridge q) (Some (new_bridge c.args.mac)) (lookup (name_eq q) a.bridges.rows) =
    λ q. c.add.ensures.rows q ∙ ap (λ (r : BridgeRow). cond (name_eq c.args.bridge q) (Some r) (lookup (name_eq q) a.bridges.rows)) c.new.ensures in
    bridge_sound a b c.args.bridge c.args.mac (subst (CanCommit (AddBridge c.args.bridge c.args.mac)) (sym c.self.view_is) c.requires) refl rows
    c.self.invariant c.add.ensures.numbered (IfOk-at_ok _ c.unwrap.ensures c.insert.ensures.updates).0

pub returns : goal.returns
returns c =
    let a = c.self.inside in
    let b : Inside = record a { bridges = c.add.new.self; macs = c.insert.new.self } in
    let rows : (q : List ℕ) → lookup (name_eq q) b.bridges.rows ≡ cond (name_eq c.args.bridge q) (Some (new_bridge c.args.mac)) (lookup (name_eq q) a.bridges.rows) =
    λ q. c.add.ensures.rows q ∙ ap (λ (r : BridgeRow). cond (name_eq c.args.bridge q) (Some r) (lookup (name_eq q) a.bridges.rows)) c.new.ensures in
    subst (λ (old : Contents). CanCommit (AddBridge c.args.bridge c.args.mac) old → Makes (AddBridge c.args.bridge c.args.mac) old (contents_of b)) c.self.view_is
    (λ can. bridge_made a b c.args.bridge c.args.mac can refl rows c.add.ensures.numbers) c.requires

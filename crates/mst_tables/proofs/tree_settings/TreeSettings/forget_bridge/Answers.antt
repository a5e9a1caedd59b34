use Rattle.std.proofs.Common.{◌∙◌, ap, sym, subst, refl}
use Rattle.mst_lang.specs.declared.line.Edit.TheVariants.{DelBridge}
use Rattle.mst_tables.specs.ByTree.{AreInTrees}
use Rattle.mst_tables.specs.SettingsAfter.{set_after}
use Rattle.mst_tables.specs.declared.tree_settings.TreeSettings.TheInside.{Inside}
use Rattle.mst_tables.proofs.Keys.{names, bridge_trees}
use Rattle.mst_tables.proofs.MarkedLemmas.{left_marked}
use Rattle.mst_tables.proofs.SettingsLemmas.{bridge_forgotten, small_bridge}
use Rattle.mst_tables.proofs.tree_settings.TreeSettings.forget_bridge.Goals as goal

pub invariant_of-self : goal.invariant_of-self
invariant_of-self c =
    let a = c.self.inside in
    let trees = subst (λ s. AreInTrees s.set) (sym c.self.view_is) c.requires in
    record {
      priorities =
          left_marked names bridge_trees (λ k. k.bridge) (λ k. k.tree) a.bridge_blocks.entries c.take-blocks.new.marks.entries a.priorities.entries c.forget_bridge.new.table.entries c.args.bridge.now c.take-blocks.result
          c.take-blocks.ensures.blocks c.take-blocks.ensures.left c.forget_bridge.ensures (small_bridge a a trees) c.self.invariant.priorities;
      port_priorities = c.self.invariant.port_priorities;
      port_costs = c.self.invariant.port_costs;
    }

pub returns : goal.returns
returns c =
    let a = c.self.inside in
    let b : Inside = record a { priorities = c.forget_bridge.new.table; tables = c.swap_remove.new.self; bridge_blocks = c.take-blocks.new.marks } in
    bridge_forgotten a b c.args.bridge.now c.take-blocks.result (subst (λ s. AreInTrees s.set) (sym c.self.view_is) c.requires) c.self.invariant c.take-blocks.ensures.blocks refl c.forget_bridge.ensures c.swap_remove.ensures.updates.0
    ∙ ap (λ s. set_after (DelBridge c.args.bridge.now) s.set) c.self.view_is

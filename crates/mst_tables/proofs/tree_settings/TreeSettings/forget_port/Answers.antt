use Rattle.std.proofs.Common.{◌∙◌, ap, sym, subst, refl}
use Rattle.mst_lang.specs.declared.line.Edit.TheVariants.{DelPort}
use Rattle.mst_tables.specs.ByTree.{AreInTrees}
use Rattle.mst_tables.specs.SettingsAfter.{set_after}
use Rattle.mst_tables.specs.declared.tree_settings.TreeSettings.TheInside.{Inside}
use Rattle.mst_tables.proofs.Keys.{ports, port_trees}
use Rattle.mst_tables.proofs.MarkedLemmas.{left_marked}
use Rattle.mst_tables.proofs.SettingsLemmas.{port_forgotten, small_priority, small_cost}
use Rattle.mst_tables.proofs.tree_settings.TreeSettings.forget_port.Goals as goal

pub invariant_of-self : goal.invariant_of-self
invariant_of-self c =
    let a = c.self.inside in
    let trees = subst (λ s. AreInTrees s.set) (sym c.self.view_is) c.requires in
    record {
      priorities = c.self.invariant.priorities;
      port_priorities =
          left_marked ports port_trees (λ k. k.port) (λ k. k.tree) a.port_blocks.entries c.take-blocks.new.marks.entries a.port_priorities.entries c.forget_port.new.table.entries c.args.port.now c.take-blocks.result
          c.take-blocks.ensures.blocks c.take-blocks.ensures.left c.forget_port.ensures (small_priority a a trees) c.self.invariant.port_priorities;
      port_costs =
          left_marked ports port_trees (λ k. k.port) (λ k. k.tree) a.port_blocks.entries c.take-blocks.new.marks.entries a.port_costs.entries c.forget_port-2.new.table.entries c.args.port.now c.take-blocks.result
          c.take-blocks.ensures.blocks c.take-blocks.ensures.left c.forget_port-2.ensures (small_cost a a trees) c.self.invariant.port_costs;
    }

pub returns : goal.returns
returns c =
    let a = c.self.inside in
    let b : Inside = record a { port_priorities = c.forget_port.new.table; port_costs = c.forget_port-2.new.table; vlans = c.swap_remove.new.self; port_blocks = c.take-blocks.new.marks } in
    port_forgotten a b c.args.port.now c.take-blocks.result (subst (λ s. AreInTrees s.set) (sym c.self.view_is) c.requires) c.self.invariant c.take-blocks.ensures.blocks refl c.forget_port.ensures c.forget_port-2.ensures
    c.swap_remove.ensures.updates.0
    ∙ ap (λ s. set_after (DelPort c.args.port.now) s.set) c.self.view_is

use Rattle.std.proofs.Common.{◌∙◌, ap, refl}
use Rattle.mst_lang.specs.declared.line.Edit.TheVariants.{SetByTree}
use Rattle.mst_lang.specs.declared.line.TreeChange.TheVariants.{Priority}
use Rattle.mst_tables.specs.SettingsAfter.{set_after}
use Rattle.mst_tables.specs.declared.tree_settings.TreeSettings.TheInside.{Inside}
use Rattle.mst_tables.proofs.Keys.{names, bridge_trees}
use Rattle.mst_tables.proofs.MarkedLemmas.{kept_marked}
use Rattle.mst_tables.proofs.SettingsLemmas.{priority_kept}
use Rattle.mst_tables.proofs.tree_settings.TreeSettings.set_priority.Goals as goal

pub invariant_of-self : goal.invariant_of-self
invariant_of-self c =
    let a = c.self.inside in
    record {
      priorities = kept_marked names bridge_trees (λ k. k.bridge) (λ k. k.tree) a.bridge_blocks.entries c.mark.new.marks.entries a.priorities.entries c.keep.new.table.entries _ c.own_priority.result c.mark.ensures.marked c.mark.ensures.still c.keep.ensures c.self.invariant.priorities;
      port_priorities = c.self.invariant.port_priorities;
      port_costs = c.self.invariant.port_costs;
    }

pub returns : goal.returns
returns c =
    let a = c.self.inside in
    let b : Inside = record a { priorities = c.keep.new.table; bridge_blocks = c.mark.new.marks } in
    priority_kept a b c.args.bridge.now c.args.tree c.args.priority refl _ c.own_priority.ensures c.keep.ensures ∙ ap (λ s. set_after (SetByTree (Priority c.args.bridge.now c.args.tree c.args.priority)) s.set) c.self.view_is

use Rattle.std.proofs.Common.{◌∙◌, ap, refl}
use Rattle.mst_lang.specs.declared.line.Edit.TheVariants.{SetByTree}
use Rattle.mst_lang.specs.declared.line.TreeChange.TheVariants.{PortCost}
use Rattle.mst_tables.specs.SettingsAfter.{set_after}
use Rattle.mst_tables.specs.declared.tree_settings.TreeSettings.TheInside.{Inside}
use Rattle.mst_tables.proofs.Keys.{ports, port_trees}
use Rattle.mst_tables.proofs.MarkedLemmas.{kept_marked, still_marked}
use Rattle.mst_tables.proofs.SettingsLemmas.{port_cost_kept}
use Rattle.mst_tables.proofs.tree_settings.TreeSettings.set_port_cost.Goals as goal

pub invariant_of-self : goal.invariant_of-self
invariant_of-self c =
    let a = c.self.inside in
    record {
      priorities = c.self.invariant.priorities;
      port_priorities = λ q n h. still_marked ports a.port_blocks.entries c.mark.new.marks.entries c.args.port.now c.args.tree c.mark.ensures.still q.port q.tree (c.self.invariant.port_priorities q n h);
      port_costs = kept_marked ports port_trees (λ k. k.port) (λ k. k.tree) a.port_blocks.entries c.mark.new.marks.entries a.port_costs.entries c.keep.new.table.entries _ c.args.cost c.mark.ensures.marked c.mark.ensures.still c.keep.ensures c.self.invariant.port_costs;
    }

pub returns : goal.returns
returns c =
    let a = c.self.inside in
    let b : Inside = record a { port_costs = c.keep.new.table; port_blocks = c.mark.new.marks } in
    port_cost_kept a b c.args.port.now c.args.tree c.args.cost refl c.keep.ensures ∙ ap (λ s. set_after (SetByTree (PortCost c.args.port.now c.args.tree c.args.cost)) s.set) c.self.view_is

use Rattle.std.proofs.Common.{ap, sym, subst, ◌∙◌}
use Rattle.mst_tables.specs.ByTree.{AreInTrees, by_tree}
use Rattle.mst_tables.specs.SettingsAfter.{set_after}
use Rattle.mst_tables.proofs.SettingsLemmas.{network_in_trees, set_in_network}
use Rattle.mst_net.proofs.ahead.AheadContents.settings.Goals as goal

pub make-requires-clause-trees : goal.make-requires-clause-trees
make-requires-clause-trees c = subst AreInTrees (sym (c.reserve.ensures.same ∙ c.in_ok-settings.ensures)) (network_in_trees c.self.inside.network.now.net c.known.ensures.network)

pub returns : goal.returns
returns c =
    let edit = c.self.inside.edit.now in
    c.make.ensures ∙ ap (set_after edit) (c.reserve.ensures.same ∙ c.in_ok-settings.ensures) ∙ set_in_network edit c.self.inside.network.now.net ∙ ap (λ t. by_tree t.net) c.self.view_is

use Rattle.std.proofs.Common.{◌≡◌, ℕ, ◌||◌, sym, ap, subst, ◌∙◌}
use Rattle.std.proofs.lemmas.Result.{on_ok_weaker}
use Rattle.mst_net.specs.tables.ByTree.{AreInTrees}
use Rattle.mst_view.specs.Trees.{is_among}
use Rattle.mst_trees.specs.Own.{is_set}
use Rattle.mst_trees.proofs.OwnSettings.{set_among, noted_in_both}
use Rattle.mst_trees.proofs.own.note_port.Goals as goal

pub returns : goal.returns
returns c =
    let v = c.args.view.now in
    let p = c.args.port.now in
    let set = c.settings-settings.ensures in
    let same : (tree : ℕ) → (is_among c.as_slice.result.now tree || is_among c.as_slice-2.result.now tree) ≡ is_set v.settings p.name tree =
    λ tree. (λ i. is_among ((c.as_slice.ensures.value ∙ c.in_ok-priorities.ensures) i) tree || is_among ((c.as_slice-2.ensures.value ∙ c.in_ok-costs.ensures) i) tree)
    ∙ set_among c.settings-settings.result.now.set p.name (subst AreInTrees (sym set) c.requires) tree ∙ ap (λ s. is_set s p.name tree) set in
    on_ok_weaker c.note_in_each-2.result
    (noted_in_both (is_among c.as_slice.result.now) (is_among c.as_slice-2.result.now) (is_set v.settings p.name) v p c.args.own.now.entries c.note_in_each.new.own.entries c.note_in_each-2.new.own.entries same c.in_ok-note_in_each.ensures)
    c.note_in_each-2.ensures

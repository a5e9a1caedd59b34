use Rattle.std.proofs.Common.{◌≡◌, ℕ, get_or, subst, ◌∙◌, inl, inr, arith, below_more}
use Rattle.std.proofs.lemmas.List.{get_or_default}
use Rattle.mst_graph.proofs.Members.{cases}
use Rattle.mst_vlan.specs.roles.SeenRoles.{seen_role}
use Rattle.mst_sweep.proofs.Untouched.{of_listed}
use Rattle.mst_sweep.proofs.touched.has_any_other.Goals as goal

pub returns : goal.returns
returns c e tree listed =
    let P : ℕ → Type 0 = λ t. seen_role c.args.old.now.view.now c.args.old.now.forest.now t c.args.before.now ≡ seen_role c.args.new.now.view.now c.args.new.now.forest.now t c.args.afterwards.now in
    elim (cases 0 tree c.args.mstis.now listed) [
      | inl same ↦ subst P (c.cist.ensures ∙ same) (c.has_other.ensures c.if-has_other.false)
      | inr other ↦ of_listed P c.args.mstis.now c.loop-tree.tree-index (omega arith) c.loop-tree.invariant tree other
    ]

pub loop-tree-preserved : goal.loop-tree-preserved
loop-tree-preserved c =
    let P : ℕ → Type 0 = λ t. seen_role c.args.old.now.view.now c.args.old.now.forest.now t c.args.before.now ≡ seen_role c.args.new.now.view.now c.args.new.now.forest.now t c.args.afterwards.now in
    let mstis = c.args.mstis.now in
    let i = c.loop-tree.tree-index in
    let item = c.tree-item.result in
    let one : item ≡ get_or mstis i 0 = c.tree-item.is ∙ get_or_default mstis i item 0 c.loop-tree-test.true in
    below_more (λ k. P (get_or mstis k 0)) i c.loop-tree.invariant (subst P one (c.has_other-in-loop-tree.ensures c.if-has_other-2.false))

use Rattle.std.proofs.Common.{◌≡◌, ◌||◌, ℕ, Bool, true, false, cond, List, refl, sym, ◌∙◌}
use Rattle.std.specs.HashSet.{contains}
use Rattle.std.proofs.lemmas.List.Folds.{list_any_more}
use Rattle.mst_sweeping.specs.Links.{same_link}
use Rattle.mst_sweeping.specs.declared.links.Link.{Link}
use Rattle.mst_sweeping.proofs.turns.set_of_links.Goals as goal

also : (is had : Bool) → cond is true had ≡ (had || is)
also true true = refl
also true false = refl
also false true = refl
also false false = refl

pub loop-link-preserved : goal.loop-link-preserved
loop-link-preserved c = λ link.
    let links : List Link = c.args.links.now in
    let i : ℕ = c.loop-link.link-index in
    let item : Link = c.link-item.result in
    c.in_ok-insert.ensures.updates.0 link ∙ also (same_link item link) (contains same_link c.loop-link.set link)
    ∙ (λ k. c.loop-link.invariant link k || same_link (c.link-item.is k) link)
    ∙ sym (list_any_more (λ (other : Link). same_link other link) links i item c.loop-link-test.true)

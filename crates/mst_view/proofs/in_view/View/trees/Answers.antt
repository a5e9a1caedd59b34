use Rattle.std.proofs.Common.{◌≡◌, List, Some, None, nat_eq, sym, ap, ◌∙◌}
use Rattle.std.specs.List.{find}
use Rattle.mst_view.specs.Viewed.{Viewed}
use Rattle.mst_view.specs.declared.trees.TreesInView.{TreesInView}
use Rattle.mst_view.proofs.TreesOf.{at_number}
use Rattle.mst_view.proofs.in_view.View.trees.Goals as goal

pub returns-in-Some : goal.returns-in-Some
returns-in-Some c =
    let ts : List TreesInView = c.self.inside.trees in
    let found : find (λ (t : TreesInView). nat_eq c.args.bridge t.bridge) ts ≡ Some c.in-Some.has.now =
    ap (λ n. find (λ (t : TreesInView). nat_eq n t.bridge) ts) (sym c.bridge.view_is) ∙ sym c.in-Some.ensures in
    c.as_slice.ensures ∙ sym (at_number c.args.self.now ts c.args.bridge (Some c.in-Some.has.now) (ap (λ (w : Viewed). w.trees) (sym c.self.view_is)) found)

pub returns-in-None : goal.returns-in-None
returns-in-None c =
    let ts : List TreesInView = c.self.inside.trees in
    let found : find (λ (t : TreesInView). nat_eq c.args.bridge t.bridge) ts ≡ None =
    ap (λ n. find (λ (t : TreesInView). nat_eq n t.bridge) ts) (sym c.bridge.view_is) ∙ sym c.in-None.ensures in
    sym (at_number c.args.self.now ts c.args.bridge None (ap (λ (w : Viewed). w.trees) (sym c.self.view_is)) found)

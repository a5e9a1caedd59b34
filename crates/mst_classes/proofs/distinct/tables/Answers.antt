use Rattle.std.proofs.Common.{◌≡◌, ◌++◌, ℕ, List, sym, ap, subst, ◌∙◌}
use Rattle.std.specs.List.{AllByRecursion, Contains}
use Rattle.mst_tables.specs.ByTree.{table_in}
use Rattle.mst_view.specs.declared.in_view.BridgeInView.{BridgeInView}
use Rattle.mst_classes.proofs.distinct.tables.Goals as goal

pub returns : goal.returns
returns c =
    let v = c.args.view.now in
    let met : List (List ℕ) = c.meet_tables.new.met.keys in
    let all : c.extend_from_slice.new.self.items ≡ met =
    c.in_ok-extend_from_slice.ensures.items ∙ ap (λ ts. ts ++ c.as_slice.result.now) c.new-tables.ensures.items ∙ c.as_slice.ensures.keys in
    subst (λ ts. AllByRecursion (λ (b : BridgeInView). Contains ts (table_in v.settings.tables b.name)) v.bridges) (sym all) c.in_ok-meet_tables.ensures.there

use Rattle.std.proofs.Common.{◌≡◌, ◌++◌, ◌∷◌, [], None, not, ap, sym, subst, ◌∙◌}
use Rattle.std.proofs.lemmas.Result.{IfOk-weaker}
use Rattle.std.specs.FinMap as fin
use Rattle.std.specs.List.{filter}
use Rattle.std.specs.List.Sorted.{IsPermutation}
use Rattle.mst_tables.specs.After.{effect, refusal_of, new_bridge}
use Rattle.mst_tables.proofs.AfterLemmas.{bridge_addable}
use Rattle.mst_tables.proofs.Keys.{name_eq, names}
use Rattle.mst_tables.proofs.NamesInOrder.{name_joins, name_leaves}
use Rattle.mst_net.proofs.NamesAfter.{bridge_names_stay}
use Rattle.mst_net.proofs.ahead.AheadContents.bridge_names.Goals as goal

pub returns-in-AddBridge : goal.returns-in-AddBridge
returns-in-AddBridge c =
    let old = c.self.inside.network.now in
    let bridge = c.in-AddBridge.bridge in
    IfOk-weaker c.with_name.result _ _ (λ all joined.
    name_joins names old.net.bridges bridge (new_bridge c.in-AddBridge.mac) all.items (bridge_addable old.net c.in-AddBridge.bridge c.in-AddBridge.mac (subst (λ e. refusal_of e old.net ≡ None) c.in-AddBridge.is c.self.invariant.accepted)).0
    (subst (λ l. IsPermutation (l ++ bridge ∷ []) all.items) c.in_ok-names.ensures joined.0) joined.1
    ∙ ap (λ e. fin.keys (effect e old.net).bridges) (sym c.in-AddBridge.is) ∙ ap (λ t. fin.keys t.net.bridges) c.self.view_is) c.with_name.ensures

pub returns-in-DelBridge : goal.returns-in-DelBridge
returns-in-DelBridge c =
    let old = c.self.inside.network.now in
    let bridge = c.in-DelBridge.bridge in
    c.without_name.ensures ∙ ap (filter (λ name. not (name_eq bridge name))) c.in_ok-names.ensures ∙ name_leaves names old.net.bridges bridge
    ∙ ap (λ e. fin.keys (effect e old.net).bridges) (sym c.in-DelBridge.is) ∙ ap (λ t. fin.keys t.net.bridges) c.self.view_is

pub returns-in_default : goal.returns-in_default
returns-in_default c =
    let old = c.self.inside.network.now in
    c.in_ok-names.ensures ∙ bridge_names_stay c.self.inside.edit.now old.net c.in_default.not-AddBridge c.in_default.not-DelBridge ∙ ap (λ t. fin.keys t.net.bridges) c.self.view_is

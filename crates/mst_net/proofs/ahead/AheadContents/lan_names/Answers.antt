use Rattle.std.proofs.Common.{◌≡◌, ◌++◌, ◌∷◌, [], None, not, ap, sym, subst, ◌∙◌}
use Rattle.std.proofs.lemmas.Result.{IfOk-weaker}
use Rattle.std.specs.FinMap as fin
use Rattle.std.specs.List.{filter}
use Rattle.std.specs.List.Sorted.{IsPermutation}
use Rattle.mst_tables.specs.After.{effect, refusal_of, new_lan}
use Rattle.mst_tables.proofs.AfterLemmas.{lan_addable}
use Rattle.mst_tables.proofs.Keys.{name_eq, names}
use Rattle.mst_tables.proofs.NamesInOrder.{name_joins, name_leaves}
use Rattle.mst_net.proofs.NamesAfter.{lan_names_stay}
use Rattle.mst_net.proofs.ahead.AheadContents.lan_names.Goals as goal

pub returns-in-AddLan : goal.returns-in-AddLan
returns-in-AddLan c =
    let old = c.self.inside.network.now in
    let lan = c.in-AddLan.lan in
    IfOk-weaker c.with_name.result _ _ (λ all joined.
    name_joins names old.net.lans lan new_lan all.items (lan_addable old.net c.in-AddLan.lan (subst (λ e. refusal_of e old.net ≡ None) c.in-AddLan.is c.self.invariant.accepted)).0
    (subst (λ l. IsPermutation (l ++ lan ∷ []) all.items) c.in_ok-names.ensures joined.0) joined.1
    ∙ ap (λ e. fin.keys (effect e old.net).lans) (sym c.in-AddLan.is) ∙ ap (λ t. fin.keys t.net.lans) c.self.view_is) c.with_name.ensures

pub returns-in-DelLan : goal.returns-in-DelLan
returns-in-DelLan c =
    let old = c.self.inside.network.now in
    let lan = c.in-DelLan.lan in
    c.without_name.ensures ∙ ap (filter (λ name. not (name_eq lan name))) c.in_ok-names.ensures ∙ name_leaves names old.net.lans lan
    ∙ ap (λ e. fin.keys (effect e old.net).lans) (sym c.in-DelLan.is) ∙ ap (λ t. fin.keys t.net.lans) c.self.view_is

pub returns-in_default : goal.returns-in_default
returns-in_default c =
    let old = c.self.inside.network.now in
    c.in_ok-names.ensures ∙ lan_names_stay c.self.inside.edit.now old.net c.in_default.not-AddLan c.in_default.not-DelLan ∙ ap (λ t. fin.keys t.net.lans) c.self.view_is

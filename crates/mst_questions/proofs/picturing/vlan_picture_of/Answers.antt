use Rattle.std.proofs.Common.{ℕ, List, ap, subst, sym, ◌∙◌, ◌++◌}
use Rattle.mst_net.specs.tables.Tables.{Net}
use Rattle.mst_roles.specs.forest.Settled.{outcome_of}
use Rattle.mst_picture.specs.VlanPicture.{IsVlanPicture}
use Rattle.mst_questions.specs.Picturing.{DepictsVlan}
use Rattle.mst_questions.proofs.picturing.vlan_picture_of.Goals as goal

pub returns : goal.returns
returns c =
    let plan = c.settled-plan.result in
    let o = outcome_of plan in
    let vid = c.args.vid in
    let p = c.in_ok-push_vlan_picture.ensures {u = tt} in
    let same = p.2 ∙ ap (λ l. l ++ p.0) c.new-text.ensures.items in
    subst (λ (net : Net). DepictsVlan net vid c.push_vlan_picture.new.out.items) c.settled-plan.ensures
    (record { outcome = o; is_outcome = c.known.ensures.is_outcome; drawn = subst (λ (text : List ℕ). IsVlanPicture plan.net o vid text) (sym same) p.1 })

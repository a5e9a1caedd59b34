use Rattle.std.proofs.Common.{◌&&◌, not, ◌++◌, Option, None, get_or, ap, ◌∙◌}
use Rattle.std.proofs.lemmas.List.{get_or_default}
use Rattle.std.specs.List.{flat_map}
use Rattle.mst_graph.proofs.Members.{from_filter}
use Rattle.mst_view.specs.declared.in_view.PortInView.{PortInView}
use Rattle.mst_policy.specs.Items as policy
use Rattle.mst_roles.specs.declared.kind.Role.{Role}
use Rattle.mst_roles.specs.forest.Settled.{outcome_of}
use Rattle.mst_judged.specs.reasons.Reasons.{all_roles, role_reasons}
use Rattle.mst_judged.specs.Seen.{seen_ports_named, seen_stopped}
use Rattle.mst_tree_judges.specs.Seen.{seen_role_reason}
use Rattle.mst_tree_judges.proofs.FlatMore.{flat_all, flat_more}
use Rattle.mst_judged.proofs.NamedIn.{ports_seen}
use Rattle.mst_tree_judges.proofs.RolesNamed.{reasons_named}
use Rattle.mst_tree_judges.proofs.roles.role_reasons.Goals as goal

pub loop-role-preserved : goal.loop-role-preserved
loop-role-preserved c =
    let s = c.args.judged.now.plan.now in
    let roles = c.args.roles.now in
    let l = c.loop-role in
    let role : Option Role = get_or all_roles l.role-index None in
    flat_more (seen_role_reason s.view s.forest c.args.tree c.in_ok-named.named.items roles) all_roles l.role-index role c.loop-role-test.true (get_or_default all_roles l.role-index None role c.loop-role-test.true) l.reasons.items
    c.add_role.new.reasons.items l.invariant
    (c.in_ok-add_role.ensures ∙ ap (λ those. l.reasons.items ++ seen_role_reason s.view s.forest c.args.tree those roles role) c.as_slice.ensures.value)

pub returns : goal.returns
returns c before kept =
    let judged = c.args.judged.now in
    let s = judged.plan.now in
    let v = s.view in
    let f = s.forest in
    let is = c.known.ensures in
    let tree = c.args.tree in
    let ports = c.args.ports.now in
    let roles = c.args.roles.now in
    let l = c.loop-role in
    let named = seen_ports_named v judged.before.now ports in
    flat_all (seen_role_reason v f tree c.in_ok-named.named.items roles) all_roles l.role-index c.loop-role-test.false l.reasons.items l.invariant
    ∙ ap (λ those. flat_map (seen_role_reason v f tree those roles) all_roles) c.in_ok-named.ensures
    ∙ reasons_named s is tree named (λ p h. (from_filter (λ (q : PortInView). policy.has_port ports q.name && not (seen_stopped judged.before.now q)) v.ports p h).0) roles
    ∙ ap (λ those. role_reasons s.net (outcome_of s) tree those roles) (ports_seen s.net s.numbers v is.of.view before judged.before.now kept ports)

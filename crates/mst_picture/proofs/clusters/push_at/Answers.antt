use Rattle.std.proofs.Common.{◌≡◌, ◌==◌, ◌++◌, [], Option, Some, sym, ap, ◌∙◌}
use Rattle.std.specs.List.{find}
use Rattle.std.specs.Option.{option_map_or}
use Rattle.std.proofs.lemmas.Result.{on_ok_weaker}
use Rattle.mst_view.specs.declared.in_view.BridgeInView.{BridgeInView}
use Rattle.mst_view.specs.Viewed.{Viewed}
use Rattle.mst_roles.specs.SeenRoles.{seen_tree}
use Rattle.mst_roles.proofs.Named.{found_in}
use Rattle.mst_picture.specs.InView.{node_of}
use Rattle.mst_picture.proofs.clusters.push_at.Goals as goal

pub push_node-requires : goal.push_node-requires
push_node-requires c =
    let n = c.args.number in
    found_in (λ (b : BridgeInView). n == b.bridge.number) c.args.plan.now.view.bridges c.in-Some.bridge.now (sym (c.in-Some.ensures ∙ ap (λ (v : Viewed). find (λ (b : BridgeInView). n == b.bridge.number) v.bridges) c.view.ensures))

pub returns-in-Some : goal.returns-in-Some
returns-in-Some c =
    let s = c.args.plan.now in
    let n = c.args.number in
    let vid = c.args.vid in
    let b = c.in-Some.bridge.now in
    let out = c.args.out.now.items in
    let found : Some b ≡ find (λ (b : BridgeInView). n == b.bridge.number) s.view.bridges = c.in-Some.ensures ∙ ap (λ (v : Viewed). find (λ (b : BridgeInView). n == b.bridge.number) v.bridges) c.view.ensures in
    let tree : c.vid_tree.result ≡ seen_tree s.view n vid = c.vid_tree.ensures ∙ ap (λ (v : Viewed). seen_tree v n vid) c.view-in-Some.ensures in
    on_ok_weaker c.push_node.result
    (λ e. e ∙ ap (λ tree. out ++ node_of s tree b) tree ∙ ap (λ (found : Option BridgeInView). out ++ option_map_or (node_of s (seen_tree s.view n vid)) found []) found) c.push_node.ensures

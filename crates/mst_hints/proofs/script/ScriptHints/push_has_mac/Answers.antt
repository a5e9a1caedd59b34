use Rattle.std.proofs.Common.{◌∙◌, ◌++◌, Some, codes, ap}
use Rattle.std.proofs.lemmas.Result.{on_ok_weaker}
use Rattle.mst_hints.specs.Hints.{hint_line}
use Rattle.mst_hints.specs.Standing.{held_text, holder_text, since_held}
use Rattle.mst_hints.proofs.Lined.{joined, lined}
use Rattle.mst_hints.proofs.script.ScriptHints.push_has_mac.Goals as goal

pub returns : goal.returns
returns c =
    let out = c.args.out.now.items in let of = c.args.self.now.of.now in let number = c.args.self.now.number in let held = c.args.held.now in
    let has = codes " has this MAC address" in
    let who = held_text held (codes "a bridge") in
    on_ok_weaker c.push_end.result
    (λ ends past kept.
    let since = since_held past.makings held in
    let behind = joined c.push_held.new.out.items has since c.push_bytes.new.out.items c.push_since_held.new.out.items c.in_ok-push_bytes.ensures.ok (c.in_ok-push_since_held.ensures past kept) in
    let told = joined c.push_start.new.out.items who (has ++ since) c.push_held.new.out.items c.push_since_held.new.out.items c.in_ok-push_held.ensures behind in
    lined of number (who ++ (has ++ since)) out c.push_start.new.out.items c.push_since_held.new.out.items c.push_end.new.out.items c.in_ok-push_start.ensures told ends
    ∙ ap (λ n. out ++ hint_line of n (Some (holder_text past.makings held))) kept.number
    ∙ ap (λ o. out ++ hint_line o past.number (Some (holder_text past.makings held))) kept.of) c.push_end.ensures

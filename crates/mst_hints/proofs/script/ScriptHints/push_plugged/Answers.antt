use Rattle.std.proofs.Common.{◌∙◌, ◌++◌, [], Some, codes, ap}
use Rattle.std.proofs.lemmas.Result.{on_ok_weaker}
use Rattle.std.specs.Option.{option_map_or}
use Rattle.mst_hints.specs.Hints.{hint_line}
use Rattle.mst_hints.specs.Puts.{lan_of}
use Rattle.mst_hints.specs.Standing.{lan_text, made_text, plugged_text, record_text}
use Rattle.mst_hints.specs.declared.record.Record.TheVariants.{Port}
use Rattle.mst_hints.proofs.Lined.{joined, lined}
use Rattle.mst_hints.proofs.script.ScriptHints.push_plugged.Goals as goal

pub returns : goal.returns
returns c =
    let out = c.args.out.now.items in let of = c.args.self.now.of.now in let number = c.args.self.now.number in let port = c.args.port.now in
    let since = option_map_or made_text c.last_made.result [] in
    let lan = lan_text c.lan_of.result in
    let held = codes " is in " in
    let last = joined c.push_bytes.new.out.items lan since c.push_lan.new.out.items c.push_since_made.new.out.items c.in_ok-push_lan.ensures c.in_ok-push_since_made.ensures in
    let behind = joined c.push_record.new.out.items held (lan ++ since) c.push_bytes.new.out.items c.push_since_made.new.out.items c.in_ok-push_bytes.ensures.ok last in
    let told = joined c.push_start.new.out.items (record_text (Port port)) (held ++ (lan ++ since)) c.push_record.new.out.items c.push_since_made.new.out.items c.in_ok-push_record.ensures behind in
    on_ok_weaker c.push_end.result
    (λ ends past kept.
    lined of number (record_text (Port port) ++ (held ++ (lan ++ since))) out c.push_start.new.out.items c.push_since_made.new.out.items c.push_end.new.out.items c.in_ok-push_start.ensures told ends
    ∙ ap (λ found. out ++ hint_line of number (Some (record_text (Port port) ++ (held ++ (lan_text found ++ since))))) (c.lan_of.ensures ∙ ap (λ net. lan_of net port) kept.net)
    ∙ ap (λ line. out ++ hint_line of number (Some (record_text (Port port) ++ (held ++ (lan_text (lan_of past.net port) ++ option_map_or made_text line []))))) (c.last_made.ensures past.makings kept.makings)
    ∙ ap (λ n. out ++ hint_line of n (Some (plugged_text past.makings past.net port))) kept.number
    ∙ ap (λ o. out ++ hint_line o past.number (Some (plugged_text past.makings past.net port))) kept.of) c.push_end.ensures

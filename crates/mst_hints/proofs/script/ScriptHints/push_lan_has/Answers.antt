use Rattle.std.proofs.Common.{◌∙◌, ◌++◌, Some, codes, ap}
use Rattle.std.proofs.lemmas.Result.{on_ok_weaker}
use Rattle.mst_hints.specs.Hints.{hint_line}
use Rattle.mst_hints.specs.Standing.{lan_has_text, has_port_text}
use Rattle.mst_hints.specs.declared.record.Record.TheVariants.{Lan}
use Rattle.mst_hints.proofs.Lined.{lined}
use Rattle.mst_hints.proofs.script.ScriptHints.push_lan_has.Goals as goal

pub returns : goal.returns
returns c =
    let out = c.args.out.now.items in let of = c.args.self.now.of.now in let number = c.args.self.now.number in let lan = c.args.lan.now in
    let first = codes "; unplug comes first" in
    on_ok_weaker c.push_end.result
    (λ ends past kept.
    lined of number (has_port_text (Lan lan) c.held_by.result first) out c.push_start.new.out.items c.push_has_port.new.out.items c.push_end.new.out.items c.in_ok-push_start.ensures c.in_ok-push_has_port.ensures ends
    ∙ ap (λ port. out ++ hint_line of number (Some (has_port_text (Lan lan) port first))) (c.held_by.ensures past kept)
    ∙ ap (λ n. out ++ hint_line of n (Some (lan_has_text past.puts past.net lan))) kept.number
    ∙ ap (λ o. out ++ hint_line o past.number (Some (lan_has_text past.puts past.net lan))) kept.of) c.push_end.ensures

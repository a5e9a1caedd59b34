use Rattle.std.proofs.Common.{◌==◌, sym, ◌∙◌}
use Rattle.std.specs.Cmp.Lexicographic.{bytes_decides}
use Rattle.mst_view.specs.declared.in_view.BridgeInView.{BridgeInView}
use Rattle.mst_facts.proofs.Lists.{find-found}
use Rattle.mst_sweep.proofs.Paired.{paired}
use Rattle.mst_sweep.proofs.pairs.of_number.Goals as goal

pub returns : goal.returns
returns c =
    let known = c.requires in
    let w = c.args.new.now.view.now in
    let x = c.args.old.now in
    let y = c.in-Some.other.now in
    let found = find-found (λ (b : BridgeInView). x.bridge.number == b.bridge.number) w.bridges y (sym c.in-Some.ensures) in
    paired known.net known.numbers w known.of.view x y found.0 ((bytes_decides y.name x.name).0 (sym c.has_name_of.ensures ∙ c.if-not-has_name_of.false))

use Rattle.std.proofs.Common.{ap, ◌∙◌, arith}
use Rattle.std.proofs.lemmas.Grind.{common_steps}
use Rattle.std.proofs.lemmas.List.{take_all}
use Rattle.mst_trees.specs.Wirings.{own_in}
use Rattle.mst_trees.proofs.OwnSettings.{noted_of, are_own}
use Rattle.mst_trees.proofs.own.own_settings.Goals as goal

pub loop-port-preserved : goal.loop-port-preserved
loop-port-preserved c = λ tree k. grind (arith, common_steps, c.loop-port.invariant tree k)

pub returns : goal.returns
returns c = λ tree.
    let v = c.args.view.now in
    let l = c.loop-port in
    are_own v tree v.ports (own_in l.own.entries tree) c.requires.numbers
    (λ k. l.invariant tree k ∙ ap (λ ports. noted_of v tree ports k) (take_all l.port-index c.ports-port-items.result.now c.loop-port-test.false ∙ c.ports-port-items.ensures))

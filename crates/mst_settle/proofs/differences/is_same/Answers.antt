use Rattle.std.proofs.Common.{◌≡◌, IsTrue, sym, ◌∙◌}
use Rattle.mst_settle.proofs.Rewired.{same_ports}
use Rattle.mst_settle.proofs.differences.is_same.Goals.{then-same_bridges, else-same_bridges}
use Rattle.mst_settle.proofs.differences.is_same.Goals as goal

pub returns-then-same_at_numbers-clause-ports : goal.returns-then-same_at_numbers-clause-ports
returns-then-same_at_numbers-clause-ports g c = λ yes.
    elim c.if-same_bridges.branch [
      | then-same_bridges v ↦
          let numbers : IsTrue v.same_at_numbers.result = sym v.value-is ∙ c.if-same_at_numbers.true in
          let bridges : c.args.from.now.bridges ≡ c.args.to.now.bridges = sym c.bridges.ensures ∙ c.same_bridges.ensures.yes v.if-same_bridges.true ∙ c.bridges-2.ensures in
          same_ports c.args.rewiring.now.from c.args.rewiring.now.to c.args.from.now c.args.to.now c.args.own_from.now c.args.own_to.now c.requires.from c.requires.to
          v.differing.result.now v.differing.ensures bridges (v.same_at_numbers.ensures numbers) (c.same_at_own.ensures yes)
      | else-same_bridges v ↦ (let no : ⊥ = cc (v.value-is, c.if-same_at_numbers.true) in absurd no)
    ]

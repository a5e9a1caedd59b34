use Rattle.std.proofs.Common.{◌∷◌, [], take, get_or, subst, sym, arith}
use Rattle.std.proofs.lemmas.List.{take_all, take_more}
use Rattle.mst_hinting.specs.Hinted.{IsTold}
use Rattle.mst_hinting.proofs.Tells.{told_nothing, told_more}
use Rattle.mst_hinting.proofs.hinted.take_bytes.Goals as goal

pub loop-byte-init : goal.loop-byte-init
loop-byte-init c = record {
  told = λ past kept. told_nothing past c.args.held.now c.args.hints.now c.args.out.now.items kept;
  few = omega arith;
}

pub loop-byte-preserved : goal.loop-byte-preserved
loop-byte-preserved c =
    let bytes = c.args.bytes.now in
    let i = c.loop-byte.byte-index in
    record {
      told = λ past kept.
          let was = c.loop-byte.invariant.told past kept in
          let new = c.in_ok-take_byte.ensures.told was.now was.kept in
          subst (λ l. IsTold past c.args.held.now l c.take_byte.new.hints c.take_byte.new.held c.args.out.now.items c.take_byte.new.out.items) (sym (take_more bytes i 0 (omega arith)))
          (told_more past c.args.held.now c.loop-byte.held c.take_byte.new.held (take i bytes) (get_or bytes i 0 ∷ []) c.loop-byte.hints c.take_byte.new.hints c.args.out.now.items c.loop-byte.out.items c.take_byte.new.out.items was new);
      few = omega (arith, c.loop-byte.invariant.few, c.in_ok-take_byte.ensures.few);
    }

pub returns-clause-told : goal.returns-clause-told
returns-clause-told c past kept =
    subst (λ l. IsTold past c.args.held.now l c.loop-byte.hints c.loop-byte.held c.args.out.now.items c.loop-byte.out.items)
    (take_all c.loop-byte.byte-index c.args.bytes.now (omega arith))
    (c.loop-byte.invariant.told past kept)

use Rattle.std.proofs.Common.{◌≡◌, ◌+◌, subst, arith}
use Rattle.mst_ids.proofs.VidSetLemmas.{HasAlso, HasAlso-more, IsKeptSet-also, set_of_also}
use Rattle.mst_ids.proofs.vid_set.VidSet.insert_all.Goals as goal

pub invariant_of-self : goal.invariant_of-self
invariant_of-self c =
    IsKeptSet-also c.self.inside.words c.loop-vid.self-inside.words c.args.first c.loop-vid.vid c.requires.least (omega arith) c.self.invariant.first c.self.invariant.last c.loop-vid.invariant.long c.loop-vid.invariant.fits c.loop-vid.invariant.bits

pub invariant_of-self-in-loop-vid : goal.invariant_of-self-in-loop-vid
invariant_of-self-in-loop-vid c =
    IsKeptSet-also c.self.inside.words c.set_bit.new.words c.args.first (c.loop-vid.vid + 1) c.requires.least (omega arith) c.self.invariant.first c.self.invariant.last c.set_bit.array_long c.set_bit.ensures.fits
    (HasAlso-more c.self.inside.words c.loop-vid.self-inside.words c.set_bit.new.words c.args.first c.loop-vid.vid (omega arith) c.loop-vid.invariant.bits c.set_bit.ensures.bits)

pub loop-vid-preserved : goal.loop-vid-preserved
loop-vid-preserved c = record {
  long = c.set_bit.array_long;
  fits = c.set_bit.ensures.fits;
  bits = HasAlso-more c.self.inside.words c.loop-vid.self-inside.words c.set_bit.new.words c.args.first c.loop-vid.vid (omega arith) c.loop-vid.invariant.bits c.set_bit.ensures.bits;
}

pub returns : goal.returns
returns c =
    let end : c.loop-vid.vid ≡ c.args.last + 1 = omega arith in
    set_of_also c.args.self.now c.self.inside.words c.loop-vid.self-inside.words c.args.first c.args.last c.self.view_is
    (subst (λ vid. HasAlso c.self.inside.words c.args.first vid c.loop-vid.self-inside.words) end c.loop-vid.invariant.bits)

pub returns-2 : goal.returns-2
returns-2 c =
    let end : c.loop-vid.vid ≡ c.args.last = omega arith in
    set_of_also c.args.self.now c.self.inside.words c.set_bit.new.words c.args.first c.args.last c.self.view_is
    (subst (λ vid. HasAlso c.self.inside.words c.args.first (vid + 1) c.set_bit.new.words) end
    (HasAlso-more c.self.inside.words c.loop-vid.self-inside.words c.set_bit.new.words c.args.first c.loop-vid.vid (omega arith) c.loop-vid.invariant.bits c.set_bit.ensures.bits))

use Rattle.std.proofs.Common.{◌*◌, ◌%◌, ◌^◌, ◌<◌, get_or, bit_or, arith}
use Rattle.std.proofs.lemmas.Nat.{or_lt}
use Rattle.mst_ids.proofs.VidSetLemmas.{bit_of-set, fits-set}
use Rattle.mst_ids.proofs.vid_set.set_bit.Goals as goal

pub returns-clause-bits : goal.returns-clause-bits
returns-clause-bits c n = bit_of-set c.args.words.now c.from.result c.args.number n (omega arith) c.requires (omega arith)

pub returns-clause-fits : goal.returns-clause-fits
returns-clause-fits c =
    let words = c.args.words.now in
    let bit = 1 * 2 ^ (c.args.number % 64) % 2 ^ 64 in
    let small : bit < 2 ^ 64 = omega arith in
    fits-set words c.from.result (bit_or (get_or words c.from.result 0) bit) c.fits-words (or_lt 64 (get_or words c.from.result 0) bit (c.fits-words c.from.result) small)

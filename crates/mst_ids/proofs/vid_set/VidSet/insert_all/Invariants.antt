use Rattle.std.proofs.Common.{◌≡◌, ℕ, ◌^◌, ◌<◌, length, get_or}
use Rattle.mst_ids.proofs.VidSetLemmas.{HasAlso}
use Rattle.mst_ids.proofs.vid_set.VidSet.insert_all.Given as goal

-- the words keep their form, and the bits from the first on and below the next are set too
abbrev pub invariant-loop-vid : goal.invariant-loop-vid
invariant-loop-vid l = record {
  long : length l.self-inside.words ≡ 64;
  fits : (i : ℕ) → get_or l.self-inside.words i 0 < 2 ^ 64;
  bits : HasAlso l.initial.self-inside.words l.first l.vid l.self-inside.words;
}

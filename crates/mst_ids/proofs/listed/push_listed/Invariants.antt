use Rattle.std.proofs.Common.{◌≡◌, ◌++◌, map, take}
use Rattle.std.specs.List.{flat_map}
use Rattle.mst_ids.specs.Words.{after_space}
use Rattle.mst_ids.proofs.listed.push_listed.Given as goal

-- the words so far
abbrev pub invariant-loop-word : goal.invariant-loop-word
invariant-loop-word g l = l.out.items ≡ l.fn.out.items ++ flat_map after_space (map g.W.Word.word (take l.word-index l.words))

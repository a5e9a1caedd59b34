use Rattle.std.proofs.Common.{◌≡◌, ◌++◌, map, take}
use Rattle.std.specs.List.{flat_map}
use Rattle.mst_ids.specs.Words.{after_space}
use Rattle.mst_ids.proofs.line.push_words.Given as goal

abbrev pub invariant-loop-word : goal.invariant-loop-word
invariant-loop-word l = l.out.items ≡ l.fn.out.items ++ flat_map after_space (map (λ word. word.now) (take l.word-index l.words))

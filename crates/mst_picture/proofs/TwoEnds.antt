-- The two ends of a logical LAN.
use Rattle.std.proofs.Common.{◌≡◌, List, [], ◌∷◌, length, get_or, sym, arith}
use Rattle.mst_picture.specs.declared.ends.End.{End}

-- a list of two is made of the first and the second
pub two_ends : (ends : List End) (one other : End) → length ends ≡ 2 → one ≡ get_or ends 0 one → other ≡ get_or ends 1 other → ends ≡ one ∷ other ∷ []
two_ends [] one other long first second = absurd (omega arith)
two_ends (a ∷ []) one other long first second = absurd (omega arith)
two_ends (a ∷ b ∷ []) one other long first second = λ i. sym first i ∷ sym second i ∷ []
two_ends (a ∷ b ∷ c ∷ others) one other long first second = absurd (omega arith)

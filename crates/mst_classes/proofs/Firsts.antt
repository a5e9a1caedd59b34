-- The first VID of each class is one.
use Rattle.std.proofs.Common.{◌≡◌, ◌<◌, ℕ, List, length, get_or, nat_eq, subst, sym}
use Rattle.std.specs.List.{All}
use Rattle.std.proofs.lemmas.List.{get_or_default}
use Rattle.mst_graph.specs.Numbers.{AreNumbers}

pub firsts_below : (told numbers firsts : List ℕ) → length told ≡ 4094 → AreNumbers nat_eq told numbers firsts → All (λ place. place < 4094) firsts
firsts_below told numbers firsts long are = λ n d below. let e = get_or_default firsts n d 0 below in subst (λ place. place < 4094) (sym e) (subst (λ k. get_or firsts n 0 < k) long (are.first n below).0)

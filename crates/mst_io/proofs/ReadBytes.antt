-- What was read of a reader.
use Rattle.std.proofs.Common.{◌≡◌, ℕ, ◌+◌, List, [], ◌++◌, length, Option, Some, None, sym, ap, subst, ◌∙◌, arith, append-nil, ◌*◌, ◌≤◌, take, length-append, length-take-le}
use Rattle.std.specs.Option.{unwrap_or}
use Rattle.std.specs.Io.KnownBytes.{Consumes, Keeps, IsAtEnd}
use Rattle.std.proofs.KnownBytes.{Consumes-trans}
use Rattle.mst_io.specs.Written.{Reads}

-- what is read of a reader, and then the rest of it
pub Reads-rest : (a b : Option (List ℕ)) (bytes : List ℕ) → Consumes a b bytes → Reads a (bytes ++ unwrap_or b [])
Reads-rest None b bytes h = tt
Reads-rest (Some x) None bytes h = absurd h
Reads-rest (Some x) (Some y) bytes h = h

pub Reads-all : (a b : Option (List ℕ)) (bytes : List ℕ) → Consumes a b bytes → IsAtEnd b → Reads a bytes
Reads-all None b bytes h e = tt
Reads-all (Some x) None bytes h e = absurd h
Reads-all (Some x) (Some y) bytes h e = h ∙ ap (λ l. bytes ++ l) e ∙ append-nil bytes

-- a turn brings no more bytes than its buffer has
pub few_more : (read buf : List ℕ) (count turn : ℕ) → length read ≤ 4096 * turn → count ≤ length buf → length buf ≤ 4096 → length (read ++ take count buf) ≤ 4096 * (turn + 1)
few_more read buf count turn few within small = omega (arith, length-append read (take count buf), length-take-le count buf within)

-- a read that gave nothing
pub Consumes-none : (a b c : Option (List ℕ)) (read buf : List ℕ) (count : ℕ) → count ≡ 0 → Consumes a b read → Consumes b c (take count buf) → Consumes a c read
Consumes-none a b c read buf count none p q =
    subst (Consumes a c) (ap (λ n. read ++ take n buf) none ∙ append-nil read) (Consumes-trans a b c read (take count buf) p q)

-- a read that failed
pub Consumes-kept : (a b c : Option (List ℕ)) (read : List ℕ) → Consumes a b read → Keeps b c → Consumes a c read
Consumes-kept None b c read p q = tt
Consumes-kept (Some x) None c read p q = absurd p
Consumes-kept (Some x) (Some y) None read p q = absurd q
Consumes-kept (Some x) (Some y) (Some z) read p q = p ∙ ap (λ l. read ++ l) (sym q)

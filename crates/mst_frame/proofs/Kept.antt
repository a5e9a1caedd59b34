-- What was written stays written where the writer keeps its bytes, and where the buffer holds nothing back.
use Rattle.std.proofs.Common.{◌≡◌, ℕ, List, [], ◌++◌, Option, Some, None, refl, ap, ◌∙◌, append-nil}
use Rattle.std.specs.Io.KnownBytes.{Keeps, append_known}
use Rattle.std.proofs.KnownBytes.{Appends-kept}
use Rattle.mst_io.specs.Written.{AppendsFront}

-- nothing is held back
pub append_known-nothing : (a : Option (List ℕ)) (held : List ℕ) → held ≡ [] → append_known a held ≡ a
append_known-nothing None held e = refl
append_known-nothing (Some xs) held e = ap (λ l. Some (xs ++ l)) e ∙ ap Some (append-nil xs)

pub front_kept : (a b c : Option (List ℕ)) (text : List ℕ) → AppendsFront a b text → Keeps b c → AppendsFront a c text
front_kept a b c text h k = record { front = h.front; rest = h.rest; whole = h.whole; written = Appends-kept a b c h.front h.written k }

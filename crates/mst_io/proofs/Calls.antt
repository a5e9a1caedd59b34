-- What calls leave of what a device tells.
use Rattle.std.proofs.Common.{◌≡◌, ℕ, ◌+◌, ◌<◌, ◌≤◌, Bool, true, false, Ok, refl, sym, subst, arith, ◌∙◌, inl, inr}
use Rattle.std.proofs.lemmas.Grind.{common_steps}
use Rattle.mst_io.specs.Devices.{Told, called, Works, IsBroken, IsCut, IsRead, StopsAtZero}

-- in a call that gave some, or took some, a byte went through
some_went : (b : Told) (count size : ℕ) → (count ≡ 0 → ⊥) → (called b (Ok count) size).calls + b.bytes ≤ b.calls + (called b (Ok count) size).bytes
some_went b count size some = grind (arith, common_steps)

-- so in each, where in each before
pub each_on : (p q r s t u : ℕ) → q + s ≤ p + t → r + t ≤ q + u → r + s ≤ p + u
each_on p q r s t u first then = omega (arith, first, then)

-- a call that gave some, or took some, isn't counted among those that answered 0
some_called : (b : Told) (count size : ℕ) → (count ≡ 0 → ⊥) → (called b (Ok count) size).zeros ≡ b.zeros
some_called b count size some = grind (arith, common_steps)

pub works_on : (a b c : Told) (count size : ℕ) → Works a b → c ≡ called b (Ok count) size → (count ≡ 0 → ⊥) → Works a c
works_on a b c count size was e some =
    subst (Works a) (sym e) (record {
      working = refl;
      taken = some_called b count size some ∙ was.taken;
      each = each_on a.calls b.calls (called b (Ok count) size).calls a.bytes b.bytes (called b (Ok count) size).bytes was.each (some_went b count size some);
    })

-- a sink that worked, and what it did afterwards
pub works_both : (a b c : Told) → Works a b → Works b c → Works a c
works_both a b c p q = record { working = q.working; taken = q.taken ∙ p.taken; each = each_on a.calls b.calls c.calls a.bytes b.bytes c.bytes p.each q.each }

pub broken_after : (a b c : Told) → Works a b → IsBroken b c → IsBroken a c
broken_after a b c p (inl failed) = inl failed
broken_after a b c p (inr more) = inr (subst (λ n. n < c.zeros) p.taken more)

pub stops_after : (a b c : Told) → Works a b → StopsAtZero b c → StopsAtZero a c
stops_after a b c p s = record {
  few = omega (arith, p.each, s.few);
  once = subst (λ n. c.zeros ≤ n + 1) p.taken s.once;
  last = λ more. s.last (subst (λ n. n < c.zeros) (sym p.taken) more);
}

pub stops_working : (a b : Told) → Works a b → StopsAtZero a b
stops_working a b p = record { few = omega (arith, p.each); once = omega (arith, p.taken); last = λ more. absurd (omega (arith, p.taken, more)) }

-- a device doesn't both work and not
not_both : (b : Bool) → b ≡ true → b ≡ false → ⊥
not_both b p q = cc

pub works_unbroken : (a b : Told) → Works a b → IsBroken a b → ⊥
works_unbroken a b p (inl failed) = not_both b.failed failed p.working
works_unbroken a b p (inr more) = omega (arith, p.taken, more)

pub read_uncut : (turns : ℕ) (a b : Told) → IsRead a b → IsCut turns a b → ⊥
read_uncut turns a b p (inl failed) = not_both b.failed failed p.working
read_uncut turns a b p (inr none) = omega (arith, p.found, none.1)

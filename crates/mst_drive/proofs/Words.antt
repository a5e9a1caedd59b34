-- What was written of what a word tells.
use Rattle.std.proofs.Common.{◌≡◌, ℕ, List, [], ◌∷◌, ◌++◌, Option, None, Result, Ok, Err, refl, sym, ap, subst, ◌∙◌, append-nil, arith, inl, inr}
use Rattle.std.proofs.lemmas.Bool.{false≢true}
use Rattle.std.specs.Prelude.{IsOk}
use Rattle.std.specs.Io.KnownBytes.{Appends}
use Rattle.std.proofs.KnownBytes.{Appends-trans}
use Rattle.mst_io.specs.Written.{AppendsFront}
use Rattle.mst_io.specs.declared.outcome.Outcome.{Outcome}
use Rattle.mst_io.specs.declared.outcome.RunFault.{RunFault}
use Rattle.mst_io.specs.declared.outcome.RunFault.TheVariants.{Read, Write, Memory}
use Rattle.mst_io.proofs.Known.{AppendsFront-after}
use Rattle.mst_io.specs.Devices.{HearsWhere, Seen, Told, IsCut, stopped_by}
use Rattle.mst_io.proofs.Calls.{works_both}
use Rattle.mst_io.proofs.Chains.{Hears-as}
use Rattle.mst_drive.specs.Turned.{Turned, Turning}
use Rattle.mst_drive.specs.Words.{AreRead, Ended, HasTold, IsUnread, Inputs, MayTell, Telling, Wrote, WroteFront}

-- ---- texts
pub wrote_as : (written now : Option (List ℕ)) (these those : List ℕ → Type 0) → ((text : List ℕ) → these text → those text) → Wrote written now these → Wrote written now those
wrote_as written now these those are w = (w.0, are w.0 w.1, w.2)

pub front_as : (written now : Option (List ℕ)) (these those : List ℕ → Type 0) → ((text : List ℕ) → these text → those text) → WroteFront written now these → WroteFront written now those
front_as written now these those are w = (w.0, are w.0 w.1, w.2)

-- a text that was written is a front of it
whole_front : (written now : Option (List ℕ)) (text : List ℕ) → Appends written now text → AppendsFront written now text
whole_front written now text went = record { front = text; rest = []; whole = sym (append-nil text); written = went }

pub wrote_front : (written now : Option (List ℕ)) (texts : List ℕ → Type 0) → Wrote written now texts → WroteFront written now texts
wrote_front written now texts w = (w.0, w.1, whole_front written now w.0 w.2)

-- and then nothing was
pub wrote_still : (written mid now : Option (List ℕ)) (texts : List ℕ → Type 0) → Wrote written mid texts → Appends mid now [] → Wrote written now texts
wrote_still written mid now texts w nothing = (w.0, w.1, subst (Appends written now) (append-nil w.0) (Appends-trans written mid now w.0 [] w.2 nothing))

-- or another, or a front of another
pub wrote_then : (written mid now : Option (List ℕ)) (a b : List ℕ) (texts : List ℕ → Type 0) → texts (a ++ b) → Appends written mid a → Appends mid now b → Wrote written now texts
wrote_then written mid now a b texts is went then = (a ++ b, is, Appends-trans written mid now a b went then)

pub front_then : (written mid now : Option (List ℕ)) (a b : List ℕ) (texts : List ℕ → Type 0) → texts (a ++ b) → Appends written mid a → AppendsFront mid now b → WroteFront written now texts
front_then written mid now a b texts is went then = (a ++ b, is, AppendsFront-after written mid now a b went then)

-- ---- what has gone out before each call of a source
module _ {S : Type 0} (does : S → S → List ℕ → Seen → Type 0) (remaining : S → Option (List ℕ)) (before : Seen) (these those : Option (List ℕ) → List ℕ → Type 0) where
  -- the same in other words
  pub told_as : (from now : S) → ((left : Option (List ℕ)) (text : List ℕ) → these left text → those left text) → HearsWhere does (HasTold these remaining before) from now → HearsWhere does (HasTold those remaining before) from now
  told_as from now are calls = Hears-as does (HasTold these remaining before) (HasTold those remaining before) (λ source sink h. (h.0, ((h.1).0, are (remaining source) (h.1).0 (h.1).1, (h.1).2))) from now calls

  -- behind a text that went out
  pub told_behind : (mid : Seen) (text : List ℕ) (from now : S) (turns : ℕ) (sources : List Turning) → Turned turns sources before mid None → Appends before.bytes mid.bytes text → ((left : Option (List ℕ)) (more : List ℕ) → these left more → those left (text ++ more))
      → HearsWhere does (HasTold these remaining mid) from now → HearsWhere does (HasTold those remaining before) from now
  told_behind mid text from now turns sources turned went are calls =
      Hears-as does (HasTold these remaining mid) (HasTold those remaining before) (λ source sink h. (
        record { works = works_both before.told mid.told sink.told (turned.works (λ e. cc)) (h.0).works; lent = (h.0).lent ∙ turned.lent_sink; sent = (h.0).sent },
        (text ++ (h.1).0, are (remaining source) (h.1).0 (h.1).1, Appends-trans before.bytes mid.bytes sink.bytes text (h.1).0 went (h.1).2),
      )) from now calls

-- ---- how a word ends
module _ (telling : Telling) (given left : Inputs) (written now : Option (List ℕ)) where
  -- what it tells was written, or a front of it
  pub ended_ok : (outcome : Outcome) → Wrote written now (λ text. telling.tells given text outcome) → Ended telling given left written now (Ok outcome)
  ended_ok outcome w = w

  pub front_of_all : (outcome : Outcome) → WroteFront written now (λ text. telling.tells given text outcome) → WroteFront written now (MayTell telling given)
  front_of_all outcome w = (w.0, inr (outcome, w.1), w.2)

  -- a fault stopped it
  pub ended_fault : (fault : RunFault) → WroteFront written now (MayTell telling given) → (fault ≡ Read → Wrote written now (telling.cut given left)) → (fault ≡ Memory → Wrote written now (telling.starved given))
      → Ended telling given left written now (Err fault)
  ended_fault Read front cut starved = (cut refl, front)
  ended_fault Write front cut starved = front
  ended_fault Memory front cut starved = (starved refl, front)

-- a word tells the same of other inputs, where these are all that it asks of
pub ended_for : (telling : Telling) (a b c d : Inputs) (written now : Option (List ℕ)) (result : Result Outcome RunFault) → ((text : List ℕ) (outcome : Outcome) → telling.tells a text outcome → telling.tells c text outcome) → ((text : List ℕ) → telling.begins a text → telling.begins c text)
    → ((text : List ℕ) → telling.cut a b text → telling.cut c d text) → ((text : List ℕ) → telling.starved a text → telling.starved c text) → Ended telling a b written now result → Ended telling c d written now result
ended_for telling a b c d written now (Ok outcome) tells begins cut starved w = (w.0, tells w.0 outcome w.1, w.2)
ended_for telling a b c d written now (Err fault) tells begins cut starved w = by fault w
  where
    may : WroteFront written now (MayTell telling a) → WroteFront written now (MayTell telling c)
    may front = (front.0, elim front.1 [ inl h ↦ inl (begins front.0 h) | inr h ↦ inr (h.0, tells front.0 h.0 h.1) ], front.2)

    by : (fault : RunFault) → Ended telling a b written now (Err fault) → Ended telling c d written now (Err fault)
    by Read w = (((w.0).0, cut (w.0).0 (w.0).1, (w.0).2), may w.1)
    by Write w = may w
    by Memory w = (((w.0).0, starved (w.0).0 (w.0).1, (w.0).2), may w.1)

-- ---- how its sources stand
none_of : (result : Result Outcome RunFault) → IsOk result → stopped_by result ≡ None
none_of (Ok outcome) is = refl
none_of (Err fault) is = absurd (false≢true is)

module _ (turns : ℕ) (result : Result Outcome RunFault) (sink sink_now : Seen) where
  pub read_one : (a : Turning) (c c' d d' : Told) → Turned turns (a ∷ []) sink sink_now (stopped_by result) → IsOk result → AreRead 1 a.before.told a.now.told c c' d d'
  read_one a c c' d d' t is = record { is_first = (t.ended (none_of result is)).0; is_second = λ more. absurd (omega (arith, more)); is_third = λ more. absurd (omega (arith, more)) }

  pub read_two : (a b : Turning) (d d' : Told) → Turned turns (a ∷ b ∷ []) sink sink_now (stopped_by result) → IsOk result → AreRead 2 a.before.told a.now.told b.before.told b.now.told d d'
  read_two a b d d' t is = let e = t.ended (none_of result is) in record { is_first = e.0; is_second = λ more. (e.1).0; is_third = λ more. absurd (omega (arith, more)) }

  pub read_three : (a b c : Turning) → Turned turns (a ∷ b ∷ c ∷ []) sink sink_now (stopped_by result) → IsOk result → AreRead 3 a.before.told a.now.told b.before.told b.now.told c.before.told c.now.told
  read_three a b c t is = let e = t.ended (none_of result is) in record { is_first = e.0; is_second = λ more. (e.1).0; is_third = λ more. ((e.1).1).0 }

  pub unread_one : (a : Turning) (c c' d d' : Told) → Turned turns (a ∷ []) sink sink_now (stopped_by result) → result ≡ Err Read → IsUnread 1 turns a.before.told a.now.told c c' d d'
  unread_one a c c' d d' t is = elim ((t.read_fault).0 (ap stopped_by is)).0 [ inl cut ↦ inl cut | inr none ↦ absurd none ]

  pub unread_two : (a b : Turning) (d d' : Told) → Turned turns (a ∷ b ∷ []) sink sink_now (stopped_by result) → result ≡ Err Read → IsUnread 2 turns a.before.told a.now.told b.before.told b.now.told d d'
  unread_two a b d d' t is = elim ((t.read_fault).0 (ap stopped_by is)).0 [ inl cut ↦ inl cut | inr more ↦ elim more [ inl cut ↦ inr (inl (omega arith, cut)) | inr none ↦ absurd none ] ]

  pub unread_three : (a b c : Turning) → Turned turns (a ∷ b ∷ c ∷ []) sink sink_now (stopped_by result) → result ≡ Err Read → IsUnread 3 turns a.before.told a.now.told b.before.told b.now.told c.before.told c.now.told
  unread_three a b c t is = elim ((t.read_fault).0 (ap stopped_by is)).0 [ inl cut ↦ inl cut | inr more ↦ elim more [ inl cut ↦ inr (inl (omega arith, cut)) | inr rest ↦ elim rest [ inl cut ↦ inr (inr (omega arith, cut)) | inr none ↦ absurd none ] ] ]

-- a word of one input
pub unread_alone : (turns count : ℕ) (a a' b b' c c' : Told) → count ≡ 1 → IsUnread count turns a a' b b' c c' → IsCut turns a a'
unread_alone turns count a a' b b' c c' one (inl cut) = cut
unread_alone turns count a a' b b' c c' one (inr (inl more)) = absurd (omega (arith, one, more.0))
unread_alone turns count a a' b b' c c' one (inr (inr more)) = absurd (omega (arith, one, more.0))

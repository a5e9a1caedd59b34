-- The questions that a standing planner is asked, as a job.
use Rattle.std.proofs.Common.{◌≡◌, ◌⊎◌, ℕ, ◌+◌, ◌≤◌, ◌<◌, ◌^◌, Bool, true, false, cond, List, [], ◌∷◌, ◌++◌, Option, refl, sym, ap, subst, ◌∙◌, arith, add-zero, append-nil, inl, inr}
use Rattle.std.proofs.lemmas.List.Sums.{sum_by-cons}
use Rattle.std.specs.Io.KnownBytes.{Appends}
use Rattle.mst_drive.specs.Driving.{Driven, DrivenEnded, DrivenFront, DrivenOn}
use Rattle.mst_drive.specs.Words.{HasTold, Wrote, WroteFront}
use Rattle.mst_questions.specs.tool.engine.Served.{IsFew}
use Rattle.mst_io.specs.Devices.{HearsWhere, Seen}
use Rattle.mst_io.specs.Held.{lines_held}
use Rattle.mst_io.specs.Written.{AppendsFront, Reads}
use Rattle.mst_io.specs.declared.outcome.Outcome.{Outcome}
use Rattle.mst_io.proofs.Chains.{Hears-as}
use Rattle.mst_lang.specs.Lines.{last_line, no_line}
use Rattle.mst_ask.specs.Answering.{Answered, AnsweredEnded, PrintsAnswers}
use Rattle.mst_ask.specs.Kept.{SameScript, standing_of}
use Rattle.mst_ask.specs.Questions.{Awaits, Ends, IsCounted, Tells, counted_more, none_counted}
use Rattle.mst_ask.specs.Replies.{replied, reply_text, verdict_of}
use Rattle.mst_ask.specs.Standing.{Turn, AsksBy, AsksLine, IsStanding, answers_of, differing_of, lacks_of, refusals_of}
use Rattle.mst_ask.specs.declared.questions.Asking.{Asking}
use Rattle.mst_ask.specs.declared.reply.Reply.{Reply}
use Rattle.mst_ask.specs.declared.reply.Verdict.{Verdict}
use Rattle.mst_ask.specs.declared.standing.Standing.{Standing}
use Rattle.mst_ask.proofs.Held.{whole_held, ended_held}
use Rattle.mst_ask.proofs.Turns.{AlwaysAsks, asks-first, asks-none}

-- ---- what is counted
count_one : (b : Bool) (m n : ℕ) → m ≤ n → m + cond b 1 0 ≤ n + 1
count_one true m n h = omega (arith, h)
count_one false m n h = omega (arith, h)

-- before the first question
pub begins_counted : (outcome : Outcome) → outcome ≡ none_counted → IsCounted outcome 1
begins_counted outcome none = subst (λ o. IsCounted o 1) (sym none) (record { refused = omega arith; memory = omega arith; differing = omega arith })

-- and after one more
pub counted_on : (old new : Asking) (v : Verdict) (number : ℕ) → new ≡ counted_more old v → IsCounted old.outcome number → IsCounted new.outcome (number + 1)
counted_on old new v number is counted = subst (λ (a : Asking). IsCounted a.outcome (number + 1)) (sym is) (record {
  refused = count_one v.refused old.outcome.refused number counted.refused;
  memory = count_one v.lacking old.outcome.memory number counted.memory;
  differing = count_one v.differs old.outcome.differing number counted.differing;
})

pub few_counted : (outcome : Outcome) (number : ℕ) → IsCounted outcome number → number < 2 ^ 60 → IsFew outcome
few_counted outcome number counted few = record { refused = omega (arith, counted.refused, few); memory = omega (arith, counted.memory, few); differing = omega (arith, counted.differing, few) }

-- ---- the job
-- a question, and those behind it
pub line_told : (old new : Asking) (kept : Standing) (number : ℕ) (line : List ℕ) (reply : Reply) → SameScript old.standing kept → AsksLine old.standing.form old.standing.version number (standing_of old.standing) line (replied old.standing.form number (standing_of kept) reply)
    → new ≡ counted_more (record old { standing = kept }) (verdict_of reply) → (others : List (List ℕ)) (more : List ℕ) (after : Asking) → Tells new (number + 1) others more after → Tells old number (line ∷ others) (reply_text old.standing.form number reply ++ more) after
line_told old new kept number line reply same asked is others more after told =
    let h = subst (λ (a : Asking). Tells a (number + 1) others more after) is told in
    let made = replied old.standing.form number (standing_of kept) reply in
    record {
      turns = made ∷ h.turns;
      asks = asks-first old.standing.form old.standing.version number (standing_of old.standing) line others made h.turns asked
          (subst (λ form. AsksBy form old.standing.version (number + 1) (standing_of kept) others h.turns) same.form (subst (λ version. AsksBy kept.form version (number + 1) (standing_of kept) others h.turns) same.version h.asks));
      prints = λ i. reply_text old.standing.form number reply ++ h.prints i;
      loaded = h.loaded;
      refused = omega (arith, h.refused, sum_by-cons (λ (s : Turn). cond s.refused 1 0) made h.turns);
      memory = omega (arith, h.memory, sum_by-cons (λ (s : Turn). cond s.lacking 1 0) made h.turns);
      differing = omega (arith, h.differing, sum_by-cons (λ (s : Turn). cond s.differs 1 0) made h.turns);
    }

pub none_told : (old : Asking) (number : ℕ) → Tells old number [] [] old
none_told old number = record {
  turns = [];
  asks = asks-none old.standing.form old.standing.version number (standing_of old.standing);
  prints = refl;
  loaded = refl;
  refused = sym (add-zero old.outcome.refused);
  memory = sym (add-zero old.outcome.memory);
  differing = sym (add-zero old.outcome.differing);
}

-- what the job has counted after these turns
abbrev after_turns : Asking → List Turn → Asking
after_turns old turns = record old {
  outcome = record {
    refused = old.outcome.refused + refusals_of turns;
    memory = old.outcome.memory + lacks_of turns;
    differing = old.outcome.differing + differing_of turns;
  };
}

pub some_told : AlwaysAsks → (old : Asking) (number : ℕ) → IsStanding (standing_of old.standing) → (lines : List (List ℕ)) → (text : List ℕ) × (after : Asking) × Tells old number lines text after
some_told always old number is lines =
    let r = always old.standing.form old.standing.version number (standing_of old.standing) lines is in
    (answers_of r.0, after_turns old r.0, record { turns = r.0; asks = r.1; prints = refl; loaded = refl; refused = refl; memory = refl; differing = refl })

-- ---- all questions
module _ (old : Asking) (begins : old.outcome ≡ none_counted) (reads left written now : Option (List ℕ)) where
  -- what the lines print, by the job that they leave
  told_answered : (bytes text : List ℕ) (job : Asking) → Tells old 1 (lines_held last_line [] bytes) text job → Reads reads bytes → Answered old.standing reads text job.outcome
  told_answered bytes text job t read = record {
    bytes = bytes;
    turns = t.turns;
    read = read;
    asks = whole_held old.standing.form old.standing.version bytes (standing_of old.standing) t.turns t.asks;
    printed = t.prints;
    memory = t.memory ∙ omega (arith, ap (λ (o : Outcome). o.memory) begins);
    refused = t.refused ∙ omega (arith, ap (λ (o : Outcome). o.refused) begins);
    differing = t.differing ∙ omega (arith, ap (λ (o : Outcome). o.differing) begins);
  }

  pub answered_front : DrivenFront Tells Ends old reads written now → WroteFront written now (PrintsAnswers old.standing reads)
  answered_front d = (d.text, (d.job.outcome, told_answered d.bytes d.text d.job d.told d.read), by d.front)
    where
      by : AppendsFront written now d.text ⊎ ((number : ℕ) × (said : List ℕ) × (after : Asking) × Ends d.job number said after × AppendsFront written now (d.text ++ said)) → AppendsFront written now d.text
      by (inl front) = front
      by (inr h) = subst (AppendsFront written now) (ap (λ s. d.text ++ s) (h.3).0 ∙ append-nil d.text) h.4

  pub answered_ended : DrivenEnded Tells old reads left written now → Wrote written now (AnsweredEnded old.standing reads left)
  answered_ended d =
      let t = d.told in (
        d.text,
        record {
          read = d.read;
          turns = t.turns;
          consumed = d.consumed;
          asks = ended_held old.standing.form old.standing.version d.read (standing_of old.standing) t.turns t.asks;
          printed = t.prints;
        },
        d.printed,
      )

  module _ (new : Asking) (d : Driven Awaits Tells Ends old new reads written now) where
    pub answered_all : Wrote written now (λ text. Answered old.standing reads text new.outcome)
    answered_all = (
      d.text,
      subst (λ (j : Asking). Answered old.standing reads d.text j.outcome) (sym (d.ended).1) (told_answered d.bytes d.text d.job d.told d.read),
      subst (Appends written now) (ap (λ s. d.text ++ s) (d.ended).0 ∙ append-nil d.text) d.printed,
    )

    pub answered_few : IsFew new.outcome
    answered_few = subst (λ (j : Asking). IsFew j.outcome) (sym (d.ended).1) (few_counted d.job.outcome d.number d.waits.counted d.few)

    pub answered_loaded : new.loaded ≡ old.loaded
    answered_loaded = ap (λ (j : Asking). j.loaded) (d.ended).1 ∙ (d.told).loaded

-- what has gone out before each call of the source
pub answered_told : {S : Type 0} (does : S → S → List ℕ → Seen → Type 0) (remaining : S → Option (List ℕ)) (old : Asking) → old.outcome ≡ none_counted → (reads : Option (List ℕ)) (before : Seen) (from now : S)
    → HearsWhere does (DrivenOn Tells old reads remaining before) from now → HearsWhere does (HasTold (AnsweredEnded old.standing reads) remaining before) from now
answered_told does remaining old begins reads before from now calls =
    Hears-as does (DrivenOn Tells old reads remaining before) (HasTold (AnsweredEnded old.standing reads) remaining before) (λ source sink h. (h.0, answered_ended old begins reads (remaining source) before.bytes sink.bytes h.1)) from now calls

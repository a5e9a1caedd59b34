-- What answering questions of a script has printed, by what loading it and answering them have.
use Rattle.std.proofs.Common.{◌≡◌, ℕ, ◌+◌, List, [], ◌∷◌, ◌++◌, Option, None, Result, Err, refl, sym, ap, subst, ◌∙◌, arith, append-nil, inl, inr}
use Rattle.std.specs.Prelude.{IsOk}
use Rattle.std.specs.Io.KnownBytes.{Appends}
use Rattle.std.specs.Option.{unwrap_or}
use Rattle.mst_drive.specs.Turned.{Turned, Turning}
use Rattle.mst_drive.specs.Words.{AreRead, HasTold, Inputs, IsUnread, MayTell, Unwritten, Wrote, WroteFront}
use Rattle.mst_drive.proofs.Words.{front_then, read_three, told_behind, unread_three, wrote_still, wrote_then}
use Rattle.mst_io.specs.Devices.{HearsWhere, Seen, stopped_by}
use Rattle.mst_io.specs.Written.{AppendsFront, Reads}
use Rattle.mst_io.specs.declared.outcome.Outcome.{Outcome}
use Rattle.mst_io.specs.declared.outcome.RunFault.{RunFault}
use Rattle.mst_io.specs.declared.outcome.RunFault.TheVariants.{Read}
use Rattle.mst_io.proofs.Known.{AppendsFront-longer}
use Rattle.mst_lang.specs.Lines.{lines_of, ended_lines}
use Rattle.mst_lang.specs.declared.line.Version.{Version}
use Rattle.mst_questions.specs.tool.engine.Script.{LoadsAll, version_of}
use Rattle.mst_questions.specs.tool.engine.Steps as steps
use Rattle.mst_questions.specs.tool.engine.Steps.{Step}
use Rattle.mst_policy.specs.Lines.{policy_from}
use Rattle.mst_policy.specs.declared.policy.PolicyLine.{PolicyLine}
use Rattle.mst_questions.specs.tool.engine.print.Shape.{of_script}
use Rattle.mst_questions.specs.tool.engine.print.declared.form.Form.{Form}
use Rattle.mst_verifying.specs.inputs.Lines.{AreLines}
use Rattle.mst_questions.specs.tool.Load.{LoadsScript}
use Rattle.mst_ask.specs.Answering.{Answered, AnsweredEnded, PrintsAnswers}
use Rattle.mst_ask.specs.Asking.{Answers, AnswersEnded, Begins, Stands, loaded_by, opening, standing}
use Rattle.mst_ask.specs.Kept.{standing_of}
use Rattle.mst_ask.specs.Opening.{IsOpened, MayOpen, Opens}
use Rattle.mst_ask.specs.Standing.{Standing, Turn, AsksBy, IsStanding, answers_of, differing_of, lacking_of, lacks_of, refusals_of}
use Rattle.mst_ask.specs.declared.questions.Asking.{Asking}
use Rattle.mst_ask.specs.Questions.{judged_by}
use Rattle.mst_ask.proofs.Opened.{opened_with}
use Rattle.mst_ask.proofs.ScriptTold.{reads_all}
use Rattle.mst_ask.proofs.Turns.{AlwaysAsks}

-- what the laws say: questions can be answered, and in one way, of what a script leaves
abbrev pub OneAsking : Type 0
OneAsking = (form : Form) (version : Version) (number : ℕ) (now : Standing) (lines : List (List ℕ)) (a b : List Turn) → IsStanding now → AsksBy form version number now lines a → AsksBy form version number now lines b → lacking_of a ≡ lacking_of b → a ≡ b

abbrev pub LeavesStanding : Type 0
LeavesStanding = (form : Form) (lines : List (List ℕ)) (loads : List Step) (policy : List PolicyLine) → LoadsAll (of_script form) lines loads → IsStanding (loaded_by loads policy)

pub record AskWays : Type 0 where
  pub asks : AlwaysAsks
  pub one_asking : OneAsking
  pub standings : LeavesStanding

pub ask_ways : AlwaysAsks → OneAsking → LeavesStanding → AskWays
ask_ways asks one_asking standings = record { asks = asks; one_asking = one_asking; standings = standings }

-- some lines of a policy
some_policy : (policies : Option (List ℕ)) → AreLines policies (policy_from 1 (lines_of (unwrap_or policies [])))
some_policy policies = (unwrap_or policies [], reads_all policies, refl)

module _ (ways : AskWays) (form : Form) (scripts policies : Option (List ℕ)) (text : List ℕ) (b : Begins form scripts text) where
  -- what is asked behind the script
  abbrev answers_by : (policy : List PolicyLine) (lines : List (List ℕ)) (turns : List Turn) → AreLines policies policy → AsksBy form (version_of (lines_of b.script)) 1 (loaded_by b.loads policy) lines turns → Answers form scripts policies lines
  answers_by policy lines turns are asks = record {
    script = b.script;
    loads = b.loads;
    policy = policy;
    turns = turns;
    script_read = b.script_read;
    loaded = b.loaded;
    full = b.full;
    are_lines = are;
    answered = asks;
    only_script = b.only_script;
    only_turns = λ others again. ways.one_asking form (version_of (lines_of b.script)) 1 (loaded_by b.loads policy) lines others turns (ways.standings form (lines_of b.script) b.loads policy b.loaded) again asks;
  }

  -- there is always something
  begins_told : (questions : Option (List ℕ)) → (rest : List ℕ) × (outcome : Outcome) × Stands form scripts policies questions (text ++ rest) outcome
  begins_told questions =
      let asked = unwrap_or questions [] in
      let policy = policy_from 1 (lines_of (unwrap_or policies [])) in
      let more = ways.asks form (version_of (lines_of b.script)) 1 (loaded_by b.loads policy) (lines_of asked) (ways.standings form (lines_of b.script) b.loads policy b.loaded) in (
        answers_of more.0,
        record { refused = steps.refusals_of b.loads + refusals_of more.0; memory = lacks_of more.0; differing = differing_of more.0 },
        record {
          asked = asked;
          answers = answers_by policy (lines_of asked) more.0 (some_policy policies) more.1;
          questions_read = reads_all questions;
          printed = λ i. b.printed i ++ answers_of more.0;
          memory = refl;
          refused = refl;
          differing = refl;
        },
      )

  -- what was asked, from what the script left on
  module _ (policy : List PolicyLine) (asking : Asking) (o : IsOpened form b.script b.loads policy asking) (are : AreLines policies policy) where
    abbrev asked_by : (lines : List (List ℕ)) (turns : List Turn) → AsksBy asking.standing.form asking.standing.version 1 (standing_of asking.standing) lines turns → Answers form scripts policies lines
    asked_by lines turns asks =
        answers_by policy lines turns are
        (subst (λ from. AsksBy form (version_of (lines_of b.script)) 1 from lines turns) o.standing
        (subst (λ version. AsksBy form version 1 (standing_of asking.standing) lines turns) o.version (subst (λ form. AsksBy form asking.standing.version 1 (standing_of asking.standing) lines turns) o.prints asks)))

    stands : (questions : Option (List ℕ)) (told : List ℕ) (counted outcome : Outcome) → Answered asking.standing questions told counted → outcome ≡ record counted { refused = asking.loaded + counted.refused }
        → Stands form scripts policies questions (text ++ told) outcome
    stands questions told counted outcome a is = record {
      asked = a.bytes;
      answers = asked_by (lines_of a.bytes) a.turns a.asks;
      questions_read = a.read;
      printed = λ i. b.printed i ++ a.printed i;
      memory = ap (λ (x : Outcome). x.memory) is ∙ a.memory;
      refused = ap (λ (x : Outcome). x.refused) is ∙ (λ i. o.refused i + a.refused i);
      differing = ap (λ (x : Outcome). x.differing) is ∙ a.differing;
    }

    stands_somehow : (questions : Option (List ℕ)) (told : List ℕ) → PrintsAnswers asking.standing questions told → (outcome : Outcome) × Stands form scripts policies questions (text ++ told) outcome
    stands_somehow questions told p = let outcome = record p.0 { refused = asking.loaded + p.0.refused } in (outcome, stands questions told p.0 outcome p.1 refl)

    stands_ended : (questions left : Option (List ℕ)) (told : List ℕ) → AnsweredEnded asking.standing questions left told → AnswersEnded form scripts policies questions left (text ++ told)
    stands_ended questions left told a = record {
      read = a.read;
      answers = asked_by (ended_lines a.read) a.turns a.asks;
      consumed = a.consumed;
      printed = λ i. b.printed i ++ a.printed i;
    }

-- what was printed a front of, where it was stopped before the first question
pub may_tell : AskWays → (form : Form) (given : Inputs) (written now : Option (List ℕ)) → WroteFront written now (MayOpen form given.first) → WroteFront written now (MayTell (standing form) given)
may_tell ways form given written now w = by w.0 w.1 w.2
  where
    by : (text : List ℕ) → MayOpen form given.first text → AppendsFront written now text → WroteFront written now (MayTell (standing form) given)
    by text (inl loads) front = (text, inl loads, front)
    by text (inr begins) front = let t = begins_told ways form given.first given.third text begins given.second in (text ++ t.0, inr (t.1, t.2), AppendsFront-longer written now text t.0 front)

-- ---- behind a script that was loaded, and a policy of which nothing is told yet
module _ (ways : AskWays) (form : Form) (given : Inputs) (written mid sent now : Option (List ℕ)) (opened asking : Asking) (policy : List PolicyLine) (w : Wrote written mid (Opens form given.first opened)) (nothing : Appends mid sent []) (are : AreLines given.third policy)
    (is : asking ≡ judged_by opened policy) where
  abbrev pub told : Wrote written sent (Opens form given.first opened)
  told = wrote_still written mid sent (Opens form given.first opened) w nothing

  abbrev pub begins : Begins form given.first told.0
  begins = (told.1).0

  pub is_opened : IsOpened form begins.script begins.loads policy asking
  is_opened = opened_with form begins.script begins.loads policy opened asking is (told.1).1

  pub asked_all : (counted outcome : Outcome) (loaded : ℕ) → Wrote sent now (λ text. Answered asking.standing given.second text counted) → outcome ≡ record counted { refused = loaded + counted.refused } → loaded ≡ asking.loaded
      → Wrote written now (λ text. Stands form given.first given.third given.second text outcome)
  asked_all counted outcome loaded a all same = wrote_then written sent now told.0 a.0 _ (stands ways form given.first given.third told.0 begins policy asking is_opened are given.second a.0 counted outcome a.1 (all ∙ ap (λ n. record counted { refused = n + counted.refused }) same)) told.2 a.2

  pub asked_front : WroteFront sent now (PrintsAnswers asking.standing given.second) → WroteFront written now (MayTell (standing form) given)
  asked_front a = front_then written sent now told.0 a.0 _ (inr (stands_somehow ways form given.first given.third told.0 begins policy asking is_opened are given.second a.0 a.1)) told.2 a.2

  pub asked_ended : (left : Inputs) → Wrote sent now (AnsweredEnded asking.standing given.second left.second) → Wrote written now ((standing form).cut given left)
  asked_ended left a = wrote_then written sent now told.0 a.0 _ (inr (inr (stands_ended ways form given.first given.third told.0 begins policy asking is_opened are given.second left.second a.0 a.1))) told.2 a.2

-- ---- what has gone out before each call of the policy's source, and of that of the questions
module _ {S : Type 0} (does : S → S → List ℕ → Seen → Type 0) (remaining : S → Option (List ℕ)) (form : Form) (given : Inputs) (before mid : Seen) (opened : Asking) (w : Wrote before.bytes mid.bytes (Opens form given.first opened)) (turns : ℕ) where
  pub policy_told : (sources : List Turning) → Turned turns sources before mid None → (from now : S) → HearsWhere does (HasTold Unwritten remaining mid) from now → HearsWhere does (HasTold (λ left. Begins form given.first) remaining before) from now
  policy_told sources turned from now calls =
      told_behind does remaining before Unwritten (λ left. Begins form given.first) mid w.0 from now turns sources turned w.2
      (λ left more none. subst (Begins form given.first) (sym (ap (λ m. w.0 ++ m) none ∙ append-nil w.0)) (w.1).0) calls

  pub questions_told : (ways : AskWays) (sent : Seen) (asking : Asking) (policy : List PolicyLine) → Appends mid.bytes sent.bytes [] → (are : AreLines given.third policy) → (is : asking ≡ judged_by opened policy) → (sources : List Turning) → Turned turns sources before sent None → (from now : S)
      → HearsWhere does (HasTold (AnsweredEnded asking.standing given.second) remaining sent) from now → HearsWhere does (HasTold (AnswersEnded form given.first given.third given.second) remaining before) from now
  questions_told ways sent asking policy nothing are is sources turned from now calls =
      let all : Wrote before.bytes sent.bytes (Opens form given.first opened) = wrote_still before.bytes mid.bytes sent.bytes (Opens form given.first opened) w nothing in
      let begun : Begins form given.first all.0 = (all.1).0 in
      let ready : IsOpened form begun.script begun.loads policy asking = opened_with form begun.script begun.loads policy opened asking is (all.1).1 in
      told_behind does remaining before (AnsweredEnded asking.standing given.second) (AnswersEnded form given.first given.third given.second) sent all.0 from now turns sources turned all.2
      (λ left more h. stands_ended ways form given.first given.third all.0 begun policy asking ready are given.second left more h) calls

-- ---- the sources, of which the questions come last
pub sources_read : (turns : ℕ) (script policy questions : Turning) (sink sink_now : Seen) (result : Result Outcome RunFault) → Turned turns (script ∷ policy ∷ questions ∷ []) sink sink_now (stopped_by result) → IsOk result
    → AreRead 3 script.before.told script.now.told questions.before.told questions.now.told policy.before.told policy.now.told
sources_read turns script policy questions sink sink_now result turned ok =
    let read = read_three turns result sink sink_now script policy questions turned ok in
    record { is_first = read.is_first; is_second = λ more. read.is_third (omega arith); is_third = λ more. read.is_second (omega arith) }

pub sources_unread : (turns : ℕ) (script policy questions : Turning) (sink sink_now : Seen) (result : Result Outcome RunFault) → Turned turns (script ∷ policy ∷ questions ∷ []) sink sink_now (stopped_by result) → result ≡ Err Read
    → IsUnread 3 turns script.before.told script.now.told questions.before.told questions.now.told policy.before.told policy.now.told
sources_unread turns script policy questions sink sink_now result turned is = by (unread_three turns result sink sink_now script policy questions turned is)
  where
    by : IsUnread 3 turns script.before.told script.now.told policy.before.told policy.now.told questions.before.told questions.now.told → IsUnread 3 turns script.before.told script.now.told questions.before.told questions.now.told policy.before.told policy.now.told
    by (inl cut) = inl cut
    by (inr (inl cut)) = inr (inr (omega arith, cut.1))
    by (inr (inr cut)) = inr (inl (omega arith, cut.1))

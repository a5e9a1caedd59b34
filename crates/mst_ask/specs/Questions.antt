-- The questions that a standing planner is asked, as a job.
use Rattle.std.specs.Prelude.{◌≡◌, ℕ, ◌+◌, ◌≤◌, List, [], if◌then◌else◌}
use Rattle.mst_io.specs.declared.outcome.Outcome.{Outcome}
use Rattle.mst_policy.specs.declared.policy.PolicyLine.{PolicyLine}
use Rattle.mst_ask.specs.Kept.{IsKept, standing_of}
use Rattle.mst_ask.specs.Replies.{reply_text}
use Rattle.mst_ask.specs.Standing.{Turn, AsksBy, answers_of, differing_of, lacks_of, refusals_of}
use Rattle.mst_ask.specs.declared.questions.Asking.{Asking}
use Rattle.mst_ask.specs.declared.reply.Replied.{Replied}
use Rattle.mst_ask.specs.declared.reply.Verdict.{Verdict}

-- what is printed of a question
abbrev pub replied_text : Replied → List ℕ
replied_text said = reply_text said.form said.number said.reply

-- before the first question
abbrev pub none_counted : Outcome
none_counted = record { refused = 0; memory = 0; differing = 0 }

-- after one that was answered in this way
abbrev pub counted_more : Asking → Verdict → Asking
counted_more a v = record a {
  outcome = record {
    refused = a.outcome.refused + (if v.refused then 1 else 0);
    memory = a.outcome.memory + (if v.lacking then 1 else 0);
    differing = a.outcome.differing + (if v.differs then 1 else 0);
  };
}

-- the same with a policy
abbrev pub judged_by : Asking → List PolicyLine → Asking
judged_by a policy = record a { standing = record a.standing { policy = policy } }

-- no more are counted than there were before the one of this number
pub record IsCounted (outcome : Outcome) (number : ℕ) : Type 0 where
  pub refused : outcome.refused ≤ number
  pub memory : outcome.memory ≤ number
  pub differing : outcome.differing ≤ number

-- the question of this number may come
pub record Awaits (job : Asking) (number : ℕ) : Type 0 where
  pub kept : IsKept job.standing
  pub counted : IsCounted job.outcome number

-- these lines do some turns, which print this, and are counted
pub record Tells (job : Asking) (number : ℕ) (lines : List (List ℕ)) (text : List ℕ) (after : Asking) : Type 0 where
  pub turns : List Turn
  pub asks : AsksBy job.standing.form job.standing.version number (standing_of job.standing) lines turns
  pub prints : text ≡ answers_of turns
  pub loaded : after.loaded ≡ job.loaded
  pub refused : after.outcome.refused ≡ job.outcome.refused + refusals_of turns
  pub memory : after.outcome.memory ≡ job.outcome.memory + lacks_of turns
  pub differing : after.outcome.differing ≡ job.outcome.differing + differing_of turns

-- the end prints nothing
abbrev pub Ends : Asking → ℕ → List ℕ → Asking → Type 0
Ends job number said after = (said ≡ []) × (after ≡ job)

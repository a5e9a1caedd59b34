-- What the program's words ask for.
use Rattle.std.specs.Prelude.{◌||◌, Bool, true, Option, Some, None, is_some}
use Rattle.mst_ask.specs.questions.Asked.{names_policy}
use Rattle.mst_ask.specs.questions.Ask.{advice_question, dot_question, explain_question, sweep_question}
use Rattle.mst_ask.specs.questions.declared.asked.Question.{Question}
use Rattle.mst_ask.specs.tracing.Asked.{path_question}
use Rattle.mst_ask.specs.tracing.declared.asked.PathQuestion.{PathQuestion}
use Rattle.mst_ask.specs.questions.declared.asked.Question.TheVariants as question
use Rattle.mst_command.specs.declared.table.Verb.{Verb}
use Rattle.mst_command.specs.declared.table.Verb.TheVariants.{Explain, Sweep, Summary, Dot, Advise, Path}
use Rattle.mst_command.specs.Words.{Placed, Request, wanted}

-- what the network of a script is asked by these words, where what is to be done asks it something: nothing, where they are none that do
abbrev pub question_by : Verb → Placed → Option Question
question_by Explain words = Some (explain_question (wanted words.second) (wanted words.third) words.fourth)
question_by Sweep words = sweep_question words.second words.third
question_by Summary words = Some question.Summary
question_by Dot words = dot_question (wanted words.second) words.third
question_by Advise words = advice_question (wanted words.second) (wanted words.third) (wanted words.fourth) words.fifth
question_by _ words = None

-- which path of it these words ask for: nothing, where they are none that do
abbrev pub path_by : Placed → Option PathQuestion
path_by words = path_question (wanted words.second) (wanted words.third) (wanted words.fourth) words.fifth

-- where they ask for a part of a sweep, or for the risks of a policy, a picture, advice or a path, its words are some that do
abbrev pub is_worded : Verb → Placed → Bool
is_worded Sweep words = names_policy words.second words.third || is_some (question_by Sweep words)
is_worded Dot words = is_some (question_by Dot words)
is_worded Advise words = is_some (question_by Advise words)
is_worded Path words = is_some (path_by words)
is_worded _ words = true

abbrev pub are_worded : Request → Bool
are_worded request = is_worded request.verb request.words

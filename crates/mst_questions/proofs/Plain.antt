-- Why a port isn't explained is told without escapes: by the codes and the texts of refusals, and of a fault.
use Rattle.mst_net.specs.tables.declared.refusal.Refusal.TheVariants.{E04, E05}
use Rattle.mst_questions.specs.Explaining.{code_of, text_of}
use Rattle.mst_questions.specs.declared.explaining.Unexplained.{Unexplained}
use Rattle.mst_questions.specs.declared.explaining.Unexplained.TheVariants.{NoBridge, NoPort, NoTree}
use Rattle.mst_lang.specs.declared.line.Fault.TheVariants.{E03}
use Rattle.mst_tool.proofs.engine_lemmas.print_lemmas.Plain.{plain_code, plain_text, refusal_code, refusal_text}
use Rattle.mst_rows.specs.Answers.{IsPlain}

pub why_code : (why : Unexplained) → IsPlain (code_of why)
why_code NoBridge = refusal_code E04
why_code NoPort = refusal_code E05
why_code NoTree = plain_code E03

pub why_text : (why : Unexplained) → IsPlain (text_of why)
why_text NoBridge = refusal_text E04
why_text NoPort = refusal_text E05
why_text NoTree = plain_text E03

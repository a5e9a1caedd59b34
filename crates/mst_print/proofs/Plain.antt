-- Codes and texts need no escapes.
use Rattle.std.proofs.Common.{refl}
use Rattle.json.specs.Print.{escape_byte}
use Rattle.mst_bpdu.specs.Faults.{fault_code, fault_text}
use Rattle.mst_bpdu.specs.declared.fault.BpduFault.{BpduFault}
use Rattle.mst_bpdu.specs.declared.fault.BpduFault.TheVariants.{B01, B02, B03, B04, B05, B06, B07, B99}
use Rattle.mst_kinds.specs.Kinds.{first_of_refusal_line}
use Rattle.mst_kinds.specs.Words.{mark_text}
use Rattle.mst_kinds.specs.declared.refusal_line.RefusalLine.{RefusalLine}
use Rattle.mst_kinds.specs.declared.refusal_line.RefusalLine.TheVariants.{Line, Hinted, OldLine, NewLine, Explain, Dot, Policy, Change, Advise, StepPolicy, StepChange, Path}
use Rattle.mst_lang.specs.declared.line.Fault.{Fault}
use Rattle.mst_lang.specs.declared.line.Fault.TheVariants.{E01, E02, E03}
use Rattle.mst_lang.specs.Faults as fault
use Rattle.mst_tables.specs.declared.refusal.Refusal.{Refusal}
use Rattle.mst_tables.specs.declared.refusal.Refusal.TheVariants.{E04, E05, E06, E07, E08, E09, E10, E11, E12, E13, E14, E15, E16, E99}
use Rattle.mst_tables.specs.Refusals as refusal
use Rattle.mst_rows.specs.Answers.{IsPlain}

-- ---- of the fault of a line
pub plain_code : (f : Fault) → IsPlain (fault.code_of f)
unfolding escape_byte
plain_code E01 = refl
plain_code E02 = refl
plain_code E03 = refl

pub plain_text : (f : Fault) → IsPlain (fault.text_of f)
unfolding escape_byte
plain_text E01 = refl
plain_text E02 = refl
plain_text E03 = refl

-- ---- of a refusal
pub refusal_code : (r : Refusal) → IsPlain (refusal.code_of r)
unfolding escape_byte
refusal_code E04 = refl
refusal_code E05 = refl
refusal_code E06 = refl
refusal_code E07 = refl
refusal_code E08 = refl
refusal_code E09 = refl
refusal_code E10 = refl
refusal_code E11 = refl
refusal_code E12 = refl
refusal_code E13 = refl
refusal_code E14 = refl
refusal_code E15 = refl
refusal_code E16 = refl
refusal_code E99 = refl

pub refusal_text : (r : Refusal) → IsPlain (refusal.text_of r)
unfolding escape_byte
refusal_text E04 = refl
refusal_text E05 = refl
refusal_text E06 = refl
refusal_text E07 = refl
refusal_text E08 = refl
refusal_text E09 = refl
refusal_text E10 = refl
refusal_text E11 = refl
refusal_text E12 = refl
refusal_text E13 = refl
refusal_text E14 = refl
refusal_text E15 = refl
refusal_text E16 = refl
refusal_text E99 = refl

-- ---- of the fault of a captured message
pub capture_code : (f : BpduFault) → IsPlain (fault_code f)
unfolding escape_byte
capture_code B01 = refl
capture_code B02 = refl
capture_code B03 = refl
capture_code B04 = refl
capture_code B05 = refl
capture_code B06 = refl
capture_code B07 = refl
capture_code B99 = refl

pub capture_text : (f : BpduFault) → IsPlain (fault_text f)
unfolding escape_byte
capture_text B01 = refl
capture_text B02 = refl
capture_text B03 = refl
capture_text B04 = refl
capture_text B05 = refl
capture_text B06 = refl
capture_text B07 = refl
capture_text B99 = refl

-- ---- the first word of a line that says what is refused
pub first_word : (line : RefusalLine) → IsPlain (mark_text (first_of_refusal_line line))
unfolding escape_byte
first_word Line = refl
first_word Hinted = refl
first_word OldLine = refl
first_word NewLine = refl
first_word Explain = refl
first_word Dot = refl
first_word Policy = refl
first_word Change = refl
first_word Advise = refl
first_word StepPolicy = refl
first_word StepChange = refl
first_word Path = refl

-- What is kept of a network stays so, where its contents are as they were.
use Rattle.std.proofs.Common.{◌≡◌, Option, Some, None, Ok, Err, sym, subst, ◌∙◌}
use Rattle.std.specs.Option.{option_map_or}
use Rattle.mst_lang.specs.declared.line.Edit.{Edit}
use Rattle.mst_net.specs.tables.After.{after, effect, refusal_of}
use Rattle.mst_net.specs.tables.declared.refusal.Refusal.{Refusal}
use Rattle.mst_net.specs.tables.Tables.{Net}
use Rattle.mst_net.specs.tables.Contents.{Contents, Tables, SameContents}
use Rattle.mst_plan.specs.Kept.{IsKept}
use Rattle.mst_plan.specs.declared.kept.KeptPlan.{KeptPlan}

pub same_then : (a b c : Contents) → SameContents a b → SameContents b c → SameContents a c
same_then a b c x y = record { net = y.net ∙ x.net; numbers = y.numbers ∙ x.numbers; next = y.next ∙ x.next }

pub kept_so : (old now : Contents) → SameContents old now → (kept : KeptPlan) → IsKept old.net old.numbers kept → IsKept now.net now.numbers kept
kept_so old now same kept is = subst (λ (t : Tables). IsKept t.net t.numbers kept) (λ i. record { net = sym same.net i; numbers = sym same.numbers i }) is

-- an edit that is made has its effect
pub effect_made : (edit : Edit) (old new : Net) → after edit old ≡ Ok new → effect edit old ≡ new
effect_made edit old new made = go (refusal_of edit old) made
  where
    go : (refusal : Option Refusal) → option_map_or Err refusal (Ok (effect edit old)) ≡ Ok new → effect edit old ≡ new
    go None e = cc
    go (Some refusal) e = cc

use Rattle.std.proofs.Common.{List, [], ◌∷◌, ◌++◌, ap, sym, ◌∙◌, arith}
use Rattle.std.proofs.lemmas.List.{take_more_set}
use Rattle.mst_bpdu.specs.Layout.{msti_message, msti_messages}
use Rattle.mst_bpdu.specs.declared.bpdu.MstiMessage.{MstiMessage}
use Rattle.mst_bpdu.proofs.MessageLemmas.{msti_messages-more}
use Rattle.mst_bpdu.proofs.messages.MstiMessages.read.Goals as goal

pub loop-i-preserved : goal.loop-i-preserved
loop-i-preserved c =
    let i = c.loop-i.i in
    let messages = c.loop-i.messages in
    let b = c.args.bpdu.now in
    let message = c.msti_message.ensures ∙ ap msti_message c.rest_from.ensures in
    take_more_set messages i c.msti_message.result (omega arith)
    ∙ ap (λ (ms : List MstiMessage). ms ++ c.msti_message.result ∷ []) c.loop-i.invariant
    ∙ ap (λ (m : MstiMessage). msti_messages i b ++ m ∷ []) message
    ∙ sym (msti_messages-more i b)

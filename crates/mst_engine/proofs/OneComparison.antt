-- Captured messages have one comparison with a plan by those that lack memory, and one without.
use Rattle.std.proofs.Common.{◌≡◌, ℕ, ◌+◌, Bool, true, false, List, [], ◌∷◌, Option, Some, None, Result, Ok, Err, refl, sym, ap, subst, ◌∙◌}
use Rattle.mst_ids.specs.declared.name.PortName.{PortName}
use Rattle.mst_bpdu.specs.declared.bpdu.Bpdu.{Bpdu}
use Rattle.mst_bpdu.specs.declared.difference.Difference.{Difference}
use Rattle.mst_bpdu.specs.declared.fault.BpduFault.{BpduFault}
use Rattle.mst_bpdu.specs.declared.fault.BpduFault.TheVariants.{B07}
use Rattle.mst_net.specs.tables.Tables.{Net, IsNetwork}
use Rattle.mst_compare.specs.Comparison.{AreDifferences}
use Rattle.mst_compare.specs.Sender.{sender_of}
use Rattle.mst_report.specs.State.{State, IsState}
use Rattle.mst_engine.specs.Captures.{Compares, ServesCapture, ServesMessage, ServesSent, capture_of, compared, faulty}
use Rattle.mst_engine.specs.Steps.{Step, RunsBy, silent, lacks_of, lacking_of}
use Rattle.mst_print.specs.declared.form.Form.{Form}
use Rattle.mst_engine.proofs.Steps.{runs-none, runs-first, no_more_lack, alike_both}

-- a message leaves the state
compared_keeps : (form : Form) (lacks : Bool) (number : ℕ) (now : State) (port : PortName) (found : List Difference) → (compared form lacks number now port found).state ≡ now
compared_keeps form true number now port found = refl
compared_keeps form false number now port [] = refl
compared_keeps form false number now port (d ∷ ds) = refl

sent_keeps : (form : Form) (number : ℕ) (now : State) (bpdu : Bpdu) (sender : Option PortName) (s : Step) → ServesSent form number now bpdu sender s → s.state ≡ now
sent_keeps form number now bpdu None s h = ap (λ (t : Step). t.state) h
sent_keeps form number now bpdu (Some port) s h = ap (λ (t : Step). t.state) h.2 ∙ compared_keeps form s.lacking number now port h.0

message_keeps : (form : Form) (number : ℕ) (now : State) (message : Option (Result Bpdu BpduFault)) (s : Step) → ServesMessage form number now message s → s.state ≡ now
message_keeps form number now None s h = ap (λ (t : Step). t.state) h
message_keeps form number now (Some (Err fault)) s h = ap (λ (t : Step). t.state) h
message_keeps form number now (Some (Ok bpdu)) s h = sent_keeps form number now bpdu (sender_of now.net bpdu) s h

state_kept : (form : Form) (number : ℕ) (now : State) (line : List ℕ) (s : Step) → IsState now → ServesCapture form number now line s → IsState s.state
state_kept form number now line s is h = subst IsState (sym (message_keeps form number now (capture_of line) s h)) is

pub compared_whole : (form : Form) (number : ℕ) (now : State) (port : PortName) (found : List Difference) → (compared form false number now port found).lacking ≡ false
compared_whole form number now port [] = refl
compared_whole form number now port (d ∷ ds) = refl

module _ (there : (net : Net) (bpdu : Bpdu) (port : PortName) → IsNetwork net → sender_of net bpdu ≡ Some port → (found : List Difference) × AreDifferences net bpdu found) where
  -- a message can be compared without want of memory
  full_sent : (form : Form) (number : ℕ) (now : State) (bpdu : Bpdu) (sender : Option PortName) → IsState now → sender_of now.net bpdu ≡ sender → (s : Step) × ServesSent form number now bpdu sender s × (s.lacking ≡ false)
  full_sent form number now bpdu None is e = (faulty form number B07 now, refl, refl)
  full_sent form number now bpdu (Some port) is e =
      let found = there now.net bpdu port is.network e in
      let whole = compared_whole form number now port found.0 in
      (compared form false number now port found.0, (found.0, found.1, ap (λ lacks. compared form lacks number now port found.0) (sym whole)), whole)

  full_message : (form : Form) (number : ℕ) (now : State) (message : Option (Result Bpdu BpduFault)) → IsState now → (s : Step) × ServesMessage form number now message s × (s.lacking ≡ false)
  full_message form number now None is = (silent now, refl, refl)
  full_message form number now (Some (Err fault)) is = (faulty form number fault now, refl, refl)
  full_message form number now (Some (Ok bpdu)) is = full_sent form number now bpdu (sender_of now.net bpdu) is refl

  -- and so can all messages
  pub full_comparison : (form : Form) (number : ℕ) (now : State) (lines : List (List ℕ)) → IsState now → (steps : List Step) × Compares form number now lines steps × (lacks_of steps ≡ 0)
  full_comparison form number now [] is = ([], runs-none (ServesCapture form) number now, refl)
  full_comparison form number now (line ∷ lines) is =
      let s = full_message form number now (capture_of line) is in
      let rest = full_comparison form (number + 1) (s.0).state lines (state_kept form number now line s.0 is s.1) in
      (s.0 ∷ rest.0, runs-first (ServesCapture form) number now line lines s.0 rest.0 s.1 rest.1, no_more_lack s.0 rest.0 s.2 rest.2)

module _ (one : (net : Net) (bpdu : Bpdu) (found others : List Difference) → IsNetwork net → AreDifferences net bpdu found → AreDifferences net bpdu others → found ≡ others) where
  -- a message does one thing in a state, or lacks memory
  one_sent : (form : Form) (number : ℕ) (now : State) (bpdu : Bpdu) (sender : Option PortName) (s t : Step) → IsState now → ServesSent form number now bpdu sender s → ServesSent form number now bpdu sender t → s.lacking ≡ t.lacking → s ≡ t
  one_sent form number now bpdu None s t is h k alike = h ∙ sym k
  one_sent form number now bpdu (Some port) s t is h k alike =
      let same : h.0 ≡ k.0 = one now.net bpdu h.0 k.0 is.network h.1 k.1 in
      h.2 ∙ (λ i. compared form (alike i) number now port (same i)) ∙ sym k.2

  one_message : (form : Form) (number : ℕ) (now : State) (message : Option (Result Bpdu BpduFault)) (s t : Step) → IsState now → ServesMessage form number now message s → ServesMessage form number now message t → s.lacking ≡ t.lacking → s ≡ t
  one_message form number now None s t is h k alike = h ∙ sym k
  one_message form number now (Some (Err fault)) s t is h k alike = h ∙ sym k
  one_message form number now (Some (Ok bpdu)) s t is h k alike = one_sent form number now bpdu (sender_of now.net bpdu) s t is h k alike

  -- and so do all messages
  pub one_comparison : (form : Form) (number : ℕ) (now : State) (lines : List (List ℕ)) (a b : List Step) → IsState now → Compares form number now lines a → Compares form number now lines b → lacking_of a ≡ lacking_of b → a ≡ b
  unfolding RunsBy
  one_comparison form number now [] [] [] is h k alike = refl
  one_comparison form number now [] [] (t ∷ b) is h k alike = absurd k
  one_comparison form number now [] (s ∷ a) b is h k alike = absurd h
  one_comparison form number now (line ∷ lines) [] b is h k alike = absurd h
  one_comparison form number now (line ∷ lines) (s ∷ a) [] is h k alike = absurd k
  one_comparison form number now (line ∷ lines) (s ∷ a) (t ∷ b) is h k alike =
      let both = alike_both s t a b alike in
      let same : s ≡ t = one_message form number now (capture_of line) s t is h.0 k.0 both.0 in
      let rest : a ≡ b = one_comparison form (number + 1) s.state lines a b (state_kept form number now line s is h.0) h.1 (subst (λ (u : Step). RunsBy (ServesCapture form) (number + 1) u.state lines b) (sym same) k.1) both.1 in
      λ i. same i ∷ rest i

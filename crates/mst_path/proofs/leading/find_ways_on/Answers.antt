use Rattle.std.proofs.Common.{◌≡◌, ◌↔◌, ◌⊎◌, inl, inr, ◌+◌, ◌<◌, ◌≤◌, ℕ, Bool, true, false, List, length, get_or, sym, ◌∙◌, subst, true≢false, arith}
use Rattle.std.proofs.lemmas.Bool.{cases_lt}
use Rattle.mst_path.specs.Places.{IsBefore}
use Rattle.mst_path.proofs.Chosen.{none_chosen, passed}
use Rattle.mst_path.proofs.Onward.{AreOn, GoesOn, on_kept, on_taken, on_first}
use Rattle.mst_path.proofs.leading.find_ways_on.Goals as goal
use Rattle.mst_path.proofs.leading.find_ways_on.Goals.{then-leads_on+then-arrives_before, else-leads_on, else-leads_on-via-then-leads_on+else-arrives_before, else-leads_on-via-else-leads_on}

-- neither of two is so
neither : (r : Bool) (m n x y : ℕ) → (r ≡ true ↔ ((m ≤ n) ⊎ (x < y))) → r ≡ false → (n < m) × (y ≤ x)
neither r m n x y told e = (
  elim (cases_lt n m) [ inl l ↦ l | inr l ↦ absurd (true≢false (sym (told.1 (inl l)) ∙ e)) ],
  elim (cases_lt x y) [ inl l ↦ absurd (true≢false (sym (told.1 (inr l)) ∙ e)) | inr l ↦ l ],
)

pub loop-place-init : goal.loop-place-init
loop-place-init c = none_chosen c.args.bridges.now (GoesOn c.args.bridges.now c.args.lans.now c.args.depths.now) (IsBefore c.args.bridges.now c.args.lans.now c.args.ups.now) c.args.ups.now

pub loop-place-preserved : goal.loop-place-preserved
loop-place-preserved c =
    let b : List ℕ = c.args.bridges.now in
    let l : List ℕ = c.args.lans.now in
    let depths : List ℕ = c.args.depths.now in
    let old : List ℕ = c.args.ups.now in
    let ups : List ℕ = c.loop-place.ups in
    let n : ℕ = c.loop-place.place in
    let inv = c.loop-place.invariant in
    let below : n < length b = c.loop-place-test.true in
    let long : length ups ≡ length depths = (let a = c.loop-place.auto.ups in let d = c.requires.as_long in omega arith) in
    elim c.if-leads_on.branch [
      | then-leads_on+then-arrives_before w ↦
          subst (λ (ups : List ℕ). AreOn b l depths old ups (n + 1)) (sym w.ups-is)
          (on_taken b l depths c.requires.nodes c.requires.apart old ups n below inv long w.if-leads_on.true (w.arrives_before.ensures.0 w.if-arrives_before.true))
      | else-leads_on w ↦ subst (λ (ups : List ℕ). AreOn b l depths old ups (n + 1)) (sym w.ups-is) (elim w.else-leads_on.branch [
        | else-leads_on-via-then-leads_on+else-arrives_before v ↦
            (let not_so = neither v.arrives_before.result (length l) (get_or ups (get_or b n 0) 0) (get_or ups (get_or l n 0) 0) (get_or ups (get_or l (get_or ups (get_or b n 0) 0) 0) 0) v.arrives_before.ensures v.if-arrives_before.false in
            on_kept b l depths c.requires.nodes c.requires.apart old ups n below inv c.requires.none (subst (λ k. get_or ups (get_or b n 0) 0 < k) c.requires.nodes.as_long not_so.0) not_so.1)
        | else-leads_on-via-else-leads_on v ↦ passed b (GoesOn b l depths) (IsBefore b l old) old ups n inv v.if-leads_on.false
      ])
    ]

pub returns : goal.returns
returns c =
    let b : List ℕ = c.args.bridges.now in
    let l : List ℕ = c.args.lans.now in
    let depths : List ℕ = c.args.depths.now in
    let old : List ℕ = c.args.ups.now in
    let ups : List ℕ = c.loop-place.ups in
    let inv = c.loop-place.invariant in
    let all : c.loop-place.place ≡ length b = (let a = c.loop-place-test.false in let d = c.loop-place.auto.place-end in omega arith) in
    record {
      as_long = inv.as_long;
      first = on_first b l depths c.requires.nodes c.requires.apart old ups c.requires.none (subst (AreOn b l depths old ups) all inv);
      others = inv.others;
    }

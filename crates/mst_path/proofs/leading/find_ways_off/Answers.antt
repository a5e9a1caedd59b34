use Rattle.std.proofs.Common.{◌≡◌, ◌+◌, ◌<◌, ◌≤◌, ℕ, List, length, get_or, sym, subst, arith}
use Rattle.mst_path.proofs.Chosen.{none_chosen, passed}
use Rattle.mst_path.proofs.Onward.{AreOff, GoesOff, off_kept, off_taken, off_first}
use Rattle.mst_path.proofs.leading.find_ways_off.Goals as goal
use Rattle.mst_path.proofs.leading.find_ways_off.Goals.{then-leads_on+then-place-ups, else-leads_on, else-leads_on-via-then-leads_on+else-place-ups, else-leads_on-via-else-leads_on}

pub loop-place-init : goal.loop-place-init
loop-place-init c = none_chosen c.args.lans.now (GoesOff c.args.bridges.now c.args.lans.now c.args.depths.now) (λ up p. up ≤ p) c.args.ups.now

pub loop-place-preserved : goal.loop-place-preserved
loop-place-preserved c =
    let b : List ℕ = c.args.bridges.now in
    let l : List ℕ = c.args.lans.now in
    let depths : List ℕ = c.args.depths.now in
    let old : List ℕ = c.args.ups.now in
    let ups : List ℕ = c.loop-place.ups in
    let n : ℕ = c.loop-place.place in
    let inv = c.loop-place.invariant in
    let below : n < length b = c.loop-place-test.true in
    let long : length ups ≡ length depths = (let a = c.loop-place.auto.ups in let d = c.requires.as_long in omega arith) in
    elim c.if-leads_on.branch [
      | then-leads_on+then-place-ups w ↦
          subst (λ (ups : List ℕ). AreOff b l depths old ups (n + 1)) (sym w.ups-is)
          (off_taken b l depths c.requires.nodes c.requires.apart old ups n below long inv w.if-leads_on.true w.if-place-ups.true)
      | else-leads_on w ↦ subst (λ (ups : List ℕ). AreOff b l depths old ups (n + 1)) (sym w.ups-is) (elim w.else-leads_on.branch [
        | else-leads_on-via-then-leads_on+else-place-ups v ↦ off_kept b l depths c.requires.nodes c.requires.apart old ups n below inv v.if-place-ups.false
        | else-leads_on-via-else-leads_on v ↦ passed l (GoesOff b l depths) (λ up p. up ≤ p) old ups n inv v.if-leads_on.false
      ])
    ]

pub returns : goal.returns
returns c =
    let b : List ℕ = c.args.bridges.now in
    let l : List ℕ = c.args.lans.now in
    let depths : List ℕ = c.args.depths.now in
    let old : List ℕ = c.args.ups.now in
    let ups : List ℕ = c.loop-place.ups in
    let inv = c.loop-place.invariant in
    let all : c.loop-place.place ≡ length b = (let a = c.loop-place-test.false in let d = c.loop-place.auto.place-end in omega arith) in
    record {
      as_long = inv.as_long;
      first = off_first b l depths c.requires.nodes c.requires.apart old ups
          (λ p h. c.requires.none (get_or l p 0) (let a = c.requires.nodes.lans_below p h in let d = c.requires.as_long in omega arith)) (subst (AreOff b l depths old ups) all inv);
      others = inv.others;
    }

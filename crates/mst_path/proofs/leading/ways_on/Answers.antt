use Rattle.std.proofs.Common.{◌≡◌, ◌<◌, ℕ, List, ◌++◌, length, take, get_or, sym, ap, ◌∙◌, subst, arith}
use Rattle.std.proofs.lemmas.List.{take-append-le, take_all, get_or-replicate}
use Rattle.mst_path.specs.Places.{AreWaysOn, AreFirstOff, AreFirstOn}
use Rattle.mst_path.proofs.Onward.{off_still}
use Rattle.mst_path.proofs.leading.ways_on.Goals as goal

-- a list of so many that was written back is that
written : (n : ℕ) (xs ys : List ℕ) → length xs ≡ n → take n (xs ++ ys) ≡ xs
written n xs ys e = take-append-le n xs ys (omega arith) ∙ take_all n xs (omega arith)

pub find_ways_off-requires-clause-none : goal.find_ways_off-requires-clause-none
find_ways_off-requires-clause-none c = λ x h.
    let items = c.in_ok-ups.ensures.items_if_clones_equal (λ y e. e) in
    let below : x < c.len.result = (let a = c.as_mut_slice.ensures.len in let b = c.in_ok-ups.ensures.len in omega arith) in
    ap (λ (l : List ℕ). get_or l x 0) (c.as_mut_slice.ensures.value ∙ items) ∙ get_or-replicate c.len.result x (length c.args.bridges.now) 0 below

pub find_ways_on-requires-clause-none : goal.find_ways_on-requires-clause-none
find_ways_on-requires-clause-none c = λ place h.
    let off : List ℕ = c.find_ways_off.new.ups in
    let b : List ℕ = c.args.bridges.now in
    let n : ℕ = c.in_ok-ups.ups.len in
    let items = c.in_ok-ups.ensures.items_if_clones_equal (λ y e. e) in
    let off_long : length off ≡ n = (let a = c.find_ways_off.ensures.as_long in let d = c.as_mut_slice.ensures.len in omega arith) in
    let below : get_or b place 0 < c.len.result = (let a = c.requires.nodes.bridges_below place h in let d = c.len.ensures in omega (arith, c.args.depths.ok.0)) in
    ap (λ (l : List ℕ). get_or l (get_or b place 0) 0) (c.as_mut_slice-2.ensures.value ∙ written n off _ off_long)
    ∙ c.find_ways_off.ensures.others (get_or b place 0) (λ p k e. c.requires.apart place p h (subst (λ m. p < m) c.requires.nodes.as_long k) (sym e))
    ∙ ap (λ (l : List ℕ). get_or l (get_or b place 0) 0) (c.as_mut_slice.ensures.value ∙ items) ∙ get_or-replicate c.len.result (get_or b place 0) (length b) 0 below

pub returns-clause-ways : goal.returns-clause-ways
returns-clause-ways c =
    let b : List ℕ = c.args.bridges.now in
    let l : List ℕ = c.args.lans.now in
    let depths : List ℕ = c.args.depths.items in
    let off : List ℕ = c.find_ways_off.new.ups in
    let on : List ℕ = c.find_ways_on.new.ups in
    let middle : List ℕ = c.as_mut_slice-2.result.now in
    let n : ℕ = c.in_ok-ups.ups.len in
    let off_long : length off ≡ n = (let a = c.find_ways_off.ensures.as_long in let d = c.as_mut_slice.ensures.len in omega arith) in
    let middle_is : middle ≡ off = c.as_mut_slice-2.ensures.value ∙ written n off _ off_long in
    let on_long : length on ≡ n = c.find_ways_on.ensures.as_long ∙ ap length middle_is ∙ off_long in
    let firsts : AreFirstOff b l depths middle = subst (AreFirstOff b l depths) (sym middle_is) (subst (λ (d : List ℕ). AreFirstOff b l d off) c.as_slice.ensures.value c.find_ways_off.ensures.first) in
    subst (AreWaysOn b l depths) (sym (written n on _ on_long)) (record {
      as_long = let a = c.in_ok-ups.ensures.len in let d = c.len.ensures in omega (arith, c.args.depths.ok.0, on_long);
      off = off_still b l depths c.requires.nodes c.requires.apart middle on c.find_ways_on.ensures.others firsts;
      on = subst (λ (d : List ℕ). AreFirstOn b l d on) c.as_slice-2.ensures.value c.find_ways_on.ensures.first;
    })

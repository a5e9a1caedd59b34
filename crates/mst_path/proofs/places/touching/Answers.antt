use Rattle.std.proofs.Common.{◌≡◌, ℕ, List, Vec, Global, map, length, [], ◌∷◌, ◌++◌, get_or, ap, ◌∙◌, arith}
use Rattle.std.specs.Prelude.{replicate}
use Rattle.std.proofs.lemmas.List.{map_push, replicate_more, length-map, length-set}
use Rattle.mst_path.proofs.Putting.{put, none_touching, one_touching}
use Rattle.mst_path.proofs.places.touching.Goals as goal

pub loop-preserved : goal.loop-preserved
loop-preserved c =
    let items : Vec ℕ Global → List ℕ = λ v. v.items in
    let none : List ℕ = [] in
    ap (map items) c.in_ok-push.ensures.items ∙ map_push items c.loop.lists.items c.new.result ∙ ap (λ (l : List (List ℕ)). l ++ items c.new.result ∷ []) c.loop.invariant
    ∙ ap (λ (l : List ℕ). replicate c.loop.counter none ++ l ∷ []) c.new.ensures.items ∙ replicate_more c.loop.counter none

pub loop-place-init : goal.loop-place-init
loop-place-init c =
    let none : List ℕ = [] in
    let all : c.loop.counter ≡ c.args.count = (let a = c.loop-test.false in let b = c.loop.auto.counter-end in omega arith) in
    none_touching c.args.bridges.now c.args.lans.now c.args.count (map (λ (v : Vec ℕ Global). v.items) c.loop.lists.items) (c.loop.invariant ∙ ap (λ n. replicate n none) all)

pub add-requires : goal.add-requires
add-requires c =
    let items : Vec ℕ Global → List ℕ = λ v. v.items in
    let long : length (map items c.loop-place.lists.items) ≡ length c.loop-place.lists.items = length-map c.loop-place.lists.items items in
    let t : length (map items c.loop-place.lists.items) ≡ c.args.count = c.loop-place.invariant.as_long in
    let low = c.requires.bridges_below c.loop-place.place c.loop-place-test.true in
    omega (arith, long, t, low, c.loop-place.lists.ok.0)

pub add-requires-in-loop-place : goal.add-requires-in-loop-place
add-requires-in-loop-place c =
    let items : Vec ℕ Global → List ℕ = λ v. v.items in
    let old : List (List ℕ) = map items c.loop-place.lists.items in
    let x : ℕ = get_or c.args.bridges.now c.loop-place.place 0 in
    let long : length (map items c.add.new.lists.items) ≡ length c.add.new.lists.items = length-map c.add.new.lists.items items in
    let same : length (map items c.add.new.lists.items) ≡ length old = ap length c.in_ok-add.ensures ∙ length-set old x (get_or old x [] ++ c.loop-place.place ∷ []) in
    let t : length old ≡ c.args.count = c.loop-place.invariant.as_long in
    let low = c.requires.lans_below c.loop-place.place c.loop-place-test.true in
    omega (arith, long, same, t, low, c.add.new.lists.ok.0)

pub loop-place-preserved : goal.loop-place-preserved
loop-place-preserved c =
    let items : Vec ℕ Global → List ℕ = λ v. v.items in
    one_touching c.args.bridges.now c.args.lans.now c.args.count c.requires c.loop-place.place c.loop-place-test.true (map items c.loop-place.lists.items) c.loop-place.invariant (map items c.add-in-loop-place.new.lists.items)
    (c.in_ok-add-2.ensures ∙ ap (λ (ls : List (List ℕ)). put ls (get_or c.args.lans.now c.loop-place.place 0) c.loop-place.place) c.in_ok-add.ensures)

use Rattle.std.proofs.Common.{◌≡◌, Vec, Global, ℕ, Bool, true, false, List, [], ◌∷◌, ◌++◌, map, sym, ap, ◌∙◌}
use Rattle.std.specs.Prelude.{if◌then◌else◌}
use Rattle.std.specs.List.{list_any}
use Rattle.std.proofs.lemmas.List.{map_push}
use Rattle.mst_sweeping.specs.Turns.{same_bridges}
use Rattle.mst_sweeping.proofs.TurnLists.{among_lists}
use Rattle.mst_sweeping.proofs.turns.add_new.Goals as goal

pub returns-then-is_among : goal.returns-then-is_among
returns-then-is_among c =
    let lists : List (Vec (List ℕ) Global) = c.args.lists.now.items in
    let kept : List (List (List ℕ)) = map (λ (list : Vec (List ℕ) Global). list.items) lists in
    let bridges : List (List ℕ) = c.args.bridges.now in
    let there : list_any (λ (other : List (List ℕ)). same_bridges other bridges) kept ≡ true =
    sym (among_lists bridges lists) ∙ ap (list_any (λ (list : Vec (List ℕ) Global). same_bridges list.items bridges)) (sym c.as_slice.ensures.value) ∙ sym c.is_among.ensures ∙ c.if-is_among.true in
    sym (ap (λ (b : Bool). if b then kept else kept ++ bridges ∷ []) there)

pub returns : goal.returns
returns c =
    let lists : List (Vec (List ℕ) Global) = c.args.lists.now.items in
    let items : Vec (List ℕ) Global → List (List ℕ) = λ list. list.items in
    let kept : List (List (List ℕ)) = map items lists in
    let bridges : List (List ℕ) = c.args.bridges.now in
    let none : list_any (λ (other : List (List ℕ)). same_bridges other bridges) kept ≡ false =
    sym (among_lists bridges lists) ∙ ap (list_any (λ (list : Vec (List ℕ) Global). same_bridges list.items bridges)) (sym c.as_slice.ensures.value) ∙ sym c.is_among.ensures ∙ c.if-is_among.false in
    ap (map items) c.in_ok-push.ensures.items ∙ map_push items lists c.in_ok-from_slice.field-0 ∙ ap (λ (new : List (List ℕ)). kept ++ new ∷ []) c.in_ok-from_slice.ensures.items
    ∙ sym (ap (λ (b : Bool). if b then kept else kept ++ bridges ∷ []) none)

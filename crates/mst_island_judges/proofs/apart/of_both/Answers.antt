use Rattle.std.proofs.Common.{Vec, Global, ◌≡◌, ℕ, Bool, false, cond, List, [], ◌∷◌, ◌++◌, filter, map, sym, ap, ◌∙◌}
use Rattle.std.proofs.lemmas.List.{append-nil, append_assoc, nil_from_length, map-append}
use Rattle.std.proofs.lemmas.List.Elements.{filter-append}
use Rattle.std.specs.Option.{option_copied}
use Rattle.mst_island_judges.specs.Seen.{are_of_both}
use Rattle.mst_island_judges.proofs.apart.of_both.Goals as goal

abbrev Part : Type 0
Part = Vec (List ℕ) Global

abbrev named : List Part → List (List (List ℕ))
named parts = map (λ (part : Part). part.items) parts

more : (test : List (List ℕ) → Bool) (parts : List Part) (part : Part) → filter test (named (parts ++ part ∷ [])) ≡ filter test (named parts) ++ cond (test part.items) (part.items ∷ []) []
more test parts part = ap (filter test) (map-append (λ (p : Part). p.items) parts (part ∷ [])) ∙ filter-append test (named parts) (part.items ∷ [])

pub loop-part-preserved : goal.loop-part-preserved
loop-part-preserved c =
    let before : List Part = c.loop-part.yielded in
    let part : Part = c.in-Some.part in
    let test : List (List ℕ) → Bool = are_of_both c.args.judged.now.lost.now c.args.names.now (option_copied c.args.others) in
    let not : test part.items ≡ false = ap test (sym c.as_slice.ensures.value) ∙ sym c.is_of_both.ensures ∙ c.if-is_of_both.false in
    record {
      whole = append_assoc before (part ∷ []) c.next.new.self.rest.items ∙ ap (λ r. before ++ r) (sym c.in-Some.ensures.steps.0) ∙ c.loop-part.invariant.whole;
      both = c.loop-part.invariant.both ∙ sym (more test before part ∙ ap (λ b. filter test (named before) ++ cond b (part.items ∷ []) []) not ∙ append-nil (filter test (named before)));
    }

pub returns : goal.returns
returns c =
    let test : List (List ℕ) → Bool = are_of_both c.args.judged.now.lost.now c.args.names.now (option_copied c.args.others) in
    let so_far : List Part = c.loop-part.yielded in
    let no_rest = nil_from_length c.loop-part.part-iterator.rest.items (sym c.loop-part.part-iterator.rest.ok.0 ∙ c.in-None.ensures.steps.0) in
    let all = sym (append-nil so_far) ∙ ap (λ r. so_far ++ r) (sym no_rest) ∙ c.loop-part.invariant.whole in
    c.loop-part.invariant.both ∙ ap (λ ps. filter test (named ps)) all

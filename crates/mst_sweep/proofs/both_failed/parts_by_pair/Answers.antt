use Rattle.std.proofs.Common.{◌≡◌, ◌+◌, ◌-◌, ◌<◌, ℕ, List, [], ◌∷◌, Option, None, get_or, length, map, sym, ap, subst, ◌∙◌, arith}
use Rattle.std.specs.List.{filter_map}
use Rattle.std.specs.Option.{option_map}
use Rattle.std.proofs.lemmas.List.{get_or-map}
use Rattle.std.proofs.lemmas.Result.{IfOk-weaker}
use Rattle.mst_vlan.specs.classes.Alike.{AreAlike}
use Rattle.mst_vlan.specs.classes.Classes.{HasOnly}
use Rattle.mst_sweep.specs.Baseline.{AreHomes}
use Rattle.mst_sweep.specs.CutClasses.{IsKeptAlone, kept_of}
use Rattle.mst_sweep.specs.Cuts.{names_of}
use Rattle.mst_sweep.specs.Failures.{failed}
use Rattle.mst_sweep.specs.Pairs.{Pair, Outcomes, ArePairParts}
use Rattle.mst_sweep.specs.Parts.{all_parts, AreParts}
use Rattle.mst_sweep.specs.Seen.{places_before, seen_with_both}
use Rattle.mst_sweep.proofs.PairParts.{alone, class_alike, no_parts_alone, seen_parts}
use Rattle.mst_sweep.proofs.Stay.{homes_moved, parts_moved, told_too}
use Rattle.mst_sweep.proofs.Failed.{are_left}
use Rattle.mst_sweep.proofs.both_failed.parts_by_pair.Goals as goal

pub returns-then-not-breaks : goal.returns-then-not-breaks
returns-then-not-breaks c net n is are one other of so first second vid valid class =
    let s = c.requires.baseline in
    let pair : Pair = record { first = c.args.first.now.failure; second = c.args.second.now.failure } in
    let outcomes : Outcomes = record { none = is.outcome; first = one; second = other; both = are.outcome } in
    let both = failed (pair.first ∷ pair.second ∷ []) net in
    let left = are_left (pair.first ∷ pair.second ∷ []) net in
    let told : HasOnly c.args.old.now.view.now s.tables s.sets = record { tables_there = s.have_tables; sets_there = s.have_sets } in
    let alike = class_alike s.tables s.sets s.numbers s.tell c.args.baseline.now.classes s.classes vid valid c.args.class class in
    let none = c.requires.others c.if-not-breaks.true net both n n is are of so left in
    let here = parts_moved net both n n c.args.old.now.view.now c.args.new.now.view.now c.args.old.now.forest.now c.args.new.now.forest.now of so left s.tables s.sets told is.outcome are.outcome
    (get_or c.args.baseline.now.classes.firsts.items c.args.class 0 + 1) vid alike [] none in
    subst (ArePairParts net pair outcomes vid) (sym (ap (map (λ names. names.items)) c.new.ensures.items))
    (no_parts_alone c.islands_of_vid.ensures.one net n pair outcomes vid (get_or (kept_of c.args.first.now) (get_or c.args.baseline.now.classes.numbers.items (vid - 1) 0) None)
    (get_or (kept_of c.args.second.now) (get_or c.args.baseline.now.classes.numbers.items (vid - 1) 0) None) (first.each vid valid) (second.each vid valid) here)

pub returns : goal.returns
returns c = IfOk-weaker c.all_parts.result _ _
    (λ parts told net n is are one other of so first second vid valid class.
    let s = c.requires.baseline in
    let v = c.args.old.now.view.now in
    let w = c.args.new.now.view.now in
    let f = c.args.old.now.forest.now in
    let g = c.args.new.now.forest.now in
    let pair : Pair = record { first = c.args.first.now.failure; second = c.args.second.now.failure } in
    let outcomes : Outcomes = record { none = is.outcome; first = one; second = other; both = are.outcome } in
    let both = failed (pair.first ∷ pair.second ∷ []) net in
    let left = are_left (pair.first ∷ pair.second ∷ []) net in
    let list = c.islands_of_vid.ensures.one in
    let classes : List ℕ = c.args.baseline.now.classes.numbers.items in
    let i : ℕ = c.args.class in
    let x : ℕ = get_or c.args.baseline.now.classes.firsts.items i 0 + 1 in
    let told_by : HasOnly v s.tables s.sets = record { tables_there = s.have_tables; sets_there = s.have_sets } in
    let alike : AreAlike s.tables s.sets x vid = class_alike s.tables s.sets s.numbers s.tell c.args.baseline.now.classes s.classes vid valid i class in
    let olds : List (ℕ × ℕ) = c.homes_before.result.now.entries in
    let news : List (ℕ × ℕ) = c.in_ok-news.news.entries in
    let before : AreHomes net n is.outcome vid olds = homes_moved net n v f of s.tables s.sets told_by is.outcome x vid alike olds (c.homes_before.ensures net n is of) in
    let came : AreHomes both n are.outcome x news = subst (λ y. AreHomes both n are.outcome y news) c.first_vid.ensures (c.in_ok-news.ensures both n are so) in
    let after : AreHomes both n are.outcome vid news =
    homes_moved both n w g so s.tables s.sets (told_too net both n n v w f g of so left s.tables s.sets told_by) are.outcome x vid alike news came in
    let h = c.index-firsts-class.result in
    let k = c.index-seconds-class.result in
    let first_at : get_or (kept_of c.args.first.now) (get_or classes (vid - 1) 0) None ≡ option_map (λ h. h.entries) h =
    ap (λ j. get_or (kept_of c.args.first.now) j None) class
    ∙ get_or-map (option_map (λ h. h.entries)) c.args.first.now.homes.items i h None (omega (arith, c.requires.there, c.requires.first))
    ∙ ap (option_map (λ h. h.entries)) (ap (λ hs. get_or hs i h) (sym c.as_slice-firsts.ensures.value) ∙ sym c.index-firsts-class.is) in
    let second_at : get_or (kept_of c.args.second.now) (get_or classes (vid - 1) 0) None ≡ option_map (λ h. h.entries) k =
    ap (λ j. get_or (kept_of c.args.second.now) j None) class
    ∙ get_or-map (option_map (λ h. h.entries)) c.args.second.now.homes.items i k None (omega (arith, c.requires.there, c.requires.second))
    ∙ ap (option_map (λ h. h.entries)) (ap (λ hs. get_or hs i k) (sym c.as_slice-seconds.ensures.value) ∙ sym c.index-seconds-class.is) in
    let one_alone = alone list net is.outcome before.0 (failed (pair.first ∷ []) net) n one vid before.1 (option_map (λ h. h.entries) h)
    (subst (IsKeptAlone net is.outcome (failed (pair.first ∷ []) net) n one vid) first_at (first.each vid valid)) in
    let other_alone = alone list net is.outcome before.0 (failed (pair.second ∷ []) net) n other vid before.1 (option_map (λ h. h.entries) k)
    (subst (IsKeptAlone net is.outcome (failed (pair.second ∷ []) net) n other vid) second_at (second.each vid valid)) in
    let all = c.in_ok-all.all.items in
    let seen = places_before olds (option_map (λ h. h.entries) h) (option_map (λ h. h.entries) k) in
    let are_all = c.in_ok-all.ensures ∙ ap (λ bs. filter_map (seen_with_both seen news bs) bs) c.requires.both in
    subst (ArePairParts net pair outcomes vid) (ap all_parts (sym c.as_slice.ensures.value) ∙ sym told)
    (seen_parts net n pair outcomes vid v w f g of so left olds news (option_map (λ h. h.entries) h) (option_map (λ h. h.entries) k) before one_alone other_alone after all are_all)) c.all_parts.ensures

use Rattle.std.proofs.Common.{◌≡◌, ◌+◌, ◌-◌, ◌<◌, ℕ, Bool, List, None, false, true, get_or, length, map, sym, subst, ap, ◌∙◌}
use Rattle.std.specs.Option.{ForSome, option_map}
use Rattle.std.proofs.lemmas.List.{length-map}
use Rattle.mst_vlan.specs.classes.Classes.{HasOnly}
use Rattle.mst_vlan.proofs.classes_lemmas.VidPlaces.{zip_at}
use Rattle.mst_sweep.specs.Breaking.{HasNoParts, IsCarriageOf}
use Rattle.mst_sweep.specs.CutClasses.{IsKeptAlone}
use Rattle.mst_sweep.specs.Touched.{AreWhereTouched}
use Rattle.mst_sweep.proofs.PairParts.{class_there}
use Rattle.mst_sweep.proofs.Stay.{kept_moved}
use Rattle.mst_sweep.proofs.single.kept_alone.Goals as goal

pub breaking-requires-clause-touched : goal.breaking-requires-clause-touched
breaking-requires-clause-touched c =
    subst (AreWhereTouched c.args.old.now.view.now c.args.old.now.forest.now c.args.new.now.view.now c.args.new.now.forest.now) (sym c.as_slice.ensures.value) c.in_ok-touched.ensures

pub homes_of_breaking-requires-clause-carriage : goal.homes_of_breaking-requires-clause-carriage
homes_of_breaking-requires-clause-carriage c = subst (λ o. ForSome o (IsCarriageOf c.args.new.now)) (sym c.as_ref.ensures.value) c.in_ok-carriage.ensures

pub homes_of_breaking-requires-clause-as_long : goal.homes_of_breaking-requires-clause-as_long
homes_of_breaking-requires-clause-as_long c = c.as_slice-4.ensures.len ∙ c.in_ok-flags.ensures.as_long

pub homes_of_breaking-requires-clause-others : goal.homes_of_breaking-requires-clause-others
homes_of_breaking-requires-clause-others c =
    subst (λ (flags : List Bool). (class : ℕ) → get_or flags class true ≡ false → HasNoParts c.args.old.now c.args.new.now (get_or c.args.baseline.now.classes.firsts.items class 0 + 1)) (sym c.as_slice-4.ensures.value)
    c.in_ok-flags.ensures.others

pub returns-clause-kept : goal.returns-clause-kept
returns-clause-kept c a b n k is are of so left =
    let s = c.requires.baseline in
    let v = c.args.old.now.view.now in
    let w = c.args.new.now.view.now in
    let f = c.args.old.now.forest.now in
    let g = c.args.new.now.forest.now in
    let classes : List ℕ = c.args.baseline.now.classes.numbers.items in
    let firsts : List ℕ = c.args.baseline.now.classes.firsts.items in
    let kept = map (option_map (λ h. h.entries)) c.in_ok-homes.homes.items in
    let told_by : HasOnly v s.tables s.sets = record { tables_there = s.have_tables; sets_there = s.have_sets } in
    let at = c.in_ok-homes.ensures.homes a b n k is are of so left in
    record {
      as_long = length-map c.in_ok-homes.homes.items (option_map (λ h. h.entries)) ∙ sym c.in_ok-homes.homes.ok.0 ∙ c.in_ok-homes.ensures.as_long;
      each = λ vid e.
          class_there None (λ class. IsKeptAlone a is.outcome b k are.outcome) s.tables s.sets (λ class. kept_moved a b n k v w f g of so left s.tables s.sets told_by is.outcome are.outcome) s.numbers classes firsts s.tell s.classes kept
          (λ class below. zip_at (λ place kept. IsKeptAlone a is.outcome b k are.outcome (place + 1) kept) firsts kept class 0 None at below) vid e;
    }

-- What is kept of a network for its classes of VIDs still tells their islands where they are carried alike.
use Rattle.std.proofs.Common.{◌≡◌, ◌+◌, ◌<◌, ℕ, Bool, true, false, true≢false, List, [], length, get_or, Option, Some, None, sym, ap, subst, ◌∙◌}
use Rattle.std.specs.HashMap.{HashMap}
use Rattle.std.specs.Option.{option_map}
use Rattle.std.proofs.lemmas.List.{get_or_default}
use Rattle.mst_reasons.specs.sweep.vlan.Carried.{ViewWithTrees, AreFlags, CarryAlike}
use Rattle.mst_roles.specs.forest.Settled.{SettledNet, IsSettledNet, outcome_of}
use Rattle.mst_reasons.proofs.sweep_lemmas.vlan_lemmas.classes_lemmas.VidPlaces.{zip_at}
use Rattle.mst_roles.proofs.forest_lemmas.Lists.{some_is}
use Rattle.mst_reasons.specs.sweep.Baseline.{AreHomes}
use Rattle.mst_judged.specs.Islands.{AreAlike, AreMade, AreStill, HasIslandsOf, IsOfPlan}
use Rattle.mst_judged.specs.declared.before.Before.{Before}
use Rattle.mst_judged.specs.declared.homes.Homes.{Homes}
use Rattle.mst_judged.proofs.HomeParts.{homes_tell}
use Rattle.mst_judged.proofs.HomesMade.{HasHomes}
use Rattle.mst_judged.proofs.StillReached.{still_tell}

none_some : {A : Type 0} (x : A) → None ≡ Some x → ⊥
none_some x e = absurd (cc)

-- the places that are made for a class
module _ {S : Type 0} (s : SettledNet) (firsts : List ℕ) (made : List (Option (HashMap ℕ ℕ S))) (are : AreMade s firsts made) where
  pub made_places : (i : ℕ) (kept : List (ℕ × ℕ)) → i < length firsts → option_map (λ h. h.entries) (get_or made i None) ≡ Some kept → AreHomes s.net s.numbers (outcome_of s) (get_or firsts i 0 + 1) kept
  made_places i kept l e = go (get_or made i None) (zip_at (λ place homes. HasHomes s (place + 1) homes) firsts made i 0 None are l) e
    where
      go : (o : Option (HashMap ℕ ℕ S)) → HasHomes s (get_or firsts i 0 + 1) o → option_map (λ h. h.entries) o ≡ Some kept → AreHomes s.net s.numbers (outcome_of s) (get_or firsts i 0 + 1) kept
      go None h e = absurd (none_some kept e)
      go (Some m) h e = subst (AreHomes s.net s.numbers (outcome_of s) (get_or firsts i 0 + 1)) (some_is m.entries kept e) h

-- where no class has a flag nothing is claimed
pub none_still : (s : SettledNet) (before : Before) (homes : Homes) → homes.differ.items ≡ [] → AreStill s before homes
none_still s before homes none class kept below told = absurd (true≢false (sym (ap (λ flags. get_or flags class true) none) ∙ told.flag))

pub none_alike : (old : ViewWithTrees) (t : SettledNet) (firsts : List ℕ) (flags : List Bool) → flags ≡ [] → AreAlike old t firsts flags
none_alike old t firsts flags none class below told = absurd (true≢false (sym (ap (λ flags. get_or flags class true) none) ∙ told))

-- where the flags tell which are carried alike
pub all_alike : (old new : ViewWithTrees) (t : SettledNet) → IsOfPlan t new → (firsts : List ℕ) (flags : List Bool) → AreFlags old new firsts flags → AreAlike old t firsts flags
all_alike old new t is firsts flags are class below told =
    let there : class < length flags = subst (λ n. class < n) (sym are.as_long) below in
    subst (λ (c : ViewWithTrees). CarryAlike old c (get_or firsts class 0 + 1)) is (are.alike class below (sym (get_or_default flags class true false there) ∙ told))

pub all_still : (old new : ViewWithTrees) (before : Before) (homes : Homes) (t : SettledNet) → IsSettledNet t → HasIslandsOf old t.numbers before → IsOfPlan t new
    → AreFlags old new before.classes.firsts.items homes.differ.items → AreStill t before homes
all_still old new before homes t are has is flags class kept below told =
    let s = has.network in
    let firsts : List ℕ = before.classes.firsts.items in
    let differ : List Bool = homes.differ.items in
    let there : class < length differ = subst (λ n. class < n) (sym flags.as_long) below in
    let flag : get_or differ class false ≡ false = sym (get_or_default differ class true false there) ∙ told.flag in
    let alike : CarryAlike old new (get_or firsts class 0 + 1) = flags.alike class below flag in
    let by_old : CarryAlike (record { view = s.view; forest = s.forest }) new (get_or firsts class 0 + 1) = subst (λ c. CarryAlike c new (get_or firsts class 0 + 1)) has.is_of alike in
    let by_both : CarryAlike (record { view = s.view; forest = s.forest }) (record { view = t.view; forest = t.forest }) (get_or firsts class 0 + 1)
    = subst (λ c. CarryAlike (record { view = s.view; forest = s.forest }) c (get_or firsts class 0 + 1)) is by_old in
    still_tell s t has.settled are (get_or firsts class 0 + 1) by_both has.have_numbers kept
    (homes_tell s.net s.numbers (outcome_of s) (get_or firsts class 0 + 1) has.settled.of.numbered kept (made_places s firsts before.homes.items (has.made s has.settled has.is_of) class kept below told.is))

use Rattle.std.proofs.Common.{◌≡◌, ◌+◌, ℕ, Bool, false, List, [], length, map, filter, sym, ap, subst, ◌∙◌}
use Rattle.std.specs.List.{AllZip}
use Rattle.mst_sweep.specs.vlan.classes.AllVids.{NumberEach}
use Rattle.mst_sweep.proofs.vlan_lemmas.classes_lemmas.VidPlaces.{numbers_below}
use Rattle.mst_sweep.specs.Cuts.{names_of, parts_at, rows_of}
use Rattle.mst_sweep.proofs.CutsBy.{cuts_too}
use Rattle.mst_sweeping.specs.MovedVids.{ArePartsBut, IsJoinedBut, IsMoved}
use Rattle.mst_sweep.specs.vlan.classes.Classes.{AreInSame}
use Rattle.mst_sweep.specs.vlan.classes.Flags.{flag_at}
use Rattle.mst_sweeping.proofs.SameFate.{parts_but_alike, joined_but_alike, moved_alike}
use Rattle.mst_sweeping.proofs.Flagged.{class_has}
use Rattle.mst_sweeping.proofs.told.told_of.Goals as goal

pub flagged-requires : goal.flagged-requires
flagged-requires c =
    let s = c.in_ok-classes.ensures.classes in
    let classes : List ℕ = c.in_ok-classes.classes.numbers.items in
    let firsts : List ℕ = c.in_ok-classes.classes.firsts.items in
    let flags = c.as_slice-3.result.now in
    let long : length flags ≡ length firsts = c.as_slice-3.ensures.len ∙ c.in_ok-of.ensures.as_long.1 ∙ ap length c.as_slice-2.ensures.value in
    subst (λ ns. NumberEach ns (length flags)) (sym c.as_slice-numbers.ensures.value) (numbers_below s.numbers classes firsts (length flags) s.tell.as_long s.are long)

pub returns-clause-cut : goal.returns-clause-cut
returns-clause-cut c a b n k is are of so by =
    let s = c.in_ok-classes.ensures.classes in
    let v = c.args.change.now.old.now.view.now in
    let w = c.args.change.now.new.now.view.now in
    let f = c.args.change.now.old.now.forest.now in
    let g = c.args.change.now.new.now.forest.now in
    let classes : List ℕ = c.in_ok-classes.classes.numbers.items in
    let firsts : List ℕ = c.in_ok-classes.classes.firsts.items in
    let each : List (List (List (List ℕ))) = map names_of c.in_ok-of.of.parts.items in
    let leaving = c.args.change.now.leaving.now in
    let R : ℕ → List (List (List ℕ)) → Type 0 = ArePartsBut leaving a is.outcome b are.outcome in
    let at = subst (λ places. AllZip (λ place parts. R (place + 1) parts) places each) c.as_slice-2.ensures.value (c.in_ok-of.ensures.parts a b n k is are of so) in
    let in_same = subst (λ sets. AreInSame sets c.in_ok-classes.classes) (c.as_slice.ensures.value ∙ c.in_ok-left.ensures) c.in_ok-classes.ensures.same in
    let have = class_has R [] s.tables s.sets s.numbers classes firsts
    (λ i j li lj e alike. parts_but_alike a b n k v w f g of so is.outcome are.outcome s.tables s.sets s.old s.new (i + 1) (j + 1) alike leaving (in_same i j li lj e)) s.tell s.are each at in
    cuts_too (λ vid parts. parts ≡ parts_at classes each vid) R (λ vid v parts e. subst (R vid) (sym e) (have vid v)) by c.in_ok-cuts.cuts.vids.items (rows_of by classes c.in_ok-cuts.cuts) (c.in_ok-cuts.ensures.cut by)

pub returns-clause-joined : goal.returns-clause-joined
returns-clause-joined c a b n k is are of so =
    let s = c.in_ok-classes.ensures.classes in
    let v = c.args.change.now.old.now.view.now in
    let w = c.args.change.now.new.now.view.now in
    let f = c.args.change.now.old.now.forest.now in
    let g = c.args.change.now.new.now.forest.now in
    let classes : List ℕ = c.in_ok-classes.classes.numbers.items in
    let firsts : List ℕ = c.in_ok-classes.classes.firsts.items in
    let flags : List Bool = c.in_ok-of.of.joins.items in
    let leaving = c.args.change.now.leaving.now in
    let R : ℕ → Bool → Type 0 = IsJoinedBut leaving a is.outcome b are.outcome in
    let in_same = subst (λ sets. AreInSame sets c.in_ok-classes.classes) (c.as_slice.ensures.value ∙ c.in_ok-left.ensures) c.in_ok-classes.ensures.same in
    let at = subst (λ places. AllZip (λ place flag. R (place + 1) flag) places flags) c.as_slice-2.ensures.value (c.in_ok-of.ensures.joins a b n k is are of so) in
    record {
      flags = flag_at classes flags;
      each = class_has R false s.tables s.sets s.numbers classes firsts
          (λ i j li lj e alike. joined_but_alike a b n k v w f g of so is.outcome are.outcome s.tables s.sets s.old s.new (i + 1) (j + 1) alike leaving (in_same i j li lj e)) s.tell s.are flags at;
      are = c.in_ok-joined.ensures ∙ (λ j. filter (flag_at (c.as_slice-numbers.ensures.value j) (c.as_slice-3.ensures.value j)) ((c.as_slice-vids.ensures.value ∙ c.in_ok-all.ensures) j));
    }

pub returns-clause-moved : goal.returns-clause-moved
returns-clause-moved c a b n k is are of so =
    let s = c.in_ok-classes.ensures.classes in
    let v = c.args.change.now.old.now.view.now in
    let w = c.args.change.now.new.now.view.now in
    let f = c.args.change.now.old.now.forest.now in
    let g = c.args.change.now.new.now.forest.now in
    let classes : List ℕ = c.in_ok-classes.classes.numbers.items in
    let firsts : List ℕ = c.in_ok-classes.classes.firsts.items in
    let flags : List Bool = c.in_ok-of.of.moves.items in
    let R : ℕ → Bool → Type 0 = IsMoved a is.outcome b are.outcome in
    let at = subst (λ places. AllZip (λ place flag. R (place + 1) flag) places flags) c.as_slice-2.ensures.value (c.in_ok-of.ensures.moves a b n k is are of so) in
    record {
      flags = flag_at classes flags;
      each = class_has R false s.tables s.sets s.numbers classes firsts (λ i j li lj e alike. moved_alike a b n k v w f g of so is.outcome are.outcome s.tables s.sets s.old s.new (i + 1) (j + 1) alike) s.tell s.are flags at;
      are = c.in_ok-moved.ensures ∙ (λ j. filter (flag_at (c.as_slice-numbers.ensures.value j) (c.as_slice-4.ensures.value j)) ((c.as_slice-vids.ensures.value ∙ c.in_ok-all.ensures) j));
    }

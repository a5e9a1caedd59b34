use Rattle.std.proofs.Common.{◌≡◌, ◌-◌, ◌<◌, ℕ, List, [], ◌∷◌, get_or, map, true, refl, sym, ap, subst, ◌∙◌}
use Rattle.mst_ids.specs.Vids.{is_vid}
use Rattle.mst_graph.specs.Lists.{has_any}
use Rattle.mst_sweep.specs.declared.cuts.CutBy.{CutBy}
use Rattle.mst_sweep.specs.declared.cuts.CutBy.TheVariants.{Both}
use Rattle.mst_sweep.specs.Cuts.{names_of, parts_at, rows_of}
use Rattle.mst_sweep.specs.Pairs.{Pair, Outcomes, ArePairParts, pair_rows}
use Rattle.mst_sweep.proofs.CutsBy.{cuts_too}
use Rattle.mst_sweep.proofs.PairParts.{class_below}
use Rattle.mst_sweep.proofs.both_failed.put_pair.Goals as goal

pub cuts_of-requires-clause-classes : goal.cuts_of-requires-clause-classes
cuts_of-requires-clause-classes g c =
    let s = c.requires.baseline in
    record { numbers = s.numbers; as_long = s.tell.as_long; are = s.classes }

pub returns : goal.returns
returns g c net n is are one other of so first second =
    let s = c.requires.baseline in
    let pair : Pair = record { first = c.args.first.now.failure; second = c.args.second.now.failure } in
    let outcomes : Outcomes = record { none = is.outcome; first = one; second = other; both = are.outcome } in
    let classes : List ℕ = c.args.baseline.now.classes.numbers.items in
    let each : List (List (List (List ℕ))) = map names_of c.in_ok-parts.parts.items in
    let R : ℕ → List (List (List ℕ)) → Type 0 = ArePairParts net pair outcomes in
    let by : CutBy = Both pair.first pair.second in
    let have : (vid : ℕ) → is_vid vid ≡ true → R vid (parts_at classes each vid) = λ vid v.
    c.in_ok-parts.ensures.parts net n is are one other of so first second (get_or classes (vid - 1) 0) (subst (λ k. get_or classes (vid - 1) 0 < k) (sym c.in_ok-parts.ensures.as_long) (class_below s.tables s.sets s.numbers s.tell c.args.baseline.now.classes s.classes vid v)) vid v refl in
    let cuts = c.in_ok-cuts.cuts in
    let vids : List ℕ = cuts.vids.items in
    let cut = rows_of by classes cuts in (
      pair_rows pair vids cut,
      record {
        vids = vids;
        cut = cut;
        are_cuts = cuts_too (λ vid parts. parts ≡ parts_at classes each vid) R (λ vid v parts e. subst (R vid) (sym e) (have vid v)) by vids cut (c.in_ok-cuts.ensures.cut by);
        some = c.are_some.ensures ∙ ap has_any c.as_slice.ensures.value;
        are = refl;
      },
      λ grown rows so_far. c.in_ok-put_if_cut.ensures grown rows so_far,
    )

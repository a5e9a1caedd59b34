use Rattle.std.proofs.Common.{◌≡◌, ℕ, List, map, sym, subst}
use Rattle.std.proofs.lemmas.Result.{IfOk-weaker}
use Rattle.mst_vlan.specs.classes.Classes.{HasOnly}
use Rattle.mst_sweep.specs.declared.cuts.CutBy.TheVariants.{One}
use Rattle.mst_sweep.specs.Cuts.{names_of, parts_at, rows_of}
use Rattle.mst_sweep.specs.Parts.{AreParts}
use Rattle.mst_sweep.proofs.CutsBy.{cuts_too}
use Rattle.mst_sweep.proofs.PairParts.{have_parts}
use Rattle.mst_sweep.proofs.Stay.{parts_moved}
use Rattle.mst_sweep.proofs.cuts.cuts_by_failures.Goals as goal

pub cuts_of-requires-clause-classes : goal.cuts_of-requires-clause-classes
cuts_of-requires-clause-classes c =
    let s = c.requires.baseline in
    record { numbers = s.numbers; as_long = s.tell.as_long; are = s.classes }

pub returns-clause-cut : goal.returns-clause-cut
returns-clause-cut c = IfOk-weaker c.cuts_of.result _ _
    (λ cuts told a b n k is are of so left cause.
    let s = c.requires.baseline in
    let classes : List ℕ = c.args.baseline.now.classes.numbers.items in
    let firsts : List ℕ = c.args.baseline.now.classes.firsts.items in
    let v = c.args.old.now.view.now in
    let w = c.args.new.now.view.now in
    let f = c.args.old.now.forest.now in
    let g = c.args.new.now.forest.now in
    let each : List (List (List (List ℕ))) = map names_of c.in_ok-parts.parts.items in
    let R : ℕ → List (List (List ℕ)) → Type 0 = AreParts a is.outcome b are.outcome in
    let told_by : HasOnly v s.tables s.sets = record { tables_there = s.have_tables; sets_there = s.have_sets } in
    let have = have_parts R s.tables s.sets (parts_moved a b n k v w f g of so left s.tables s.sets told_by is.outcome are.outcome) s.numbers classes firsts s.tell s.classes each (c.in_ok-parts.ensures.parts a b n k is are of so left) in
    cuts_too (λ vid parts. parts ≡ parts_at classes each vid) R (λ vid v parts e. subst (R vid) (sym e) (have vid v)) (One cause) cuts.vids.items (rows_of (One cause) classes cuts) (told (One cause))) c.cuts_of.ensures.cut

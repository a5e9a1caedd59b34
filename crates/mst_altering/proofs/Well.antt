-- Telling the steps of a change ends with status 0 just where nothing is refused, cut or broken.
use Rattle.std.proofs.Common.{◌≡◌, ◌∙◌, ℕ, ◌+◌, ◌&&◌, Bool, true, false, cond, nat_eq, List, Option, Ok, refl, sym, arith}
use Rattle.std.specs.Prelude.{◌↔◌, Result}
use Rattle.std.proofs.lemmas.Bool.{and_parts, eqb-true}
use Rattle.mst_altering.specs.Alter.{Alters}
use Rattle.mst_altering.specs.Well.{IsWell}
use Rattle.mst_io.specs.declared.outcome.Outcome.{Outcome}
use Rattle.mst_io.specs.declared.outcome.RunFault.{RunFault}
use Rattle.mst_tool.specs.Run.{status_of}
use Rattle.mst_tool.specs.Status.{IsGood}
use Rattle.mst_tool.specs.engine.print.declared.form.Form.{Form}

abbrev one_unless : Bool → ℕ
one_unless b = cond b 0 1

-- none of three is counted
none_of : (a b c : ℕ) → one_unless (nat_eq a 0 && (nat_eq b 0 && nat_eq c 0)) ≡ 0 → (a ≡ 0) × (b ≡ 0) × (c ≡ 0)
none_of a b c = go (nat_eq a 0 && (nat_eq b 0 && nat_eq c 0)) refl
  where
    go : (t : Bool) → nat_eq a 0 && (nat_eq b 0 && nat_eq c 0) ≡ t → one_unless t ≡ 0 → (a ≡ 0) × (b ≡ 0) × (c ≡ 0)
    go true none e =
        let first = and_parts (nat_eq a 0) (nat_eq b 0 && nat_eq c 0) none in
        let others = and_parts (nat_eq b 0) (nat_eq c 0) first.1 in
        (eqb-true a 0 first.0, eqb-true b 0 others.0, eqb-true c 0 others.1)
    go false some e = let wrong : 1 ≡ 0 = e in omega (arith, wrong)

pub well_where_nothing_breaks : ((ran : Result Outcome RunFault) → (status_of ran ≡ 0) ↔ IsGood ran) → (form : Form) (judged : Bool) (scripts changes policies : Option (List ℕ)) (text : List ℕ) (outcome : Outcome)
    → (a : Alters form judged scripts changes policies text outcome) → (status_of (Ok outcome) ≡ 0) ↔ IsWell a.steps a.course
well_where_nothing_breaks good form judged scripts changes policies text outcome a = (
  λ zero.
      let well = (good (Ok outcome)).0 zero in
      let none = none_of a.course.cutting a.course.failing a.course.unkept (sym a.differing ∙ well.2) in
      record {
        accepted = omega (arith, well.0, a.refused);
        served = sym a.memory ∙ well.1;
        unrefused = omega (arith, well.0, a.refused);
        read = omega (arith, well.0, a.refused);
        uncut = none.0;
        unbroken = none.1;
        kept = none.2;
      },
  λ well. (good (Ok outcome)).1 (
    a.refused ∙ (λ i. well.accepted i + (well.unrefused i + well.read i)),
    a.memory ∙ well.served,
    a.differing ∙ (λ i. one_unless (nat_eq (well.uncut i) 0 && (nat_eq (well.unbroken i) 0 && nat_eq (well.kept i) 0))),
  ),
)

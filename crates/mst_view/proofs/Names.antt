-- Names and their tests.
use Rattle.std.proofs.Common.{◌≡◌, ℕ, true, ◌&&◌, List, refl, sym, ◌∙◌, true≢false, nat_eq}
use Rattle.std.specs.Cmp.Lexicographic.{texts_ties, nat_list_eq_equiv}
use Rattle.std.specs.Cmp.{nat_eq_equiv}
use Rattle.std.proofs.lemmas.Bool.{and_parts, eqb-true}
use Rattle.std.specs.Ordering.{is_eq}
use Rattle.std.specs.declared.cmp.Ordering.{Ordering}
use Rattle.std.specs.declared.cmp.Ordering.TheVariants.{Less, Equal, Greater}
use Rattle.std.specs.FinMap.{slice_cmp-IsAntisymmetric, nat_cmp-IsAntisymmetric}
use Rattle.mst_ids.specs.Names.{name_cmp}
use Rattle.mst_ids.specs.declared.name.PortName.{PortName}
use Rattle.mst_tables.specs.Tables.{port_eq}
use Rattle.mst_view.specs.Aggregation.{same_name}

pub tied : (o : Ordering) → is_eq o ≡ true → o ≡ Equal
tied Less e = absurd (true≢false (sym e))
tied Equal e = refl
tied Greater e = absurd (true≢false (sym e))

abbrev pub name_is : (a b : List ℕ) → name_cmp a b ≡ Equal → a ≡ b
name_is = slice_cmp-IsAntisymmetric nat_cmp-IsAntisymmetric

pub same_names : (a b : List ℕ) → same_name a b ≡ true → a ≡ b
same_names a b e = name_is a b (tied (name_cmp a b) (sym (texts_ties a b) ∙ e))

pub same_ports : (p q : PortName) → port_eq p q ≡ true → p ≡ q
same_ports p q e =
    let parts = and_parts (same_name p.bridge q.bridge) (nat_eq p.number q.number) e in
    let names : p.bridge ≡ q.bridge = same_names p.bridge q.bridge parts.0 in
    let numbers : p.number ≡ q.number = eqb-true p.number q.number parts.1 in
    λ i. record { bridge = names i; number = numbers i }

pub own_port : (p : PortName) → port_eq p p ≡ true
own_port p = λ i. nat_list_eq_equiv.refl p.bridge i && nat_eq_equiv.refl p.number i

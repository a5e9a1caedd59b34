-- Tests of active ports, as pairs, decide whether they are the same.
use Rattle.std.proofs.Common.{◌≡◌, ℕ, ◌&&◌, Bool, true, false, true≢false, List, map, refl, sym, ap, ◌∙◌}
use Rattle.std.specs.Bool.{Decides, beq}
use Rattle.std.specs.Cmp.{IsEquivalence, booleans_Decides}
use Rattle.std.specs.Cmp.Lexicographic.{pointwise, pointwise_decides}
use Rattle.std.proofs.lemmas.Bool.{and_parts, and_from}
use Rattle.mst_ids.specs.declared.name.PortName.{PortName}
use Rattle.mst_tables.specs.Tables.{port_eq}
use Rattle.mst_view.proofs.Lists.{mapped_twice, map_itself}
use Rattle.mst_rows.specs.declared.value.ActivePort.{ActivePort}
use Rattle.mst_vlan.proofs.roles_lemmas.Named.{port_is, port_same}
use Rattle.mst_plan_text.specs.Bodies.{pair_of}

abbrev same_pair : PortName × Bool → PortName × Bool → Bool
same_pair p q = port_eq p.0 q.0 && beq p.1 q.1

pair_decides : (p q : PortName × Bool) → Decides (same_pair p q) (p ≡ q)
pair_decides p q = (
  λ e. let parts = and_parts (port_eq p.0 q.0) (beq p.1 q.1) e in
      let port = port_is p.0 q.0 parts.0 in
      let member = (booleans_Decides p.1 q.1).0 parts.1 in
      λ i. (port i, member i),
  λ e. and_from (port_eq p.0 q.0) (beq p.1 q.1) (port_same p.0 q.0 (ap (λ (r : PortName × Bool). r.0) e)) ((booleans_Decides p.1 q.1).1 (ap (λ (r : PortName × Bool). r.1) e)),
)

abbrev pub same_pairs : List (PortName × Bool) → List (PortName × Bool) → Bool
same_pairs = pointwise same_pair

pub pairs_decide : (a b : List (PortName × Bool)) → Decides (same_pairs a b) (a ≡ b)
pairs_decide = pointwise_decides pair_decides

-- ---- things by their pairs
module _ (pairs : ℕ → List (PortName × Bool)) where
  abbrev test : ℕ → ℕ → Bool
  test x y = same_pairs (pairs x) (pairs y)

  turned : (x y : ℕ) → test x y ≡ test y x
  turned x y = go (test x y) (test y x) refl refl
    where
      back : (a b : ℕ) → test a b ≡ true → test b a ≡ true
      back a b e = (pairs_decide (pairs b) (pairs a)).1 (sym ((pairs_decide (pairs a) (pairs b)).0 e))

      go : (t u : Bool) → test x y ≡ t → test y x ≡ u → test x y ≡ test y x
      go true u e f = e ∙ sym (back x y e)
      go false true e f = absurd (true≢false (sym (back y x f) ∙ e))
      go false false e f = e ∙ sym f

  pub pairs_equivalence : IsEquivalence test
  pairs_equivalence = record {
    refl = λ x. (pairs_decide (pairs x) (pairs x)).1 refl;
    symm = turned;
    congr = λ x y z e. ap (λ (ps : List (PortName × Bool)). same_pairs ps (pairs z)) ((pairs_decide (pairs x) (pairs y)).0 e);
  }

-- ---- the ports of pairs
abbrev port_of : PortName × Bool → ActivePort
port_of p = record { port = p.0; is_member = p.1 }

back : (ports : List ActivePort) → map port_of (map pair_of ports) ≡ ports
back ports = mapped_twice port_of pair_of ports ∙ map_itself ports

pub ports_from_pairs : (ports others : List ActivePort) → map pair_of ports ≡ map pair_of others → ports ≡ others
ports_from_pairs ports others e = sym (back ports) ∙ ap (map port_of) e ∙ back others

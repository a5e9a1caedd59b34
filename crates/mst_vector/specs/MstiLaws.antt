-- The vectors of an MSTI keep the laws of a metric.
use Rattle.std.specs.Prelude.{◌≡◌, ◌+◌, [], ◌∷◌, refl}
use Rattle.std.proofs.Common.{arith, ap}
use Rattle.std.proofs.lemmas.Cmp.{on_total, nat_list_cmp_total}
use Rattle.mst_vector.specs.Rules.{IsMetric}
use Rattle.mst_vector.specs.Lists.{first_less, first_equal, same_list, first_part_less, is_cost-is}
use Rattle.mst_vector.specs.Msti.{msti_rules, msti_components, msti_leading}
use Rattle.mst_vector.specs.declared.msti.MstiVector.{MstiVector}

same_components : (x y : MstiVector) → msti_components x ≡ msti_components y → x ≡ y
same_components x y e =
    let regional : x.regional ≡ y.regional = cc in
    let internal : x.internal ≡ y.internal = cc in
    let designated : x.designated ≡ y.designated = cc in
    let port : x.port ≡ y.port = cc in
    let receiver : x.receiver ≡ y.receiver = cc in
    λ i. record { regional = regional i; internal = internal i; designated = designated i; port = port i; receiver = receiver i }

pub msti_lawful : IsMetric msti_rules
msti_lawful = record {
  total = on_total msti_components nat_list_cmp_total;
  equal = λ x y e. same_components x y (same_list (msti_components x) (msti_components y) e);
  leads = λ x y l. first_part_less (msti_leading x) (msti_leading y) (x.designated ∷ x.port ∷ x.receiver ∷ []) (y.designated ∷ y.port ∷ y.receiver ∷ []) refl l;
  keeps = λ x b p. refl;
  starts = λ b. refl;
  carries = λ x b p. refl;
  adds = λ x s b p h. let one = is_cost-is p.internal h in omega arith;
  tells = λ x y b c p q e. (ap (λ (v : MstiVector). v.designated) e, ap (λ (v : MstiVector). v.port) e);
  increases = λ x s b p h. let one = is_cost-is p.internal h in first_equal x.regional (x.internal ∷ []) ((x.internal + p.internal) ∷ []) (first_less x.internal (x.internal + p.internal) [] [] (omega arith));
}

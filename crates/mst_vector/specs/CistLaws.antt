-- The vectors of the CIST keep the laws of a metric.
use Rattle.std.specs.Prelude.{◌≡◌, ◌+◌, ◌≤◌, [], ◌∷◌, Bool, true, false, ◌&&◌, ◌==◌, if◌then◌else◌, IsTrue, refl}
use Rattle.std.specs.declared.cmp.Ordering.TheVariants.{Less}
use Rattle.std.proofs.Common.{arith, ap}
use Rattle.std.proofs.lemmas.Cmp.{on_total, nat_list_cmp_total}
use Rattle.mst_vector.specs.Rules.{IsMetric, leading_order, is_cost}
use Rattle.mst_vector.specs.Lists.{first_less, first_equal, same_list, first_part_less, and_true, is_cost-is}
use Rattle.mst_vector.specs.Cist.{cist_rules, cist_root_path_vector, cist_components, cist_leading, within_region, between_regions}
use Rattle.mst_vector.specs.declared.cist.CistVector.{CistVector}
use Rattle.mst_vector.specs.declared.cist.CistBridge.{CistBridge}
use Rattle.mst_vector.specs.declared.cist.CistPort.{CistPort}

same_components : (x y : CistVector) → cist_components x ≡ cist_components y → x ≡ y
same_components x y e =
    let root : x.root ≡ y.root = cc in
    let external : x.external ≡ y.external = cc in
    let regional : x.regional ≡ y.regional = cc in
    let internal : x.internal ≡ y.internal = cc in
    let designated : x.designated ≡ y.designated = cc in
    let port : x.port ≡ y.port = cc in
    let receiver : x.receiver ≡ y.receiver = cc in
    λ i. record { root = root i; external = external i; regional = regional i; internal = internal i; designated = designated i; port = port i; receiver = receiver i }

module _ (x : CistVector) (s b : CistBridge) (p : CistPort) (h : IsTrue (is_cost p.external && is_cost p.internal)) where
  costs : IsTrue (is_cost p.external) × IsTrue (is_cost p.internal)
  costs = and_true (is_cost p.external) (is_cost p.internal) h

  increases : leading_order cist_rules x (cist_root_path_vector x s b p) ≡ Less
  increases = go (s.region == b.region)
    where
      go : (t : Bool) → leading_order cist_rules x (if t then within_region x p else between_regions x b p) ≡ Less
      go true = let one = is_cost-is p.internal costs.1 in
          first_equal x.root (x.external ∷ x.regional ∷ x.internal ∷ []) (x.external ∷ x.regional ∷ (x.internal + p.internal) ∷ [])
          (first_equal x.external (x.regional ∷ x.internal ∷ []) (x.regional ∷ (x.internal + p.internal) ∷ [])
          (first_equal x.regional (x.internal ∷ []) ((x.internal + p.internal) ∷ []) (first_less x.internal (x.internal + p.internal) [] [] (omega arith))))
      go false = let one = is_cost-is p.external costs.0 in
          first_equal x.root (x.external ∷ x.regional ∷ x.internal ∷ []) ((x.external + p.external) ∷ b.id ∷ 0 ∷ [])
          (first_less x.external (x.external + p.external) (x.regional ∷ x.internal ∷ []) (b.id ∷ 0 ∷ []) (omega arith))

  adds : cist_rules.cost (cist_root_path_vector x s b p) ≤ cist_rules.cost x + 200_000_000
  adds = go (s.region == b.region)
    where
      go : (t : Bool) → cist_rules.cost (if t then within_region x p else between_regions x b p) ≤ cist_rules.cost x + 200_000_000
      go true = let one = is_cost-is p.internal costs.1 in omega arith
      go false = let one = is_cost-is p.external costs.0 in omega arith

pub cist_lawful : IsMetric cist_rules
cist_lawful = record {
  total = on_total cist_components nat_list_cmp_total;
  equal = λ x y e. same_components x y (same_list (cist_components x) (cist_components y) e);
  leads = λ x y l. first_part_less (cist_leading x) (cist_leading y) (x.designated ∷ x.port ∷ x.receiver ∷ []) (y.designated ∷ y.port ∷ y.receiver ∷ []) refl l;
  keeps = λ x b p. refl;
  starts = λ b. refl;
  carries = λ x b p. refl;
  adds = adds;
  tells = λ x y b c p q e. (ap (λ (v : CistVector). v.designated) e, ap (λ (v : CistVector). v.port) e);
  increases = increases;
}

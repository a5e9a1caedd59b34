-- The component that decides is lower in the lower vector, and the first of an explanation has the lower vector.
use Rattle.std.proofs.Common.{◌≡◌, ◌==◌, ℕ, ◌<◌, List, [], ◌∷◌, Bool, true, false, cond, map, length, inl, inr, Option, Some, refl, sym, ap, subst, ◌∙◌, true≢false, Less, Equal, Greater, arith}
use Rattle.std.specs.declared.cmp.Ordering.{Ordering}
use Rattle.std.specs.Ordering.{nat_cmp, is_gt, ordering_then, MatchOrdering}
use Rattle.std.specs.Cmp.Lexicographic.{slice_cmp}
use Rattle.std.proofs.lemmas.Cmp.{ranked}
use Rattle.mst_ids.specs.declared.name.PortName.{PortName}
use Rattle.mst_vector.specs.Rules.{Rules, IsMetric}
use Rattle.mst_vector.specs.Cist.{cist_rules}
use Rattle.mst_vector.specs.CistLaws.{cist_lawful}
use Rattle.mst_vector.specs.Msti.{msti_rules}
use Rattle.mst_vector.specs.MstiLaws.{msti_lawful}
use Rattle.mst_vector.specs.declared.cist.CistVector.{CistVector}
use Rattle.mst_vector.specs.declared.cist.CistBridge.{CistBridge}
use Rattle.mst_vector.specs.declared.msti.MstiVector.{MstiVector}
use Rattle.mst_vector.specs.declared.msti.MstiBridge.{MstiBridge}
use Rattle.mst_tables.specs.Tables.{Net, IsNetwork}
use Rattle.mst_roles.specs.forest.Cist.{cist_sight, cist_of}
use Rattle.mst_roles.specs.forest.Msti.{msti_sight, msti_of}
use Rattle.mst_roles.specs.forest.Outcome.{Outcome}
use Rattle.mst_roles.proofs.forest_lemmas.Sights.{has_port_ids}
use Rattle.mst_roles.proofs.forest_lemmas.CistTopology.{cist_is_sight, cist_topology}
use Rattle.mst_roles.proofs.forest_lemmas.MstiTopology.{msti_is_sight, msti_topology}
use Rattle.mst_explain.specs.Contest.{IsDesignatedVectorOn, Gives}
use Rattle.mst_explain.specs.AsTold.{TellsLowerFirst}
use Rattle.mst_explain.specs.Fields.{Field, cist_fields, msti_fields, decided, TellsLower}
use Rattle.mst_explain.proofs.OneText.{cist_tells, msti_tells, one_sayer, one_giver}

abbrev values : List Field → List ℕ
values fs = map (λ f. f.value) fs

pub lower : (fs gs : List Field) → length fs ≡ length gs → slice_cmp nat_cmp (values fs) (values gs) ≡ Less → TellsLower fs gs (decided fs gs)
lower [] [] l e = absurd (cc)
lower [] (g ∷ gs) l e = absurd (omega arith)
lower (f ∷ fs) [] l e = absurd (omega arith)
lower (f ∷ fs) (g ∷ gs) l e = go (lower fs gs (omega arith)) (nat_cmp f.value g.value) (ranked f.value g.value (nat_cmp f.value g.value) refl) e (f.value == g.value) refl
  where
    go : (slice_cmp nat_cmp (values fs) (values gs) ≡ Less → TellsLower fs gs (decided fs gs))
        → (r : Ordering) → MatchOrdering r (f.value < g.value) (f.value ≡ g.value) (g.value < f.value) → ordering_then r (slice_cmp nat_cmp (values fs) (values gs)) ≡ Less
        → (b : Bool) → (f.value == g.value) ≡ b → TellsLower (f ∷ fs) (g ∷ gs) (cond b (decided fs gs) (Some (f, g)))
    go rest Less h k true t = absurd (grind arith)
    go rest Less h k false t = inr (h, refl)
    go rest Equal h k true t = inl (h, rest k)
    go rest Equal h k false t = absurd (grind arith)
    go rest Greater h k b t = absurd (cc)

-- where no two have one vector
pub lower_first : {B P V : Type 0} (m : Rules B P V) (law : IsMetric m) (fields : V → List Field) → ((x y : V) → m.order x y ≡ Less → TellsLower (fields x) (fields y) (decided (fields x) (fields y)))
    → (Has : Option PortName → V → Type 0) → ((j k : Option PortName) (x : V) → Has j x → Has k x → j ≡ k) → TellsLowerFirst m fields Has
lower_first {B} {P} {V} m law fields told Has one_key me c d x y first rival = go (m.order x y) refl
  where
    go : (r : Ordering) → m.order x y ≡ r → TellsLower (fields x) (fields y) (decided (fields x) (fields y))
    go Less e = told x y e
    go Equal e = absurd (rival.other (one_key d c y rival.has (subst (Has c) (law.equal x y e) first.has)))
    go Greater e = absurd (true≢false (sym (ap is_gt e) ∙ first.upto d y rival.has))

pub cist_lower : (x y : CistVector) → cist_rules.order x y ≡ Less → TellsLower (cist_fields x) (cist_fields y) (decided (cist_fields x) (cist_fields y))
cist_lower x y e = lower (cist_fields x) (cist_fields y) refl e

pub msti_lower : (x y : MstiVector) → msti_rules.order x y ≡ Less → TellsLower (msti_fields x) (msti_fields y) (decided (msti_fields x) (msti_fields y))
msti_lower x y e = lower (msti_fields x) (msti_fields y) refl e

module _ (net : Net) (ok : IsNetwork net) (o : Outcome) (tree : ℕ) where
  abbrev d : List ℕ → Option PortName
  d = o.cist.designated

  pub cist_on_lan : (lan : List ℕ) → TellsLowerFirst cist_rules cist_fields (IsDesignatedVectorOn cist_rules (cist_of net) o.cist.vector lan)
  cist_on_lan lan =
      lower_first cist_rules cist_lawful cist_fields cist_lower (IsDesignatedVectorOn cist_rules (cist_of net) o.cist.vector lan)
      (one_sayer cist_rules cist_lawful (λ x. x.receiver) cist_tells (cist_of net) (cist_topology net ok) (has_port_ids net ok cist_rules (cist_sight net) (cist_is_sight net ok)) o.cist.vector lan)

  pub cist_at_bridge : (name : List ℕ) (b : CistBridge) → TellsLowerFirst cist_rules cist_fields (Gives cist_rules (cist_of net) o.cist.vector name b)
  cist_at_bridge name b =
      lower_first cist_rules cist_lawful cist_fields cist_lower (Gives cist_rules (cist_of net) o.cist.vector name b)
      (one_giver cist_rules cist_lawful (λ x. x.receiver) cist_tells (cist_of net) (cist_topology net ok) (has_port_ids net ok cist_rules (cist_sight net) (cist_is_sight net ok)) o.cist.vector name b)

  pub msti_on_lan : (lan : List ℕ) → TellsLowerFirst msti_rules msti_fields (IsDesignatedVectorOn msti_rules (msti_of net tree d) (o.msti tree).vector lan)
  msti_on_lan lan =
      lower_first msti_rules msti_lawful msti_fields msti_lower (IsDesignatedVectorOn msti_rules (msti_of net tree d) (o.msti tree).vector lan)
      (one_sayer msti_rules msti_lawful (λ x. x.receiver) msti_tells (msti_of net tree d) (msti_topology net ok tree d) (has_port_ids net ok msti_rules (msti_sight net tree d) (msti_is_sight net ok tree d)) (o.msti tree).vector lan)

  pub msti_at_bridge : (name : List ℕ) (b : MstiBridge) → TellsLowerFirst msti_rules msti_fields (Gives msti_rules (msti_of net tree d) (o.msti tree).vector name b)
  msti_at_bridge name b =
      lower_first msti_rules msti_lawful msti_fields msti_lower (Gives msti_rules (msti_of net tree d) (o.msti tree).vector name b)
      (one_giver msti_rules msti_lawful (λ x. x.receiver) msti_tells (msti_of net tree d) (msti_topology net ok tree d) (has_port_ids net ok msti_rules (msti_sight net tree d) (msti_is_sight net ok tree d)) (o.msti tree).vector name b)

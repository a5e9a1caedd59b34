-- The space of a settler for the wirings from which and to which the MSTIs of a view go.
use Rattle.std.proofs.Common.{◌≡◌, [], sym, subst, arith}
use Rattle.mst_forest.specs.outcome.Assignment.{Assignment}
use Rattle.mst_settle.specs.Settler.{KeepsSpace}
use Rattle.mst_settle.specs.Differences.{Wirings, HasSpaceOn, HasSpaceForBoth}
use Rattle.mst_settle.proofs.Spaced.{on_kept}

none_spaced : {P V : Type 0} (a : Assignment V) → HasSpaceOn {P = P} [] a
none_spaced a p h = let l = h.1 in absurd (omega arith)

module _ {P V : Type 0} (w x : Wirings P) (a : Assignment V) (to : w.to ≡ x.to) (space : HasSpaceForBoth x a) where
  -- equal wirings
  pub same_both : w.from ≡ x.from → HasSpaceForBoth w a
  same_both from = record { from = subst (λ z. HasSpaceOn z a) (sym from) space.from; to = subst (λ z. HasSpaceOn z a) (sym to) space.to }

  -- from no ports
  pub anew_both : w.from ≡ [] → HasSpaceForBoth w a
  anew_both from = record { from = subst (λ z. HasSpaceOn z a) (sym from) (none_spaced a); to = subst (λ z. HasSpaceOn z a) (sym to) space.to }

pub both_kept : {P V : Type 0} (w : Wirings P) (a b : Assignment V) → KeepsSpace a b → HasSpaceForBoth w a → HasSpaceForBoth w b
both_kept w a b keeps space = record { from = on_kept a b w.from keeps space.from; to = on_kept a b w.to keeps space.to }

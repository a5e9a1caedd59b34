use Rattle.std.proofs.Common.{◌≡◌}
use Rattle.mst_changes.specs.ChangesText.{all_changes}
use Rattle.mst_changes.proofs.laws.one_list.Goals as goal

pub returns : goal.returns
returns c = λ a b o p q r na nb oa qa pb rb.
    let olds : o ≡ q = c.one_outcome.ensures a o q na oa qa in
    let news : p ≡ r = c.one_outcome.ensures b p r nb pb rb in
    λ i. all_changes a (olds i) b (news i)

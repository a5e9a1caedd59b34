-- VIDs of one class are in the same of the sets that were told apart by.
use Rattle.std.proofs.Common.{◌≡◌, ◌+◌, ◌<◌, ℕ, Bool, List, length, get_or, nat_eq, subst, sym}
use Rattle.std.specs.List.{AllByRecursion, Contains}
use Rattle.std.proofs.lemmas.Bool.{eqb-true}
use Rattle.mst_ids.specs.Vids.{has}
use Rattle.mst_graph.specs.Numbers.{AreNumbers}
use Rattle.mst_graph.specs.declared.keys.Numbering.{Numbering}
use Rattle.mst_view.proofs.Lists.{all_weaker}
use Rattle.mst_classes.specs.Alike.{TellApart}
use Rattle.mst_classes.specs.Classes.{AreInSame}
use Rattle.mst_classes.proofs.Gathered.{all_contained}

pub in_same : (tables : List (List ℕ)) (sets others : List (List Bool)) (told : List ℕ) (c : Numbering) → TellApart tables sets told → AllByRecursion (Contains sets) others → AreNumbers nat_eq told c.numbers.items c.firsts.items → AreInSame others c
in_same tables sets others told c tell there are = λ i j li lj e.
    let ours : i < length told = subst (λ n. i < n) (sym tell.as_long) li in
    let theirs : j < length told = subst (λ n. j < n) (sym tell.as_long) lj in
    let same : get_or told i 0 ≡ get_or told j 0 = eqb-true (get_or told i 0) (get_or told j 0) ((are.equal i j 0 ours theirs).0 e) in
    let IsSame : List Bool → Type 0 = λ set. has set (i + 1) ≡ has set (j + 1) in
    all_weaker (Contains sets) IsSame (λ set. all_contained IsSame sets set (tell.alike i j li lj same).same_sets) others there

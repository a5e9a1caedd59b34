use Rattle.std.proofs.Common.{◌≡◌, true}
use Rattle.mst_graph.proofs.Exists.{has_groups}
use Rattle.mst_graph.proofs.Unique as unique
use Rattle.mst_graph.proofs.laws.group_lists.Goals as goal

pub returns : goal.returns
returns g c = record {
  one = λ same things groups others once a b. unique.one_list (λ x y. same x y ≡ true) things once groups others a b;
  some = λ same things laws. has_groups same laws things;
}

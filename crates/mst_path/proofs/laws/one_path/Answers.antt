use Rattle.mst_path.proofs.Apart.{one_first}
use Rattle.mst_path.proofs.First.{path_of}
use Rattle.mst_path.proofs.laws.one_path.Goals as goal

pub returns : goal.returns
returns c = record {
  some = λ net o vid a b n. path_of net o vid a b;
  one = λ net o vid a b path other n p q. one_first net o vid a b path other p q;
}

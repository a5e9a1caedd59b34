use Rattle.mst_path.proofs.Least.{fewest, names_first}
use Rattle.mst_path.proofs.laws.first_path.Goals as goal

pub returns : goal.returns
returns c = record {
  fewest = λ ports a b hops others f p. fewest ports b a hops others f p;
  names = λ ports a b hops others f p e. names_first ports b hops others a f p e;
}

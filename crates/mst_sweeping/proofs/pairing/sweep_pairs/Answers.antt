use Rattle.std.proofs.Common.{◌≡◌, ◌≤◌, length, sym, ap, subst, ◌∙◌}
use Rattle.std.proofs.lemmas.List.{length-map}
use Rattle.mst_sweep.specs.declared.single.Single.{Single}
use Rattle.mst_sweep.specs.Failures.{failures}
use Rattle.mst_sweeping.specs.Pairing.{AreSingles}
use Rattle.mst_sweeping.proofs.Paired.{failures_few}
use Rattle.mst_sweeping.proofs.pairing.sweep_pairs.Goals as goal

pub put_pairs_of-requires-clause-pairing : goal.put_pairs_of-requires-clause-pairing
put_pairs_of-requires-clause-pairing g c =
    let network = c.args.network.now in
    let is = c.requires.forest in
    let firsts = c.in_ok-baseline.baseline in
    let all : c.as_slice.result.now ≡ failures network.net = c.as_slice.ensures.value ∙ c.in_ok-all.ensures network.net network.numbers c.requires.of.view in
    let found = c.in_ok-singles.ensures.singles is in
    let singles : AreSingles network.net network.numbers is.outcome firsts (failures network.net) c.as_slice-2.result.now =
    subst (AreSingles network.net network.numbers is.outcome firsts (failures network.net)) (sym c.as_slice-2.ensures.value) (subst (λ fs. AreSingles network.net network.numbers is.outcome firsts fs c.in_ok-singles.singles.items) all found) in
    let long : length c.as_slice-2.result.now ≡ length (failures network.net) = sym (length-map c.as_slice-2.result.now (λ (s : Single). s.failure)) ∙ ap length singles.failures in
    record {
      plan = c.requires;
      baseline = c.in_ok-baseline.ensures;
      singles = singles;
      few = subst (λ n. n ≤ 9216) (sym long) (failures_few network.net c.requires.of.network);
    }

use Rattle.std.proofs.Common.{rules, ◌≡◌, ◌∙◌}
use Rattle.mst_topology.specs.Places.{in_map}
use Rattle.mst_topology.proofs.wiring.Wiring.place.Goals as goal

pub returns-clause-some : goal.returns-clause-some
returns-clause-some g c = λ k e.
    let found : in_map c.self.inside.places c.args.number ≡ c.get.result = search rules in
    rw (← c.self.view_is) (c.self.invariant.by_number.found c.args.number k (found ∙ e))

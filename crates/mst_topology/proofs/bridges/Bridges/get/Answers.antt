use Rattle.std.proofs.Common.{rules, ◌≡◌, Some, None}
use Rattle.mst_topology.specs.Places.{in_map}
use Rattle.mst_topology.proofs.Places.{index_at}
use Rattle.mst_topology.proofs.Search.{some_is}
use Rattle.mst_topology.proofs.bridges.Bridges.get.Goals as goal

pub returns-in_err-place-clause-none : goal.returns-in_err-place-clause-none
returns-in_err-place-clause-none g c = λ e b h.
    let none : in_map c.self.inside.places c.args.number ≡ None = search rules in
    c.self.invariant.missing c.args.number b none (rw (← c.self.view_is) at h)

pub index-requires : goal.index-requires
index-requires g c =
    let found : in_map c.self.inside.places c.args.number ≡ Some c.in_ok-place.place = search rules in
    let low = (c.self.invariant.found c.args.number c.in_ok-place.place found).1 in
    search (rules, low)

pub returns-clause-some : goal.returns-clause-some
returns-clause-some g c = λ x e.
    let found : in_map c.self.inside.places c.args.number ≡ Some c.in_ok-place.place = search rules in
    rw (← some_is _ x e) (rw (← c.self.view_is)
    (index_at (in_map c.self.inside.places) c.self.inside.bridges.items c.self.invariant c.args.number c.in_ok-place.place found c.index.result.now c.index.ensures))

use Rattle.std.proofs.Common.{rules, sym, ◌∙◌, ◌≡◌}
use Rattle.mst_topology.specs.Places.{in_map, flat}
use Rattle.mst_settle.proofs.Setting.{flat_some}
use Rattle.mst_settle.proofs.known.KnownKeys.get.Goals as goal

pub returns-clause-alone : goal.returns-clause-alone
returns-clause-alone g c = rw (← c.self.view_is) (λ k l e h.
    let found : c.flatten.result ≡ flat (in_map c.self.inside.known c.args.number) = search rules in
    c.self.invariant.alone c.args.number k l (flat_some (in_map c.self.inside.known c.args.number) k (sym found ∙ e)) h)

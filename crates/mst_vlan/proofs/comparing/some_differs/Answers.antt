use Rattle.std.proofs.Common.{◌≡◌, ◌≤◌, length, arith}
use Rattle.mst_vlan.proofs.Links.{carry_alike}
use Rattle.mst_vlan.proofs.comparing.some_differs.Goals as goal

pub returns : goal.returns
returns c _ =
    carry_alike c.args.old.now c.args.new.now c.args.vid c.requires.ports
    (λ i l.
    let end : length c.args.same_vlans.now ≤ c.loop-place.place = c.loop-place-test.false in
    let as_long : length c.args.same_vlans.now ≡ length c.args.old.now.view.ports = c.requires.as_long in
    c.loop-place.invariant i (omega (arith, end, as_long, l)))

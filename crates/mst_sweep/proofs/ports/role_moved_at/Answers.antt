use Rattle.std.proofs.Common.{◌≡◌, ◌<◌, ◌≤◌, length, get_or, ap, ◌∙◌, arith}
use Rattle.mst_sweep.proofs.Moved.{as_many, moved_at}
use Rattle.mst_sweep.proofs.ports.role_moved_at.Goals as goal

pub returns-in_default : goal.returns-in_default
returns-in_default c a b n k is are of so e name named =
    let v = c.args.old.now.view.now in
    let w = c.args.new.now.view.now in
    let many : length w.ports ≡ length v.ports = as_many a b n k v w c.args.old.now.forest.now c.args.new.now.forest.now of so is are c.args.tree e.ports in
    let below : c.args.place < length v.ports = c.requires in
    let there : c.args.place < length w.ports = omega arith in
    let past : length c.ports.result.now ≤ c.args.place = c.in_default.ensures.lookup.3 in
    let same : length c.ports.result.now ≡ length w.ports = ap length c.ports.ensures in
    absurd (omega arith)

pub returns : goal.returns
returns c a b n k is are of so e name named =
    let v = c.args.old.now.view.now in
    let w = c.args.new.now.view.now in
    let i = c.args.place in
    let x = c.index-ports-place.result in
    let y = c.in-Some.afterwards.now in
    let is_x : x ≡ get_or v.ports i x = c.index-ports-place.is ∙ ap (λ ps. get_or ps i x) c.ports-2.ensures in
    let is_y : y ≡ get_or w.ports i y = c.in-Some.ensures.lookup.1 ∙ ap (λ ps. get_or ps i y) c.ports.ensures in
    c.port_moved.ensures ∙ moved_at a b n k v w c.args.old.now.forest.now c.args.new.now.forest.now of so is are c.args.tree e.ports i x y c.requires is_x is_y name named

use Rattle.std.proofs.Common.{◌≡◌, length, replicate, false, arith}
use Rattle.mst_note_text.proofs.Down.{begins, none_seen}
use Rattle.mst_note_text.proofs.find.depths_of.Goals as goal

pub loop-start-init : goal.loop-start-init
loop-start-init c =
    let seen_fits = c.in_ok-vec.ensures.len in
    let found_fits = c.in_ok-vec-2.ensures.len in
    let each_seen : length c.in_ok-vec.field-0.items ≡ length c.args.parents.now = omega (arith, c.in_ok-vec.field-0.ok.0) in
    let each_found : length c.in_ok-vec-2.field-0.items ≡ length c.args.parents.now = omega (arith, c.in_ok-vec-2.field-0.ok.0) in
    let all : c.in_ok-vec.field-0.items ≡ replicate (length c.args.parents.now) false = c.in_ok-vec.ensures.items_if_clones_equal (λ y e. e) in
    record {
      walk = begins c.args.parents.now c.in_ok-vec.field-0.items c.new.result.items c.in_ok-vec-2.field-0.items c.new.ensures.items each_seen each_found (λ n s. none_seen (length c.args.parents.now) n (rw all at s));
      done = c.new.ensures.items;
      seen = λ n low. absurd (omega arith);
    }

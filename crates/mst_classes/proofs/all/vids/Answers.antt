use Rattle.std.proofs.Common.{◌≡◌, ◌+◌, ◌∙◌, arith, rules}
use Rattle.std.proofs.lemmas.Grind.{common_steps}
use Rattle.mst_classes.proofs.VidLists.{vid_pushed, vids_all}
use Rattle.mst_classes.proofs.all.vids.Goals as goal

pub loop-place-preserved : goal.loop-place-preserved
loop-place-preserved c =
    let is : c.unwrap.result ≡ c.loop-place.place + 1 = first_of (grind (arith, common_steps), search (rules, common_steps)) in
    vid_pushed c.loop-place.place c.unwrap.result c.loop-place.vids.items c.push.new.self.items c.in_ok-push.ensures.items c.loop-place.invariant is

pub returns : goal.returns
returns c = let last : c.loop-place.place ≡ 4094 = omega arith in c.loop-place.invariant ∙ vids_all c.loop-place.place last

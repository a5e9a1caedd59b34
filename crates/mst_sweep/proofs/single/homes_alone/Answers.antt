use Rattle.std.proofs.Common.{◌+◌, ℕ, List, [], get_or, sym, ap, subst, ◌∙◌}
use Rattle.std.specs.List.{filter_map}
use Rattle.mst_sweep.specs.Baseline.{AreHomes}
use Rattle.mst_sweep.specs.Parts.{all_parts, AreParts}
use Rattle.mst_sweep.specs.Seen.{seen_stays}
use Rattle.mst_sweep.proofs.Stay.{all_stay}
use Rattle.mst_sweep.proofs.single.homes_alone.Goals as goal

pub returns-then-not-breaks : goal.returns-then-not-breaks
returns-then-not-breaks c a b n k is are of so left = c.requires.others c.if-not-breaks.true a b n k is are of so left

-- where each island is in one, there are no parts
pub returns-then-branch : goal.returns-then-branch
returns-then-branch c a b n k is are of so left =
    let v = c.args.old.now.view.now in
    let f = c.args.old.now.forest.now in
    let w = c.args.new.now.view.now in
    let g = c.args.new.now.forest.now in
    let vid = c.first_vid.ensures in
    let homes = c.homes_before-olds.ensures a n is of in
    let news = c.in_ok-news.ensures b k are so in
    let befores : List (ℕ × ℕ) = c.homes_before-olds.result.now.entries in
    let afters : List (ℕ × ℕ) = c.in_ok-news.news.entries in
    let here : AreHomes a n is.outcome c.first_vid.result befores = subst (λ vid. AreHomes a n is.outcome vid befores) (sym vid) homes in
    let all = c.as_slice.ensures.value ∙ c.in_ok-all.ensures ∙ ap (filter_map (seen_stays befores afters)) c.requires.both
    ∙ all_stay a b n k v w f g of so is.outcome are.outcome c.first_vid.result here.0 news.0 news.1 befores afters here.2 news.2 in
    subst (λ vid. AreParts a is.outcome b are.outcome vid []) vid (here.0, news.0, here.1, news.1, sym (ap all_parts (sym all) ∙ c.in_ok-is_whole.ensures c.if-branch.true))

pub returns : goal.returns
returns c a b n k is are of so left = subst (λ vid. AreHomes b k are.outcome vid c.in_ok-news.news.entries) c.first_vid.ensures (c.in_ok-news.ensures b k are so)

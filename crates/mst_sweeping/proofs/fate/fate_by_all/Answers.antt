use Rattle.std.proofs.Common.{◌≡◌, ◌||◌, refl, ap, ◌∙◌, map}
use Rattle.mst_graph.specs.Lists.{has_any}
use Rattle.mst_sweep.specs.Cuts.{names_of}
use Rattle.mst_sweeping.specs.MovedVids.{links_differ}
use Rattle.mst_sweeping.specs.Seen.{seen_differ}
use Rattle.mst_sweeping.proofs.SameFate.{differ_same}
use Rattle.mst_sweeping.proofs.fate.fate_by_all.Goals as goal

pub returns-clause-parts : goal.returns-clause-parts
returns-clause-parts c = c.in_ok-apart.ensures

pub returns-clause-joins : goal.returns-clause-joins
returns-clause-joins c a b n k is are of so homes others = (
  names_of c.in_ok-joined.joined,
  c.in_ok-joined.ensures b a k n are is so of others homes,
  c.is_any-joins.ensures ∙ ap (λ ps. has_any (map (λ names. names.items) ps)) c.as_slice.ensures.value,
)

pub returns-clause-moves : goal.returns-clause-moves
returns-clause-moves c a b n k is are of so homes others =
    let v = c.args.change.now.old.now.view.now in
    let w = c.args.change.now.new.now.view.now in
    let f = c.args.change.now.old.now.forest.now in
    let g = c.args.change.now.new.now.forest.now in
    let vid = c.args.vid in
    let cut = has_any (names_of c.in_ok-apart.apart) in
    let joins = c.is_any-joins.result in
    let differ : c.in_ok-differ.differ ≡ links_differ a is.outcome b are.outcome vid =
    c.in_ok-differ.ensures ∙ (λ i. seen_differ v w (c.requires.before i) (c.requires.afterwards i)) ∙ differ_same a b n k v w f g of so is are vid in
    let apart : has_any (map (λ names. names.items) c.as_slice-2.result.now) ≡ cut = ap (λ ps. has_any (map (λ names. names.items) ps)) c.as_slice-2.ensures.value in (
      cut,
      joins,
      (names_of c.in_ok-apart.apart, c.in_ok-apart.ensures a b n k is are of so homes others, refl),
      (
        names_of c.in_ok-joined.joined,
        c.in_ok-joined.ensures b a k n are is so of others homes,
        c.is_any-joins.ensures ∙ ap (λ ps. has_any (map (λ names. names.items) ps)) c.as_slice.ensures.value,
      ),
      c.is_moved-moves.ensures ∙ (λ i. apart i || joins || differ i),
    )

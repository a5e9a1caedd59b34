use Rattle.std.proofs.Common.{◌≡◌, ◌||◌, false, [], refl, sym, ap, subst, ◌∙◌, map}
use Rattle.mst_sweep.specs.vlan.Carried.{ViewWithTrees}
use Rattle.mst_sweeping.specs.Links.{carried}
use Rattle.mst_sweeping.specs.MovedVids.{ArePartsBut}
use Rattle.mst_sweeping.specs.Seen.{seen_carried}
use Rattle.mst_sweeping.proofs.Carried.{carried_same}
use Rattle.mst_sweeping.proofs.CarryAlike.{same_links_seen}
use Rattle.mst_sweeping.proofs.SameFate.{not_cut, not_cut_but, same_differ}
use Rattle.mst_sweeping.proofs.fate.fate_of.Goals as goal

pub returns-then-not-differs-clause-parts : goal.returns-then-not-differs-clause-parts
returns-then-not-differs-clause-parts c a b n k is are of so =
    let change = c.args.change.now in
    let v = change.old.now.view.now in
    let w = c.args.change.now.new.now.view.now in
    let f = c.args.change.now.old.now.forest.now in
    let g = c.args.change.now.new.now.forest.now in
    let vid = c.args.vid in
    let olds = c.islands_of_vid.ensures.some a is.outcome vid of.network in
    let news = c.islands_of_vid.ensures.some b are.outcome vid so.network in
    let same : carried a is.outcome vid ≡ carried b are.outcome vid =
    sym (carried_same a n v f of is vid)
    ∙ same_links_seen change.old.now change.new.now change.before.now change.afterwards.now change.is_before change.is_afterwards vid (c.requires c.if-not-differs.true)
    ∙ carried_same b k w g so are vid in
    subst (ArePartsBut change.leaving.now a is.outcome b are.outcome vid) (sym (ap (map (λ names. names.items)) c.new.ensures.items)) (not_cut_but a b is.outcome are.outcome vid same olds.0 news.0 olds.1 news.1 change.leaving.now)

pub returns-then-not-differs-clause-joins : goal.returns-then-not-differs-clause-joins
returns-then-not-differs-clause-joins c a b n k is are of so =
    let change = c.args.change.now in
    let v = change.old.now.view.now in
    let w = c.args.change.now.new.now.view.now in
    let f = c.args.change.now.old.now.forest.now in
    let g = c.args.change.now.new.now.forest.now in
    let vid = c.args.vid in
    let olds = c.islands_of_vid.ensures.some a is.outcome vid of.network in
    let news = c.islands_of_vid.ensures.some b are.outcome vid so.network in
    let same : carried a is.outcome vid ≡ carried b are.outcome vid =
    sym (carried_same a n v f of is vid)
    ∙ same_links_seen change.old.now change.new.now change.before.now change.afterwards.now change.is_before change.is_afterwards vid (c.requires c.if-not-differs.true)
    ∙ carried_same b k w g so are vid in
    ([], not_cut_but b a are.outcome is.outcome vid (sym same) news.0 olds.0 news.1 olds.1 change.leaving.now, refl)

pub returns-then-not-differs-clause-moves : goal.returns-then-not-differs-clause-moves
returns-then-not-differs-clause-moves c a b n k is are of so =
    let change = c.args.change.now in
    let v = change.old.now.view.now in
    let w = c.args.change.now.new.now.view.now in
    let f = c.args.change.now.old.now.forest.now in
    let g = c.args.change.now.new.now.forest.now in
    let vid = c.args.vid in
    let olds = c.islands_of_vid.ensures.some a is.outcome vid of.network in
    let news = c.islands_of_vid.ensures.some b are.outcome vid so.network in
    let same : carried a is.outcome vid ≡ carried b are.outcome vid =
    sym (carried_same a n v f of is vid)
    ∙ same_links_seen change.old.now change.new.now change.before.now change.afterwards.now change.is_before change.is_afterwards vid (c.requires c.if-not-differs.true)
    ∙ carried_same b k w g so are vid in (
      false,
      false,
      ([], not_cut a b is.outcome are.outcome vid same olds.0 news.0 olds.1 news.1, refl),
      ([], not_cut b a are.outcome is.outcome vid (sym same) news.0 olds.0 news.1 olds.1, refl),
      sym (ap (λ d. false || false || d) (same_differ a b is.outcome are.outcome vid same)),
    )

pub fate_by-requires-clause-before : goal.fate_by-requires-clause-before
fate_by-requires-clause-before c = c.as_slice.ensures.value ∙ c.in_ok-before.ensures ∙ ap (λ (s : ViewWithTrees). seen_carried s.view s.forest c.args.vid) c.args.change.now.is_before

pub fate_by-requires-clause-afterwards : goal.fate_by-requires-clause-afterwards
fate_by-requires-clause-afterwards c = c.as_slice-2.ensures.value ∙ c.in_ok-afterwards.ensures ∙ ap (λ (s : ViewWithTrees). seen_carried s.view s.forest c.args.vid) c.args.change.now.is_afterwards

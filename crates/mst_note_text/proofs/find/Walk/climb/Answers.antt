use Rattle.std.proofs.Common.{◌≡◌, inl, inr, refl, ◌∙◌, subst, ◌<◌, true, false, arith, rules}
use Rattle.std.proofs.Math.ListN.{set, length-set}
use Rattle.mst_note_text.specs.Walk.{IsSeen, unseen}
use Rattle.mst_note_text.proofs.Unseen.{unseen_set, still_seen, now_seen, read}
use Rattle.mst_note_text.proofs.Up.{stops, stops_alone, goes_up, starts_empty}
use Rattle.mst_note_text.proofs.find.Walk.climb.Goals as goal

pub index-requires : goal.index-requires
index-requires c = let e = c.loop-self.invariant.each in let h = c.loop-self.invariant.here in omega (arith, c.loop-self.self.seen.ok.0)

pub loop-self-init : goal.loop-self-init
loop-self-init c = record {
  climb = λ forest. starts_empty c.args.parents.now forest c.args.self.now.found.items c.args.start c.args.self.now.seen.items c.args.self.now.path.items c.requires.done c.requires.start c.requires.walk;
  here = c.requires.start;
  each = c.requires.walk.each_seen;
  start = inl refl;
  keeps = λ n s. s;
}

pub returns-in-None-clause-walk : goal.returns-in-None-clause-walk
returns-in-None-clause-walk c =
    let e = c.loop-self.invariant.each in
    let h = c.loop-self.invariant.here in
    let off : c.index.result.now ≡ false = search rules in
    let new = read c.loop-self.self.seen.items c.loop-self.at c.index.result.now false (omega arith) c.index.ensures ∙ off in
    rw c.in_ok-push.ensures.items (stops_alone c.args.parents.now c.requires.forest c.loop-self.self.found.items c.loop-self.at c.loop-self.self.seen.items c.loop-self.self.path.items (c.loop-self.invariant.climb c.requires.forest) new c.in-None.is)

pub returns-in-None-clause-start : goal.returns-in-None-clause-start
returns-in-None-clause-start c = elim c.loop-self.invariant.start [
  | inl e ↦ subst (IsSeen (set c.loop-self.self.seen.items c.loop-self.at true)) e (now_seen c.loop-self.self.seen.items c.loop-self.at (let e = c.loop-self.invariant.each in let h = c.loop-self.invariant.here in omega arith))
  | inr s ↦ still_seen c.loop-self.self.seen.items c.loop-self.at c.args.start s
]

pub returns-in-None-clause-keeps : goal.returns-in-None-clause-keeps
returns-in-None-clause-keeps c = λ n s. still_seen c.loop-self.self.seen.items c.loop-self.at n (c.loop-self.invariant.keeps n s)

pub loop-self-smaller : goal.loop-self-smaller
loop-self-smaller c =
    let e = c.loop-self.invariant.each in
    let h = c.loop-self.invariant.here in
    let off : c.index.result.now ≡ false = search rules in
    let new = read c.loop-self.self.seen.items c.loop-self.at c.index.result.now false (omega arith) c.index.ensures ∙ off in
    let one = unseen_set c.loop-self.self.seen.items c.loop-self.at (omega arith) new in
    let falls : unseen (set c.loop-self.self.seen.items c.loop-self.at true) < unseen c.loop-self.self.seen.items = omega arith in
    falls

pub loop-self-preserved : goal.loop-self-preserved
loop-self-preserved c =
    let e = c.loop-self.invariant.each in
    let h = c.loop-self.invariant.here in
    let off : c.index.result.now ≡ false = search rules in
    let new = read c.loop-self.self.seen.items c.loop-self.at c.index.result.now false (omega arith) c.index.ensures ∙ off in
    record {
      climb = λ forest. rw c.in_ok-push.ensures.items (goes_up c.args.parents.now forest c.loop-self.self.found.items c.loop-self.at c.loop-self.self.seen.items c.loop-self.self.path.items (c.loop-self.invariant.climb forest) new c.in-Some.parent c.in-Some.is);
      here = c.requires.forest.in_list c.loop-self.at c.in-Some.parent c.in-Some.is;
      each = length-set c.loop-self.self.seen.items c.loop-self.at true ∙ e;
      start = inr (elim c.loop-self.invariant.start [
        | inl same ↦ subst (IsSeen (set c.loop-self.self.seen.items c.loop-self.at true)) same (now_seen c.loop-self.self.seen.items c.loop-self.at (omega arith))
        | inr s ↦ still_seen c.loop-self.self.seen.items c.loop-self.at c.args.start s
      ]);
      keeps = λ n s. still_seen c.loop-self.self.seen.items c.loop-self.at n (c.loop-self.invariant.keeps n s);
    }

pub returns-clause-walk : goal.returns-clause-walk
returns-clause-walk c =
    let e = c.loop-self.invariant.each in
    let h = c.loop-self.invariant.here in
    let on : c.index.result.now ≡ true = search rules in
    let old = read c.loop-self.self.seen.items c.loop-self.at c.index.result.now false (omega arith) c.index.ensures ∙ on in
    stops c.args.parents.now c.requires.forest c.loop-self.self.found.items c.loop-self.at c.loop-self.self.seen.items c.loop-self.self.path.items (c.loop-self.invariant.climb c.requires.forest) old

pub returns-clause-start : goal.returns-clause-start
returns-clause-start c =
    let e = c.loop-self.invariant.each in
    let h = c.loop-self.invariant.here in
    let on : c.index.result.now ≡ true = search rules in
    let old = read c.loop-self.self.seen.items c.loop-self.at c.index.result.now false (omega arith) c.index.ensures ∙ on in
    elim c.loop-self.invariant.start [
      | inl same ↦ subst (IsSeen c.loop-self.self.seen.items) same old
      | inr s ↦ s
    ]

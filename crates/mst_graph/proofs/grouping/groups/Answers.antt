use Rattle.std.proofs.Common.{◌≡◌, true, [], ◌++◌, ◌∷◌, map, length, sym, ap, subst, ◌∙◌}
use Rattle.std.proofs.lemmas.List.{append-nil, append_assoc, nil_from_length, map_push}
use Rattle.mst_graph.specs.Adding.{AreKeyed}
use Rattle.mst_graph.specs.Groups.{AreGroups}
use Rattle.mst_graph.proofs.Grouped.{none_by, more_by, all_by}
use Rattle.mst_graph.proofs.Keyed.{keyed_before, keyed_last}
use Rattle.mst_graph.proofs.grouping.groups.Goals as goal

pub loop-thing-init : goal.loop-thing-init
loop-thing-init g c = record {
  places = c.new-groups.ensures.len ∙ sym (ap length c.new-keys.ensures.empty);
  whole = c.into_iter-thing-iterator.ensures.into_iter_gives.0;
  grouped = λ key keyed. rw (c.new-keys.ensures.empty, c.new-groups.ensures.items) (none_by g.K.PartialEq.eq g.met.K.Eq.laws key);
}

pub loop-thing-preserved : goal.loop-thing-preserved
loop-thing-preserved g c =
    let before = c.loop-thing.yielded in
    let thing = c.in-Some.thing in
    let k = c.in-Some.key in
    let inv = c.loop-thing.invariant in
    record {
      places = c.in_ok-add.ensures.places;
      whole =
          append_assoc before ((thing, k) ∷ []) c.next.new.self.rest.items
          ∙ ap (λ r. before ++ r) (sym c.in-Some.ensures.steps.0) ∙ inv.whole;
      grouped = λ key keyed. rw (map_push (λ p. p.0) before (thing, k), c.in_ok-add.ensures.keys, c.in_ok-add.ensures.groups)
          (more_by g.K.PartialEq.eq g.met.K.Eq.laws key (map (λ p. p.0) before) c.loop-thing.keys.keys (map (λ v. v.items) c.loop-thing.groups.items) thing k
          (keyed_last key before thing k keyed) (inv.grouped key (keyed_before key before thing k keyed)));
    }

pub returns : goal.returns
returns g c = λ key keyed.
    let inv = c.loop-thing.invariant in
    let no_rest = nil_from_length c.loop-thing.thing-iterator.rest.items (sym c.loop-thing.thing-iterator.rest.ok.0 ∙ c.in-None.ensures.steps.0) in
    let all = sym (append-nil c.loop-thing.yielded) ∙ ap (λ r. c.loop-thing.yielded ++ r) (sym no_rest) ∙ inv.whole in
    subst (λ ps. AreGroups (λ x y. g.K.PartialEq.eq (key x) (key y) ≡ true) (map (λ p. p.0) ps) (map (λ v. v.items) c.loop-thing.groups.items)) all
    (all_by g.K.PartialEq.eq g.met.K.Eq.laws key (map (λ p. p.0) c.loop-thing.yielded) c.loop-thing.keys.keys (map (λ v. v.items) c.loop-thing.groups.items)
    (inv.grouped key (subst (AreKeyed key) (sym all) keyed)))

use Rattle.std.proofs.Common.{◌≡◌, map, set, get_or, length, ◌<◌, sym, ap, ◌∙◌, arith}
use Rattle.std.specs.List.{list_any}
use Rattle.mst_graph.proofs.KeyPlaces.{put_known, put_new, met_below, is_new, is_known}
use Rattle.mst_graph.proofs.grouping.add.Goals as goal
use Rattle.mst_graph.proofs.grouping.add.Goals.{then-is_new+in_ok-push, else-is_new}

pub returns-clause-groups : goal.returns-clause-groups
returns-clause-groups g c =
    let added = c.in_ok-place.ensures.added in
    let place = c.in_ok-place.place in
    let keys = c.args.keys.now.keys in
    let old = c.index_mut.result.now in
    let new = c.push-2.new.self in
    let same = g.K.PartialEq.eq in
    let long : length c.args.groups.now.items ≡ length keys = sym c.args.groups.now.ok.0 ∙ c.requires in
    elim c.if-is_new.branch [
      | then-is_new+in_ok-push w ↦
          let made = ap (λ v. v.items) w.groups-is ∙ w.in_ok-push.ensures.items in
          ap (λ ms. map (λ v. v.items) (set ms place new)) made
          ∙ put_new (λ v. v.items) same keys c.args.groups.now.items place w.new.result old new c.args.thing c.args.key
          c.in_ok-place.ensures.index long w.new.ensures.items (c.index_mut.ensures.value ∙ ap (λ ms. get_or ms place old) made) c.in_ok-push-2.ensures.items
          (is_new (list_any (same c.args.key) keys) c.in_ok-place.is_new added w.if-is_new.true)
      | else-is_new w ↦
          let known = is_known (list_any (same c.args.key) keys) c.in_ok-place.is_new added w.if-is_new.false in
          let below = met_below (same c.args.key) keys known in
          let at = c.in_ok-place.ensures.index in
          let within : place < length c.args.groups.now.items = omega arith in
          let kept = ap (λ v. v.items) w.groups-is in
          ap (λ ms. map (λ v. v.items) (set ms place new)) kept
          ∙ put_known (λ v. v.items) same keys c.args.groups.now.items place old new c.args.thing c.args.key
          c.in_ok-place.ensures.index within (c.index_mut.ensures.value ∙ ap (λ ms. get_or ms place old) kept) c.in_ok-push-2.ensures.items
          known
    ]

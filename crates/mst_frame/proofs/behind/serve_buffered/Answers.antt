use Rattle.std.proofs.Common.{◌≡◌, ◌==◌, ℕ, List, [], Some, rules, sym, ap, subst, ◌∙◌}
use Rattle.mst_io.specs.Devices.{seen_by}
use Rattle.mst_frame.specs.Hinted.{IsHinted, IsHintedBehind, IsToldBehind, are_told}
use Rattle.mst_frame.proofs.Hinted.{closed_first, second_read, third_read, told_behind}
use Rattle.mst_frame.proofs.behind.serve_buffered.Goals as goal

pub returns-in-Ok-clause-ran : goal.returns-in-Ok-clause-ran
returns-in-Ok-clause-ran g c =
    let look = seen_by g.K.Sink.told g.K.Sink.contents g.K.Sink.lent in
    let told = c.serve_hinting-told in
    let count = g.W.Word.count c.args.word.now in
    let scripts = c.args.scripts in
    let hints = c.args.hints in
    let ended = told.result.behind.ended in
    let first_left = g.F.Source.remaining told.new.first in
    let second_left = g.S.Source.remaining told.new.second in
    let third_left = g.T.Source.remaining told.new.third in
    let of_first : IsHinted hints (count == 1) ended scripts.first (g.F.Source.remaining c.args.first.now) first_left (look c.args.errors.now) (look told.new.errors) told.result.of_first =
    (closed_first count scripts hints ended _ _ (look c.args.errors.now) (look told.new.errors) _ _ _ _ told.result.of_first told.ensures.turned told.ensures.of_first) in
    let held = c.new-in-Ok.ensures.lent in
    let held_last = c.new-in-Ok-2.ensures.lent in
    let lent = told.ensures.lent_aside in
    let lent_last = told.ensures.lent_beyond in
    let empty : Some c.new-in-Ok.result.writer.now.items ≡ Some [] = c.new-in-Ok.ensures.bytes ∙ ap (λ (l : List ℕ). Some l) c.new-kept.ensures.items in
    let empty_last : Some c.new-in-Ok-2.result.writer.now.items ≡ Some [] = c.new-in-Ok-2.ensures.bytes ∙ ap (λ (l : List ℕ). Some l) c.new-kept_last.ensures.items in
    let name : told.new.aside.writer.ghost_name ≡ c.new-in-Ok.result.writer.ghost_name = cc in
    let name_last : told.new.beyond.writer.ghost_name ≡ c.new-in-Ok-2.result.writer.ghost_name = cc in
    let kept = c.as_slice.result.now in
    let kept_last = c.as_slice-in-Ok.result.now in
    let at = c.as_slice.ensures.value in
    let at_last = c.as_slice-in-Ok.ensures.value in
    let items : told.new.aside.writer.now.items ≡ kept = search rules in
    let items_last : told.new.beyond.writer.now.items ≡ kept_last = search rules in
    let behind = c.tell_behind-so_far in
    let beyond = c.tell_behind-hinted in
    let some : IsToldBehind told.result.of_first (are_told hints scripts.second) kept told.result.behind.of_second (look told.new.errors) (look behind.new.errors) behind.result =
    subst (λ b. IsToldBehind told.result.of_first b kept told.result.behind.of_second (look told.new.errors) (look behind.new.errors) behind.result) c.are_told-some.ensures behind.ensures in
    let more : IsToldBehind behind.result (are_told hints scripts.third) kept_last told.result.behind.of_third (look behind.new.errors) (look beyond.new.errors) beyond.result =
    subst (λ b. IsToldBehind behind.result b kept_last told.result.behind.of_third (look behind.new.errors) (look beyond.new.errors) beyond.result) c.are_told-more.ensures beyond.ensures in
    let of_second : IsHintedBehind told.result.of_first hints scripts.second ended (g.S.Source.remaining c.args.second.now) second_left (look told.new.errors) (look behind.new.errors) behind.result =
    (told_behind ended hints scripts.second _ _ _ _ (look told.new.errors) (look behind.new.errors) kept told.result.of_first told.result.behind.of_second behind.result empty (ap (λ (l : List ℕ). Some l) items)
    (second_read count scripts hints _ _ _ _ _ _ ended c.requires.fit told.ensures.turned) told.ensures.of_second some) in
    let of_third : IsHintedBehind behind.result hints scripts.third ended (g.T.Source.remaining c.args.third.now) third_left (look behind.new.errors) (look beyond.new.errors) beyond.result =
    (told_behind ended hints scripts.third _ _ _ _ (look behind.new.errors) (look beyond.new.errors) kept_last behind.result told.result.behind.of_third beyond.result empty_last (ap (λ (l : List ℕ). Some l) items_last)
    (third_read count scripts hints _ _ _ _ _ _ ended c.requires.fit told.ensures.turned) told.ensures.of_third more) in
    record {
      left = record { first = first_left; second = second_left; third = third_left };
      ends = rw (c.in-Ok.ensures.inner, sym c.into_parts-writer.ensures.inner) at told.ensures.ends;
      hinted = record {
        behind_first = look told.new.errors;
        behind_second = look behind.new.errors;
        first_end = told.result.of_first;
        second_end = behind.result;
        of_first = of_first;
        of_second = of_second;
        of_third = of_third;
      };
    }

use Rattle.std.proofs.Common.{◌≡◌, ◌+◌, [], ◌∷◌, ◌++◌, length, take, sym, ap, subst, ◌∙◌, append-nil, take_all, arith}
use Rattle.std.specs.Io.KnownBytes.{Appends}
use Rattle.std.specs.List.{flat_map}
use Rattle.std.specs.Str.{chars}
use Rattle.std.proofs.KnownBytes.{Appends-trans}
use Rattle.std.proofs.lemmas.Grind.{flat_map-append}
use Rattle.std.proofs.lemmas.Iterator.{YieldsList-from_chars}
use Rattle.std.proofs.lemmas.Iterator.Consumers.{YieldsList-end, YieldsList-turn}
use Rattle.std.proofs.lemmas.List.{length_push, take_more}
use Rattle.std.proofs.lemmas.Result.{err_from_is_err_and}
use Rattle.mst_io.specs.Written.{AppendsFront}
use Rattle.mst_io.proofs.Calls.{works_both}
use Rattle.mst_io.proofs.Known.{AppendsFront-parts}
use Rattle.mstplan.specs.Said.{shown_char}
use Rattle.mstplan.proofs.said.put_name.Goals as goal

pub loop-c-preserved : goal.loop-c-preserved
loop-c-preserved g c =
    let cs = chars c.args.name.now in
    let was = c.loop-c.invariant in
    let n = length c.loop-c.yielded in
    let x = c.in-Some.c in
    let turn = YieldsList-turn (YieldsList-from_chars c.args.name.now c.utf8.name cc) c.loop-c.yielded _ c.loop-c.yielded_by _ _ x c.in-Some.is c.next.ensures.steps in
    let more : take (n + 1) cs ≡ take n cs ++ x ∷ [] = take_more cs n x turn.0 ∙ ap (λ y. take n cs ++ y ∷ []) (sym turn.1) in
    let all : flat_map shown_char (take (n + 1) cs) ≡ flat_map shown_char (take n cs) ++ shown_char x =
    ap (flat_map shown_char) more ∙ flat_map-append shown_char (take n cs) (x ∷ []) ∙ ap (λ l. flat_map shown_char (take n cs) ++ l) (append-nil (shown_char x)) in
    record {
      written = subst (λ k. Appends (g.K.Sink.contents c.args.sink.now) (g.K.Sink.contents c.put_char.new.sink) (flat_map shown_char (take k cs))) (sym (length_push c.loop-c.yielded x))
          (subst (Appends (g.K.Sink.contents c.args.sink.now) (g.K.Sink.contents c.put_char.new.sink)) (sym all)
          (Appends-trans _ _ _ (flat_map shown_char (take n cs)) (shown_char x) was.written c.in_ok-put_char.ensures.ok));
      works = works_both _ _ _ was.works c.in_ok-put_char.ensures.works;
      lent = c.in_ok-put_char.ensures.lent ∙ was.lent;
    }

pub returns-clause-ok : goal.returns-clause-ok
returns-clause-ok g c =
    let cs = chars c.args.name.now in
    let end = YieldsList-end (YieldsList-from_chars c.args.name.now c.utf8.name cc) c.loop-c.yielded _ c.loop-c.yielded_by _ _ c.in-None.is c.next.ensures.steps in
    subst (λ l. Appends (g.K.Sink.contents c.args.sink.now) (g.K.Sink.contents c.loop-c.sink) (flat_map shown_char l)) (take_all (length c.loop-c.yielded) cs (omega (arith, end.1))) c.loop-c.invariant.written

pub returns-in_err-put_char-clause-err : goal.returns-in_err-put_char-clause-err
returns-in_err-put_char-clause-err g c =
    let p = err_from_is_err_and c.from_residual.result c.from_residual.ensures.1 in
    let cs = chars c.args.name.now in
    let x = c.in-Some.c in
    let turn = YieldsList-turn (YieldsList-from_chars c.args.name.now c.utf8.name cc) c.loop-c.yielded _ c.loop-c.yielded_by _ _ x c.in-Some.is c.next.ensures.steps in
    let here = subst (λ y. AppendsFront (g.K.Sink.contents c.loop-c.sink) (g.K.Sink.contents c.put_char.new.sink) (shown_char y)) turn.1 c.in_err-put_char.ensures.err in
    rw p.1 (AppendsFront-parts shown_char _ _ _ cs (length c.loop-c.yielded) x turn.0 c.loop-c.invariant.written here)

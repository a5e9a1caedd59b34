use Rattle.std.proofs.Common.{◌≡◌, ◌∙◌, ◌≤◌, ◌+◌, ◌*◌, ◌++◌, ℕ, Bool, true, false, not, cond, is_ok, List, [], arith, refl, sym, ap, subst, take, length}
use Rattle.std.specs.Io.KnownBytes.{Consumes}
use Rattle.std.proofs.KnownBytes.{Appends-nil, Consumes-nil, Consumes-trans}
use Rattle.mst_drive.specs.Words.{Unwritten, Wrote}
use Rattle.mst_io.specs.Devices.{HoldsNothing, Seen, seen_by}
use Rattle.mst_io.proofs.Calls.{works_on}
use Rattle.mst_io.proofs.Chains.{Hears-none, Hears-more}
use Rattle.mst_io.proofs.ReadBytes.{few_more}
use Rattle.mst_ask.proofs.script.read_script.Goals as goal

-- nothing was written
none_told : (sink : Seen) → sink.told.failed ≡ false → sink.told.unsent ≡ false → HoldsNothing sink sink × Wrote sink.bytes sink.bytes (Unwritten sink.bytes)
none_told sink working sent = (record { works = record { working = working; taken = refl; each = omega arith }; lent = refl; sent = sent }, ([], refl, Appends-nil sink.bytes))

pub turns-init : goal.turns-init
turns-init g c = record {
  consumed = subst (Consumes (g.S.Source.remaining c.args.source.now) (g.S.Source.remaining c.args.source.now)) (sym c.new-bytes.ensures.items) (Consumes-nil _);
  reading = record { working = c.requires.working; taken = refl; each = omega arith };
  calls = omega arith;
  heard = Hears-none g.S.Source.hears _ c.args.source.now;
  lent = refl;
  few = omega (arith, ap length c.new-bytes.ensures.items);
}

-- a part was put behind what was read
extended : (ok : Bool) (old part new : List ℕ) → ok ≡ true → new ≡ cond ok (old ++ part) old → new ≡ old ++ part
extended true old part new e is = is
extended false old part new e is = cc

pub turns-preserved : goal.turns-preserved
turns-preserved g c =
    let was = c.turns.invariant in
    let old = c.turns.bytes.items in
    let chunk = take c.in-Ok.count c.fill.new.buffer in
    let ok : is_ok c.extend_from_slice.result ≡ true = c.is_err.ensures.negation ∙ ap not c.if-is_err.false in
    let more : c.extend_from_slice.new.self.items ≡ old ++ chunk = extended _ _ chunk _ ok c.extend_from_slice.ensures.items ∙ ap (λ l. l ++ chunk) c.reserve.ensures.items in
    record {
      consumed = subst (Consumes (g.S.Source.remaining c.args.source.now) (g.S.Source.remaining c.fill.new.self)) (sym more) (Consumes-trans _ _ _ old chunk was.consumed c.in-Ok.ensures.bytes.0);
      reading = works_on _ _ _ c.in-Ok.count _ was.reading c.in-Ok.ensures.told c.if-count-eq0.false;
      calls = ap (λ t. t.calls) c.in-Ok.ensures.told ∙ omega (arith, was.calls);
      heard = Hears-more g.S.Source.hears _ c.args.source.now c.turns.source c.fill.new.self chunk _ was.heard (none_told (seen_by g.K.Sink.told g.K.Sink.contents g.K.Sink.lent c.args.sink.now) c.requires.sink c.requires.sent) c.in-Ok.ensures.heard;
      lent = c.in-Ok.ensures.lent ∙ was.lent;
      few = subst (λ l. length l ≤ 4096 * (c.turns.turn + 1)) (sym more) (few_more old c.fill.new.buffer c.in-Ok.count c.turns.turn was.few c.in-Ok.ensures.bound.0 (omega arith));
    }

pub returns-in-Err-clause-heard : goal.returns-in-Err-clause-heard
returns-in-Err-clause-heard g c = Hears-more g.S.Source.hears _ c.args.source.now c.turns.source c.fill.new.self _ _ c.turns.invariant.heard (none_told (seen_by g.K.Sink.told g.K.Sink.contents g.K.Sink.lent c.args.sink.now) c.requires.sink c.requires.sent) c.in-Err.ensures.heard

pub returns-then-count-eq0-clause-heard : goal.returns-then-count-eq0-clause-heard
returns-then-count-eq0-clause-heard g c = Hears-more g.S.Source.hears _ c.args.source.now c.turns.source c.fill.new.self _ _ c.turns.invariant.heard (none_told (seen_by g.K.Sink.told g.K.Sink.contents g.K.Sink.lent c.args.sink.now) c.requires.sink c.requires.sent) c.in-Ok.ensures.heard

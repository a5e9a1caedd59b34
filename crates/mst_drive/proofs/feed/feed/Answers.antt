use Rattle.std.proofs.Common.{ℕ, ap, sym, refl, ◌∙◌, ◌++◌, ◌∷◌, [], ◌+◌, take, drop, get_or, subst, arith, length, ◌<◌, List, ◌≡◌, take-append-drop}
use Rattle.std.proofs.KnownBytes.{Appends-nil, Appends-trans}
use Rattle.std.proofs.lemmas.List.{take_all, take_more}
use Rattle.std.proofs.lemmas.Result.{err_from_is_err_and}
use Rattle.mst_drive.specs.Feeding.{Breaks, Feeds}
use Rattle.mst_drive.proofs.Feeds.{Breaks-after, Breaks-longer, Feeds-join, Feeds-nil}
use Rattle.mst_io.proofs.Calls.{works_both}
use Rattle.mst_drive.proofs.feed.feed.Goals as goal

pub loop-byte-init : goal.loop-byte-init
loop-byte-init g c = record {
  awaits = c.requires.awaits;
  text = [];
  feeds = Feeds-nil g.J.Job.tells c.args.job.now c.args.number.now c.args.held.now;
  written = Appends-nil _;
  works = record { working = c.requires.working; taken = refl; each = omega arith };
  lent = refl;
}

pub loop-byte-preserved : goal.loop-byte-preserved
loop-byte-preserved g c =
    let was = c.loop-byte.invariant in
    let new = c.in_ok-take_byte.ensures.ok in
    let bytes = c.args.bytes.now in
    let i = c.loop-byte.byte-index in
    let tells = g.J.Job.tells in
    record {
      awaits = c.take_byte.ensures.awaits;
      text = was.text ++ new.0;
      feeds = subst (λ l. Feeds tells c.args.job.now c.args.number.now c.args.held.now l (was.text ++ new.0) c.take_byte.new.job c.take_byte.new.number c.take_byte.new.held) (sym (take_more bytes i 0 (omega arith)))
          (Feeds-join tells c.args.job.now c.loop-byte.job c.take_byte.new.job c.args.number.now c.loop-byte.number c.take_byte.new.number c.args.held.now c.loop-byte.held c.take_byte.new.held (take i bytes) (get_or bytes i 0 ∷ []) was.text new.0 was.feeds new.1);
      written = Appends-trans _ _ _ was.text new.0 was.written new.2;
      works = works_both _ _ _ was.works c.in_ok-take_byte.ensures.works;
      lent = c.take_byte.ensures.lent ∙ was.lent;
    }

cut_at : (bytes : List ℕ) (i : ℕ) → i < length bytes → (take i bytes ++ get_or bytes i 0 ∷ []) ++ drop (i + 1) bytes ≡ bytes
cut_at bytes i h = ap (λ l. l ++ drop (i + 1) bytes) (sym (take_more bytes i 0 h)) ∙ take-append-drop (i + 1) bytes

pub returns-in_err-take_byte-clause-err : goal.returns-in_err-take_byte-clause-err
returns-in_err-take_byte-clause-err g c =
    let p = err_from_is_err_and c.from_residual.result c.from_residual.ensures.1 in
    let was = c.loop-byte.invariant in
    let bytes = c.args.bytes.now in
    let i = c.loop-byte.byte-index in
    let tells = g.J.Job.tells in
    let job = c.args.job.now in
    let number = c.args.number.now in
    let held = c.args.held.now in
    rw p.1 (subst (Breaks tells _ _ job number held) (cut_at bytes i (omega arith))
    (Breaks-longer tells _ _ job number held (take i bytes ++ get_or bytes i 0 ∷ []) (drop (i + 1) bytes)
    (Breaks-after tells _ _ _ job c.loop-byte.job number c.loop-byte.number held c.loop-byte.held (take i bytes) (get_or bytes i 0 ∷ []) was.text was.feeds was.written c.in_err-take_byte.ensures.err)))

pub returns-clause-ok : goal.returns-clause-ok
returns-clause-ok g c =
    let was = c.loop-byte.invariant in
    let tells = g.J.Job.tells in (
      was.text,
      subst (λ l. Feeds tells c.args.job.now c.args.number.now c.args.held.now l was.text c.loop-byte.job c.loop-byte.number c.loop-byte.held) (take_all c.loop-byte.byte-index c.args.bytes.now c.loop-byte-test.false) was.feeds,
      was.written,
    )

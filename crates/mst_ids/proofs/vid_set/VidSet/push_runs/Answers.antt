use Rattle.std.proofs.Common.{◌≡◌, ℕ, ◌++◌, length, take, arith}
use Rattle.std.proofs.lemmas.List.{take_all}
use Rattle.mst_ids.specs.Vids.{run_text}
use Rattle.mst_ids.proofs.VidTextLemmas.{first_run, front_stays, front_through, on_err}
use Rattle.mst_ids.proofs.vid_set.VidSet.push_runs.Goals as goal

pub loop-first-init : goal.loop-first-init
loop-first-init c =
    let old = c.args.out.now.items in
    let run : ℕ × ℕ = (c.in-Some.first, c.in-Some.last) in
    let wrote : c.push_run.new.out.items ≡ old ++ run_text run = c.in_ok-push_run.ensures.ok in
    record {
      within = omega (arith, c.in-Some.ensures.range);
      kept = front_stays old old c.push_run.new.out.items (run_text run) (take_all (length old) old (omega arith)) wrote;
      whole = first_run old c.push_run.new.out.items c.args.self.now run _ c.in-Some.ensures.runs wrote;
    }

pub returns-in_err-push_run-2-clause-err : goal.returns-in_err-push_run-2-clause-err
returns-in_err-push_run-2-clause-err c =
    let old = c.args.out.now.items in
    let comma = front_stays old c.loop-first.out.items c.push_bytes-in-Some-run_from.new.out.items _ c.loop-first.invariant.kept c.in_ok-push_bytes.ensures.ok in
    on_err _ (take (length old) c.push_run-in-Some-run_from.new.out.items ≡ old)
    (front_through old c.push_bytes-in-Some-run_from.new.out.items c.push_run-in-Some-run_from.new.out.items comma c.in_err-push_run-2.ensures.err)

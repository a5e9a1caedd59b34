use Rattle.std.proofs.Common.{◌≡◌, ℕ, List, ◌∷◌, ◌++◌, refl, ap, map, subst, ◌∙◌, append_assoc}
use Rattle.mst_rows.specs.Rows.{Row}
use Rattle.mst_sweep.specs.Cuts.{rows_of, runs_of}
use Rattle.mst_sweep.specs.Moved.{moved_roots, moved_ports}
use Rattle.mst_sweeping.specs.Restarts.{restarting}
use Rattle.mst_sweeping.specs.Seen.{turning_of}
use Rattle.mst_sweeping.specs.StepText.{cut_by, deed_row, restart_rows, rows_behind, turn_rows}
use Rattle.mst_sweeping.specs.Turns.{turning}
use Rattle.mst_sweeping.proofs.step.put_step.Goals as goal

pub returns : goal.returns
returns g c a b n k is are of so over =
    let step = c.args.deed.now in
    let told = c.in_ok-told.told in
    let is_told = c.in_ok-stepped.ensures in
    let R : List ℕ = moved_roots a is.outcome b are.outcome in
    let P : ℕ = moved_ports a is.outcome b are.outcome in
    let roots : c.as_slice-7.result.now ≡ R = c.as_slice-7.ensures.value ∙ c.in_ok-roots.ensures a b n k is are of so in
    let ports : c.moved_ports-ports.result ≡ P = c.moved_ports-ports.ensures a b n k is are of so in
    let cuts : List Row = rows_of (cut_by step) told.classes.numbers.items told.cuts in
    let row : Row = deed_row step R P (runs_of told.moved.items) (runs_of told.cuts.vids.items) (runs_of told.joined.items) in
    let turns : turn_rows step (map turning_of c.as_slice-8.result.now) ≡ turn_rows step (turning a is.outcome b are.outcome) =
    ap (λ ts. turn_rows step (map turning_of ts)) c.as_slice-8.ensures.value ∙ c.in_ok-turning.ensures a b n k is are of so in
    let anew : restart_rows step c.as_slice-9.result.now ≡ restart_rows step (restarting a b) = ap (restart_rows step) c.as_slice-9.ensures.value ∙ c.in_ok-anew.ensures a b n k is are of so over in
    let behind : List Row = rows_behind step (turning a is.outcome b are.outcome) (restarting a b) in (
      row ∷ cuts ++ behind,
      record {
        moved = told.moved.items;
        cut = told.cuts.vids.items;
        joined = told.joined.items;
        cut_rows = cuts;
        are_moved = c.in_ok-told.ensures.moved a b n k is are of so;
        are_cut = c.in_ok-told.ensures.cut a b n k is are of so (cut_by step);
        are_joined = c.in_ok-told.ensures.joined a b n k is are of so;
        moves = is_told.0;
        cuts = is_told.1;
        are = refl;
      },
      λ first rows grew.
          let before = deed_row step c.as_slice-7.result.now c.moved_ports-ports.result (runs_of told.moved.items) (runs_of told.cuts.vids.items) (runs_of told.joined.items) ∷ cuts in
          subst (λ (all : List Row). g.R.Rows.grew first c.put_behind.new.out all)
          (append_assoc rows before (turn_rows step (map turning_of c.as_slice-8.result.now) ++ restart_rows step c.as_slice-9.result.now)
          ∙ (λ i. rows ++ (deed_row step (roots i) (ports i) (runs_of told.moved.items) (runs_of told.cuts.vids.items) (runs_of told.joined.items) ∷ cuts ++ (turns i ++ anew i))))
          (c.in_ok-put_behind.ensures first (rows ++ before) (is_told.2 first rows grew)),
    )

use Rattle.std.proofs.Common.{[], ◌++◌, sym, ap, ◌∙◌}
use Rattle.std.specs.List.{filter_map}
use Rattle.std.proofs.lemmas.List.{append-nil}
use Rattle.mst_roles.specs.forest.Settled.{outcome_of}
use Rattle.mst_tree_judges.proofs.LimitRows.{told}
use Rattle.mst_tree_judges.proofs.fits.fits_reasons.Goals as goal

pub returns : goal.returns
returns c =
    let s = c.args.judged.now.plan.now in
    let is = c.known.ensures in
    let notes = c.notes.ensures.some_rows s.net (outcome_of s) is.of.network is.is_outcome in
    record {
      notes = notes.0;
      are_notes = notes.1;
      are =
          c.in_ok-put_notes.ensures notes.0 notes.1 (record { alloc = c.args.alloc; reasons = c.new.result }) [] (sym (append-nil c.new.result.items))
          ∙ ap (λ l. l ++ filter_map told notes.0) c.new.ensures.items;
    }

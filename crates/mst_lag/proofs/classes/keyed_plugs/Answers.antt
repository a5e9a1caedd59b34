use Rattle.std.proofs.Common.{sym, ap, ◌∙◌}
use Rattle.std.specs.Map.{lookup}
use Rattle.mst_view.specs.Aggregation.{same_name}
use Rattle.mst_lag.specs.Seen.{class_of}
use Rattle.mst_lag.proofs.Keyless.{no_class}
use Rattle.mst_lag.proofs.classes.keyed_plugs.Goals as goal

pub returns-then-are_keyless : goal.returns-then-are_keyless
returns-then-are_keyless c = λ q.
    ap (λ es. class_of (lookup (same_name q) es)) c.new.ensures.empty
    ∙ sym (no_class (λ p. same_name p.lan q) c.args.plugs.now (sym c.are_keyless.ensures ∙ c.if-are_keyless.true))

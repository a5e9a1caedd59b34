use Rattle.std.proofs.Common.{[], refl}
use Rattle.std.proofs.KnownBytes.{Appends-trans}
use Rattle.mst_io.specs.Devices.{seen_by}
use Rattle.mst_io.proofs.Chains.{Hears-none}
use Rattle.mst_drive.specs.Words.{Unwritten}
use Rattle.mst_drive.proofs.Turned.{turned_stopped, turned_then}
use Rattle.mst_drive.proofs.Words.{told_behind}
use Rattle.mst_altering.proofs.alters.read_both.Goals as goal

pub returns-in-Err-clause-heard_policy : goal.returns-in-Err-clause-heard_policy
returns-in-Err-clause-heard_policy g c = Hears-none g.P.Source.hears _ c.args.policy.now

pub returns-in-Err-clause-turned : goal.returns-in-Err-clause-turned
returns-in-Err-clause-turned g c = turned_stopped c.args.turns _ _ _ _ _ c.in-Err.ensures.turned (λ e. cc) (refl, c.requires.policy, tt)

pub returns-in-Err-read_policy-clause-turned : goal.returns-in-Err-read_policy-clause-turned
returns-in-Err-read_policy-clause-turned g c = turned_then c.args.turns _ _ _ _ _ _ c.in-Ok.ensures.turned c.in-Err-read_policy.ensures.turned

pub returns-in-Err-read_policy-clause-unwritten : goal.returns-in-Err-read_policy-clause-unwritten
returns-in-Err-read_policy-clause-unwritten g c = Appends-trans _ _ _ [] [] c.read_change.ensures.unwritten c.read_policy.ensures.unwritten

pub returns-in-Ok-read_policy-clause-turned : goal.returns-in-Ok-read_policy-clause-turned
returns-in-Ok-read_policy-clause-turned g c = turned_then c.args.turns _ _ _ _ _ _ c.in-Ok.ensures.turned c.in-Ok-read_policy.ensures.turned

pub returns-in-Ok-read_policy-clause-unwritten : goal.returns-in-Ok-read_policy-clause-unwritten
returns-in-Ok-read_policy-clause-unwritten g c = Appends-trans _ _ _ [] [] c.read_change.ensures.unwritten c.read_policy.ensures.unwritten

pub returns-in-Err-read_policy-clause-heard_policy : goal.returns-in-Err-read_policy-clause-heard_policy
returns-in-Err-read_policy-clause-heard_policy g c =
    let look = seen_by g.K.Sink.told g.K.Sink.contents g.K.Sink.lent in
    told_behind g.P.Source.hears g.P.Source.remaining (look c.args.sink.now) Unwritten Unwritten (look c.read_change.new.sink) [] c.args.policy.now c.read_policy.new.source c.args.turns _ c.in-Ok.ensures.turned c.read_change.ensures.unwritten (λ left more none. none) c.read_policy.ensures.heard

pub returns-in-Ok-read_policy-clause-heard_policy : goal.returns-in-Ok-read_policy-clause-heard_policy
returns-in-Ok-read_policy-clause-heard_policy g c =
    let look = seen_by g.K.Sink.told g.K.Sink.contents g.K.Sink.lent in
    told_behind g.P.Source.hears g.P.Source.remaining (look c.args.sink.now) Unwritten Unwritten (look c.read_change.new.sink) [] c.args.policy.now c.read_policy.new.source c.args.turns _ c.in-Ok.ensures.turned c.read_change.ensures.unwritten (λ left more none. none) c.read_policy.ensures.heard

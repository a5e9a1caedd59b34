use Rattle.std.proofs.Common.{refl}
use Rattle.mst_hinting.proofs.Steps.{heard_none}
use Rattle.mst_hinting.proofs.telling.Telling.hear.Goals as goal

pub returns-in-Err : goal.returns-in-Err
returns-in-Err c = heard_none c.args.answer c.in-Err.field-0 c.args.buffer.now c.args.self.now _ c.in-Err.is refl refl refl refl refl

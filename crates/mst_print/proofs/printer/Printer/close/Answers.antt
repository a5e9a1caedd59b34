use Rattle.std.proofs.Common.{subst}
use Rattle.mst_print.specs.Shape.{Grew}
use Rattle.mst_print.proofs.Shown.{closed_lines, closed_records}
use Rattle.mst_print.proofs.printer.Printer.close.Goals as goal

pub returns-in-Lines : goal.returns-in-Lines
returns-in-Lines c form line query first rows begun grew =
    closed_lines form line query first rows c.in-Lines.out begun (subst (λ p. Grew first p rows) c.in-Lines.is grew)

pub returns-in_ok-out-in-Records : goal.returns-in_ok-out-in-Records
returns-in_ok-out-in-Records c form line query first rows begun grew =
    closed_records form line query first rows c.in-Records.json c.in_ok-out-in-Records.out.items begun (subst (λ p. Grew first p rows) c.in-Records.is grew) c.in_ok-out-in-Records.ensures

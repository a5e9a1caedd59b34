-- The row of a setting that is advised says its edit.
use Rattle.std.proofs.Common.{refl}
use Rattle.mst_lang.specs.Ranges.{InRange}
use Rattle.mst_rows.specs.Lines.{row_line}
use Rattle.mst_edits.specs.EditLine.{line_of}
use Rattle.mst_edit_laws.proofs.LinesRead.{line_read}
use Rattle.mst_edits.proofs.Short.{edit_short}
use Rattle.mst_advise.specs.Settings.{edit_of}
use Rattle.mst_advise.specs.Told.{setting_row}
use Rattle.mst_advise.specs.declared.setting.Setting.{Setting}
use Rattle.mst_advise.specs.declared.setting.Setting.TheVariants.{Priority, PortPriority, ExternalCost, InternalCost}
use Rattle.mst_advise_laws.specs.Said.{SaysEdit}

pub setting_said : (setting : Setting) → InRange (edit_of setting) → SaysEdit (row_line (setting_row setting)) (edit_of setting)
setting_said (Priority bridge tree priority) fits =
    let e = edit_of (Priority bridge tree priority) in record { line = line_of e; said = refl; read = line_read e fits tt (edit_short e fits tt) }
setting_said (PortPriority port tree priority) fits =
    let e = edit_of (PortPriority port tree priority) in record { line = line_of e; said = refl; read = line_read e fits tt (edit_short e fits tt) }
setting_said (ExternalCost port cost) fits =
    let e = edit_of (ExternalCost port cost) in record { line = line_of e; said = refl; read = line_read e fits tt (edit_short e fits tt) }
setting_said (InternalCost port tree cost) fits =
    let e = edit_of (InternalCost port tree cost) in record { line = line_of e; said = refl; read = line_read e fits tt (edit_short e fits tt) }

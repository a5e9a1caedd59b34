-- Why a file can't be opened, by what the system says.
use Rattle.std.specs.declared.io.ErrorKind.{ErrorKind}
use Rattle.std.specs.declared.io.ErrorKind.TheVariants.{NotFound, PermissionDenied, IsADirectory}
use Rattle.mst_frame.specs.declared.sources.Unopened.{Unopened}
use Rattle.mst_frame.specs.declared.sources.Unopened.TheVariants.{Missing, Denied, Folder, Other}

abbrev pub reason_by : ErrorKind → Unopened
reason_by NotFound = Missing
reason_by PermissionDenied = Denied
reason_by IsADirectory = Folder
reason_by _ = Other

-- A writer whose reader may close it.
use Rattle.std.specs.Prelude.{Bool, true, false, Result, Ok, Err}
use Rattle.std.specs.IoError.{error_kind}
use Rattle.std.specs.declared.io.Error.{Error}
use Rattle.std.specs.declared.io.ErrorKind.{ErrorKind}
use Rattle.std.specs.declared.io.ErrorKind.TheVariants.{BrokenPipe}

abbrev pub is_broken_pipe : ErrorKind → Bool
is_broken_pipe BrokenPipe = true
is_broken_pipe _ = false

-- a call has failed since no one reads any more what is written
abbrev pub closes : {T : Type 0} → Result T Error → Bool
closes (Ok answer) = false
closes (Err error) = is_broken_pipe (error_kind error)

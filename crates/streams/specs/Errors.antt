-- Which errors of the system pass. Assumes nothing.
use Rattle.std.specs.Prelude.{Bool, true, false}
use Rattle.std.specs.declared.io.ErrorKind.{ErrorKind}
use Rattle.std.specs.declared.io.ErrorKind.TheVariants.{Interrupted, WouldBlock}

-- interrupted, or not ready
abbrev pub passing : ErrorKind → Bool
passing Interrupted = true
passing WouldBlock = true
passing _ = false

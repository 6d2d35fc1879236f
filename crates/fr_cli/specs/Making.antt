-- What a function says that makes a command of the program. The definition is this project's own.
use Rattle.std.specs.Prelude.{◌≡◌, false, Result, IfOk}
use Rattle.std.specs.declared.alloc.AllocError.{AllocError}
use Rattle.clap.specs.Simple.{App, app_of}
use Rattle.clap.specs.declared.builder.command.Command.{Command}
use Rattle.clap.specs.declared.builder.command.Command.TheViews.{out-Command}

-- if a command was made, it is this one, and none of its options is global
unfoldable pub Makes : App → Result Command AllocError → Type 0
Makes app made = IfOk made (λ c. (app_of c ≡ app) × ((out-Command c).has_globals ≡ false))

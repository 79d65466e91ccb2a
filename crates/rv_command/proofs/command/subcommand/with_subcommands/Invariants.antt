-- the commands so far
use Rattle.std.proofs.Common.{◌≡◌, take}
use Rattle.std.specs.Prelude.{fold}
use Rattle.clap.specs.Simple.{app_of}
use Rattle.rv_command.specs.internal.Commands.{with_subcommand}
use Rattle.rv_command.proofs.command.subcommand.with_subcommands.Given as goal

abbrev pub invariant-loop-place : goal.invariant-loop-place
invariant-loop-place l = app_of l.program ≡ fold with_subcommand (app_of l.initial.program) (take l.place l.subcommands)

-- the arguments so far
use Rattle.std.proofs.Common.{◌≡◌, take}
use Rattle.std.specs.Prelude.{fold}
use Rattle.clap.specs.Simple.{shape_of}
use Rattle.clap.specs.declared.builder.command.Command.TheViews.{out-Command as fields_of}
use Rattle.rv_command.specs.internal.Commands.{with_argument}
use Rattle.rv_command.proofs.command.subcommand.with_arguments.Given as goal

abbrev pub invariant-loop-argument : goal.invariant-loop-argument
invariant-loop-argument l = record {
  shape : shape_of l.command ≡ fold with_argument (shape_of l.initial.command) (take l.argument-index l.arguments);
  local : (fields_of l.command).has_globals ≡ (fields_of l.initial.command).has_globals;
}

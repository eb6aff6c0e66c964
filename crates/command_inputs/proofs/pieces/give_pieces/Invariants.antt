-- Each argument so far gives a piece.
use Rattle.std.proofs.Common.{◌≡◌, drop}
use Rattle.std.specs.List.{list_all}
use Rattle.command_inputs.specs.FurtherPieces.{gives_piece}
use Rattle.command_inputs.proofs.pieces.give_pieces.Given as goal

abbrev pub invariant-loop-argument : goal.invariant-loop-argument
invariant-loop-argument l =
    list_all gives_piece l.arguments ≡ list_all gives_piece (drop l.argument-index l.arguments)

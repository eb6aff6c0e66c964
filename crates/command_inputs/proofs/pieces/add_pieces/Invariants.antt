-- What is found with the pieces that are left is found with all, and the files are as they were.
use Rattle.std.proofs.Common.{◌≡◌, drop}
use Rattle.command_inputs.proofs.PiecesAdded.{LeadsOn}
use Rattle.command_inputs.proofs.pieces.add_pieces.Given as goal

abbrev pub invariant-loop-argument : goal.invariant-loop-argument
invariant-loop-argument g l =
    (g.F.Files.content l.files ≡ g.F.Files.content l.fn.files)
    × LeadsOn g.row.W.Denot (g.F.Files.content l.fn.files) l.fn.program l.arguments l.program
    (drop l.argument-index l.arguments)

-- The prover tries no record of its own: what was read, and what it becomes part of, are handed to it.
use Rattle.std.proofs.Common.{◌≡◌, ◌⊎◌, subst, sym, Ok, Err, IfErr, arith}
use Rattle.std.proofs.lemmas.Grind.{common_steps}
use Rattle.command_inputs.specs.Faults.{piece_fault}
use Rattle.command_inputs.specs.Found.{IsWithPiece}
use Rattle.command_inputs.specs.FurtherPieces.{given_piece}
use Rattle.command_inputs.specs.declared.fault.Fault.TheVariants as fault
use Rattle.command_inputs.proofs.PiecesAdded.{piece_refused, piece_taken, piece_unread}
use Rattle.command_inputs.proofs.pieces.add_piece.Goals as goal

pub returns-in_err-bytes-clause-fault : goal.returns-in_err-bytes-clause-fault
returns-in_err-bytes-clause-fault g c =
    let content = g.F.Files.content c.args.files.now in
    let program = c.args.program.now in
    let why = c.in_err-bytes.field-0.0 in
    let is : c.from_residual.result ≡ Err why = grind (arith, common_steps) in
    subst (λ r. IfErr r (λ why. (why ≡ fault.Memory)
    ⊎ IsWithPiece content program (given_piece c.args.argument.now) (Err why))) (sym is)
    (subst (λ given. (why ≡ fault.Memory) ⊎ IsWithPiece content program given (Err why)) c.in-Some.ensures
    (piece_unread content program c.in-Some.base c.in-Some.path why c.in_err-bytes.ensures.lacked))

pub returns-in-Ok-clause-added : goal.returns-in-Ok-clause-added
returns-in-Ok-clause-added g c =
    let content = g.F.Files.content c.args.files.now in
    let program = c.args.program.now in
    let more = c.add.new.self in
    subst (λ given. IsWithPiece {W = g.row.W.Denot} content program given (Ok more)) c.in-Some.ensures
    (piece_taken {W = g.row.W.Denot} content program c.in-Some.base c.in-Some.path c.in_ok-bytes.bytes.items
    c.in_ok-bytes.ensures.held more c.in-Ok.ensures.added)

pub returns-in-Err-clause-fault : goal.returns-in-Err-clause-fault
returns-in-Err-clause-fault g c =
    let content = g.F.Files.content c.args.files.now in
    let program = c.args.program.now in
    let why = c.in-Err.why in
    let here = piece_fault {W = g.row.W.Denot} c.in-Some.path why in
    subst (λ why. (why ≡ fault.Memory) ⊎ IsWithPiece content program (given_piece c.args.argument.now) (Err why))
    (sym c.of_piece.ensures)
    (subst (λ given. (here ≡ fault.Memory) ⊎ IsWithPiece content program given (Err here)) c.in-Some.ensures
    (piece_refused {W = g.row.W.Denot} content program c.in-Some.base c.in-Some.path c.in_ok-bytes.bytes.items
    c.in_ok-bytes.ensures.held why c.in-Err.ensures.refused))

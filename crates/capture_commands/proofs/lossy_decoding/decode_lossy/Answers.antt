-- The prover tries no chain of steps by itself: what each step found is handed to it, in order.
use Rattle.std.proofs.Common.{◌≡◌, inr, refl, ap, subst, sym, ◌∙◌, ℕ, List, Global, Option, Ok, Err, arith}
use Rattle.std.proofs.KnownBytes.{Keeps-refl}
use Rattle.std.proofs.lemmas.Grind.{common_steps}
use Rattle.std.specs.Io.KnownBytes.{Appends, Keeps}
use Rattle.message.specs.declared.range.HartRange.{HartRange}
use Rattle.losses.specs.declared.part.HartPieces.{HartPieces}
use Rattle.output.specs.Begun.{AppendsBeginning}
use Rattle.output.proofs.Beginnings.{begun_kept}
use Rattle.rvclass.specs.Image.{Image}
use Rattle.command_inputs.specs.Begun.{IsCutOf}
use Rattle.command_inputs.proofs.Beginnings.{printed_begun}
use Rattle.command_inputs.proofs.Runs.{appends-keeps, ends_silently, prints}
use Rattle.parallel_decode.specs.EachHart.{each_hart}
use Rattle.salvage_reports.specs.HartItems.{items_of}
use Rattle.capture_commands.specs.Pieces.{ArePiecesOf, HasPieces, WritesPieces, end_of_pieces_from, parts_of, parts_text}
use Rattle.capture_commands.proofs.lossy_decoding.decode_lossy.Goals as goal
use Rattle.capture_commands.proofs.lossy_decoding.decode_lossy.Goals.{After-items_of-own}

-- The texts of harts.
abbrev text_of : HartRange → List (HartPieces Global) → List ℕ
text_of only own = each_hart parts_text only.first (parts_of own)

-- A beginning was written of what was collected, and then nothing more.
cut : (harts : ℕ) (only : HartRange) (program : Image) (bytes : List ℕ) (pieces own : List (HartPieces Global))
    (old mid new : Option (List ℕ))
    → ArePiecesOf harts only program bytes (Ok pieces) → own ≡ items_of only pieces
    → AppendsBeginning (text_of only own) old mid
    → Keeps mid new → IsCutOf (WritesPieces harts only program bytes) old new
cut harts only program bytes pieces own old mid new found same begun kept =
    let text = text_of only (items_of only pieces) in
    inr (printed_begun (WritesPieces harts only program bytes) text
    (end_of_pieces_from only.first (items_of only pieces)) old new
    (Ok pieces, found, record { text = refl; ended = refl })
    (begun_kept text old mid new (subst (λ own. AppendsBeginning (text_of only own) old mid) same begun) kept))

module _ (g : _) (c : After-items_of-own g) where
  -- The harts that are written are those that are asked for.
  own_is : c.items_of-own.result.now ≡ items_of c.args.input.now.only c.in_ok-pieces.pieces.items
  own_is = c.items_of-own.ensures ∙ ap (items_of c.args.input.now.only) c.as_slice.ensures.value

pub returns-in_err-pieces-clause-printed : goal.returns-in_err-pieces-clause-printed
returns-in_err-pieces-clause-printed g c =
    let out = g.O.Write.contents c.args.out.now in
    let why = c.in_err-pieces.field-0.0 in
    let is : c.from_residual.result ≡ Err why = grind (arith, common_steps) in
    let run = WritesPieces c.args.harts c.args.input.now.only c.args.input.now.program.now c.args.input.now.bytes.now in
    let can = HasPieces c.args.harts c.args.input.now.only c.args.input.now.program.now c.args.input.now.bytes.now in
    ends_silently run can (ArePiecesOf c.args.harts c.args.input.now.only c.args.input.now.program.now c.args.input.now.bytes.now (Err why)) why
    c.from_residual.result out is (inr c.in_err-pieces.ensures.fault) (λ none. (Err why, none, refl))

pub returns-in_err-write_pieces-clause-cut : goal.returns-in_err-write_pieces-clause-cut
returns-in_err-write_pieces-clause-cut g c =
    let contents = g.O.Write.contents in
    let new = contents c.write_pieces.new.out in
    cut c.args.harts c.args.input.now.only c.args.input.now.program.now c.args.input.now.bytes.now c.in_ok-pieces.pieces.items c.items_of-own.result.now
    (contents c.args.out.now) new new c.in_ok-pieces.ensures.found
    (own_is g (goal.at.returns-in_err-write_pieces-clause-cut g c).After-items_of-own)
    c.write_pieces.ensures.begun (Keeps-refl new)

pub returns-in_err-flush-clause-cut : goal.returns-in_err-flush-clause-cut
returns-in_err-flush-clause-cut g c =
    let contents = g.O.Write.contents in
    cut c.args.harts c.args.input.now.only c.args.input.now.program.now c.args.input.now.bytes.now c.in_ok-pieces.pieces.items c.items_of-own.result.now
    (contents c.args.out.now) (contents c.write_pieces.new.out) (contents c.flush.new.self)
    c.in_ok-pieces.ensures.found (own_is g (goal.at.returns-in_err-flush-clause-cut g c).After-items_of-own)
    c.write_pieces.ensures.begun c.flush.ensures.bytes

pub returns-clause-cut : goal.returns-clause-cut
returns-clause-cut g c =
    let contents = g.O.Write.contents in
    cut c.args.harts c.args.input.now.only c.args.input.now.program.now c.args.input.now.bytes.now c.in_ok-pieces.pieces.items c.items_of-own.result.now
    (contents c.args.out.now) (contents c.write_pieces.new.out) (contents c.flush.new.self)
    c.in_ok-pieces.ensures.found (own_is g (goal.at.returns-clause-cut g c).After-items_of-own)
    c.write_pieces.ensures.begun c.flush.ensures.bytes

pub returns-clause-printed : goal.returns-clause-printed
returns-clause-printed g c =
    let only = c.args.input.now.only in
    let run = WritesPieces c.args.harts only c.args.input.now.program.now c.args.input.now.bytes.now in
    let old = g.O.Write.contents c.args.out.now in
    let mid = g.O.Write.contents c.write_pieces.new.out in
    let new = g.O.Write.contents c.flush.new.self in
    let own = items_of only c.in_ok-pieces.pieces.items in
    let is = own_is g (goal.at.returns-clause-printed g c).After-items_of-own in
    let ended : c.ended.result ≡ end_of_pieces_from only.first own =
    c.ended.ensures.value ∙ ap (end_of_pieces_from only.first) is in
    let text = subst (λ own. Appends old mid (text_of only own)) is c.in_ok-write_pieces.ensures.text in
    prints run (HasPieces c.args.harts only c.args.input.now.program.now c.args.input.now.bytes.now) c.ended.result old new (record {
      text = text_of only own;
      prints = subst (λ ended. run (record { text = text_of only own; ended = ended })) (sym ended)
          (Ok c.in_ok-pieces.pieces.items, c.in_ok-pieces.ensures.found, record { text = refl; ended = refl });
      appended = appends-keeps old mid new (text_of only own) text c.flush.ensures.bytes;
    })

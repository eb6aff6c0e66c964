-- Pieces that are added one after the other make what all of them make.
use Rattle.std.proofs.Common.{◌≡◌, ◌⊎◌, inl, inr, ℕ, ◌+◌, ◌-◌, ◌<◌, ◌≤◌, ◌++◌, List, [], ◌∷◌, Ok, Err, IsOk, Result, Bool, true, length}
use Rattle.std.proofs.Common.{drop, take, slice_index_or, refl, sym, ap, subst, ◌∙◌, arith}
use Rattle.std.proofs.Math.Dec.{leb-zero}
use Rattle.std.proofs.lemmas.List.{length-append, length-drop, take-append-drop, take_all, take_more}
use Rattle.std.specs.Prelude.{◌&&◌}
use Rattle.rvclass.specs.Adding.{add_piece}
use Rattle.rvclass.specs.declared.piece_fault.PieceFault.{PieceFault}
use Rattle.rvclass.specs.Image.{Image}
use Rattle.ffi.specs.Images.{IsJudged, Judged, Judges, NoMemory, are_sorted_from, judged_image, judged_in_turn}
use Rattle.ffi.specs.Images.{judged_next, judged_pieces, with_piece, with_pieces}
use Rattle.ffi.specs.declared.fault.ImageFault.{ImageFault}
use Rattle.ffi.specs.declared.fault.ImageFault.TheVariants.{Memory}
use Rattle.ffi.specs.declared.images.ImagePiece.{ImagePiece}
use Rattle.ffi.specs.steps.Adding.{AreAdded}
use Rattle.ffi.specs.steps.Adding as steps

-- Pieces are added before those that come after them.
add_both : (image : Judged) (front rest : List ImagePiece)
    → with_pieces image (front ++ rest) ≡ with_pieces (with_pieces image front) rest
add_both image [] rest = refl
add_both image (piece ∷ front) rest = add_both (with_piece image piece) front rest

-- The first fault stays.
fault_stays : (fault : ImageFault) (rest : List ImagePiece) → with_pieces (Err fault) rest ≡ Err fault
fault_stays fault [] = refl
fault_stays fault (piece ∷ rest) = fault_stays fault rest

-- The first pieces up to one of them are one at least.
front_length : (pieces : List ImagePiece) (place : ℕ) → place < length pieces → 1 ≤ length (take (place + 1) pieces)
front_length pieces place within =
    let both = ap length (take-append-drop (place + 1) pieces) in
    let parts = length-append (take (place + 1) pieces) (drop (place + 1) pieces) in
    let left = length-drop (place + 1) pieces in
    omega (arith, both, parts, left, within)

-- A piece that is added makes a program.
next_ok : (added : Result Image PieceFault) → IsOk added → IsOk (judged_next added)
next_ok (Ok program) some = some
next_ok (Err why) some = some

module _ (first program : Image) (pieces : List ImagePiece) (place : ℕ) (d : ImagePiece)
    (within : place < length pieces)
    (so_far : with_pieces (Ok first) (take place pieces) ≡ Ok program) where
  abbrev piece : ImagePiece
  piece = slice_index_or pieces place d

  -- One piece more is added to the program.
  pub one_more : with_pieces (Ok first) (take (place + 1) pieces)
      ≡ judged_next (add_piece program piece.base piece.bytes.now)
  one_more =
      ap (with_pieces (Ok first)) (take_more pieces place d within)
      ∙ add_both (Ok first) (take place pieces) (slice_index_or pieces place d ∷ [])
      ∙ ap (λ (image : Judged). with_piece image (slice_index_or pieces place d)) so_far

  -- A fault of it is that of all pieces.
  pub first_fault : (fault : ImageFault) → judged_next (add_piece program piece.base piece.bytes.now) ≡ Err fault
      → Err fault ≡ with_pieces (Ok first) pieces
  first_fault fault refused =
      sym (fault_stays fault (drop (place + 1) pieces))
      ∙ ap (λ (image : Judged). with_pieces image (drop (place + 1) pieces)) (sym (one_more ∙ refused))
      ∙ sym (add_both (Ok first) (take (place + 1) pieces) (drop (place + 1) pieces))
      ∙ ap (with_pieces (Ok first)) (take-append-drop (place + 1) pieces)

  -- No memory is left for it.
  pub no_memory : (image : Judged) → image ≡ Err Memory → IsOk (add_piece program piece.base piece.bytes.now)
      → AreAdded first pieces image
  no_memory image none some =
      steps.NoMemory (take (place + 1) pieces) (drop (place + 1) pieces) (sym (take-append-drop (place + 1) pieces))
      (front_length pieces place within) (subst IsOk (sym one_more) (next_ok _ some)) none

  pub refused : (fault : ImageFault)
      → ((fault ≡ Memory) × IsOk (add_piece program piece.base piece.bytes.now))
      ⊎ (judged_next (add_piece program piece.base piece.bytes.now) ≡ Err fault)
      → AreAdded first pieces (Err fault)
  refused fault (inl (is_memory, some)) = no_memory (Err fault) (ap Err is_memory) some
  refused fault (inr why) = steps.Adds (first_fault fault why)

-- All pieces are added.
pub added_all : (first program : Image) (pieces : List ImagePiece) (place : ℕ) → length pieces ≤ place
    → with_pieces (Ok first) (take place pieces) ≡ Ok program → Ok program ≡ with_pieces (Ok first) pieces
added_all first program pieces place past so_far =
    sym so_far ∙ ap (with_pieces (Ok first)) (take_all place pieces past)

-- Pieces that are sorted are judged in turn.
sorted_judged : (pieces : List ImagePiece) → are_sorted_from 0 pieces ≡ true
    → judged_pieces pieces ≡ judged_in_turn pieces
sorted_judged pieces sorted = rw sorted refl

-- The first piece and the others are all pieces.
parts_of : (pieces : List ImagePiece) (d : ImagePiece) → 1 ≤ length pieces
    → pieces ≡ slice_index_or pieces 0 d ∷ drop 1 pieces
parts_of [] d some = absurd (omega (arith, some))
parts_of (first ∷ others) d some = refl

-- One piece is sorted.
one_sorted : (only : ImagePiece) → are_sorted_from 0 (only ∷ []) ≡ true
one_sorted only = ap (λ (least : Bool). least && true) (leb-zero only.base)

-- It makes what it makes as an image.
pub judged_only : (pieces : List ImagePiece) (d : ImagePiece) (image : Judged) → length pieces ≡ 1
    → image ≡ judged_image (slice_index_or pieces 0 d).base (slice_index_or pieces 0 d).bytes.now
    → IsJudged pieces image
judged_only [] d image one is = absurd (omega (arith, one))
judged_only (only ∷ []) d image one is = Judges (is ∙ sym (sorted_judged (only ∷ []) (one_sorted only)))
judged_only (only ∷ other ∷ rest) d image one is = absurd (omega (arith, one))

-- The others are all that come after the first.
pub rest_of : (pieces : List ImagePiece) → take (length pieces - 1) (drop 1 pieces) ≡ drop 1 pieces
rest_of pieces =
    let left = length-drop 1 pieces in
    take_all (length pieces - 1) (drop 1 pieces) (omega (arith, left))

-- So they are judged in turn.
all_judged : (pieces : List ImagePiece) (d : ImagePiece) → are_sorted_from 0 pieces ≡ true → 1 ≤ length pieces
    → with_pieces (judged_image (slice_index_or pieces 0 d).base (slice_index_or pieces 0 d).bytes.now) (drop 1 pieces)
    ≡ judged_pieces pieces
all_judged pieces d sorted some =
    ap judged_in_turn (sym (parts_of pieces d some)) ∙ sym (sorted_judged pieces sorted)

-- What the others make with the first is what all make.
pub judged_others : (pieces : List ImagePiece) (d : ImagePiece) (program : Image) (image : Judged)
    → are_sorted_from 0 pieces ≡ true → 1 ≤ length pieces
    → Ok program ≡ judged_image (slice_index_or pieces 0 d).base (slice_index_or pieces 0 d).bytes.now
    → AreAdded program (drop 1 pieces) image → IsJudged pieces image
judged_others pieces d program image sorted some begins (steps.Adds added) =
    Judges (added ∙ ap (λ (begun : Judged). with_pieces begun (drop 1 pieces)) begins
    ∙ all_judged pieces d sorted some)
judged_others pieces d program image sorted some begins (steps.NoMemory front rest whole one ok none) =
    NoMemory sorted (slice_index_or pieces 0 d ∷ front) rest
    (parts_of pieces d some ∙ ap (λ (others : List ImagePiece). slice_index_or pieces 0 d ∷ others) whole)
    (omega (arith, one))
    (subst (λ (begun : Judged). IsOk (with_pieces begun front)) begins ok) none

-- Where the first makes no program, neither do all.
pub judged_first_fault : (pieces : List ImagePiece) (d : ImagePiece) (fault : ImageFault)
    → are_sorted_from 0 pieces ≡ true → 1 ≤ length pieces
    → Err fault ≡ judged_image (slice_index_or pieces 0 d).base (slice_index_or pieces 0 d).bytes.now
    → Err fault ≡ judged_pieces pieces
judged_first_fault pieces d fault sorted some begins =
    sym (fault_stays fault (drop 1 pieces))
    ∙ ap (λ (begun : Judged). with_pieces begun (drop 1 pieces)) begins
    ∙ all_judged pieces d sorted some

-- What is found of an image with its further pieces, from what is found of each.
use Rattle.std.proofs.Common.{◌≡◌, ◌⊎◌, ◌<◌, ◌+◌, ◌^◌, ◌∙◌, inl, inr, refl, ℕ, sym, subst, ap, List, ◌∷◌, drop, get_or, length}
use Rattle.std.proofs.Common.{Result, Ok, Err, Some}
use Rattle.std.proofs.lemmas.List.{drop_more}
use Rattle.std.specs.Result.{result_map_both}
use Rattle.rvclass.specs.Adding.{add_piece}
use Rattle.rvclass.specs.declared.piece_fault.PieceFault.{PieceFault}
use Rattle.rvclass.specs.declared.piece_fault.PieceFault.TheVariants as piece
use Rattle.rvclass.specs.Image.{Image}
use Rattle.log_streams.specs.Known.{Content, MayBegin}
use Rattle.command_inputs.proofs.FromStart.{decided, piece_from_start}
use Rattle.command_inputs.specs.Faults.{Path, piece_fault}
use Rattle.command_inputs.specs.Found.{IsRead, IsWithFile, IsWithPiece, IsWithPieces}
use Rattle.command_inputs.specs.FurtherPieces.{given_piece}
use Rattle.command_inputs.specs.declared.fault.Fault.{Fault}
use Rattle.command_inputs.specs.declared.fault.Fault.TheVariants as fault

module _ {W : Type 0} (content : Content) (image : Image) (base : ℕ) (path : Path) where
  -- A piece that is not read is not added.
  pub piece_unread : (why : Fault W) → (why ≡ fault.Memory) ⊎ IsRead content path (Err why)
      → (why ≡ fault.Memory) ⊎ IsWithFile content image base path.now (Err why)
  piece_unread why (inl denied) = inl denied
  piece_unread why (inr read) =
      inr (record { path = path; bytes = Err why; named = refl; read = read; made = refl })

  module _ (bytes : List ℕ) (begun : MayBegin (Some (2 ^ 24 + 1)) (content path.now) bytes) where
    -- What is made with the first bytes of a piece is made with it.
    with_first : (made : Result Image PieceFault) → add_piece image base bytes ≡ made
        → IsWithFile {W = W} content image base path.now (result_map_both (λ more. more) (piece_fault path) made)
    with_first made is =
        let (text, held, same) =
        decided (add_piece image base) (2 ^ 24 + 1) (piece_from_start image base) (content path.now) bytes begun in
        record {
          path = path;
          bytes = Ok text;
          named = refl;
          read = held;
          made = ap (result_map_both (λ (more : Image). more) (piece_fault {W = W} path)) (sym is ∙ same);
        }

    -- A piece that is refused is not added.
    pub piece_refused : (why : PieceFault) → (why ≡ piece.Memory) ⊎ (add_piece image base bytes ≡ Err why)
        → (piece_fault {W = W} path why ≡ fault.Memory)
        ⊎ IsWithFile {W = W} content image base path.now (Err (piece_fault path why))
    piece_refused why (inl denied) = inl (ap (piece_fault {W = W} path) denied)
    piece_refused why (inr is) = inr (with_first (Err why) is)

    -- A piece that is taken is added.
    pub piece_taken : (more : Image) → add_piece image base bytes ≡ Ok more
        → IsWithFile {W = W} content image base path.now (Ok more)
    piece_taken more is = with_first (Ok more) is

-- What is found of the image with the pieces of some arguments is found of it with those of all, where others came
-- before.
abbrev pub LeadsOn : (W : Type 0) → Content → Image → List Path → Image → List Path → Type 0
LeadsOn W content first all image rest =
    (found : Result Image (Fault W)) → IsWithPieces content image rest found → IsWithPieces content first all found

-- One more piece is added, the files being as they were.
pub one_added : {W : Type 0} (content known : Content) (first : Image) (all : List Path) (image more : Image) (i : ℕ)
    (none : Path) → i < length all → known ≡ content → LeadsOn W content first all image (drop i all)
    → IsWithPiece {W = W} known image (given_piece (get_or all i none).now) (Ok more)
    → LeadsOn W content first all more (drop (i + 1) all)
one_added {W} content known first all image more i none within kept leads added =
    let argument = get_or all i none in
    let on : LeadsOn W content first all image (argument ∷ drop (i + 1) all)
    = subst (LeadsOn W content first all image) (drop_more all i none within) leads in
    λ found is. on found (
      Ok more,
      subst (λ known. IsWithPiece {W = W} known image (given_piece argument.now) (Ok more)) kept added,
      is,
    )

-- A program to which a piece was added, or that was left as it was.
use Rattle.std.proofs.Common.{◌≡◌, ℕ, List, Result, Ok, Err, IfOk, IfErr, sym, subst}
use Rattle.rvclass.proofs.AddedPieceLemmas.{added_memory}
use Rattle.rvclass.specs.Adding.{add_piece}
use Rattle.rvclass.specs.declared.piece_fault.PieceFault.{PieceFault}
use Rattle.rvclass.specs.Image.{Image, IsImage}

pub still_image : (m n : Image) (base : ℕ) (bytes : List ℕ) (r : Result (Unit {0}) PieceFault) → IsImage m
    → IfOk r (λ _. add_piece m base bytes ≡ Ok n) → IfErr r (λ _. n ≡ m) → IsImage n
still_image m n base bytes (Ok _) image added same = added_memory m base bytes n image added
still_image m n base bytes (Err fault) image added same = subst IsImage (sym same) image

-- An input that is refused for its size needs no more than one byte past the limit: what is found of its first bytes is
-- found of all of them.
use Rattle.std.specs.Prelude.{◌≡◌, ◌⊎◌, ◌≤◌, ◌<◌, ◌+◌, ◌%◌, ◌^◌, ◌==◌, ℕ, List, length, take, Bool, Err, Some, true, not, if◌then◌else◌}
use Rattle.std.specs.Prelude.{nat_lt}
use Rattle.std.proofs.Common.{◌∙◌, inl, inr, refl, sym, ap, arith}
use Rattle.std.proofs.lemmas.Bool.{cases_lt, lt-ltb}
use Rattle.std.proofs.lemmas.List.{length-take-le, take_all}
use Rattle.log_streams.specs.Known.{Absent, Known, MayBegin, MayHold, Present, Unknown}
use Rattle.rvclass.specs.Adding.{add_piece}
use Rattle.rvclass.specs.Memory.{Memory}
use Rattle.rvclass.specs.Program.{program_of}
use Rattle.rvclass.specs.declared.fault.ProgramFault.TheVariants as program
use Rattle.rvclass.specs.declared.piece_fault.PieceFault.TheVariants as piece

-- What is found of the first bytes of a file is found of all of them, if it is the same of any bytes and of their first.
pub decided : {R : Type 0} (found : List ℕ → R) (most : ℕ) → ((text : List ℕ) → found (take most text) ≡ found text)
    → (file : Known) (bytes : List ℕ) → MayBegin (Some most) file bytes
    → (text : List ℕ) × MayHold file text × (found bytes ≡ found text)
decided found most same Unknown bytes begun = (bytes, tt, refl)
decided found most same Absent bytes begun = absurd begun
decided found most same (Present text) bytes begun = (text, refl, ap found begun ∙ same text)

-- What is refused for its size is found of any bytes as of their first, one more than the most.
pub sized : {R : Type 0} (found : List ℕ → R) (refused : R) (most : ℕ)
    → ((bytes : List ℕ) → nat_lt most (length bytes) ≡ true → found bytes ≡ refused)
    → (text : List ℕ) → found (take (most + 1) text) ≡ found text
sized found refused most large text = by_size (cases_lt most (length text)) where
  by_size : (most < length text) ⊎ (length text ≤ most) → found (take (most + 1) text) ≡ found text
  by_size (inr small) = ap found (take_all (most + 1) text (omega (arith, small)))
  by_size (inl more) =
      let cut : length (take (most + 1) text) ≡ most + 1 = length-take-le (most + 1) text (omega (arith, more)) in
      large (take (most + 1) text) (lt-ltb most (length (take (most + 1) text)) (omega (arith, cut)))
      ∙ sym (large text (lt-ltb most (length text) more))

-- A test that holds decides behind another.
pub second : {X : Type 0} (first test : Bool) (one two three : X) → test ≡ true
    → (if first then one else if test then two else three) ≡ (if first then one else two)
second first test one two three is = ap (λ test. if first then one else if test then two else three) is

-- The program of an image's bytes is that of its first, one more than an image may have.
pub program_from_start : (base : ℕ) (text : List ℕ)
    → program_of base (take (2 ^ 24 + 1) text) ≡ program_of base text
program_from_start base =
    sized (program_of base) (if not (base % 2 == 0) then Err program.OddBase else Err program.TooLarge) (2 ^ 24)
    (λ bytes. second (not (base % 2 == 0)) (nat_lt (2 ^ 24) (length bytes)) (Err program.OddBase)
    (Err program.TooLarge) _)

-- A memory with a piece's bytes is that with its first, one more than a piece may have.
pub piece_from_start : (memory : Memory) (base : ℕ) (text : List ℕ)
    → add_piece memory base (take (2 ^ 24 + 1) text) ≡ add_piece memory base text
piece_from_start memory base =
    sized (add_piece memory base) (if not (base % 2 == 0) then Err piece.OddBase else Err piece.TooLarge) (2 ^ 24)
    (λ bytes. second (not (base % 2 == 0)) (nat_lt (2 ^ 24) (length bytes)) (Err piece.OddBase)
    (Err piece.TooLarge) _)

-- The rows of messages and of runs of bytes, one after the other.
use Rattle.std.proofs.Common.{◌≡◌, ℕ, ◌+◌, ◌<◌, ◌≤◌, List, [], ◌++◌, Option, Result, Ok, Err, length, get_or, drop, take}
use Rattle.std.proofs.Common.{true, ap, append-nil, arith, sym, subst}
use Rattle.std.proofs.lemmas.Bool.{le-ltb}
use Rattle.std.proofs.lemmas.List.{drop_all, drop_more}
use Rattle.std.specs.Io.KnownBytes.{Appends}
use Rattle.std.specs.List.{flat_map}
use Rattle.std.specs.Prelude.{OnOk, nat_lt, not}
use Rattle.output.specs.Begun.{AppendsBeginning}
use Rattle.command_inputs.specs.declared.words.Format.{Format}
use Rattle.auditing.specs.declared.arrival_line.Line.{Line}
use Rattle.output.proofs.FieldParts.{HasWritten, part_all, part_begun, part_more}
use Rattle.path_commands.specs.MatchedRows.{arrival_row, arrival_rows, count_before}
use Rattle.path_commands.specs.Rows.{bytes_row}
use Rattle.path_commands.specs.UnnumberedText.{place_of}
use Rattle.path_commands.specs.declared.reading.ByteRun.{ByteRun}

-- The line of a message from a place on is not before it.
pub not_before : (place found : ℕ) (one : Line) → found ≡ place_of one → place ≤ found
    → not (nat_lt (place_of one) place) ≡ true
not_before place found one is from = ap not (le-ltb (place_of one) place (omega (arith, is, from)))

-- The rows of the runs so far and of the messages before them are written.
module _ (format : Format) (runs : List ByteRun) (lines left : List Line) (at : ℕ) (old mid : Option (List ℕ))
    (has : HasWritten (arrival_rows format runs lines) (arrival_rows format (drop at runs) left) old mid)
    (run : ByteRun) (within : at < length runs) (count : ℕ)
    (count_is : count ≡ count_before (get_or runs at run).place left) where
  abbrev its : ByteRun
  its = get_or runs at run

  abbrev whole : List ℕ
  whole = arrival_rows format runs lines

  abbrev front : List ℕ
  front = flat_map (arrival_row format) (take count left)

  abbrev behind : List ℕ
  behind = arrival_rows format (drop (at + 1) runs) (drop count left)

  next : HasWritten whole (front ++ (bytes_row format its.offset its.count ++ behind)) old mid
  next =
      subst
      (λ n. HasWritten whole (flat_map (arrival_row format) (take n left)
      ++ (bytes_row format its.offset its.count ++ arrival_rows format (drop (at + 1) runs) (drop n left))) old mid)
      (sym count_is)
      (subst (λ l. HasWritten whole (arrival_rows format l left) old mid) (drop_more runs at run within) has)

  pub lines_begun : (new : Option (List ℕ)) → AppendsBeginning front mid new → AppendsBeginning whole old new
  lines_begun new begun =
      part_begun whole front (bytes_row format its.offset its.count ++ behind) old mid new next begun

  module _ (new : Option (List ℕ)) (first : Appends mid new front) where
    behind_lines : HasWritten whole (bytes_row format its.offset its.count ++ behind) old new
    behind_lines = part_more whole front (bytes_row format its.offset its.count ++ behind) old mid new next first

    pub run_begun : (last : Option (List ℕ)) → AppendsBeginning (bytes_row format its.offset its.count) new last
        → AppendsBeginning whole old last
    run_begun last begun =
        part_begun whole (bytes_row format its.offset its.count) behind old new last behind_lines begun

    pub rows_more : (last : Option (List ℕ)) → Appends new last (bytes_row format its.offset its.count)
        → HasWritten whole behind old last
    rows_more last more =
        part_more whole (bytes_row format its.offset its.count) behind old new last behind_lines more

-- Only the rows of messages are left.
module _ (format : Format) (runs : List ByteRun) (lines left : List Line) (at : ℕ) (old mid : Option (List ℕ))
    (past : length runs ≤ at)
    (has : HasWritten (arrival_rows format runs lines) (arrival_rows format (drop at runs) left) old mid) where
  abbrev all : List ℕ
  all = arrival_rows format runs lines

  last : HasWritten all (flat_map (arrival_row format) left ++ []) old mid
  last =
      subst (λ l. HasWritten all l old mid) (sym (append-nil (flat_map (arrival_row format) left)))
      (subst (λ l. HasWritten all (arrival_rows format l left) old mid) (drop_all at runs past) has)

  pub then_begun : (new : Option (List ℕ)) → AppendsBeginning (flat_map (arrival_row format) left) mid new
      → AppendsBeginning all old new
  then_begun new begun = part_begun all (flat_map (arrival_row format) left) [] old mid new last begun

  pub then_all : (new : Option (List ℕ)) {T E : Type 0} (r : Result T E)
      → OnOk r (Appends mid new (flat_map (arrival_row format) left)) → OnOk r (Appends old new all)
  then_all new (Ok x) more =
      part_all all old new (part_more all (flat_map (arrival_row format) left) [] old mid new last more)
  then_all new (Err e) more = tt

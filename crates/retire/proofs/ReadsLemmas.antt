-- Rows that are read one after the other.
use Rattle.std.proofs.Common.{◌≡◌, ◌≤◌, ◌<◌, ◌+◌, ◌++◌, ◌∙◌, Bool, ℕ, List, [], ◌∷◌, Ok, Err, arith}
use Rattle.std.proofs.Common.{refl, sym, ap, length, append_assoc, append-nil, true, inl}
use Rattle.std.proofs.lemmas.List.{length-append}
use Rattle.retire.specs.Log.{events_up_to, is_header, log_up_to, too_many}
use Rattle.retire.specs.Row.{row_event}
use Rattle.retire.specs.steps.PlainRow.{HasRecord}
use Rattle.retire.specs.steps.ReadsRows.{HasFault, ReadsFront, ReadsRows}
use Rattle.retire.specs.steps.RowsLeft.{records_left, with_events}
use Rattle.csv.specs.Reading.{strip_bom}
use Rattle.csv.specs.declared.parser.State.TheVariants.{StartRecord}
use Rattle.retire.proofs.PlainLemmas.{left-end, left-within}
use Rattle.retire.specs.declared.event.Event.{Event}
use Rattle.retire.specs.declared.fault.LogFault.{LogFault}
use Rattle.retire.proofs.EventsLemmas.{events-event, events-fault, events-too_many, with_events-end, with_events-err}
use Rattle.retire.proofs.EventsLemmas.{with_events-none, with_events-with_events}

module _ (most rows : ℕ) (records : List (List (List ℕ))) (before : List Event) where
  pub reads-none : ReadsRows most rows records before before rows records
  reads-none = record {
    piece = [];
    appended = sym (append-nil before);
    counted = omega arith;
    read = sym (with_events-none (events_up_to most (rows + 1) records));
  }

  pub reads-more : (after after2 : List Event) (count : ℕ) (fields : List (List ℕ)) (left rest : List (List (List ℕ)))
      (event : Event) → ReadsRows most rows records before after count left → left ≡ fields ∷ rest
      → count < most → row_event (count + 1) fields ≡ Ok event → after2 ≡ after ++ event ∷ []
      → ReadsRows most rows records before after2 (count + 1) rest
  reads-more after after2 count fields left rest event r is few known more = record {
    piece = r.piece ++ event ∷ [];
    appended = more ∙ ap (λ t. t ++ event ∷ []) r.appended ∙ append_assoc before r.piece (event ∷ []);
    counted =
        let n : length (r.piece ++ event ∷ []) ≡ length r.piece + 1 = length-append r.piece (event ∷ []) in
        let c = r.counted in
        omega (arith, n, c);
    read =
        r.read ∙ ap (λ t. with_events r.piece (events_up_to most (count + 1) t)) is
        ∙ ap (with_events r.piece) (events-event most (count + 1) fields rest event (omega arith) known)
        ∙ with_events-with_events r.piece (event ∷ []) _;
  }

  pub reads-fault : (after : List Event) (count : ℕ) (fields : List (List ℕ)) (left rest : List (List (List ℕ)))
      (why : LogFault) → ReadsRows most rows records before after count left → left ≡ fields ∷ rest → count < most
      → row_event (count + 1) fields ≡ Err why → events_up_to most (rows + 1) records ≡ Err why
  reads-fault after count fields left rest why r is few known =
      r.read ∙ ap (λ t. with_events r.piece (events_up_to most (count + 1) t)) is
      ∙ with_events-err r.piece _ why (events-fault most (count + 1) fields rest why (omega arith) known)

  pub reads-too_many : (after : List Event) (count : ℕ) (fields : List (List ℕ)) (left rest : List (List (List ℕ)))
      → ReadsRows most rows records before after count left → left ≡ fields ∷ rest → most ≤ count
      → events_up_to most (rows + 1) records ≡ Err (too_many most)
  reads-too_many after count fields left rest r is past =
      r.read ∙ ap (λ t. with_events r.piece (events_up_to most (count + 1) t)) is
      ∙ with_events-err r.piece _ (too_many most) (events-too_many most (count + 1) fields rest (omega arith))

  -- All rows were read.
  pub reads-all : (after : List Event) (count : ℕ) → (r : ReadsRows most rows records before after count [])
      → events_up_to most (rows + 1) records ≡ Ok r.piece
  reads-all after count r = r.read ∙ with_events-end r.piece most (count + 1)

-- Rows that are read from the front of a text, whatever follows it.
module _ (most rows : ℕ) (ended : Bool) (text : List ℕ) (before : List Event) where
  pub front-none : ReadsFront most rows ended text before before rows text
  front-none = record {
    piece = [];
    appended = sym (append-nil before);
    counted = omega arith;
    read = λ more follows. sym (with_events-none (events_up_to most (rows + 1) (records_left StartRecord
        (text ++ more))));
  }

  pub front-more : (after after2 : List Event) (count : ℕ) (fields : List (List ℕ)) (left rest : List ℕ)
      (event : Event) → ReadsFront most rows ended text before after count left → HasRecord ended left fields rest
      → count < most → row_event (count + 1) fields ≡ Ok event → after2 ≡ after ++ event ∷ []
      → ReadsFront most rows ended text before after2 (count + 1) rest
  front-more after after2 count fields left rest event r is few known more = record {
    piece = r.piece ++ event ∷ [];
    appended = more ∙ ap (λ t. t ++ event ∷ []) r.appended ∙ append_assoc before r.piece (event ∷ []);
    counted =
        let n : length (r.piece ++ event ∷ []) ≡ length r.piece + 1 = length-append r.piece (event ∷ []) in
        let c = r.counted in
        omega (arith, n, c);
    read = λ bytes follows. r.read bytes follows
        ∙ ap (λ t. with_events r.piece (events_up_to most (count + 1) t)) (is bytes follows)
        ∙ ap (with_events r.piece)
        (events-event most (count + 1) fields (records_left StartRecord (rest ++ bytes)) event (omega arith) known)
        ∙ with_events-with_events r.piece (event ∷ []) _;
  }

-- An empty line in front is no record, and no byte order mark stands behind it.
feed-strip : (text : List ℕ) → strip_bom (10 ∷ text) ≡ 10 ∷ text
unfolding strip_bom
feed-strip [] = refl
feed-strip (b ∷ []) = refl
feed-strip (b ∷ c ∷ text) = refl

pub feed-records : (text : List ℕ)
    → records_left StartRecord (strip_bom (10 ∷ text)) ≡ records_left StartRecord text
feed-records text =
    ap (records_left StartRecord) (feed-strip text) ∙ left-within StartRecord (10 ∷ text) (inl refl)
    ∙ left-end 10 text StartRecord (inl refl) refl ∙ sym (left-within StartRecord text (inl refl))

-- A log whose first record is no header, or whose rows have a fault.
pub first-fault : (most : ℕ) (records rows : List (List (List ℕ))) (first : List (List ℕ)) (why : LogFault)
    → records ≡ first ∷ rows → log_up_to most (first ∷ rows) ≡ Err why → HasFault most records why
first-fault most [] rows first why is e = cc is
first-fault most (x ∷ records) rows first why is e = ap (log_up_to most) is ∙ e

pub rows-fault : (most : ℕ) (records rows : List (List (List ℕ))) (first : List (List ℕ)) (why : LogFault)
    → records ≡ first ∷ rows → is_header first ≡ true → events_up_to most 1 rows ≡ Err why
    → HasFault most records why
rows-fault most records rows first why is header e = first-fault most records rows first why is (rw header e)

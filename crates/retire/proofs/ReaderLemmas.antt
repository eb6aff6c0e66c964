-- How far a reader has read a log, one step further.
use Rattle.std.proofs.Common.{◌≡◌, ◌⊎◌, ◌≤◌, ◌+◌, ◌++◌, ◌∙◌, true, ℕ, List, [], Option, Some, None}
use Rattle.std.proofs.Common.{Result, Ok, Err}
use Rattle.std.proofs.Common.{IfSome, OnOk, Vec, Global, take, drop, length, min, subst, sym, ap, inl, inr}
use Rattle.std.proofs.Common.{append-nil, arith}
use Rattle.std.proofs.Math.Nat.{min-eq_left}
use Rattle.std.proofs.lemmas.List.{length-append, nil_from_length}
use Rattle.std.specs.Io.KnownBytes.{IsAtEnd}
use Rattle.csv.specs.Reading.{strip_bom}
use Rattle.csv.specs.declared.parser.State.TheVariants.{StartRecord}
use Rattle.retire.specs.HasRead.{GoesOn, HasFailed, HasRead}
use Rattle.retire.specs.Log.{events_up_to, log_up_to, records_of}
use Rattle.retire.specs.steps.Header.{HasHeader}
use Rattle.retire.specs.steps.ReadsRows.{HasFault, ReadsBeginning, ReadsFirst, ReadsFront, ReadsRows}
use Rattle.retire.specs.steps.RowsLeft.{records_left}
use Rattle.retire.specs.steps.Stands.{IsFault, Stands}
use Rattle.retire.specs.declared.event.Event.{Event}
use Rattle.retire.specs.declared.fault.LogFault.{LogFault}
use Rattle.retire.specs.declared.fault.LogFault.TheVariants as fault
use Rattle.retire.specs.declared.log_reader.LogReader.{LogReader}
use Rattle.retire.specs.declared.log_reader.Stage.{Stage}
use Rattle.retire.specs.declared.log_reader.Stage.TheVariants as stage
use Rattle.retire.proofs.StandsLemmas.{Splits, first-failed, header-missing, rows-ended, rows-failed, stands-begun}
use Rattle.retire.proofs.StandsLemmas.{stands-first, stands-front, stands-header, stands-passed}
use Rattle.retire.proofs.StandsLemmas.{stands-rows}

module _ {S : Type 0} (given : S → List ℕ) (left : S → Option (List ℕ)) (most : ℕ) (seen : List Event)
    (reader : LogReader S) where
  -- The stage is known.
  abbrev StandsAt : Stage → Type 0
  StandsAt s = Stands most (given reader.source) seen reader.is_ended s reader.rows reader.held.items

  stands-at : (s : Stage) → HasRead given left most seen reader → reader.stage ≡ s → StandsAt s
  stands-at s h at = subst StandsAt at h.stands

  failed : (why : LogFault) → HasRead given left most seen reader
      → IsFault most (given reader.source) reader.is_ended why
      → HasFailed given left most reader why
  failed why h f = record { limit = h.limit; room = h.room; ended = h.ended; fault = f }

  pub has-begun : (held2 spare2 : Vec ℕ Global) → HasRead given left most seen reader → reader.stage ≡ stage.Start
      → (reader.is_ended ≡ true) ⊎ (3 ≤ length reader.held.items) → held2.items ≡ strip_bom reader.held.items
      → HasRead given left most seen (record reader { held = held2; spare = spare2; stage = stage.Header })
  has-begun held2 spare2 h at known is = record {
    limit = h.limit;
    room = h.room;
    ended = h.ended;
    few = h.few;
    stands =
        stands-begun most (given reader.source) seen reader.is_ended reader.rows reader.held.items held2.items
        (stands-at stage.Start h at) known is;
  }

  -- The bytes that are held are cut.
  abbrev pub IsCut : ℕ → Type 0
  IsCut cut = Splits reader.is_ended reader.held.items (take cut reader.held.items) (drop cut reader.held.items)

  pub header-failed : (cut : ℕ) (piece : List ℕ) (why : LogFault) → HasRead given left most seen reader
      → reader.stage ≡ stage.Header → IsCut cut → piece ≡ take cut reader.held.items
      → (why ≡ fault.Memory) ⊎ HasFault reader.most (records_left StartRecord piece) why
      → HasFailed given left most reader why
  header-failed cut piece why h at splits is (inl denied) = failed why h (inl (inr denied))
  header-failed cut piece why h at splits is (inr e) =
      failed why h (first-failed most (given reader.source) seen reader.is_ended reader.rows reader.held.items
      (take cut reader.held.items) (drop cut reader.held.items) why (stands-at stage.Header h at) splits
      (subst (λ m. HasFault m (records_left StartRecord (take cut reader.held.items)) why) h.limit
      (subst (λ t. HasFault reader.most (records_left StartRecord t) why) is e)))

  pub header-passed : (cut : ℕ) (piece : List ℕ) (before after : List Event) (held2 spare2 : Vec ℕ Global)
      (dropped : Result (Unit {0}) LogFault) (found : Option ℕ) → HasRead given left most seen reader
      → reader.stage ≡ stage.Header → IsCut cut → piece ≡ take cut reader.held.items → found ≡ None
      → ReadsBeginning reader.most (records_left StartRecord piece) before after found
      → OnOk dropped (held2.items ≡ drop cut reader.held.items)
      → OnOk dropped
      (GoesOn given left most seen before after (record reader { held = held2; spare = spare2 }))
  header-passed cut piece before after held2 spare2 (Err why) found h at splits is e r rest = tt
  header-passed cut piece before after held2 spare2 (Ok u) (Some count) h at splits is e r rest = cc e
  header-passed cut piece before after held2 spare2 (Ok u) None h at splits is e (none, same) rest = record {
    piece = [];
    appended = same ∙ sym (append-nil before);
    read = subst (λ events. HasRead given left most events (record reader { held = held2; spare = spare2 }))
        (sym (append-nil seen)) (record {
          limit = h.limit;
          room = h.room;
          ended = h.ended;
          few = h.few;
          stands = subst
              (λ s. Stands most (given reader.source) seen reader.is_ended s reader.rows held2.items) (sym at)
              (subst (λ t. Stands most (given reader.source) seen reader.is_ended stage.Header reader.rows t) (sym rest)
              (stands-passed most (given reader.source) seen reader.is_ended reader.rows reader.held.items
              (take cut reader.held.items) (drop cut reader.held.items) (stands-at stage.Header h at) splits
              (ap (records_left StartRecord) (sym is) ∙ none)));
        });
  }

  pub header-goes : (cut count : ℕ) (piece : List ℕ) (before after : List Event) (held2 spare2 : Vec ℕ Global)
      (dropped : Result (Unit {0}) LogFault) (found : Option ℕ) → HasRead given left most seen reader
      → reader.stage ≡ stage.Header → IsCut cut → piece ≡ take cut reader.held.items → found ≡ Some count
      → ReadsBeginning reader.most (records_left StartRecord piece) before after found
      → IfSome found (λ n. n ≤ reader.most)
      → OnOk dropped (held2.items ≡ drop cut reader.held.items)
      → OnOk dropped (GoesOn given left most seen before after
      (record reader { held = held2; spare = spare2; rows = count; stage = stage.Rows }))
  header-goes cut count piece before after held2 spare2 (Err why) found h at splits is e begins all_few rest = tt
  header-goes cut count piece before after held2 spare2 (Ok u) found h at splits is e begins all_few rest =
      let r = subst (ReadsBeginning reader.most (records_left StartRecord piece) before after) e begins in
      let few = subst (λ f. IfSome f (λ n. n ≤ reader.most)) e all_few in
      let first : ReadsFirst most (records_left StartRecord (take cut reader.held.items)) before after count =
      subst (λ m. ReadsFirst m (records_left StartRecord (take cut reader.held.items)) before after count) h.limit
      (subst (λ t. ReadsFirst reader.most (records_left StartRecord t) before after count) is r) in
      let within : count ≤ most = subst (λ m. count ≤ m) h.limit few in
      let stands =
      stands-first most (given reader.source) seen reader.is_ended reader.rows reader.held.items
      (take cut reader.held.items) (drop cut reader.held.items) before after count (stands-at stage.Header h at) splits
      first within in
      record {
        piece = first.read.piece;
        appended = first.read.appended;
        read = record {
          limit = h.limit;
          room = h.room;
          ended = h.ended;
          few = subst (λ n. n ≤ most) stands.0 within;
          stands = subst
              (λ t. Stands most (given reader.source) (seen ++ first.read.piece) reader.is_ended stage.Rows count t)
              (sym rest) stands;
        };
      }

  -- The header's line was read.
  pub names-read : (rest : List ℕ) (held2 spare2 : Vec ℕ Global) → HasRead given left most seen reader
      → reader.stage ≡ stage.Header → HasHeader reader.is_ended reader.held.items rest → held2.items ≡ rest
      → HasRead given left most seen (record reader { held = held2; spare = spare2; stage = stage.Rows })
  names-read rest held2 spare2 h at header is = record {
    limit = h.limit;
    room = h.room;
    ended = h.ended;
    few = h.few;
    stands =
        subst (Stands most (given reader.source) seen reader.is_ended stage.Rows reader.rows) (sym is)
        (stands-header most (given reader.source) seen reader.is_ended reader.rows reader.held.items rest
        (stands-at stage.Header h at) header);
  }

  -- How many rows there are, where they are no more than there may be.
  low-rows : (n : ℕ) → HasRead given left most seen reader → reader.stage ≡ stage.Rows → n ≡ min reader.rows reader.most
      → n ≡ reader.rows
  low-rows n h at low =
      let stands = stands-at stage.Rows h at in
      low ∙ ap (min reader.rows) h.limit ∙ min-eq_left stands.1

  pub rows-failing : (cut n : ℕ) (piece : List ℕ) (why : LogFault) → HasRead given left most seen reader
      → reader.stage ≡ stage.Rows → IsCut cut → piece ≡ take cut reader.held.items → n ≡ min reader.rows reader.most
      → (why ≡ fault.Memory) ⊎ (events_up_to reader.most (n + 1) (records_left StartRecord piece) ≡ Err why)
      → HasFailed given left most reader why
  rows-failing cut n piece why h at splits is low (inl denied) = failed why h (inl (inr denied))
  rows-failing cut n piece why h at splits is low (inr e) =
      failed why h (rows-failed most (given reader.source) seen reader.is_ended reader.rows reader.held.items
      (take cut reader.held.items) (drop cut reader.held.items) why (stands-at stage.Rows h at) splits
      (ap (λ m. events_up_to m (reader.rows + 1) (records_left StartRecord (take cut reader.held.items))) (sym h.limit)
      ∙ ap (λ k. events_up_to reader.most (k + 1) (records_left StartRecord (take cut reader.held.items)))
      (sym (low-rows n h at low))
      ∙ ap (λ t. events_up_to reader.most (n + 1) (records_left StartRecord t)) (sym is) ∙ e))

  pub rows-go : (cut n count : ℕ) (piece : List ℕ) (before after : List Event) (held2 spare2 : Vec ℕ Global)
      (dropped : Result (Unit {0}) LogFault) → HasRead given left most seen reader → reader.stage ≡ stage.Rows
      → IsCut cut → piece ≡ take cut reader.held.items → n ≡ min reader.rows reader.most
      → ReadsRows reader.most n (records_left StartRecord piece) before after count [] → count ≤ reader.most
      → OnOk dropped (held2.items ≡ drop cut reader.held.items)
      → OnOk dropped
      (GoesOn given left most seen before after (record reader { held = held2; spare = spare2; rows = count }))
  rows-go cut n count piece before after held2 spare2 (Err why) h at splits is low r few rest = tt
  rows-go cut n count piece before after held2 spare2 (Ok u) h at splits is low r few rest =
      let read : ReadsRows most reader.rows (records_left StartRecord
      (take cut reader.held.items)) before after count [] =
      subst (λ m. ReadsRows m reader.rows (records_left StartRecord (take cut reader.held.items)) before after count [])
      h.limit
      (subst (λ k. ReadsRows reader.most k (records_left StartRecord
      (take cut reader.held.items)) before after count [])
      (low-rows n h at low)
      (subst (λ t. ReadsRows reader.most n (records_left StartRecord t) before after count []) is r)) in
      let within : count ≤ most = subst (λ m. count ≤ m) h.limit few in
      let stands =
      stands-rows most (given reader.source) seen reader.is_ended reader.rows reader.held.items
      (take cut reader.held.items) (drop cut reader.held.items) before after count (stands-at stage.Rows h at) splits
      read within in
      record {
        piece = read.piece;
        appended = read.appended;
        read = record {
          limit = h.limit;
          room = h.room;
          ended = h.ended;
          few = subst (λ n. n ≤ most) stands.0 within;
          stands = subst
              (λ s. Stands most (given reader.source) (seen ++ read.piece) reader.is_ended s count held2.items) (sym at)
              (subst
              (λ t. Stands most (given reader.source) (seen ++ read.piece) reader.is_ended stage.Rows count t)
              (sym rest) stands);
        };
      }

  -- Rows at the front of what is held were read.
  pub front-read : (n count : ℕ) (rest : List ℕ) (before after : List Event) (held2 spare2 : Vec ℕ Global)
      → HasRead given left most seen reader → reader.stage ≡ stage.Rows → n ≡ min reader.rows reader.most
      → ReadsFront reader.most n reader.is_ended reader.held.items before after count rest → count ≤ reader.most
      → held2.items ≡ rest
      → GoesOn given left most seen before after (record reader { held = held2; spare = spare2; rows = count })
  front-read n count rest before after held2 spare2 h at low r few is =
      let read : ReadsFront most reader.rows reader.is_ended reader.held.items before after count rest =
      subst (λ m. ReadsFront m reader.rows reader.is_ended reader.held.items before after count rest) h.limit
      (subst (λ k. ReadsFront reader.most k reader.is_ended reader.held.items before after count rest)
      (low-rows n h at low) r) in
      let within : count ≤ most = subst (λ m. count ≤ m) h.limit few in
      let stands =
      stands-front most (given reader.source) seen reader.is_ended reader.rows reader.held.items rest before after count
      (stands-at stage.Rows h at) read within in
      record {
        piece = read.piece;
        appended = read.appended;
        read = record {
          limit = h.limit;
          room = h.room;
          ended = h.ended;
          few = subst (λ n. n ≤ most) stands.0 within;
          stands = subst
              (λ s. Stands most (given reader.source) (seen ++ read.piece) reader.is_ended s count held2.items) (sym at)
              (subst (Stands most (given reader.source) (seen ++ read.piece) reader.is_ended stage.Rows count) (sym is)
              stands);
        };
      }

  -- The source has no more, and nothing is held.
  pub header-ends : HasRead given left most seen reader → reader.stage ≡ stage.Header → reader.is_ended ≡ true
      → length reader.held.items ≡ 0 → HasFailed given left most reader fault.Header
  header-ends h at ended empty =
      failed fault.Header h
      (header-missing most (given reader.source) seen reader.is_ended reader.rows reader.held.items
      (stands-at stage.Header h at) ended empty)

  pub rows-end : HasRead given left most seen reader → reader.stage ≡ stage.Rows → reader.is_ended ≡ true
      → length reader.held.items ≡ 0
      → IsAtEnd (left reader.source) × (log_up_to most (records_of (given reader.source)) ≡ Ok seen)
  rows-end h at ended empty = (
    h.ended ended,
    rows-ended most (given reader.source) seen reader.is_ended reader.rows reader.held.items
        (stands-at stage.Rows h at) ended empty,
  )

  -- A turn with no event more.
  pub goes-still : (before after : List Event) → GoesOn given left most seen before after reader
      → length after ≤ length before → HasRead given left most seen reader × (after ≡ before)
  goes-still before after g few =
      let n = ap length g.appended in
      let m = length-append before g.piece in
      let none : g.piece ≡ [] = nil_from_length g.piece (omega (arith, n, m, few)) in (
        subst (λ events. HasRead given left most events reader)
            (ap (λ t. seen ++ t) none ∙ append-nil seen) g.read,
        g.appended ∙ ap (λ t. before ++ t) none ∙ append-nil before,
      )

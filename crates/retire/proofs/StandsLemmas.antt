-- How far a log is read, one step further.
use Rattle.std.proofs.Common.{◌≡◌, ◌⊎◌, ◌≤◌, ◌<◌, ◌+◌, ◌++◌, ◌∙◌, Bool, true, false, ℕ, List, [], ◌∷◌, Option, Ok}
use Rattle.std.proofs.Common.{Err, take}
use Rattle.std.proofs.Common.{drop, get_or, length, arith, refl, sym, ap, inl, inr, append_assoc, append-nil}
use Rattle.std.proofs.lemmas.Bool.{cases_Bool}
use Rattle.std.proofs.lemmas.List.{drop_all, length-append, take-append-drop, take_all}
use Rattle.std.specs.Io.KnownBytes.{IsAtEnd}
use Rattle.csv.specs.Reading.{is_bom, strip_bom}
use Rattle.csv.specs.declared.parser.State.TheVariants.{StartRecord}
use Rattle.retire.specs.HasRead.{IsFirstFault}
use Rattle.retire.specs.Log.{IsReadOrMemory, events_up_to, log_up_to, records_of}
use Rattle.retire.specs.steps.Place.{place_after}
use Rattle.retire.specs.steps.Header.{HasHeader}
use Rattle.retire.specs.steps.ReadsRows.{HasFault, ReadsFirst, ReadsFront, ReadsRows}
use Rattle.retire.specs.steps.RowsLeft.{MayFollow, records_left, with_events}
use Rattle.retire.specs.steps.Stands.{IsFault, Stands}
use Rattle.retire.specs.declared.boundary.Place.TheVariants as place
use Rattle.retire.specs.declared.event.Event.{Event}
use Rattle.retire.specs.declared.fault.LogFault.{LogFault}
use Rattle.retire.specs.declared.fault.LogFault.TheVariants as fault
use Rattle.retire.specs.declared.log_reader.Stage.TheVariants as stage
use Rattle.retire.proofs.BoundaryLemmas.{left-none, left-split}
use Rattle.retire.proofs.EventsLemmas.{events-join, events-join_fault, log-join, log-join_fault, with_events-end}
use Rattle.retire.proofs.EventsLemmas.{with_events-err, with_events-none, with_events-with_events}
use Rattle.retire.proofs.PlainRowLemmas.{header-record}
use Rattle.retire.proofs.ReadsLemmas.{reads-all}

-- A byte order mark is dropped where it is known whether there is one.
strip-more : (held more : List ℕ) → (more ≡ []) ⊎ (3 ≤ length held) → strip_bom (held ++ more) ≡ strip_bom held ++ more
unfolding strip_bom
strip-more held more (inl e) = rw (e, append-nil held, append-nil (strip_bom held)) refl
strip-more [] more (inr n) = absurd (omega (arith, n))
strip-more (a ∷ []) more (inr n) = absurd (omega (arith, n))
strip-more (a ∷ b ∷ []) more (inr n) = absurd (omega (arith, n))
strip-more (a ∷ b ∷ c ∷ rest) more (inr n) =
    elim (cases_Bool (is_bom a b c)) [ inl y ↦ rw y refl | inr m ↦ rw m refl ]

pub stands-begun : (most : ℕ) (given : List ℕ) (seen : List Event) (ended : Bool) (rows : ℕ) (held rest : List ℕ)
    → Stands most given seen ended stage.Start rows held → (ended ≡ true) ⊎ (3 ≤ length held) → rest ≡ strip_bom held
    → Stands most given seen ended stage.Header rows rest
stands-begun most given seen ended rows held rest (none, zero, same) known is = (
  none,
  zero,
  λ more follows. ap (λ t. log_up_to most (records_of (t ++ more))) same
      ∙ ap (λ t. log_up_to most (records_left StartRecord t)) (strip-more held more (elim known [
        | inl end ↦ inl (follows end)
        | inr long ↦ inr long
      ]))
      ∙ ap (λ t. log_up_to most (records_left StartRecord (t ++ more))) (sym is),
)

-- The byte order mark of a text.
pub strip-short : (text : List ℕ) → length text < 3 → text ≡ strip_bom text
unfolding strip_bom
strip-short [] n = refl
strip-short (a ∷ []) n = refl
strip-short (a ∷ b ∷ []) n = refl
strip-short (a ∷ b ∷ c ∷ rest) n = absurd (omega (arith, n))

pub strip-marked : (text : List ℕ) → 3 ≤ length text
    → is_bom (get_or text 0 0) (get_or text 1 0) (get_or text 2 0) ≡ true → drop 3 text ≡ strip_bom text
unfolding strip_bom
strip-marked [] n y = absurd (omega (arith, n))
strip-marked (a ∷ []) n y = absurd (omega (arith, n))
strip-marked (a ∷ b ∷ []) n y = absurd (omega (arith, n))
strip-marked (a ∷ b ∷ c ∷ rest) n y = let mark : is_bom a b c ≡ true = y in rw mark refl

pub strip-unmarked : (text : List ℕ) → 3 ≤ length text
    → is_bom (get_or text 0 0) (get_or text 1 0) (get_or text 2 0) ≡ false → text ≡ strip_bom text
unfolding strip_bom
strip-unmarked [] n m = absurd (omega (arith, n))
strip-unmarked (a ∷ []) n m = absurd (omega (arith, n))
strip-unmarked (a ∷ b ∷ []) n m = absurd (omega (arith, n))
strip-unmarked (a ∷ b ∷ c ∷ rest) n m = let mark : is_bom a b c ≡ false = m in rw mark refl

-- The bytes that are held are cut into a piece and a rest.
abbrev pub Splits : Bool → List ℕ → List ℕ → List ℕ → Type 0
Splits ended held piece rest =
    (more : List ℕ) → MayFollow ended more
    → records_left StartRecord (held ++ more)
    ≡ records_left StartRecord piece ++ records_left StartRecord (rest ++ more)

pub splits-all : (held : List ℕ) (count : ℕ) (ended : Bool) → length held ≤ count → ended ≡ true
    → Splits ended held (take count held) (drop count held)
splits-all held count ended all end = λ more follows.
    rw (follows end, append-nil held, take_all count held all, drop_all count held all, left-none)
    (sym (append-nil (records_left StartRecord held)))

pub splits-start : (held : List ℕ) (count : ℕ) (ended : Bool)
    → place_after place.Start (take count held) ≡ place.Start → Splits ended held (take count held) (drop count held)
splits-start held count ended start = λ more follows.
    ap (records_left StartRecord)
    (ap (λ t. t ++ more) (sym (take-append-drop count held)) ∙ append_assoc (take count held) (drop count held) more)
    ∙ left-split (take count held) (drop count held ++ more) start

-- A piece before the header has no record, or the header first.
pub stands-passed : (most : ℕ) (given : List ℕ) (seen : List Event) (ended : Bool) (rows : ℕ) (held piece rest : List ℕ)
    → Stands most given seen ended stage.Header rows held → Splits ended held piece rest
    → records_left StartRecord piece ≡ [] → Stands most given seen ended stage.Header rows rest
stands-passed most given seen ended rows held piece rest (none, zero, log) splits empty = (
  none,
  zero,
  λ more follows. log more follows
      ∙ ap (log_up_to most)
      (splits more follows ∙ ap (λ t. t ++ records_left StartRecord (rest ++ more)) empty),
)

first-log : (most : ℕ) (records : List (List (List ℕ))) (before after : List Event) (count : ℕ)
    → (r : ReadsFirst most records before after count) → log_up_to most records ≡ Ok r.read.piece
first-log most records before after count r =
    ap (log_up_to most) r.records_are ∙ rw r.header (reads-all most 0 r.rows before after count r.read)

pub stands-first : (most : ℕ) (given : List ℕ) (seen : List Event) (ended : Bool) (rows : ℕ) (held piece rest : List ℕ)
    (before after : List Event) (count : ℕ) → Stands most given seen ended stage.Header rows held
    → Splits ended held piece rest → (r : ReadsFirst most (records_left StartRecord piece) before after count)
    → count ≤ most → Stands most given (seen ++ r.read.piece) ended stage.Rows count rest
stands-first most given seen ended rows held piece rest before after count (none, zero, log) splits r few =
    let same : seen ++ r.read.piece ≡ r.read.piece = ap (λ t. t ++ r.read.piece) none in
    let counted : count ≡ length r.read.piece = let n = r.read.counted in omega (arith, n) in (
      counted ∙ ap length (sym same),
      few,
      λ more follows. log more follows ∙ ap (log_up_to most) (splits more follows)
          ∙ log-join most (records_left StartRecord piece) (records_left StartRecord (rest ++ more)) r.read.piece
          (first-log most (records_left StartRecord piece) before after count r)
          ∙ ap (λ n. with_events r.read.piece (events_up_to most (n + 1) (records_left StartRecord (rest ++ more))))
          (sym counted)
          ∙ ap (λ t. with_events t (events_up_to most (count + 1) (records_left StartRecord (rest ++ more))))
          (sym same),
    )

fault-join : (most : ℕ) (records more : List (List (List ℕ))) (why : LogFault) → HasFault most records why
    → log_up_to most (records ++ more) ≡ Err why
fault-join most [] more why h = absurd h
fault-join most (first ∷ rows) more why h = log-join_fault most first rows more why h

pub first-failed : (most : ℕ) (given : List ℕ) (seen : List Event) (ended : Bool) (rows : ℕ) (held piece rest : List ℕ)
    (why : LogFault) → Stands most given seen ended stage.Header rows held → Splits ended held piece rest
    → HasFault most (records_left StartRecord piece) why → IsFault most given ended why
first-failed most given seen ended rows held piece rest why (none, zero, log) splits h =
    inr (λ more follows. log more follows ∙ ap (log_up_to most) (splits more follows)
    ∙ fault-join most (records_left StartRecord piece) (records_left StartRecord (rest ++ more)) why h)

-- The header's line.
pub stands-header : (most : ℕ) (given : List ℕ) (seen : List Event) (ended : Bool) (rows : ℕ) (held rest : List ℕ)
    → Stands most given seen ended stage.Header rows held → HasHeader ended held rest
    → Stands most given seen ended stage.Rows rows rest
stands-header most given seen ended rows held rest (none, zero, log) h = (
  zero ∙ ap length (sym none),
  omega (arith, zero),
  λ more follows.
      let left = records_left StartRecord (rest ++ more) in
      log more follows ∙ ap (log_up_to most) (header-record ended held rest h more follows)
      ∙ sym (with_events-none (events_up_to most 1 left))
      ∙ ap (λ t. with_events t (events_up_to most 1 left)) (sym none)
      ∙ ap (λ n. with_events seen (events_up_to most (n + 1) left)) (sym zero),
)

-- Rows at the front of what is held.
pub stands-front : (most : ℕ) (given : List ℕ) (seen : List Event) (ended : Bool) (rows : ℕ) (held rest : List ℕ)
    (before after : List Event) (count : ℕ) → Stands most given seen ended stage.Rows rows held
    → (r : ReadsFront most rows ended held before after count rest) → count ≤ most
    → Stands most given (seen ++ r.piece) ended stage.Rows count rest
stands-front most given seen ended rows held rest before after count (counted, within, log) r few =
    let n = r.counted in
    let n2 = length-append seen r.piece in (
      omega (arith, n, n2, counted),
      few,
      λ more follows. log more follows ∙ ap (with_events seen) (r.read more follows)
          ∙ with_events-with_events seen r.piece _,
    )

-- A piece of rows.
pub stands-rows : (most : ℕ) (given : List ℕ) (seen : List Event) (ended : Bool) (rows : ℕ) (held piece rest : List ℕ)
    (before after : List Event) (count : ℕ) → Stands most given seen ended stage.Rows rows held
    → Splits ended held piece rest → (r : ReadsRows most rows (records_left StartRecord piece) before after count [])
    → count ≤ most → Stands most given (seen ++ r.piece) ended stage.Rows count rest
stands-rows most given seen ended rows held piece rest before after count (counted, within, log) splits r few =
    let n = r.counted in
    let n2 = length-append seen r.piece in
    let next : rows + 1 + length r.piece ≡ count + 1 = omega (arith, n) in (
      omega (arith, n, n2, counted),
      few,
      λ more follows. log more follows
          ∙ ap (λ t. with_events seen (events_up_to most (rows + 1) t)) (splits more follows)
          ∙ ap (with_events seen)
          (events-join most (rows + 1) (records_left StartRecord piece) (records_left StartRecord
          (rest ++ more)) r.piece
          (reads-all most rows (records_left StartRecord piece) before after count r))
          ∙ with_events-with_events seen r.piece _
          ∙ ap (λ n. with_events (seen ++ r.piece) (events_up_to most n (records_left StartRecord
          (rest ++ more)))) next,
    )

pub rows-failed : (most : ℕ) (given : List ℕ) (seen : List Event) (ended : Bool) (rows : ℕ) (held piece rest : List ℕ)
    (why : LogFault) → Stands most given seen ended stage.Rows rows held → Splits ended held piece rest
    → events_up_to most (rows + 1) (records_left StartRecord piece) ≡ Err why → IsFault most given ended why
rows-failed most given seen ended rows held piece rest why (counted, within, log) splits e =
    inr (λ more follows. log more follows
    ∙ ap (λ t. with_events seen (events_up_to most (rows + 1) t)) (splits more follows)
    ∙ with_events-err seen _ why (events-join_fault most (rows + 1) (records_left StartRecord piece)
    (records_left StartRecord (rest ++ more)) why e))

-- The end of a log.
held-none : (held more : List ℕ) → length held ≡ 0 → more ≡ [] → records_left StartRecord (held ++ more) ≡ []
held-none [] more empty none = rw none left-none
held-none (c ∷ held) more empty none = absurd (omega (arith, empty))

pub header-missing : (most : ℕ) (given : List ℕ) (seen : List Event) (ended : Bool) (rows : ℕ) (held : List ℕ)
    → Stands most given seen ended stage.Header rows held → ended ≡ true → length held ≡ 0
    → IsFault most given ended fault.Header
header-missing most given seen ended rows held (none, zero, log) end empty =
    inr (λ more follows. log more follows ∙ ap (log_up_to most) (held-none held more empty (follows end)))

pub rows-ended : (most : ℕ) (given : List ℕ) (seen : List Event) (ended : Bool) (rows : ℕ) (held : List ℕ)
    → Stands most given seen ended stage.Rows rows held → ended ≡ true → length held ≡ 0
    → log_up_to most (records_of given) ≡ Ok seen
rows-ended most given seen ended rows held (counted, within, log) end empty =
    ap (λ t. log_up_to most (records_of t)) (sym (append-nil given)) ∙ log [] (λ e. refl)
    ∙ ap (λ t. with_events seen (events_up_to most (rows + 1) t)) (held-none held [] empty refl)
    ∙ with_events-end seen most (rows + 1)

-- The first fault, as a caller sees it.
pub first-fault-of : (most : ℕ) (given : List ℕ) (left : Option (List ℕ)) (ended : Bool) (why : LogFault)
    → (ended ≡ true → IsAtEnd left) → IsFault most given ended why
    → IsReadOrMemory why ⊎ IsFirstFault most given left why
first-fault-of most given left ended why at_end (inl denied) = inl denied
first-fault-of most given left true why at_end (inr log) =
    inr (inl (at_end refl, ap (λ t. log_up_to most (records_of t)) (sym (append-nil given)) ∙ log [] (λ e. refl)))
first-fault-of most given left false why at_end (inr log) = inr (inr (λ more. log more (λ e. cc e)))

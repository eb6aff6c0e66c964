-- What the bytes that a file gave say of the log in it.
use Rattle.std.proofs.Common.{◌≡◌, ◌++◌, ◌∙◌, ℕ, List, [], Option, Some, None, Result, Ok, Err, sym, ap, subst}
use Rattle.std.proofs.Common.{inl, inr, append-nil}
use Rattle.std.specs.Prelude.{⊤}
use Rattle.std.specs.Io.KnownBytes.{IsAtEnd, Keeps, prepend_known}
use Rattle.retire.specs.HasRead.{IsFirstFault}
use Rattle.retire.specs.Log.{log_up_to, records_of}
use Rattle.retire.specs.declared.event.Event.{Event}
use Rattle.retire.specs.declared.fault.LogFault.{LogFault}
use Rattle.retire.specs.declared.fault.LogFault.TheVariants.{Read}
use Rattle.retire.specs.declared.log_reader.LogReader.{LogReader}
use Rattle.rvclass.specs.Image.{Image}
use Rattle.log_streams.specs.Gave.{First, Gave, IsGiven, Whole}
use Rattle.log_streams.specs.Known.{IsOpened, Known, MayHold, MayLack, Absent, Present, Unknown}
use Rattle.log_streams.specs.Made.{IsMadeOf, IsMadeOfGiven, IsMadeOfRead}
use Rattle.log_streams.specs.Read.{IsReadFrom, IsReadIn}
use Rattle.log_streams.specs.steps.Confirmed.{IsConfirmedBy}
use Rattle.log_streams.specs.steps.Reading.{IsMadeOfSource, IsWholeLog}
use Rattle.log_streams.specs.declared.illegal_row.IllegalRow.{IllegalRow}
use Rattle.log_streams.specs.declared.stop.Stop.{Stop}
use Rattle.log_streams.specs.declared.stop.Stop.TheVariants as stop

-- Where the bytes of a file are known, these are all its bytes.
abbrev pub IsAllOf : Known → Option (List ℕ) → Type 0
IsAllOf Unknown all = ⊤
IsAllOf Absent all = ⊥
IsAllOf (Present text) all = Keeps (Some text) all

-- What an open file gives and has left are the bytes of the file.
all-of : (known : Known) (first : List ℕ) (left all : Option (List ℕ)) → IsOpened known first left
    → Keeps (prepend_known first left) all → IsAllOf known all
all-of Unknown first left all opened kept = tt
all-of Absent first left all opened kept = absurd opened
all-of (Present text) first left all (none, whole) kept = subst (λ known. Keeps known all)
    (ap (λ bytes. prepend_known bytes left) none ∙ ap (λ known. prepend_known [] known) whole) kept

-- The same of a source over the file.
pub all-through : (known : Known) (first given : List ℕ) (left rest before all : Option (List ℕ))
    → IsOpened known first left → given ≡ first → rest ≡ left → before ≡ prepend_known given rest → Keeps before all
    → IsAllOf known all
all-through known first given left rest before all opened gave leaves content kept =
    all-of known first left all opened (subst (λ known. Keeps known all)
    (content ∙ ap (λ bytes. prepend_known bytes rest) gave ∙ ap (λ known. prepend_known first known) leaves) kept)

-- A file that has ended gave all its bytes.
pub all-given : (known : Known) (given : List ℕ) (left : Option (List ℕ)) → IsAllOf known (prepend_known given left)
    → IsAtEnd left → MayHold known given
all-given Unknown given left all end = tt
all-given Absent given left all end = absurd all
all-given (Present text) given None all end = absurd all
all-given (Present text) given (Some rest) all end = sym (append-nil given) ∙ ap (λ t. given ++ t) (sym end) ∙ all

-- A file whose bytes left are not known may be lacking.
pub may-lack : (known : Known) (given : List ℕ) (left : Option (List ℕ)) → IsAllOf known (prepend_known given left)
    → left ≡ None → MayLack known
may-lack Unknown given left all none = tt
may-lack Absent given left all none = tt
may-lack (Present text) given left all none = subst (λ left. Keeps (Some text) (prepend_known given left)) none all

-- The first fault of what a file gave is that of the log in it.
pub fault-in : (known : Known) (most : ℕ) (given : List ℕ) (left : Option (List ℕ)) (why : LogFault)
    → IsAllOf known (prepend_known given left) → IsFirstFault most given left why → IsReadIn known most (Err why)
fault-in Absent most given left why all fault = absurd all
fault-in Unknown most given left why all (inl (end, log)) = record { bytes = given; held = tt; read = log }
fault-in Unknown most given left why all (inr log) = record { bytes = given ++ []; held = tt; read = log [] }
fault-in (Present text) most given None why all fault = absurd all
fault-in (Present text) most given (Some rest) why all (inl (end, log)) =
    record { bytes = given; held = all-given (Present text) given (Some rest) all end; read = log }
fault-in (Present text) most given (Some rest) why all (inr log) =
    record { bytes = given ++ rest; held = all; read = log rest }

-- A fault of what a file gave is that of the bytes that it gave.
pub fault-given : (Gives : Gave → Type 0) (most : ℕ) (given : List ℕ) (left : Option (List ℕ)) (why : LogFault)
    → IsGiven Gives (First given) → IsFirstFault most given left why → IsReadFrom Gives most (Err why)
fault-given Gives most given left why gave (inl (end, log)) = record { bytes = given; gave = gave; read = log }
fault-given Gives most given left why gave (inr log) = record {
  bytes = given;
  gave = gave;
  read = subst (λ bytes. log_up_to most (records_of bytes) ≡ Err why) (append-nil given) (log []);
}

module _ {X S : Type 0} (Makes : ℕ → List Event → X → Type 0) (OfIllegal : List Event → IllegalRow → X → Type 0)
    (program : Image) (most hart : ℕ) (reader : LogReader S) (given : S → List ℕ) (left : S → Option (List ℕ)) where
  -- What is made of the log of a source is made of what is read of it.
  made-of-read : (Reads : Result (List Event) LogFault → Type 0) (Lacks : Type 0)
      → ((events : List Event) → IsWholeLog given left most reader events → Reads (Ok events)) → (made : X)
      → IsMadeOfSource Makes OfIllegal program most hart given left reader (Ok made)
      → IsMadeOfRead Makes OfIllegal Reads Lacks program most hart (Ok made)
  made-of-read Reads Lacks reads made (events, whole, inl (legal, makes)) =
      inl (record { events = events; read = reads events whole; legal = legal; makes = makes })
  made-of-read Reads Lacks reads made (events, whole, inr (row, illegal, makes)) =
      inr (record { events = events; row = row; read = reads events whole; illegal = illegal; makes = makes })

  -- Where a source failed, it is confirmed.
  failed-of : (Ended Failed : Type 0) (why : LogFault) → IsConfirmedBy {X = X} Ended Failed (Err (stop.Unread why))
      → why ≡ Read → Failed
  failed-of Ended Failed why confirmed is =
      subst (λ why. IsConfirmedBy {X = X} Ended Failed (Err (stop.Unread why))) is confirmed

  module _ (known : Known) (all : IsAllOf known (prepend_known (given reader.source) (left reader.source))) where
    read-in : (events : List Event) → IsWholeLog given left most reader events → IsReadIn known most (Ok events)
    read-in events whole = record {
      bytes = given reader.source;
      held = all-given known (given reader.source) (left reader.source) all whole.ended;
      read = whole.log;
    }

    -- What is made of the log that a file gave is made of the log in the file, where the file says so too.
    pub made-in : (Ended : Type 0) (found : Result X Stop)
        → IsMadeOfSource Makes OfIllegal program most hart given left reader found
        → IsConfirmedBy Ended (left reader.source ≡ None) found
        → IsMadeOf Makes OfIllegal known program most hart found
    made-in Ended (Ok made) is confirmed =
        made-of-read (IsReadIn known most) (MayLack known) read-in made is
    made-in Ended (Err (stop.Unread why)) (inl (inl read)) confirmed = inr (inl (
      read,
      may-lack known (given reader.source) (left reader.source) all
          (failed-of Ended (left reader.source ≡ None) why confirmed read),
    ))
    made-in Ended (Err (stop.Unread why)) (inl (inr memory)) confirmed = inl memory
    made-in Ended (Err (stop.Unread why)) (inr fault) confirmed =
        inr (inr (fault-in known most (given reader.source) (left reader.source) why all fault))
    made-in Ended (Err (stop.Illegal fault)) (events, whole, first) confirmed = (events, read-in events whole, first)

  module _ (Gives : Gave → Type 0) (first : IsGiven Gives (First (given reader.source))) where
    read-from : IsGiven Gives (Whole (given reader.source)) → (events : List Event)
        → IsWholeLog given left most reader events → IsReadFrom Gives most (Ok events)
    read-from ended events whole = record { bytes = given reader.source; gave = ended; read = whole.log }

    -- It is made of what calls gave of the file.
    pub made-given : (Failed : Type 0) (found : Result X Stop)
        → IsMadeOfSource Makes OfIllegal program most hart given left reader found
        → IsConfirmedBy (IsGiven Gives (Whole (given reader.source))) Failed found
        → IsMadeOfGiven Makes OfIllegal Gives program most hart found
    made-given Failed (Ok made) is ended = made-of-read (IsReadFrom Gives most) ⊤ (read-from ended) made is
    made-given Failed (Err (stop.Unread why)) (inl (inl read)) confirmed = inr (inl (read, tt))
    made-given Failed (Err (stop.Unread why)) (inl (inr memory)) confirmed = inl memory
    made-given Failed (Err (stop.Unread why)) (inr fault) confirmed =
        inr (inr (fault-given Gives most (given reader.source) (left reader.source) why first fault))
    made-given Failed (Err (stop.Illegal fault)) (events, whole, illegal) ended =
        (events, read-from ended events whole, illegal)

-- The dump of a capture, by what it begins with.
use Rattle.std.proofs.Common.{◌≡◌, ◌++◌, ℕ, Bool, false, List, [], Option, Some, refl}
use Rattle.std.specs.Io.KnownBytes.{Appends}
use Rattle.std.proofs.KnownBytes.{Appends-nil, Appends-trans}
use Rattle.output.specs.Begun.{AppendsBeginning}
use Rattle.output.proofs.Beginnings.{begun_behind, begun_in_front}
use Rattle.message.specs.declared.range.HartRange.{HartRange}
use Rattle.payload.specs.declared.mode.Mode.TheVariants.{Differential}
use Rattle.message.specs.Header.{IsHeader, IsMarked, header_bytes}
use Rattle.message.specs.declared.fault.MessageFault.{MessageFault}
use Rattle.message.specs.declared.header.Header.{Header}
use Rattle.message.specs.steps.Filling.{AreBytes}
use Rattle.captures.proofs.Dumps.{has_dump}
use Rattle.captures.specs.Dump.{AppendsDump, AreMessagesDumped, BeginsDump, IsDumpOf, header_line}
use Rattle.captures.specs.NoMessage.{BeginsNoHeader}

-- There is no header, for this reason.
pub none_dumped : (symbols : Option (List ℕ)) (harts : HartRange) (bytes : List ℕ) (why : MessageFault)
    (old : Option (List ℕ)) → BeginsNoHeader bytes why
    → AppendsDump (IsDumpOf symbols harts bytes) false (Some (0, why)) old old
none_dumped symbols harts bytes why old begins = record {
  text = [];
  dumped = IsDumpOf.NoHeader why begins refl refl refl;
  appended = Appends-nil old;
}

module _ (symbols : Option (List ℕ)) (harts : HartRange) (bytes : List ℕ) (unmarked : ¬ IsMarked bytes)
    (old new : Option (List ℕ)) where
  -- Messages alone were dumped.
  pub messages_dumped : (bad : Bool) (stop : Option (ℕ × MessageFault))
      → AppendsDump (AreMessagesDumped symbols harts Differential bytes) bad stop old new
      → AppendsDump (IsDumpOf symbols harts bytes) bad stop old new
  messages_dumped bad stop all =
      record { text = all.text; dumped = IsDumpOf.Version1 unmarked all.dumped; appended = all.appended }

  -- A beginning of them was.
  pub messages_begun : BeginsDump (AreMessagesDumped symbols harts Differential bytes) old new
      → BeginsDump (IsDumpOf symbols harts bytes) old new
  messages_begun some = record {
    text = some.text;
    bad = some.bad;
    fault = some.fault;
    dumped = IsDumpOf.Version1 unmarked some.dumped;
    begun = some.begun;
  }

module _ (symbols : Option (List ℕ)) (harts : HartRange) (bytes : List ℕ) (header : Header) (rest : List ℕ)
    (is : IsHeader header)
    (whole : bytes ≡ header_bytes header ++ rest) where
  -- A beginning of the line of a header was written.
  pub line_begun : (old new : Option (List ℕ)) → AreBytes rest → AppendsBeginning (header_line header) old new
      → BeginsDump (IsDumpOf symbols harts bytes) old new
  line_begun old new are begun =
      let all = has_dump symbols harts header.mode rest are in
      record {
        text = header_line header ++ all.text;
        bad = all.bad;
        fault = all.fault;
        dumped = IsDumpOf.Version2 header rest all.text is whole all.dumped refl;
        begun = begun_in_front (header_line header) all.text old new begun;
      }

  module _ (old mid new : Option (List ℕ)) (line : Appends old mid (header_line header)) where
    -- The line of a header and then messages were dumped.
    pub headed_dumped : (bad : Bool) (stop : Option (ℕ × MessageFault))
        → AppendsDump (AreMessagesDumped symbols harts header.mode rest) bad stop mid new
        → AppendsDump (IsDumpOf symbols harts bytes) bad stop old new
    headed_dumped bad stop all = record {
      text = header_line header ++ all.text;
      dumped = IsDumpOf.Version2 header rest all.text is whole all.dumped refl;
      appended = Appends-trans old mid new (header_line header) all.text line all.appended;
    }

    -- A beginning of them was, behind the line.
    pub headed_begun : BeginsDump (AreMessagesDumped symbols harts header.mode rest) mid new
        → BeginsDump (IsDumpOf symbols harts bytes) old new
    headed_begun some = record {
      text = header_line header ++ some.text;
      bad = some.bad;
      fault = some.fault;
      dumped = IsDumpOf.Version2 header rest some.text is whole some.dumped refl;
      begun = begun_behind (header_line header) some.text old mid new line some.begun;
    }

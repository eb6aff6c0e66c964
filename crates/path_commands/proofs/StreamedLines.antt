-- What comes of the lines of a file that are written as they come.
use Rattle.std.proofs.Common.{◌≡◌, ◌≢◌, ◌∙◌, ◌⊎◌, ap, inl, inr, refl, subst, sym, ℕ, List, [], ◌∷◌, ◌++◌, Option}
use Rattle.std.proofs.Common.{Some, None, Result, Ok, Err, append-nil, append_assoc, take, drop, length, length-drop}
use Rattle.std.proofs.Common.{◌+◌, ◌-◌, ◌≤◌, arith, get_or, take-append-drop}
use Rattle.std.proofs.lemmas.Bool.{ne_eqb}
use Rattle.std.proofs.lemmas.List.{take_all, take_more}
use Rattle.std.specs.Prelude.{if◌then◌else◌, unwrap_or}
use Rattle.std.specs.Io.KnownBytes.{Appends, Consumes, IsAtEnd, Keeps, prepend_known}
use Rattle.std.specs.Str.Lines.{lines}
use Rattle.std.proofs.KnownBytes.{Appends-nil, Keeps-refl}
use Rattle.output.specs.Begun.{AppendsBeginning}
use Rattle.output.proofs.Beginnings.{begun_in_front, begun_kept, whole_begun}
use Rattle.captures.proofs.LinesInParts.{lines_behind_feed}
use Rattle.captures.proofs.Passes.{and_then, ends, front_of, goes_under_way, is_begun, joined, pass_parts}
use Rattle.captures.proofs.Passes.{passed_whole}
use Rattle.captures.proofs.StreamedCaptures.{bytes_are, skips_are, stop_is}
use Rattle.captures.specs.Capture.{header_with}
use Rattle.captures.specs.Pass.{IsPassed, Pass, no_lines, pass, pass_bytes, skipped_of, text_pass}
use Rattle.captures.specs.Streamed.{known_form, skips_of, streamed_bytes, streamed_faults}
use Rattle.captures.specs.Versions.{start_bytes}
use Rattle.captures.specs.declared.line_fault.LinesFault.{LinesFault}
use Rattle.captures.specs.declared.line_settings.Settings.{Settings}
use Rattle.captures.specs.declared.passed_lines.PassedLines.{PassedLines}
use Rattle.message.specs.Capture.{capture}
use Rattle.log_streams.specs.Known.{Absent, Content, IsOpened, Known, MayHold, MayLack, Present, Unknown}
use Rattle.log_streams.specs.declared.fault.FileFault.{FileFault}
use Rattle.log_streams.specs.declared.fault.FileFault.TheVariants as file
use Rattle.command_inputs.proofs.Beginnings.{printed_begun}
use Rattle.command_inputs.proofs.Runs.{appends-keeps, prints}
use Rattle.command_inputs.specs.Begun.{IsCutOf}
use Rattle.command_inputs.specs.Faults.{Path, file_fault}
use Rattle.command_inputs.specs.Printed.{IsPrinted, PrintsUnlessDenied}
use Rattle.command_inputs.specs.declared.fault.Fault.TheVariants as fault
use Rattle.command_inputs.specs.declared.status.Status.{Status}
use Rattle.command_inputs.specs.declared.status.Status.TheVariants.{Whole}
use Rattle.command_inputs.specs.declared.words.Capture.{Capture}
use Rattle.path_commands.specs.Capturing.{CanRead, EndsLine, HasEnd, Streams, printed_stream, stream_end}
use Rattle.path_commands.specs.LineFaults as line
use Rattle.path_commands.specs.LineFaults.{Fault}
use Rattle.path_commands.specs.declared.line_reason.LineReason.TheVariants.{Skipped}
use Rattle.path_commands.specs.declared.streaming.Taken.{Taken}
use Rattle.path_commands.specs.steps.Streaming.{HasEnded, HasStopped, HasStreamed, HasTaken, IsAllPassed}
use Rattle.path_commands.specs.steps.Streaming.{IsFinished, IsReadTo, IsStop}

-- The bytes that are left, or none where they are not known.
abbrev pub rest_of : Option (List ℕ) → List ℕ
rest_of left = unwrap_or left []

-- No byte of a file that was opened is read yet.
pub opened : (known : Known) (given : List ℕ) (left : Option (List ℕ)) → IsOpened known given left
    → IsReadTo known [] left
opened Unknown given left is = tt
opened Absent given left is = absurd is
opened (Present text) given left is = subst (λ left. Keeps (Some text) (prepend_known [] left)) (sym is.1) refl

-- More bytes are read.
pub read_more : (known : Known) (given bytes : List ℕ) (old new : Option (List ℕ)) → IsReadTo known given old
    → Consumes old new bytes → IsReadTo known (given ++ bytes) new
read_more Unknown given bytes old new is more = tt
read_more Absent given bytes old new is more = absurd is
read_more (Present text) given bytes None new is more = absurd is
read_more (Present text) given bytes (Some old) None is more = absurd more
read_more (Present text) given bytes (Some old) (Some new) is more =
    append_assoc given bytes new ∙ ap (λ l. given ++ l) (sym more) ∙ is

-- The file may hold what was given of it and what is left.
pub may_hold : (known : Known) (given : List ℕ) (left : Option (List ℕ)) → IsReadTo known given left
    → MayHold known (given ++ rest_of left)
may_hold Unknown given left is = tt
may_hold Absent given left is = absurd is
may_hold (Present text) given None is = absurd is
may_hold (Present text) given (Some rest) is = is

-- And that alone, where none is left.
pub may_hold_all : (known : Known) (given : List ℕ) (left : Option (List ℕ)) → IsReadTo known given left
    → IsAtEnd left → MayHold known given
may_hold_all Unknown given left is end = tt
may_hold_all Absent given left is end = absurd is
may_hold_all (Present text) given None is end = absurd is
may_hold_all (Present text) given (Some rest) is end = sym (append-nil given) ∙ ap (λ l. given ++ l) (sym end) ∙ is

-- A read that gave no byte found its end.
pub may_hold_end : (known : Known) (given bytes : List ℕ) (old new : Option (List ℕ)) → IsReadTo known given old
    → Consumes old new bytes → bytes ≡ [] → IsAtEnd new → MayHold known given
may_hold_end known given bytes old new is more none end =
    may_hold_all known given new
    (subst (λ given. IsReadTo known given new) (ap (λ l. given ++ l) none ∙ append-nil given)
    (read_more known given bytes old new is more))
    end

-- A file that is read is there.
never_absent : (known : Known) (given : List ℕ) (left : Option (List ℕ)) → IsReadTo known given left → known ≢ Absent
never_absent known given left is absent = subst (λ known. IsReadTo known given left) absent is

-- A file of which it is not known what is left may be lacking.
pub may_lack : (known : Known) (given : List ℕ) (left : Option (List ℕ)) → IsReadTo known given left → left ≡ None
    → MayLack known
may_lack Unknown given left is none = tt
may_lack Absent given left is none = tt
may_lack (Present text) given left is none =
    subst (λ left. Keeps (Some text) (prepend_known given left)) none is

-- A block is parted at a place, after what was given.
pub block_parts : (given block : List ℕ) (end : ℕ)
    → (given ++ take end block) ++ take (length block - end) (drop end block) ≡ given ++ block
block_parts given block end =
    append_assoc given (take end block) (take (length block - end) (drop end block))
    ∙ ap (λ l. given ++ l)
    (ap (λ l. take end block ++ l)
    (take_all (length block - end) (drop end block) (omega (arith, length-drop end block)))
    ∙ take-append-drop end block)

-- And so are the bytes after it.
pub more_parts : (given block more : List ℕ) (end : ℕ)
    → (given ++ take end block) ++ (take (length block - end) (drop end block) ++ more) ≡ (given ++ block) ++ more
more_parts given block more end =
    sym (append_assoc (given ++ take end block) (take (length block - end) (drop end block)) more)
    ∙ ap (λ l. l ++ more) (block_parts given block end)

-- What is in front of a place behind a line feed ends with it.
pub has_end : (block : List ℕ) (end : ℕ) → end ≤ length block → (end ≡ 0) ⊎ (get_or block (end - 1) 0 ≡ 10)
    → 1 ≤ end → HasEnd (take end block)
has_end block end within (inl none) some = absurd (omega (arith, none, some))
has_end block end within (inr feed) some =
    let is : end ≡ (end - 1) + 1 = omega (arith, some) in (
      take (end - 1) block,
      ap (λ n. take n block) is ∙ take_more block (end - 1) 0 (omega (arith, within, some))
          ∙ ap (λ byte. take (end - 1) block ++ (byte ∷ [])) feed,
    )

-- How a text ends that was passed to its end, by the count of lines that are skipped.
pub none_skipped : (path : Path) (count : ℕ) → count ≡ 0
    → ◌≡◌ {A = Result Status Fault} (Ok Whole) (stream_end path None count)
none_skipped path count none = sym (ap (stream_end path None) none)

pub some_skipped : (path : Path) (count : ℕ) → 1 ≤ count
    → ◌≡◌ {A = Result Status Fault} (Err (fault.Own (Skipped path count))) (stream_end path None count)
some_skipped path count some =
    sym (ap (λ b. if b then Ok Whole else Err (fault.Own (Skipped path count)))
    (ne_eqb count 0 (λ none. omega (arith, none, some))))

no_memory : ◌≡◌ {A = FileFault} file.CannotRead file.Memory → ⊥
no_memory is = cc

module _ (asked : Capture) (settings : Settings) where
  abbrev start : List ℕ
  start = start_bytes settings.version (header_with settings 1)

  abbrev next_of : List ℕ → PassedLines → Pass
  next_of text passed = pass settings asked.skip passed (lines text)

  -- A text is passed in two parts, where the last line of the first has an end.
  pub parts : (front back : List ℕ) → EndsLine front
      → text_pass settings asked.skip (front ++ back) ≡ and_then (text_pass settings asked.skip front) (next_of back)
  parts front back (inl none) =
      subst (λ front. text_pass settings asked.skip (front ++ back)
      ≡ and_then (text_pass settings asked.skip front) (next_of back)) (sym none) refl
  parts front back (inr (line, is)) =
      subst (λ front. text_pass settings asked.skip (front ++ back)
      ≡ and_then (text_pass settings asked.skip front) (next_of back)) (sym is)
      (ap (pass settings asked.skip (no_lines (known_form settings.numbers))) (lines_behind_feed line back)
      ∙ pass_parts settings asked.skip (lines (line ++ (10 ∷ []))) (lines back)
      (no_lines (known_form settings.numbers)))

  -- What is written so far is a prefix of what is written of a text that begins with what was given.
  pub taken_begun : (given : List ℕ) (taken : Taken) (old new : Option (List ℕ)) (more : List ℕ)
      → HasTaken asked settings given taken old new
      → AppendsBeginning (pass_bytes settings asked.skip (given ++ more)) old new
  taken_begun given taken old new more has =
      let back = taken.held.items ++ more in
      let text : given ++ more ≡ has.front ++ back =
      ap (λ l. l ++ more) has.parted ∙ append_assoc has.front taken.held.items more in
      subst (λ text. AppendsBeginning (pass_bytes settings asked.skip text) old new) (sym text)
      (is_begun start (text_pass settings asked.skip (has.front ++ back)) old new (next_of back taken.passed)
      (goes_under_way start (text_pass settings asked.skip (has.front ++ back)) old new tt
      (text_pass settings asked.skip has.front) (next_of back) taken.passed (parts has.front back has.ends) has.passed))

  stop_more : (text more : List ℕ) (why : Fault) (old new : Option (List ℕ)) → EndsLine text
      → IsStop asked settings text why old new → IsStop asked settings (text ++ more) why old new
  stop_more text more why old new whole (inl memory) = inl memory
  stop_more text more why old new whole (inr (inl output)) = inr (inl output)
  stop_more text more why old new whole (inr (inr (own, is, stop, written))) =
      let first = text_pass settings asked.skip text in
      let same = parts text more whole ∙ ends first.stop own first (next_of more first.passed) stop in
      inr (inr (
        own,
        is,
        ap (λ (its : Pass). its.stop) same ∙ stop,
        subst (λ (its : Pass). Appends old new (start ++ capture its.messages)) (sym same) written,
      ))

  -- A text that begins with lines at which it stopped stops there too.
  pub stopped_more : (text more : List ℕ) (why : Fault) (old new : Option (List ℕ)) → EndsLine text
      → HasStopped asked settings text why old new → HasStopped asked settings (text ++ more) why old new
  stopped_more text more why old new whole has =
      let first = text_pass settings asked.skip text in
      let tail = front_of first.stop first (next_of more first.passed) in
      let bytes : pass_bytes settings asked.skip (text ++ more) ≡ pass_bytes settings asked.skip text
      ++ capture tail.0 =
      ap (λ (its : Pass). start ++ capture its.messages) (parts text more whole)
      ∙ ap (λ messages. start ++ capture messages) tail.1
      ∙ ap (λ l. start ++ l) (joined first.messages tail.0)
      ∙ sym (append_assoc start (capture first.messages) (capture tail.0)) in
      record {
        begun =
            subst (λ l. AppendsBeginning l old new) (sym bytes)
            (begun_in_front (pass_bytes settings asked.skip text) (capture tail.0) old new has.begun);
        stop = stop_more text more why old new whole has.stop;
      }

  -- An allocation failed with what was given.
  pub out_of_memory : (given : List ℕ) (taken : Taken) (old new : Option (List ℕ)) (more : List ℕ)
      → HasTaken asked settings given taken old new
      → HasStopped asked settings (given ++ more) fault.Memory old new
  out_of_memory given taken old new more has =
      record { begun = taken_begun given taken old new more has; stop = inl refl }

  -- Bytes are held behind those that are held.
  pub held_more : (given bytes : List ℕ) (before after : Taken) (old new : Option (List ℕ))
      → after.passed ≡ before.passed → after.held.items ≡ before.held.items ++ bytes
      → HasTaken asked settings given before old new → HasTaken asked settings (given ++ bytes) after old new
  held_more given bytes before after old new same held has = record {
    front = has.front;
    parted =
        ap (λ l. l ++ bytes) has.parted ∙ append_assoc has.front before.held.items bytes
        ∙ ap (λ l. has.front ++ l) (sym held);
    ends = has.ends;
    passed = subst (λ passed. IsPassed {U = Unit {0}} start (text_pass settings asked.skip has.front)
        (Ok tt) passed old new)
        (sym same) has.passed;
  }

  -- All that was given is passed, and nothing is held.
  pub taken_all : (given : List ℕ) (taken : Taken) (old new : Option (List ℕ)) → EndsLine given
      → taken.held.items ≡ [] → IsAllPassed asked settings given taken old new
      → HasTaken asked settings given taken old new
  taken_all given taken old new whole none passed = record {
    front = given;
    parted = sym (ap (λ l. given ++ l) none ∙ append-nil given);
    ends = whole;
    passed = passed;
  }

  -- What was given ends with a line's end, where what came last does.
  pub end_behind : (given bytes : List ℕ) → HasEnd bytes → EndsLine (given ++ bytes)
  end_behind given bytes (front, is) =
      inr (given ++ front, ap (λ l. given ++ l) is ∙ sym (append_assoc given front (10 ∷ [])))

  -- What the capture begins with is written, and no line is read yet.
  pub none_taken : (taken : Taken) (old new : Option (List ℕ)) → taken.passed ≡ no_lines (known_form settings.numbers)
      → taken.held.items ≡ [] → Appends old new start → HasTaken asked settings [] taken old new
  none_taken taken old new passed held written = record {
    front = [];
    parted = sym held;
    ends = inl refl;
    passed = (refl, passed, subst (Appends old new) (sym (append-nil start)) written);
  }

  -- What is held is passed: it is as if all that was given were passed at once.
  module _ (given : List ℕ) (before : Taken) (last : PassedLines) (old mid : Option (List ℕ))
      (has : HasTaken asked settings given before old mid) where
    whole_is : text_pass settings asked.skip given
        ≡ and_then (text_pass settings asked.skip has.front) (next_of before.held.items)
    whole_is = ap (text_pass settings asked.skip) has.parted ∙ parts has.front before.held.items has.ends

    pub held_passed : (result : Result (Unit {0}) LinesFault) (new : Option (List ℕ))
        → IsPassed [] (next_of before.held.items before.passed) result last mid new
        → IsPassed start (text_pass settings asked.skip given) result last old new
    held_passed result new passed =
        passed_whole start (text_pass settings asked.skip given) old mid
        (next_of before.held.items before.passed) last new
        result
        (goes_under_way start (text_pass settings asked.skip given) old mid tt (text_pass settings asked.skip has.front)
        (next_of before.held.items) before.passed whole_is has.passed)
        passed

  -- It ended at a fault of the lines, or of the output.
  pub stopped : (text : List ℕ) (why : LinesFault) (last : PassedLines) (old new : Option (List ℕ))
      → IsPassed {U = Unit {0}} start (text_pass settings asked.skip text) (Err why) last old new
      → HasStopped asked settings text (line.lines_fault asked.lines why) old new
  stopped text why last old new (inl (is, begun)) =
      record { begun = begun; stop = inr (inl (ap (line.lines_fault asked.lines) is)) }
  stopped text why last old new (inr (stop, kept, written)) = record {
    begun = whole_begun (pass_bytes settings asked.skip text) old new written;
    stop = inr (inr (why, refl, stop, written));
  }

  -- The output was not flushed.
  pub not_flushed : (text : List ℕ) (last : PassedLines) (old mid new : Option (List ℕ)) → Keeps mid new
      → IsPassed {U = Unit {0}} start (text_pass settings asked.skip text) (Ok tt) last old mid
      → HasStopped asked settings text fault.Output old new
  not_flushed text last old mid new kept (none, is, written) = record {
    begun = begun_kept (pass_bytes settings asked.skip text) old mid new
        (whole_begun (pass_bytes settings asked.skip text) old mid written) kept;
    stop = inr (inl refl);
  }

  pub flushed : (text : List ℕ) (last : PassedLines) (old mid new : Option (List ℕ)) → Keeps mid new
      → IsPassed {U = Unit {0}} start (text_pass settings asked.skip text) (Ok tt) last old mid
      → IsPassed {U = Unit {0}} start (text_pass settings asked.skip text) (Ok tt) last old new
  flushed text last old mid new kept (none, is, written) =
      (none, is, appends-keeps old mid new (pass_bytes settings asked.skip text) written kept)

  -- A text was passed to its end.
  pub finished : (text : List ℕ) (taken : Taken) (ended : Result Status Fault) (old new : Option (List ℕ))
      → IsAllPassed asked settings text taken old new
      → ended ≡ stream_end asked.lines None (skipped_of taken.passed) → IsFinished asked settings text ended old new
  finished text taken ended old new (none, is, written) ends = record {
    right = sym (stop_is settings asked.skip text) ∙ none;
    ends =
        ends ∙ ap (stream_end asked.lines None) (ap skipped_of is ∙ skips_are settings asked.skip text);
    written = subst (Appends old new) (bytes_are settings asked.skip text) written;
  }

  module _ (content : Content) where
    pub is_streamed_text : (text : List ℕ) → MayHold (content asked.lines.now) text
        → Streams content asked settings (printed_stream asked.lines settings asked.skip text)
    is_streamed_text text held = (Ok text, held, refl)

    -- A prefix of what is printed of a text is written.
    cut_begun : (text : List ℕ) (old new : Option (List ℕ)) → MayHold (content asked.lines.now) text
        → AppendsBeginning (pass_bytes settings asked.skip text) old new
        → IsCutOf (Streams content asked settings) old new
    cut_begun text old new held begun =
        inr (printed_begun (Streams content asked settings) (streamed_bytes settings asked.skip text)
        (printed_stream asked.lines settings asked.skip text).ended old new (is_streamed_text text held)
        (subst (λ l. AppendsBeginning l old new) (bytes_are settings asked.skip text) begun))

    stop_printed : (text : List ℕ) (why : Fault) (old new : Option (List ℕ)) → MayHold (content asked.lines.now) text
        → IsStop asked settings text why old new
        → PrintsUnlessDenied (Streams content asked settings) (CanRead content asked) (Err why) old new
    stop_printed text why old new held (inl memory) = inl (inl memory)
    stop_printed text why old new held (inr (inl output)) = inl (inr (output, (text, held, tt)))
    stop_printed text why old new held (inr (inr (own, is, stop, written))) =
        let ended : ◌≡◌ {A = Result Status Fault} (printed_stream asked.lines settings asked.skip text).ended
        (Err why) =
        ap (λ stop. stream_end asked.lines stop (skips_of asked.skip (streamed_faults settings asked.skip text)))
        (sym (stop_is settings asked.skip text) ∙ stop) ∙ ap Err (sym is) in
        inr (record {
          text = streamed_bytes settings asked.skip text;
          prints =
              subst (λ ended. Streams content asked settings (record {
                text = streamed_bytes settings asked.skip text;
                ended = ended;
              })) ended (is_streamed_text text held);
          appended = subst (Appends old new) (bytes_are settings asked.skip text) written;
        })

    -- It ended at a fault in a text that the file may hold.
    pub streamed_to : (text : List ℕ) (why : Fault) (old new : Option (List ℕ)) → MayHold (content asked.lines.now) text
        → HasStopped asked settings text why old new → HasStreamed content asked settings (Err why) old new
    streamed_to text why old new held has = record {
      printed = stop_printed text why old new held has.stop;
      cut = cut_begun text old new held has.begun;
    }

    -- It ended with the text that the file holds.
    finish_printed : (text : List ℕ) (ended : Result Status Fault) (old new : Option (List ℕ))
        → MayHold (content asked.lines.now) text → IsFinished asked settings text ended old new
        → IsPrinted (Streams content asked settings) ended old new
    finish_printed text ended old new held has = record {
      text = streamed_bytes settings asked.skip text;
      prints =
          subst (λ ended. Streams content asked settings (record {
            text = streamed_bytes settings asked.skip text;
            ended = ended;
          }))
          (ap (λ stop. stream_end asked.lines stop (skips_of asked.skip (streamed_faults settings asked.skip text)))
          has.right ∙ sym has.ends) (is_streamed_text text held);
      appended = has.written;
    }

    pub streamed_all : (text : List ℕ) (ended : Result Status Fault) (old new : Option (List ℕ))
        → MayHold (content asked.lines.now) text → HasEnded asked settings text ended old new
        → HasStreamed content asked settings ended old new
    unfolding finish_printed
    streamed_all text ended old new held (inr (why, is, has)) =
        subst (λ ended. HasStreamed content asked settings ended old new) (sym is)
        (streamed_to text why old new held has)
    streamed_all text ended old new held (inl has) = record {
      printed = prints (Streams content asked settings) (CanRead content asked) ended old new
          (finish_printed text ended old new held has);
      cut = inr (printed_begun (Streams content asked settings) (streamed_bytes settings asked.skip text) ended old new
          (finish_printed text ended old new held has).prints
          (whole_begun (streamed_bytes settings asked.skip text) old new has.written));
    }

    short_prints : (given : List ℕ) (taken : Taken) (left : Option (List ℕ)) (old new : Option (List ℕ))
        → IsReadTo (content asked.lines.now) given left → left ≡ None
        → (has : HasTaken asked settings given taken old new)
        → Streams content asked settings (record {
          text = streamed_bytes settings asked.skip has.front;
          ended = Err (fault.Unreadable asked.lines);
        })
    short_prints given taken left old new is none has = (
      Err (fault.Unreadable asked.lines),
      (refl, may_lack (content asked.lines.now) given left is none),
      inr (record {
        opened = never_absent (content asked.lines.now) given left is;
        text = has.front;
        lines = has.ends;
        right = sym (stop_is settings asked.skip has.front) ∙ has.passed.0;
        is = refl;
      }),
    )

    -- The file failed after lines that were passed.
    pub streamed_short : (given : List ℕ) (taken : Taken) (left : Option (List ℕ)) (why : FileFault)
        (old new : Option (List ℕ)) → IsReadTo (content asked.lines.now) given left
        → (why ≡ file.Memory) ⊎ (left ≡ None) → HasTaken asked settings given taken old new
        → HasStreamed content asked settings (Err (file_fault asked.lines why)) old new
    streamed_short given taken left file.Memory old new is lacks has =
        streamed_to (given ++ rest_of left) fault.Memory old new (may_hold (content asked.lines.now) given left is)
        (out_of_memory given taken old new (rest_of left) has)
    streamed_short given taken left file.CannotRead old new is (inl memory) has = absurd (no_memory memory)
    streamed_short given taken left file.CannotRead old new is (inr none) has = record {
      printed = inr (record {
        text = streamed_bytes settings asked.skip has.front;
        prints = short_prints given taken left old new is none has;
        appended = subst (Appends old new) (bytes_are settings asked.skip has.front) has.passed.2;
      });
      cut = cut_begun (given ++ rest_of left) old new (may_hold (content asked.lines.now) given left is)
          (taken_begun given taken old new (rest_of left) has);
    }

    -- The file was not opened.
    pub not_opened : (why : FileFault) (old : Option (List ℕ))
        → (why ≡ file.Memory) ⊎ MayLack (content asked.lines.now)
        → HasStreamed content asked settings (Err (file_fault asked.lines why)) old old
    not_opened file.Memory old lacks = record { printed = inl (inl refl); cut = inl (Keeps-refl old) }
    not_opened file.CannotRead old (inl memory) = absurd (no_memory memory)
    not_opened file.CannotRead old (inr lacks) = record {
      printed = inr (record {
        text = [];
        prints = (Err (fault.Unreadable asked.lines), (refl, lacks), inl refl);
        appended = Appends-nil old;
      });
      cut = inl (Keeps-refl old);
    }

    -- What the capture begins with was not written.
    pub not_begun : (left : Option (List ℕ)) (old new : Option (List ℕ)) → IsReadTo (content asked.lines.now) [] left
        → AppendsBeginning start old new → HasStreamed content asked settings (Err fault.Output) old new
    not_begun left old new is begun =
        let text = rest_of left in
        streamed_to text fault.Output old new (may_hold (content asked.lines.now) [] left is) (record {
          begun = begun_in_front start (capture (text_pass settings asked.skip text).messages) old new begun;
          stop = inr (inl refl);
        })

-- What a dump of bytes has, and beginnings of it.
use Rattle.std.proofs.Common.{◌≡◌, ◌≤◌, ◌<◌, ◌++◌, Bool, ℕ, zero, suc, List, [], ◌∷◌, Option, Some, None, inl, inr}
use Rattle.std.proofs.Common.{length, refl, sym, ap, subst, ◌∙◌, arith, append_assoc}
use Rattle.std.specs.Prelude.{All}
use Rattle.std.specs.List.{list_any}
use Rattle.std.proofs.lemmas.List.{length-append}
use Rattle.std.proofs.lemmas.List.Concat.{flat_map-append}
use Rattle.std.proofs.lemmas.List.Elements.{All-append, All-nil, All-cons}
use Rattle.output.specs.Begun.{AppendsBeginning}
use Rattle.output.proofs.Beginnings.{begun_between}
use Rattle.payload.specs.declared.mode.Mode.{Mode}
use Rattle.message.proofs.Selecting.{selected-append}
use Rattle.message.specs.Range.{selected}
use Rattle.message.specs.declared.range.HartRange.{HartRange}
use Rattle.message.proofs.Fronts.{Front, front_of}
use Rattle.message.specs.Capture.{capture, message_bytes}
use Rattle.message.specs.Cut.{IsMessage}
use Rattle.message.specs.declared.fault.MessageFault.{MessageFault}
use Rattle.message.specs.declared.fault.MessageFault.TheVariants as fault
use Rattle.message.specs.declared.message.Message.{Message}
use Rattle.message.specs.steps.Filling.{AreBytes}
use Rattle.captures.proofs.DumpedMessages.{HasDumped}
use Rattle.captures.specs.Dump.{AreMessagesDumped, BeginsDump, Ends, dump_text, has_bad_payload, dump_line}
use Rattle.captures.specs.NoMessage.{BeginsNone}

-- Bytes end, or begin no message.
abbrev EndsBy : List ℕ → Option MessageFault → Type 0
EndsBy rest None = rest ≡ []
EndsBy rest (Some why) = BeginsNone rest why

-- Bytes are the capture of messages and some rest.
record Parted (bytes : List ℕ) : Type 0 where
  messages : List Message
  rest : List ℕ
  why : Option MessageFault
  ranges : All IsMessage messages
  whole : bytes ≡ capture messages ++ rest
  ends : EndsBy rest why

-- What stands behind some bytes is bytes.
pub AreBytes-behind : (front back : List ℕ) → AreBytes (front ++ back) → AreBytes back
AreBytes-behind [] back are = are
AreBytes-behind (x ∷ front) back are = AreBytes-behind front back (λ k. are (suc k))

-- Bytes that begin no message are parted so.
none_parted : (bytes : List ℕ) (why : Option MessageFault) → EndsBy bytes why → Parted bytes
none_parted bytes why ends = record {
  messages = [];
  rest = bytes;
  why = why;
  ranges = All-nil IsMessage;
  whole = refl;
  ends = ends;
}

-- Bytes are parted so, where those behind their first message are.
parted_by : (bytes : List ℕ) → AreBytes bytes
    → ((rest : List ℕ) → length rest < length bytes → AreBytes rest → Parted rest) → Front bytes → Parted bytes
parted_by bytes are later (inl end) = none_parted bytes None end
parted_by bytes are later (inr (inl cut)) = none_parted bytes (Some fault.Short) cut
parted_by bytes are later (inr (inr (inl bad))) = none_parted bytes (Some fault.BadLength) bad
parted_by bytes are later (inr (inr (inr (m, rest, is, begins)))) =
    let size = ap length begins in
    let both = length-append m.payload rest in
    let behind =
    later rest (omega (arith, size, both)) (AreBytes-behind (message_bytes m) rest (subst AreBytes begins are)) in
    record {
      messages = m ∷ behind.messages;
      rest = behind.rest;
      why = behind.why;
      ranges = All-cons IsMessage m behind.messages is behind.ranges;
      whole = begins ∙ ap (λ (l : List ℕ). message_bytes m ++ l) behind.whole
          ∙ sym (append_assoc (message_bytes m) (capture behind.messages) behind.rest);
      ends = behind.ends;
    }

-- Any bytes are parted so.
parted : (most : ℕ) (bytes : List ℕ) → length bytes ≤ most → AreBytes bytes → Parted bytes
parted zero bytes few are = parted_by bytes are (λ rest less more. absurd (omega (arith, few, less)))
    (front_of bytes are)
parted (suc most) bytes few are =
    parted_by bytes are (λ rest less more. parted most rest (omega (arith, few, less)) more) (front_of bytes are)

-- Where a dump ends, and why.
abbrev stop_at : ℕ → Option MessageFault → Option (ℕ × MessageFault)
stop_at count None = None
stop_at count (Some why) = Some (count, why)

ends_at : (count : ℕ) (rest : List ℕ) (why : Option MessageFault) → EndsBy rest why
    → Ends count rest (stop_at count why)
ends_at count rest None ends = ends
ends_at count rest (Some why) ends = (refl, ends)

capture_joined : (front back : List Message) → capture (front ++ back) ≡ capture front ++ capture back
capture_joined [] back = refl
capture_joined (m ∷ front) back =
    ap (λ (l : List ℕ). message_bytes m ++ l) (capture_joined front back)
    ∙ sym (append_assoc (message_bytes m) (capture front) (capture back))

-- The lines of two lists, one after the other.
text_joined : (symbols : Option (List ℕ)) (harts : HartRange) (mode : Mode) (front back : List Message)
    → dump_text symbols mode (selected harts (front ++ back))
    ≡ dump_text symbols mode (selected harts front) ++ dump_text symbols mode (selected harts back)
text_joined symbols harts mode front back =
    ap (dump_text symbols mode) (selected-append harts front back)
    ∙ flat_map-append (dump_line symbols mode) (selected harts front) (selected harts back)

-- Messages were dumped, and a beginning of the line of the next.
pub dump_begun : (symbols : Option (List ℕ)) (harts : HartRange) (mode : Mode) (bytes left next : List ℕ) (count : ℕ)
    (bad : Bool) (m : Message)
    (old mid new : Option (List ℕ))
    → AreBytes bytes → HasDumped symbols harts mode bytes left count bad old mid → IsMessage m
    → left ≡ message_bytes m ++ next → AppendsBeginning (dump_text symbols mode (selected harts (m ∷ []))) mid new
    → BeginsDump (AreMessagesDumped symbols harts mode bytes) old new
dump_begun symbols harts mode bytes left next count bad m old mid new are so_far is begins begun =
    let behind : AreBytes next =
    AreBytes-behind (message_bytes m) next (subst AreBytes begins
    (AreBytes-behind (capture so_far.messages) left (subst AreBytes so_far.whole are))) in
    let later = parted (length next) next (omega arith) behind in
    let all = so_far.messages ++ m ∷ later.messages in
    let text : dump_text symbols mode (selected harts all)
    ≡ dump_text symbols mode (selected harts so_far.messages)
    ++ (dump_text symbols mode (selected harts (m ∷ [])) ++ dump_text symbols mode (selected harts later.messages)) =
    text_joined symbols harts mode so_far.messages (m ∷ later.messages)
    ∙ ap (λ (l : List ℕ). dump_text symbols mode (selected harts so_far.messages) ++ l)
    (text_joined symbols harts mode (m ∷ []) later.messages) in
    record {
      text = dump_text symbols mode (selected harts all);
      bad = list_any has_bad_payload (selected harts all);
      fault = stop_at (length all) later.why;
      dumped = record {
        messages = all;
        rest = later.rest;
        ranges = All-append IsMessage so_far.messages (m ∷ later.messages) so_far.ranges
            (All-cons IsMessage m later.messages is later.ranges);
        whole = so_far.whole
            ∙ ap (λ (l : List ℕ). capture so_far.messages ++ l)
            (begins ∙ ap (λ (l : List ℕ). message_bytes m ++ l) later.whole
            ∙ sym (append_assoc (message_bytes m) (capture later.messages) later.rest))
            ∙ sym (append_assoc (capture so_far.messages) (capture (m ∷ later.messages)) later.rest)
            ∙ ap (λ (l : List ℕ). l ++ later.rest) (sym (capture_joined so_far.messages (m ∷ later.messages)));
        flag = refl;
        lines = refl;
        ends = ends_at (length all) later.rest later.why later.ends;
      };
      begun = subst (λ (l : List ℕ). AppendsBeginning l old new) (sym text)
          (begun_between (dump_text symbols mode (selected harts so_far.messages))
          (dump_text symbols mode (selected harts (m ∷ [])))
          (dump_text symbols mode (selected harts later.messages)) old mid new so_far.text begun);
    }

-- Some text is the dump of any bytes.
pub record HasDump (symbols : Option (List ℕ)) (harts : HartRange) (mode : Mode) (bytes : List ℕ) : Type 0 where
  pub text : List ℕ
  pub bad : Bool
  pub fault : Option (ℕ × MessageFault)
  pub dumped : AreMessagesDumped symbols harts mode bytes bad fault text

pub has_dump : (symbols : Option (List ℕ)) (harts : HartRange) (mode : Mode) (bytes : List ℕ) → AreBytes bytes
    → HasDump symbols harts mode bytes
has_dump symbols harts mode bytes are =
    let all = parted (length bytes) bytes (omega arith) are in
    record {
      text = dump_text symbols mode (selected harts all.messages);
      bad = list_any has_bad_payload (selected harts all.messages);
      fault = stop_at (length all.messages) all.why;
      dumped = record {
        messages = all.messages;
        rest = all.rest;
        ranges = all.ranges;
        whole = all.whole;
        flag = refl;
        lines = refl;
        ends = ends_at (length all.messages) all.rest all.why all.ends;
      };
    }

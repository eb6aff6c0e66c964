-- Lines that were worked by hand, as the definitions give them: one for each word.
use Rattle.std.proofs.Common.{◌≡◌, ℕ, true, false, List, [], ◌∷◌, ◌++◌, Option, Some, None, refl}
use Rattle.std.specs.Prelude.{codes}
use Rattle.std.specs.Fmt.{digits}
use Rattle.decoder.specs.declared.fault.DecodeFault.TheVariants.{WrongPlace}
use Rattle.frames.specs.declared.span.Span.{Span}
use Rattle.frames.specs.declared.span.Span.TheVariants.{Frame, Bytes}
use Rattle.message.specs.declared.message.Message.{Message}
use Rattle.payload.specs.Extension.{extended, magnitude}
use Rattle.payload.specs.declared.fault.PackFault.TheVariants.{Unsupported}
use Rattle.payload.specs.declared.mode.Mode.TheVariants.{Differential, Full}
use Rattle.salvaging.specs.declared.reason.Reason.TheVariants.{Closing, Decode, Packet}
use Rattle.salvaging.specs.declared.treatment.Treatment.{Treatment}
use Rattle.salvaging.specs.declared.treatment.Treatment.TheVariants as treatment
use Rattle.listing.specs.declared.form.Form.TheVariants.{Lines}
use Rattle.salvage_reports.specs.TreatedText.{spans_text, treated_text}
use Rattle.salvage_reports.specs.declared.hart_rows.TreatedInRows.{TreatedInRows}

abbrev symbols : Option (List ℕ)
symbols = Some (codes "80000004 t loop\n80000000 T _start\n")

abbrev message : ℕ → ℕ → List ℕ → Message
message hart number payload = record { hart = hart; number = number; payload = payload }

-- In time, far, or late.
abbrev in_time : Treatment → TreatedInRows
in_time one = record { treated = record { treatment = one; far = false; late = false }; rows = 4 }

abbrev far : Treatment → TreatedInRows
far one = record { treated = record { treatment = one; far = true; late = false }; rows = 4 }

abbrev late : Treatment → TreatedInRows
late one = record { treated = record { treatment = one; far = false; late = true }; rows = 4 }

-- The payloads of a packet that opens a trace, one that synchronises it, one that waits, one that closes it, and none.
abbrev opening : List ℕ
opening = 0x1f ∷ []

abbrev synchronising : List ℕ
synchronising = 0x73 ∷ 0 ∷ 0 ∷ 0 ∷ 0x20 ∷ []

abbrev waiting : List ℕ
waiting = 0x12 ∷ []

abbrev closing : List ℕ
closing = 0xcf ∷ 0 ∷ []

abbrev unsupported : List ℕ
unsupported = 0x4f ∷ 1 ∷ []

abbrev spans : List Span
spans =
    Frame 16 (message 0 0 opening) ∷ Frame 28 (message 0 1 synchronising) ∷ Frame 44 (message 0 2 waiting)
    ∷ Bytes 56 3 ∷ Frame 59 (message 0 3 closing) ∷ Frame 72 (message 0 1 synchronising)
    ∷ Frame 88 (message 0 7 unsupported) ∷ Frame 101 (message 0 5 waiting) ∷ Frame 113 (message 1 8 closing)
    ∷ Frame 126 (message 1 9 opening) ∷ Frame 138 (message 1023 4 opening) ∷ Bytes 150 1
    ∷ Frame 151 (message 0 900 synchronising) ∷ Frame 167 (message 0 800 waiting) ∷ []

abbrev treated : List TreatedInRows
treated =
    in_time (treatment.Taken (record { count = 0; first = 0; last = 0 }))
    ∷ in_time (treatment.Taken (record { count = 1; first = 0x8000_0000; last = 0x8000_0000 }))
    ∷ late (treatment.Taken (record { count = 0; first = 0; last = 0 }))
    ∷ late (treatment.Taken (record { count = 3; first = 0x8000_0004; last = 0x8000_0008 }))
    ∷ in_time treatment.Copy ∷ in_time (treatment.Bad (Packet Unsupported)) ∷ in_time treatment.Doubtful
    ∷ late treatment.Passed ∷ in_time treatment.Alone ∷ in_time treatment.Stranger
    ∷ far (treatment.Taken (record { count = 1; first = 0x8000_0000; last = 0x8000_0000 })) ∷ far treatment.Passed ∷ []

each_word : spans_text (Lines false) (λ span. true) None Differential 0 spans treated
    ≡ codes "00000010 0 0 open => nothing\n"
    ++ (codes "0000001c 0 1 sync addr=80000000 priv=3 branch=1 => 1 event, 80000000\n"
    ++ (codes "0000002c 0 2 address diff=8 map=- plain => nothing, waits, late\n"
    ++ (codes "00000038 bytes: 3\n"
    ++ (codes "0000003b 0 3 close ended_ntr => 3 events, 80000004 to 80000008, closed, late\n"
    ++ (codes "00000048 0 1 sync addr=80000000 priv=3 branch=1 => copy\n"
    ++ (codes "00000058 0 7 bad Unsupported => bad: bad packet: Unsupported\n"
    ++ (codes "00000065 0 5 address diff=8 map=- plain => doubtful\n"
    ++ (codes "00000071 1 8 close ended_ntr => passed, late\n"
    ++ (codes "0000007e 1 9 open => alone\n"
    ++ (codes "0000008a 1023 4 open => stranger\n" ++ (codes "00000096 bytes: 1\n"
    ++ (codes "00000097 0 900 sync addr=80000000 priv=3 branch=1 => 1 event, 80000000, far\n"
    ++ codes "000000a7 0 800 address diff=8 map=- plain => passed, far\n"))))))))))))
unfolding digits extended magnitude
each_word = refl

-- With a header, symbols and rows.
with_a_header : treated_text (Lines true) symbols (Some (record { mode = Full; period = 64; harts = 2 }))
    (Frame 16 (message 1 0 waiting) ∷ Frame 28 (message 1 1 closing) ∷ Frame 41 (message 1 2 closing) ∷ [])
    (in_time (treatment.Taken (record { count = 2; first = 0x8000_0000; last = 0x8000_0006 }))
    ∷ in_time (treatment.Bad (Closing 2)) ∷ in_time (treatment.Bad (Decode WrongPlace)) ∷ [])
    ≡ codes "capture 2 mode=full period=64 harts=2\n"
    ++ (codes "00000010 1 0 address addr=8 map=- plain => 2 events, 80000000 <_start+0> to 80000006 <loop+2>, rows 3 to 4, waits\n"
    ++ (codes "0000001c 1 1 close ended_ntr => bad: closing, but number 2 came\n"
    ++ codes "00000029 1 2 close ended_ntr => bad: not decoded: WrongPlace\n"))
unfolding digits extended magnitude
with_a_header = refl

-- A message with no treatment has no line.
none_left : spans_text (Lines false) (λ span. true) None Full 0 (Frame 0 (message 0 0 opening) ∷ Bytes 12 2 ∷ []) [] ≡ codes "0000000c bytes: 2\n"
unfolding digits
none_left = refl

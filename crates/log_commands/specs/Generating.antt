-- What `generate` prints, and how it ends.
use Rattle.std.specs.Prelude.{⊤, ◌≡◌, ◌==◌, ℕ, List, Option, Some, None, Result, Ok, Err, if◌then◌else◌, is_some}
use Rattle.std.specs.Prelude.{length, nat_lt, unwrap_or}
use Rattle.std.specs.Io.KnownBytes.{Keeps}
use Rattle.command_inputs.specs.Found.{program_at}
use Rattle.command_inputs.specs.Order.{base_fault}
use Rattle.command_inputs.specs.Printed.{First}
use Rattle.command_inputs.specs.declared.fault.Fault.TheVariants as fault
use Rattle.command_inputs.specs.declared.status.Status.{Status}
use Rattle.command_inputs.specs.declared.status.Status.TheVariants.{Whole}
use Rattle.command_inputs.specs.declared.words.Generate.{Generate}
use Rattle.command_inputs.specs.declared.words.Product.{Product}
use Rattle.command_inputs.specs.declared.words.Product.TheVariants as product
use Rattle.message.specs.Version.{most_harts}
use Rattle.message.specs.declared.header.Version.TheVariants.{One, Two}
use Rattle.message.specs.declared.header.Version.{Version}
use Rattle.payload.specs.declared.mode.Mode.{Mode}
use Rattle.payload.specs.declared.mode.Mode.TheVariants.{Differential, Full}
use Rattle.retire.specs.LogText.{log_text}
use Rattle.retire.specs.Number.{number_of}
use Rattle.rvclass.specs.Image.{Image}
use Rattle.stimulus.specs.ImageBytes.{image_bytes}
use Rattle.stimulus.specs.Mixed.{IsMixedCapture, mixed_capture}
use Rattle.stimulus.specs.Written.{log_of}
use Rattle.stimulus.specs.declared.capturing.Capture.{Capture}
use Rattle.stimulus.specs.declared.logging.Log.{Log}
use Rattle.stimulus.specs.declared.mix.Mix.{Mix}
use Rattle.log_commands.specs.Faults.{Fault, Meaning, Once, Printed}
use Rattle.log_commands.specs.declared.reason.LogReason.TheVariants as reason
use Rattle.log_commands.specs.declared.reason.Stray.{Stray}
use Rattle.log_commands.specs.declared.reason.Stray.TheVariants as stray

-- The first option that is given and goes with a log alone.
abbrev pub log_option : Generate → Option Stray
log_option asked =
    if is_some asked.hart then Some stray.Hart else
    if is_some asked.events then Some stray.Events else
    None

-- The first of `--v1` and `--burst` that is given.
abbrev pub last_option : Version → Option ℕ → Option Stray
last_option One burst = Some stray.VersionOne
last_option Two burst = if is_some burst then Some stray.Burst else None

-- The first of `--full`, `--v1` and `--burst` that is given.
abbrev pub form_option : Mode → Version → Option ℕ → Option Stray
form_option Full version burst = Some stray.Full
form_option Differential version burst = last_option version burst

-- The first option that is given and goes with a capture alone.
abbrev pub capture_option : Generate → Option Stray
capture_option asked =
    if is_some asked.harts then Some stray.Harts else
    if is_some asked.messages then Some stray.Messages else
    if is_some asked.period then Some stray.Period else
    form_option asked.mode asked.version asked.burst

-- The first of two options, where one is given.
abbrev pub first_option : Option Stray → Option Stray → Option Stray
first_option None other = other
first_option (Some option) other = Some option

-- The first option that is given and does not go with what is made.
abbrev pub stray_of : Product → Generate → Option Stray
stray_of product.Log asked = capture_option asked
stray_of product.Capture asked = log_option asked
stray_of _ asked = first_option (log_option asked) (capture_option asked)

-- What a capture is made of: what is given, or else 1 hart, a million messages, a period of 1024, and bursts of up to 16.
abbrev pub capture_of : Generate → Mix → Capture
capture_of asked mix = record {
  mix = mix;
  seed = asked.seed;
  harts = unwrap_or asked.harts 1;
  messages = unwrap_or asked.messages 1000000;
  period = unwrap_or asked.period 1024;
  mode = asked.mode;
  version = asked.version;
  burst = unwrap_or asked.burst 16;
}

-- The fault of more harts than a capture of the version has.
abbrev pub harts_fault : Generate → Option Fault
harts_fault asked =
    if nat_lt (most_harts asked.version) (unwrap_or asked.harts 1)
    then Some (fault.Own (reason.ManyHarts (most_harts asked.version))) else None

-- The fault of a base that is no number; then that of too many harts.
abbrev pub number_fault : Option ℕ → Generate → Option Fault
number_fault None asked = Some fault.Base
number_fault (Some base) asked = harts_fault asked

-- The fault of an option that does not go with what is made; then those of numbers.
abbrev pub option_fault : Option Stray → Generate → Option Fault
option_fault (Some option) asked = Some (fault.Own (reason.Stray option))
option_fault None asked = number_fault (number_of asked.base.now) asked

-- The fault of a name that is that of no mix; then those of options.
abbrev pub mix_fault : Option Mix → Generate → Option Fault
mix_fault None asked = Some (fault.Own reason.Mix)
mix_fault (Some mix) asked = option_fault (stray_of asked.product asked) asked

-- The fault of a name of nothing that is made; then that of the mix.
abbrev pub product_fault : Product → Generate → Option Fault
product_fault product.Other asked = Some (fault.Own reason.Product)
product_fault _ asked = mix_fault asked.mix asked

-- The fault that is found before anything is made.
abbrev pub generate_fault : Generate → Option Fault
generate_fault asked = product_fault asked.product asked

-- The mix and the base that are asked for are found, or the fault that there is before anything is made.
abbrev pub IsReady : Generate → Result (Mix × ℕ) Fault → Type 0
IsReady asked (Ok (mix, base)) =
    (generate_fault asked ≡ None) × (asked.mix ≡ Some mix) × (number_of asked.base.now ≡ Some base)
IsReady asked (Err why) = generate_fault asked ≡ Some why

-- The program of the image that the mix and the seed give is found, its first byte at the base.
abbrev pub IsDrawn : Generate → Mix × ℕ → Result Image Fault → Type 0
IsDrawn asked (mix, base) found = found ≡ program_at base (Ok (image_bytes mix asked.seed))

-- What a log is made of: what is given, or else hart 0 and a million rows.
abbrev pub log_asked : Generate → Mix → Log
log_asked asked mix = record {
  mix = mix;
  seed = asked.seed;
  hart = unwrap_or asked.hart 0;
  events = unwrap_or asked.events 1000000;
}

-- The text of the log of the hart is written, of as many events as were asked for, and all is done.
abbrev pub WritesRows : Generate → Mix → Image → Printed → Type 0
WritesRows asked mix program printed =
    printed ≡ record { text = log_text (log_of program (log_asked asked mix)); ended = Ok Whole }

-- The capture is written that is asked for, of which each hart's messages are those of a legal log of the program, and
-- all is done.
abbrev pub WritesMixed : Generate → Mix → Image → Printed → Type 0
WritesMixed asked mix program printed =
    IsMixedCapture program (capture_of asked mix) printed.text
    × (printed.ended ≡ Ok Whole)

-- The text is that of the capture that is asked for.
abbrev pub WritesFront : Generate → Mix → Image → Printed → Type 0
WritesFront asked mix program printed = printed.text ≡ mixed_capture program (capture_of asked mix)

-- What is asked for is written: the image, a log or a capture.
abbrev pub Makes : Product → Generate → Mix → Image → Printed → Type 0
Makes product.Image asked mix program printed =
    printed ≡ record { text = image_bytes mix asked.seed; ended = Ok Whole }
Makes product.Log asked mix program printed = WritesRows asked mix program printed
Makes _ asked mix program printed = WritesMixed asked mix program printed

-- The text is that of what is asked for.
abbrev pub MakesFront : Product → Generate → Mix → Image → Printed → Type 0
MakesFront product.Image asked mix program printed =
    printed ≡ record { text = image_bytes mix asked.seed; ended = Ok Whole }
MakesFront product.Log asked mix program printed = WritesRows asked mix program printed
MakesFront _ asked mix program printed = WritesFront asked mix program printed

-- What the arguments ask for is looked at, then the program is made. Where there is no fault, what is asked for is
-- written.
abbrev pub Generates : Generate → Printed → Type 0
Generates asked =
    First (IsReady asked) (λ ready. First (IsDrawn asked ready) (Makes asked.product asked ready.0))

-- The same, of which a prefix is written where the run is cut.
abbrev pub GeneratesFront : Generate → Printed → Type 0
GeneratesFront asked =
    First (IsReady asked) (λ ready. First (IsDrawn asked ready) (MakesFront asked.product asked ready.0))

-- `generate` writes once it has the program.
abbrev pub CanGenerate : Generate → Type 0
CanGenerate asked = Once (IsReady asked) (λ ready. Once (IsDrawn asked ready) (λ _. ⊤))

-- What `generate` means. It reads no file.
abbrev pub generate_meaning : Generate → Meaning
generate_meaning asked = record {
  early = generate_fault asked;
  Prints = λ content. Generates asked;
  CanWrite = λ content. CanGenerate asked;
  Begins = λ content old new. Keeps old new;
  WritesInParts = ⊥;
  Cuts = λ content. GeneratesFront asked;
}

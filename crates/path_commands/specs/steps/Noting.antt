-- Noting what is found of the messages of some harts.
use Rattle.std.specs.Prelude.{ℕ, Bool, true, false, if◌then◌else◌, List, Option, Some, None, min}
use Rattle.payload.specs.declared.by.By.{By}
use Rattle.frames.specs.declared.span.Span.{Span}
use Rattle.frames.specs.declared.span.Span.TheVariants.{Frame, Bytes}
use Rattle.message.specs.Range.{selects}
use Rattle.message.specs.declared.range.HartRange.{HartRange}
use Rattle.message.specs.declared.message.Message.{Message}
use Rattle.auditing.specs.Findings.{finding_of, is_plain}
use Rattle.auditing.specs.Known.{known_all, known_one}
use Rattle.auditing.specs.declared.finding.Finding.{Finding}
use Rattle.auditing.specs.declared.finding.Finding.TheVariants as finding
use Rattle.auditing.specs.steps.Taking.{first_after}
use Rattle.path_commands.specs.OnlyHarts.{first_of, strangers_of}
use Rattle.path_commands.specs.declared.noting.Noted.{Noted}
use Rattle.path_commands.specs.steps.Reading.{and_more}

-- Before the first message.
abbrev pub none_noted : Noted
none_noted = record { strangers = 0; first = None }

-- How many strangers came, after one message more.
abbrev pub strangers_after : ℕ → Finding → ℕ
strangers_after count finding.Stranger = and_more count 1
strangers_after count other = count

-- What is noted after one message more, which is at this place.
abbrev pub noted_after : Noted → ℕ → Finding → Noted
noted_after noted place its = record {
  strangers = strangers_after noted.strangers its;
  first = first_after noted.first place its;
}

-- The lesser of a place and of another one, if there is one.
abbrev pub least_place : Option ℕ → ℕ → ℕ
least_place None place = place
least_place (Some other) place = min other place

-- What is noted after one message more that has a line, at this place. Lines come in any order of places.
abbrev pub noted_at : Noted → ℕ → Noted
noted_at noted place = record noted { first = Some (least_place noted.first place) }

-- What is noted in a live audit after one message more, of which this is found at this place.
abbrev pub noted_with : Noted → ℕ → Finding → Noted
noted_with noted place its =
    let more = record noted { strangers = strangers_after noted.strangers its } in
    if is_plain its then more else noted_at more place

-- What is noted after one message more, which is of one of the harts or not.
abbrev pub noted_if : Bool → Noted → ℕ → Finding → Noted
noted_if true noted place its = noted_after noted place its
noted_if false noted place its = noted

-- What is noted after one span more, which comes after these messages and, if it is a message, is at this place.
abbrev pub noted_more : By → HartRange → List Message → List Message → Noted → ℕ → Span → Noted
noted_more how harts sent before noted place (Frame offset message) =
    noted_if (selects harts message.hart) noted place
    (finding_of (known_all how sent) (known_all how before) (known_one how message))
noted_more how harts sent before noted place (Bytes offset count) = noted

-- What is noted of the messages of these harts in RECEIVED.
abbrev pub noted_of : HartRange → List Message → List Message → Noted
noted_of harts sent received =
    record { strangers = strangers_of harts sent received; first = first_of harts sent received }

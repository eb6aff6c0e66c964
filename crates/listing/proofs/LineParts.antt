-- The line of a message, part by part.
use Rattle.std.proofs.Common.{◌≡◌, ◌++◌, ℕ, Bool, List, Option, Result, codes, length, sym, ap, subst, ◌∙◌, append_assoc}
use Rattle.std.specs.Io.KnownBytes.{Appends}
use Rattle.std.proofs.KnownBytes.{Appends-trans}
use Rattle.output.specs.Begun.{AppendsBeginning}
use Rattle.output.proofs.Beginnings.{begun_behind, begun_in_front}
use Rattle.retire.specs.declared.event.Event.{Event}
use Rattle.payload.specs.Reading.{reading}
use Rattle.payload.specs.declared.fault.PackFault.{PackFault}
use Rattle.payload.specs.declared.mode.Mode.{Mode}
use Rattle.payload.specs.declared.packet.Packet.{Packet}
use Rattle.message.specs.declared.message.Message.{Message}
use Rattle.listing.specs.EffectText.{added_text}
use Rattle.listing.specs.Lines.{effect_line, text_with}
use Rattle.listing.specs.PacketEnding.{ending_text}
use Rattle.listing.specs.SettledRows.{shown_rows}
use Rattle.listing.specs.steps.Message.{effect_of}

module _ (shows : Bool) (symbols : Option (List ℕ)) (mode : Mode) (offset : ℕ) (message : Message)
    (added : List Event) (rows : ℕ) (read : Result Packet PackFault) (same : read ≡ reading message.payload) where
  abbrev head : List ℕ
  head = text_with mode offset message read ++ codes " => "

  abbrev events : List ℕ
  events = added_text symbols added

  abbrev settled : List ℕ
  settled = shown_rows shows rows (length added)

  abbrev tail : List ℕ
  tail = settled ++ (ending_text read ++ codes "\n")

  abbrev line : List ℕ
  line = effect_line shows symbols mode offset message (effect_of added rows (reading message.payload))

  parted : head ++ (events ++ tail) ≡ line
  parted =
      append_assoc (text_with mode offset message read) (codes " => ") (events ++ tail)
      ∙ ap (λ l. text_with mode offset message read ++ (codes " => " ++ l))
      (ap (λ l. events ++ l) (sym (append_assoc settled (ending_text read) (codes "\n")))
      ∙ sym (append_assoc events (settled ++ ending_text read) (codes "\n")))
      ∙ ap (λ read. text_with mode offset message read ++ (codes " => " ++
      ((events ++ (settled ++ ending_text read)) ++ codes "\n"))) same

  -- A beginning of what stands before the events was written.
  pub head_begun : (old new : Option (List ℕ)) → AppendsBeginning head old new → AppendsBeginning line old new
  head_begun old new begun =
      subst (λ l. AppendsBeginning l old new) parted (begun_in_front head (events ++ tail) old new begun)

  module _ (old first : Option (List ℕ)) (before : Appends old first head) where
    -- It was written, and a beginning of the events.
    pub events_begun : (new : Option (List ℕ)) → AppendsBeginning events first new → AppendsBeginning line old new
    events_begun new begun =
        subst (λ l. AppendsBeginning l old new) parted
        (begun_behind head (events ++ tail) old first new before (begun_in_front events tail first new begun))

    module _ (second : Option (List ℕ)) (between : Appends first second events) (new : Option (List ℕ)) where
      -- Both were written, and a beginning of what stands behind.
      pub tail_begun : AppendsBeginning tail second new → AppendsBeginning line old new
      tail_begun begun =
          subst (λ l. AppendsBeginning l old new) parted
          (begun_behind head (events ++ tail) old first new before
          (begun_behind events tail first second new between begun))

      -- All was written.
      pub line_written : Appends second new tail → Appends old new line
      line_written behind =
          subst (Appends old new) parted
          (Appends-trans old first new head (events ++ tail) before
          (Appends-trans first second new events tail between behind))

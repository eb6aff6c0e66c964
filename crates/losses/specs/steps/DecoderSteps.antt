-- What a decoder promises of one step.
use Rattle.std.specs.Prelude.{⊤, ◌≡◌, ◌⊎◌, true, false, List, [], ◌∷◌, ◌++◌, Option, Some, Result, Ok, OnOk, IfErr}
use Rattle.std.specs.Option.{unwrap_or}
use Rattle.retire.specs.declared.event.Event.{Event}
use Rattle.rvclass.specs.Words.{Words}
use Rattle.payload.specs.Closing.{is_closing_packet}
use Rattle.payload.specs.declared.mode.Mode.{Mode}
use Rattle.payload.specs.declared.packet.Packet.{Packet}
use Rattle.decoder.specs.Describes.{Describes}
use Rattle.decoder.specs.Order.{IsOpen, open_packet}
use Rattle.decoder.specs.Resuming.{IsSync, HasMode, IsClosed, PassesOver}
use Rattle.decoder.specs.DecoderStands.{DecoderStands}
use Rattle.decoder.specs.declared.decoding.Decoder.{Decoder}
use Rattle.decoder.specs.declared.fault.DecodeFault.{DecodeFault}
use Rattle.decoder.specs.declared.fault.DecodeFault.TheVariants.{Memory}

-- What a decoder promises of a packet that it is fed, and of the events that it adds.
pub record Feeds (words : Words) (p : Packet) (old new : Decoder) (before after : List Event)
    (result : Result ⊤ DecodeFault) : Type 0 where
  pub stands : (ps : List Packet) → DecoderStands words ps before old
      → OnOk result (DecoderStands words (ps ++ p ∷ []) after new)
  pub none : (ps : List Packet) → DecoderStands words ps before old
      → IfErr result (λ fault. (fault ≡ Memory) ⊎ ((other : List Event) → ¬ Describes words (ps ++ p ∷ []) other))
  pub announced : (mode : Mode) → p ≡ open_packet mode → DecoderStands words [] [] old
      → OnOk result (HasMode (Some mode) new)
  pub mode_kept : (mode : Option Mode) → HasMode mode old → ¬ IsOpen p → HasMode mode new
  pub passed_over : (mode : Mode) → PassesOver mode old → ¬ IsSync p → is_closing_packet p ≡ false
      → (result ≡ Ok tt) × (new ≡ old) × (after ≡ before)
  pub closes : (mode : Mode) → PassesOver mode old → is_closing_packet p ≡ true
      → (result ≡ Ok tt) × IsClosed new × (after ≡ before)
  pub begins : (mode : Mode) → PassesOver mode old → IsSync p → (stretch : List Event) → after ≡ before ++ stretch
      → OnOk result (DecoderStands words (open_packet mode ∷ p ∷ []) stretch new)
  pub begins_none : (mode : Mode) → PassesOver mode old → IsSync p
      → IfErr result (λ fault. (fault ≡ Memory)
      ⊎ ((other : List Event) → ¬ Describes words (open_packet mode ∷ p ∷ []) other))

-- What a decoder that resumes promises.
pub record Resumes (mode : Mode) (old new : Decoder) : Type 0 where
  pub passes_over : (announced : Option Mode) → HasMode announced old → ¬ IsClosed old
      → PassesOver (unwrap_or announced mode) new
  pub mode_kept : (announced : Option Mode) → HasMode announced old → HasMode announced new

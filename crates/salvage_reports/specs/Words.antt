-- The word for what salvaging does with a message.
use Rattle.std.specs.Prelude.{ℕ, ◌++◌, Bool, true, false, List, [], Option, Result, codes}
use Rattle.payload.specs.declared.fault.PackFault.{PackFault}
use Rattle.payload.specs.declared.packet.Packet.{Packet}
use Rattle.listing.specs.EffectText.{places_text}
use Rattle.listing.specs.PacketEnding.{ending_text}
use Rattle.listing.specs.SettledRows.{shown_rows}
use Rattle.salvaging.specs.ReasonText.{reason_text}
use Rattle.salvaging.specs.declared.treatment.Added.{Added}
use Rattle.salvaging.specs.declared.treatment.Treatment.{Treatment}
use Rattle.salvaging.specs.declared.treatment.Treatment.TheVariants as treatment

-- The effect of a message that is taken: the events that it adds, which rows they are of its hart, which has so many with
-- them, if that is to be said, whether its packet waits, and whether it closes its hart.
abbrev pub taken_text : Bool → Option (List ℕ) → Result Packet PackFault → ℕ → Added → List ℕ
taken_text shows symbols read rows added =
    places_text symbols added.count added.first added.last
    ++ (shown_rows shows rows added.count ++ ending_text read)

-- The word for what is done with a message whose payload unpacks to this.
abbrev pub word_text : Bool → Option (List ℕ) → Result Packet PackFault → ℕ → Treatment → List ℕ
word_text shows symbols read rows treatment.Stranger = codes "stranger"
word_text shows symbols read rows treatment.Copy = codes "copy"
word_text shows symbols read rows treatment.Doubtful = codes "doubtful"
word_text shows symbols read rows (treatment.Bad why) = codes "bad: " ++ reason_text why
word_text shows symbols read rows treatment.Alone = codes "alone"
word_text shows symbols read rows treatment.Passed = codes "passed"
word_text shows symbols read rows (treatment.Taken added) = taken_text shows symbols read rows added

-- What follows the word of a message that is far.
abbrev pub far_text : Bool → List ℕ
far_text true = codes ", far"
far_text false = []

-- What follows the word of a message that is late.
abbrev pub late_text : Bool → List ℕ
late_text true = codes ", late"
late_text false = []

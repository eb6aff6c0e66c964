-- The instruction of an event.
use Rattle.std.specs.Prelude.{Option, None}
use Rattle.retire.specs.declared.event.Event.{Event}
use Rattle.retire.specs.declared.event.Event.TheVariants.{Retire, Trap}
use Rattle.rvclass.specs.Words.{Word, Words}

-- The instruction at a retirement's address, if there is a complete one. A trap has none.
abbrev pub word_of : Words → Event → Option Word
word_of words (Retire addr itype priv) = words addr
word_of words (Trap priv interrupt cause epc tval) = None

-- A log that is legal for a program, of at most so many events.
use Rattle.std.specs.Prelude.{◌≤◌, All, ℕ, List, length}
use Rattle.retire.specs.Is64Bit.{Is64Bit}
use Rattle.retire.specs.declared.event.Event.{Event}
use Rattle.rvclass.specs.Fetch.{words_of}
use Rattle.rvclass.specs.Image.{Image, IsImage}
use Rattle.legalpath.specs.Legal.{Legal}

-- The events are a log that is legal for the program and has at most so many of them. Their numbers have 64 bits, and
-- the image keeps what the image of every program keeps.
pub record IsLegalUpTo (most : ℕ) (program : Image) (events : List Event) : Type 0 where
  pub legal : Legal (words_of program) events
  pub short : length events ≤ most
  pub numbers : All Is64Bit events
  pub image : IsImage program

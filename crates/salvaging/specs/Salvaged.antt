-- What is salvaged of messages.
use Rattle.std.specs.Prelude.{ℕ, ◌≡◌, Bool, List, Some, count_by, length, map, slice_get}
use Rattle.rvclass.specs.Words.{Words}
use Rattle.payload.specs.declared.mode.Mode.{Mode}
use Rattle.message.specs.declared.message.Message.{Message}
use Rattle.salvaging.specs.Copies.{AreCopies}
use Rattle.salvaging.specs.Entries.{Entry, AreEntries, is_closed}
use Rattle.salvaging.specs.Ends.{AreCutAtEnd, HartLeaves}
use Rattle.salvaging.specs.Far.{AreFar, believed}
use Rattle.salvaging.specs.FarGaps.{far_among, reported_gaps, treatment_of_far}
use Rattle.salvaging.specs.Late.{late}
use Rattle.salvaging.specs.Leaving.{own_mode}
use Rattle.salvaging.specs.PartsIn.{parts_in}
use Rattle.salvaging.specs.Shares.{HartShares, Share}
use Rattle.salvaging.specs.Tallies.{IsTallied}
use Rattle.salvaging.specs.Strangers.{is_stranger, own_messages}
use Rattle.salvaging.specs.Treatments.{is_good_treatment, treatment_of}
use Rattle.salvaging.specs.declared.salvaged.SalvagedHart.{SalvagedHart}
use Rattle.salvaging.specs.declared.salvaged.Salvaged.{Salvaged}

-- This is salvaged of a hart with these messages, where this mode is handed in: its own mode, the parts of its log, and
-- whether it is closed, by the entries up to its end; how many of its messages are copies, and how many are late,
-- decoded, passed over and of doubtful numbers. Its far numbers are not believed: what is reported of the gaps before
-- its entries up to the end, and which of these are far.
pub record IsSalvagedHart {A : Type 0} (words : Words) (mode : Mode) (messages : List Message)
    (hart : SalvagedHart A) : Type 0 where
  pub entries : List Entry
  pub upto : List Entry
  pub beyond : List Entry
  pub goods : List Bool
  pub are_entries : AreEntries messages entries
  pub reads : hart.mode ≡ own_mode mode entries
  pub cut : AreCutAtEnd words (own_mode mode entries) entries upto beyond
  pub parts : HartLeaves words (own_mode mode entries) upto beyond goods (parts_in hart.parts.items)
  pub copies : AreCopies messages hart.copies
  pub shares : List Share
  pub does : HartShares words (own_mode mode entries) upto beyond shares
  pub goods_are : goods ≡ map is_good_treatment (map treatment_of shares)
  pub flags : List Bool
  pub are_far : AreFar entries flags
  pub gaps : hart.gaps.items ≡ reported_gaps 0 upto flags
  pub far : hart.far.items ≡ far_among (λ share. treatment_of_far (treatment_of share)) upto shares flags
  pub late : hart.late ≡ late entries (believed goods flags)
  pub closed : hart.closed ≡ is_closed upto
  pub tallied : IsTallied messages entries goods hart

-- This is salvaged of messages of so many harts: of each hart by its own messages and the mode handed in alone, and all
-- strangers are counted.
pub record IsSalvaged {A : Type 0} (words : Words) (mode : Mode) (harts : ℕ) (messages : List Message)
    (salvaged : Salvaged A) : Type 0 where
  pub count : length salvaged.harts.items ≡ harts
  pub each : (hart : ℕ) (own : SalvagedHart A) → slice_get salvaged.harts.items hart ≡ Some own
      → IsSalvagedHart words mode (own_messages hart messages) own
  pub strangers : salvaged.strangers ≡ count_by (is_stranger harts) messages

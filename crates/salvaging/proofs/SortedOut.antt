-- What is done with the messages of a hart, put together.
use Rattle.std.proofs.Common.{◌≡◌, ℕ, Bool, zero, suc, List, [], ◌∷◌, length, map, refl, ap, arith}
use Rattle.std.specs.Prelude.{Result, Ok, Err}
use Rattle.payload.specs.Reading.{reading}
use Rattle.payload.specs.declared.fault.PackFault.{PackFault}
use Rattle.payload.specs.declared.mode.Mode.{Mode}
use Rattle.payload.specs.declared.packet.Packet.{Packet}
use Rattle.payload.specs.declared.packet.Packet.TheVariants as packet
use Rattle.payload.specs.declared.packet.Support.TheVariants as support
use Rattle.losses.specs.Runs.{mode_or}
use Rattle.salvaging.specs.Entries.{Entry, Used, Doubtful, entry_number}
use Rattle.salvaging.specs.Leaving.{mode_by, own_mode}
use Rattle.salvaging.specs.Treatments.{rows}
use Rattle.salvaging.specs.declared.treatment.Treatment.{Treatment}
use Rattle.salvaging.specs.steps.Rows.{numbers_in}

-- The mode that a hart announces is its own too.
or_again : (mode : Mode) (p : Packet) → mode_or (mode_or mode p) p ≡ mode_or mode p
or_again mode (packet.Support (support.Open announced)) = refl
or_again mode (packet.Support support.EndedRep) = refl
or_again mode (packet.Support support.EndedNtr) = refl
or_again mode (packet.Sync taken priv address) = refl
or_again mode (packet.Trap taken priv cause interrupt handler address tval) = refl
or_again mode (packet.Address taken delta report) = refl
or_again mode (packet.Map taken) = refl

by_again : (number : ℕ) (mode : Mode) (read : Result Packet PackFault)
    → mode_by number (mode_by number mode read) read ≡ mode_by number mode read
by_again zero mode (Ok p) = or_again mode p
by_again zero mode (Err why) = refl
by_again (suc number) mode (Ok p) = refl
by_again (suc number) mode (Err why) = refl

pub own_again : (mode : Mode) (entries : List Entry) → own_mode (own_mode mode entries) entries ≡ own_mode mode entries
own_again mode [] = refl
own_again mode (Used number place payload ∷ entries) = by_again number mode (reading payload)
own_again mode (Doubtful number first second ∷ entries) = refl

-- The numbers of the rows are those of the entries.
pub rows_numbers : (far : Entry → Bool) (entries : List Entry) (treatments : List Treatment)
    → length treatments ≡ length entries
    → numbers_in (rows far entries treatments) ≡ map entry_number entries
rows_numbers far [] treatments long = refl
rows_numbers far (entry ∷ entries) [] long = absurd (omega (arith, long))
rows_numbers far (entry ∷ entries) (one ∷ treatments) long =
    ap (λ l. entry_number entry ∷ l) (rows_numbers far entries treatments (omega (arith, long)))

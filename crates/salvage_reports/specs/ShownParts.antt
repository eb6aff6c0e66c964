-- What is said of each part of a hart's log, where its far numbers are not believed.
use Rattle.std.specs.Prelude.{ℕ, zero, suc, ◌+◌, List, Option, Some, None, slice_get}
use Rattle.salvaging.specs.LeftParts.{LeftPart, Missing}
use Rattle.salvaging.specs.declared.far_number.FarNumber.{FarNumber}
use Rattle.salvaging.specs.declared.far_number.FarTreatment.{FarTreatment}
use Rattle.salvaging.specs.declared.far_number.FarTreatment.TheVariants.{Bad}
use Rattle.salvage_reports.specs.Offsets.{offset_at}
use Rattle.salvage_reports.specs.SalvagedItems.{item_of}
use Rattle.salvage_reports.specs.declared.salvaged_items.Counted.TheVariants as counted
use Rattle.salvage_reports.specs.declared.salvaged_items.Item.{Item}
use Rattle.salvage_reports.specs.declared.salvaged_items.Item.TheVariants as item
use Rattle.salvage_reports.specs.declared.shown_parts.Gone.{Gone}

-- An item of a far number with whose message this is done. One that is bad has an item of its own.
abbrev pub unless_bad : FarTreatment → Item → Option Item
unless_bad Bad one = None
unless_bad other one = Some one

-- What is said of a far number of this hart, if there is one. The offsets are those of the hart's messages, by their places.
abbrev pub far_item : ℕ → List ℕ → Option FarNumber → Option Item
far_item hart offsets None = None
far_item hart offsets (Some one) = unless_bad one.treatment (item.Far hart one.number (offset_at offsets one.place))

-- What is said of a gap that misses so many numbers: how many, or, where it misses none, the far number after it.
abbrev pub gap_item : ℕ → List ℕ → ℕ → Option FarNumber → Option Item
gap_item hart offsets zero far = far_item hart offsets far
gap_item hart offsets (suc missing) far = Some (item.Messages hart counted.Gap (suc missing))

-- How many numbers a gap is reported to miss, or else how many it misses.
abbrev pub reported_or : ℕ → Option ℕ → ℕ
reported_or missing None = missing
reported_or missing (Some count) = count

-- What is said of a part of this hart, where the gaps among its parts are reported to miss so many numbers, its far numbers
-- are these, and so many of both were before it. A gap is reported to miss none before a far number.
abbrev pub shown_item : ℕ → List ℕ → List ℕ → List FarNumber → Gone → LeftPart → Option Item
shown_item hart offsets gaps far gone (Missing missing) =
    gap_item hart offsets (reported_or missing (slice_get gaps gone.gaps)) (slice_get far gone.far)
shown_item hart offsets gaps far gone part = Some (item_of hart offsets part)

-- How many gaps and far numbers were before what comes after a gap, by what is reported of it and by the next far number.
abbrev pub gone_by : Gone → Option ℕ → Option FarNumber → Gone
gone_by gone None far = gone
gone_by gone (Some (suc missing)) far = record { gaps = gone.gaps + 1; far = gone.far }
gone_by gone (Some zero) None = record { gaps = gone.gaps + 1; far = gone.far }
gone_by gone (Some zero) (Some one) = record { gaps = gone.gaps + 1; far = gone.far + 1 }

-- The same after any part.
abbrev pub gone_after : List ℕ → List FarNumber → Gone → LeftPart → Gone
gone_after gaps far gone (Missing missing) = gone_by gone (slice_get gaps gone.gaps) (slice_get far gone.far)
gone_after gaps far gone part = gone

-- None was before the first part.
abbrev pub none_gone : Gone
none_gone = record { gaps = 0; far = 0 }

-- What `list` prints, from what was found.
use Rattle.std.proofs.Common.{◌≡◌, inl, inr, refl, subst, sym, ℕ, Bool, List, Option, Result, Ok, Err}
use Rattle.std.specs.Prelude.{⊤, false}
use Rattle.std.specs.Io.KnownBytes.{Keeps}
use Rattle.message.specs.declared.range.HartRange.{HartRange}
use Rattle.rvclass.specs.Fetch.{words_of}
use Rattle.rvclass.specs.Image.{Image}
use Rattle.listing.specs.Begun.{BeginsPart, OfAll}
use Rattle.listing.specs.Listing.{AppendsListing}
use Rattle.captures.specs.declared.outcome.CaptureFault.{CaptureFault}
use Rattle.output.proofs.Beginnings.{begun_kept, whole_begun}
use Rattle.command_inputs.specs.declared.words.Format.{Format}
use Rattle.command_inputs.proofs.Runs.{appends-keeps}
use Rattle.command_inputs.specs.Begun.{IsCutOf}
use Rattle.command_inputs.specs.Printed.{IsPrinted, silent}
use Rattle.capture_commands.specs.CountedHarts.{HasHartBelow}
use Rattle.capture_commands.specs.Faults.{Fault, Printed}
use Rattle.command_inputs.specs.declared.fault.Fault.TheVariants as fault
use Rattle.command_inputs.specs.declared.status.Status.{Status}
use Rattle.capture_commands.specs.Decoding.{end_of_capture_of}
use Rattle.capture_commands.specs.Listed.{CanListBelow, CanWriteListed, ListsBelow, ListsPartBelow, ListsUpToMemory}
use Rattle.capture_commands.specs.Listed.{WritesListed}
use Rattle.capture_commands.specs.Listed.{WritesListedPart, WritesListing, WritesPart, harts_or_one}
use Rattle.capture_commands.specs.ListedFormats.{IsListedIn, IsPartListedIn}

-- What is written where an allocation fails is what the run writes then, where it leads there.
pub memory_leads : (Own Prints : Printed → Type 0) → ((printed : Printed) → Own printed → Prints printed)
    → (old new : Option (List ℕ)) → ListsUpToMemory Own old new → ListsUpToMemory Prints old new
memory_leads Own Prints leads old new (inl kept) = inl kept
memory_leads Own Prints leads old new (inr is) = inr (record {
  text = is.text;
  prints = leads (record { text = is.text; ended = Err fault.Memory }) is.prints;
  appended = is.appended;
})

-- Where salvaging is not asked for.
module _ (format : Format) (rows : Bool) (salvage : Bool) (only : HartRange) (given : Option ℕ) (program : Image)
    (symbols : Option (List ℕ)) (bytes : List ℕ) (not : salvage ≡ false) (harts : ℕ) (are : harts ≡ harts_or_one given)
  where
    by_harts : (printed : Printed) → ListsBelow format rows only harts program symbols bytes printed
        → WritesListed format rows salvage only given program symbols bytes printed
    by_harts printed is =
        subst (λ b. WritesListed format rows b only given program symbols bytes printed) (sym not)
        (subst (λ n. ListsBelow format rows only n program symbols bytes printed) are is)

    -- The capture has none of the harts.
    pub lists_nothing : (why : Fault) → HasHartBelow harts only bytes (Err why)
        → WritesListed format rows salvage only given program symbols bytes (silent why)
    lists_nothing why none = by_harts (silent why) (Err why, none, refl)

    module _ (u : Unit {0}) (has : HasHartBelow harts only bytes (Ok u)) where
      -- It has one of them: its listing is what is listed.
      pub lists : (printed : Printed) → WritesListing format rows only harts program symbols bytes printed
          → WritesListed format rows salvage only given program symbols bytes printed
      lists printed writes = by_harts printed (Ok u, has, writes)

      pub can_lists : ⊤ → CanWriteListed salvage only given bytes
      can_lists there =
          subst (λ b. CanWriteListed b only given bytes) (sym not)
          (subst (λ n. CanListBelow only n bytes) are (u, has, tt))

      -- And a part of it is a part of that.
      pub lists_part : (printed : Printed) → WritesPart format rows only harts program symbols bytes printed
          → WritesListedPart format rows salvage only given program symbols bytes printed
      lists_part printed part =
          subst (λ b. WritesListedPart format rows b only given program symbols bytes printed) (sym not)
          (subst (λ n. ListsPartBelow format rows only n program symbols bytes printed) are (u, has, part))

module _ (format : Format) (rows : Bool) (only : HartRange) (harts : ℕ) (program : Image) (symbols : Option (List ℕ))
    (bytes : List ℕ) where
  -- The beginning of a part of a listing was written.
  pub part_cut : (old new : Option (List ℕ))
      → BeginsPart (IsPartListedIn format rows (words_of program) only harts symbols bytes) old new
      → IsCutOf (WritesPart format rows only harts program symbols bytes) old new
  part_cut old new begins = inr (record {
    printed = record { text = begins.text; ended = Err fault.Output };
    prints = begins.part;
    begun = begins.begun;
  })

  module _ (closed : List _) (stop : Option (ℕ × CaptureFault)) (old mid new : Option (List ℕ))
      (appends : AppendsListing (IsListedIn format rows (words_of program) only harts symbols bytes) closed stop old mid)
      (kept : Keeps mid new) where
    -- The whole listing was written, and then nothing more.
    pub whole_cut : IsCutOf (WritesPart format rows only harts program symbols bytes) old new
    whole_cut = inr (record {
      printed = record { text = appends.text; ended = end_of_capture_of only stop closed };
      prints = OfAll closed stop appends.listed;
      begun = begun_kept appends.text old mid new (whole_begun appends.text old mid appends.appended) kept;
    })

    -- And the run ends as decoding does.
    pub whole_printed : (ended : Result Status Fault) → ended ≡ end_of_capture_of only stop closed
        → IsPrinted (WritesListing format rows only harts program symbols bytes) ended old new
    whole_printed ended is = record {
      text = appends.text;
      prints = record { closed = closed; stop = stop; listing = appends.listed; ended = is };
      appended = appends-keeps old mid new appends.text appends.appended kept;
    }

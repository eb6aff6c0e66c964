-- The listing of some harts of a capture, in the format that is asked for.
use Rattle.std.specs.Prelude.{ℕ, Bool, List, Option}
use Rattle.captures.specs.declared.outcome.CaptureFault.{CaptureFault}
use Rattle.message.specs.declared.range.HartRange.{HartRange}
use Rattle.listing.specs.Begun.{IsPartOfListing}
use Rattle.listing.specs.Listing.{IsListing}
use Rattle.listing.specs.declared.form.Form.{Form}
use Rattle.listing.specs.declared.form.Form.TheVariants.{Lines, Table}
use Rattle.message.specs.declared.header.Header.{Header}
use Rattle.rvclass.specs.Words.{Words}
use Rattle.command_inputs.specs.declared.words.Format.{Format}
use Rattle.command_inputs.specs.declared.words.Format.TheVariants.{Csv}
use Rattle.salvage_reports.specs.TreatedText.{treated_text_of}
use Rattle.salvage_reports.specs.declared.hart_rows.TreatedInRows.{TreatedInRows}

-- How messages are written in a format, where lines say which rows a message settles or do not.
abbrev pub form_of : Format → Bool → Form
form_of Csv rows = Table
form_of _ rows = Lines rows

-- The text is the listing of these harts of a capture, as a table or in lines.
abbrev pub IsListedIn : Format → Bool → Words → HartRange → ℕ → Option (List ℕ) → List ℕ → List Bool
    → Option (ℕ × CaptureFault) → List ℕ → Type 0
IsListedIn format rows words only harts symbols bytes =
    IsListing words (form_of format rows) only harts symbols bytes

-- The text is the listing of these harts of a capture or of a front of it, as a table or in lines.
abbrev pub IsPartListedIn : Format → Bool → Words → HartRange → ℕ → Option (List ℕ) → List ℕ → List ℕ → Type 0
IsPartListedIn format rows words only harts symbols bytes =
    IsPartOfListing words (form_of format rows) only harts symbols bytes

-- What salvaging does with each message of these harts, as a table or in lines.
abbrev pub treated_in : Format → Bool → HartRange → Option (List ℕ) → Option Header → List ℕ → List TreatedInRows
    → List ℕ
treated_in format rows only symbols header bytes treated =
    treated_text_of (form_of format rows) only symbols header bytes treated

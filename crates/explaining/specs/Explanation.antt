-- Why a row of a log is illegal, in lines of text.
use Rattle.std.specs.Prelude.{ℕ, ◌-◌, ◌%◌, ◌++◌, ◌&&◌, ◌==◌, nat_lt, if◌then◌else◌, Bool, List, [], codes}
use Rattle.std.specs.Prelude.{Option, Some, None, length, slice_get}
use Rattle.isa.specs.Privilege.{is_privilege}
use Rattle.retire.specs.Events.{place}
use Rattle.retire.specs.LogText.{hex}
use Rattle.retire.specs.declared.event.Event.{Event}
use Rattle.retire.specs.declared.event.Event.TheVariants.{Retire, Trap}
use Rattle.rvclass.specs.Fetch.{words_of}
use Rattle.rvclass.specs.Image.{Image}
use Rattle.rvclass.specs.Words.{Word}
use Rattle.rvclass.specs.declared.class.Class.{Class}
use Rattle.rvclass.specs.declared.class.Class.TheVariants.{Plain, Jump, Branch, Uninferable, TrapReturn}
use Rattle.rvclass.specs.declared.class.Class.TheVariants.{NotRetirable as NeverRetires}
use Rattle.rvclass.specs.declared.class.Return.TheVariants.{Mret, Sret}
use Rattle.legalpath.specs.Allowed.{may_retire_at}
use Rattle.legalpath.specs.declared.fault.PathFault.{PathFault}
use Rattle.legalpath.specs.declared.fault.Why.{Why}
use Rattle.legalpath.specs.declared.fault.Why.TheVariants.{OffProgram, NotRetirable, WrongType, WrongNext}
use Rattle.legalpath.specs.declared.fault.Why.TheVariants.{WrongPrivilege, WrongEpc}
use Rattle.symbols.specs.SymbolText.{name_text}
use Rattle.explaining.specs.ElfImage.{elf_line}
use Rattle.explaining.specs.Following.{place_text, privileges_text}
use Rattle.explaining.specs.Ranges.{image_text}
use Rattle.explaining.specs.Standing.{before_text, standing_text}

-- The types that a retirement of a word of this class may have.
abbrev pub types_text : Class → List ℕ
types_text Plain = codes "0"
types_text (Jump to) = codes "0"
types_text (Branch to) = codes "4 or 5"
types_text Uninferable = codes "6"
types_text (TrapReturn ret) = codes "3"
types_text NeverRetires = codes "none"

-- The types that a retirement of this word may have, if there is one.
abbrev pub word_types_text : Option Word → List ℕ
word_types_text None = codes "none"
word_types_text (Some word) = types_text word.0

-- The privileges that this word may retire at, if there is one.
abbrev pub word_privileges_text : Option Word → List ℕ
word_privileges_text (Some (TrapReturn Mret, length)) = codes "3"
word_privileges_text (Some (TrapReturn Sret, length)) = codes "1 or 3"
word_privileges_text _ = codes "0, 1 or 3"

-- This word, if there is one, may retire at this privilege, which is a level.
abbrev pub retires_at : Option Word → ℕ → Bool
retires_at None priv = is_privilege priv
retires_at (Some word) priv = is_privilege priv && may_retire_at word.0 priv

-- What is at the row before, what follows it, and what the row has in place of that.
abbrev pub follows_text : Image → Option Event → List ℕ → ℕ → List ℕ
follows_text image before what found =
    before_text image before ++ (codes ": " ++ (what ++ (codes " follows, not " ++ hex found)))

-- What is at the row itself, and what some part of it is.
abbrev pub needs_text : Image → Event → List ℕ → List ℕ → List ℕ
needs_text image event part what =
    standing_text image event ++ (codes ": its " ++ (part ++ (codes " is " ++ what)))

-- Where the row has to be, by the event before, and where it is.
abbrev pub place_line : Image → Option Event → ℕ → List ℕ
place_line image before place = follows_text image before (place_text (words_of image) before) place

-- The privileges that the row may have, by the event before, and the one that it has.
abbrev pub privilege_line : Image → Option Event → ℕ → List ℕ
privilege_line image before priv =
    follows_text image before (codes "privilege " ++ privileges_text (words_of image) before) priv

-- Why a retirement is illegal.
abbrev pub retirement_line : Image → Option Event → ℕ → ℕ → ℕ → Why → List ℕ
retirement_line image before addr itype priv OffProgram =
    standing_text image (Retire addr itype priv) ++ (codes ": " ++ image_text image)
retirement_line image before addr itype priv NotRetirable = standing_text image (Retire addr itype priv)
retirement_line image before addr itype priv WrongType =
    needs_text image (Retire addr itype priv) (codes "type") (word_types_text (words_of image addr))
retirement_line image before addr itype priv WrongNext = place_line image before addr
retirement_line image before addr itype priv WrongPrivilege =
    if retires_at (words_of image addr) priv then privilege_line image before priv else
    needs_text image (Retire addr itype priv) (codes "privilege") (word_privileges_text (words_of image addr))
retirement_line image before addr itype priv WrongEpc = place_line image before addr

-- Why a trap is illegal.
abbrev pub trap_line : Image → Option Event → ℕ → Bool → ℕ → ℕ → ℕ → Why → List ℕ
trap_line image before priv interrupt cause epc tval WrongType =
    if nat_lt cause 64 then needs_text image (Trap priv interrupt cause epc tval) (codes "value") (codes "0") else
    needs_text image (Trap priv interrupt cause epc tval) (codes "cause") (codes "at most 3f")
trap_line image before priv interrupt cause epc tval WrongPrivilege =
    if is_privilege priv then privilege_line image before priv else
    needs_text image (Trap priv interrupt cause epc tval) (codes "privilege") (codes "0, 1 or 3")
trap_line image before priv interrupt cause epc tval WrongEpc =
    if epc % 2 == 0 then place_line image before epc else
    needs_text image (Trap priv interrupt cause epc tval) (codes "address") (codes "even")
trap_line image before priv interrupt cause epc tval _ = standing_text image (Trap priv interrupt cause epc tval)

-- Why an event is illegal, by this reason. The event before is given, if there is one.
abbrev pub event_line : Image → Option Event → Event → Why → List ℕ
event_line image before (Retire addr itype priv) why = retirement_line image before addr itype priv why
event_line image before (Trap priv interrupt cause epc tval) why =
    trap_line image before priv interrupt cause epc tval why

-- The event at a row of a log. Rows are counted from 1.
abbrev pub at_row : List Event → ℕ → Option Event
at_row log row = if row == 0 then None else slice_get log (row - 1)

-- The line of an event, if there is one: after two blanks why it is illegal, and then what its address or exception
-- program counter is named by the symbols of a file, if one is given. There is a line below it, if the image begins as an
-- ELF file does.
abbrev pub explained : Option (List ℕ) → Image → Option Event → Option Event → Why → List ℕ
explained symbols image before None why = []
explained symbols image before (Some event) why =
    codes "  " ++
    (event_line image before event why ++ (name_text symbols (place event) ++ (codes "\n" ++ elf_line image)))

-- The lines that explain a fault of a log: what is at the row, or at the row before where that leads elsewhere, and
-- what may be there. A row that the log does not have has no line.
abbrev pub explanation : Option (List ℕ) → Image → List Event → PathFault → List ℕ
explanation symbols image log fault =
    explained symbols image (at_row log (fault.row - 1)) (at_row log fault.row) fault.why

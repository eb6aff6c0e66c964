-- What is at a row of a log.
use Rattle.std.specs.Prelude.{ℕ, ◌++◌, if◌then◌else◌, Bool, true, false, List, [], Option, Some, None, codes}
use Rattle.retire.specs.Events.{is_branch, is_taken}
use Rattle.retire.specs.LogText.{hex}
use Rattle.retire.specs.declared.event.Event.{Event}
use Rattle.retire.specs.declared.event.Event.TheVariants.{Retire, Trap}
use Rattle.rvclass.specs.Image.{Image}
use Rattle.rvclass.specs.Instruction.{instruction_of}
use Rattle.rvclass.specs.declared.class.Class.{Class}
use Rattle.rvclass.specs.declared.class.Class.TheVariants.{Plain, Jump, Branch, Uninferable, TrapReturn, NotRetirable}
use Rattle.rvclass.specs.declared.class.Return.TheVariants.{Mret, Sret}
use Rattle.rvclass.specs.declared.instruction.Instruction.{Instruction}
use Rattle.explaining.specs.Digits.{code_text}

-- What a word of this class is or does.
abbrev pub class_text : Class → List ℕ
class_text Plain = codes "is a plain word"
class_text (Jump to) = codes "is a jump"
class_text (Branch to) = codes "is a branch"
class_text Uninferable = codes "is an uninferable jump"
class_text (TrapReturn Mret) = codes "is MRET"
class_text (TrapReturn Sret) = codes "is SRET"
class_text NotRetirable = codes "does not retire"

-- The bits of a word and its class, if a complete word is there.
abbrev pub word_text : Option Instruction → List ℕ
word_text None = codes "no whole word"
word_text (Some word) = code_text word.length word.code ++ (codes " " ++ class_text word.class)

-- The kind of a trap.
abbrev pub trap_text : Bool → List ℕ
trap_text true = codes "an interrupt"
trap_text false = codes "an exception"

-- What is at an event's row: the address of a retirement and the word there; the exception program counter of a
-- trap, its kind, and the privilege that it was taken from.
abbrev pub standing_text : Image → Event → List ℕ
standing_text image (Retire addr itype priv) = hex addr ++ (codes ": " ++ word_text (instruction_of image addr))
standing_text image (Trap priv interrupt cause epc tval) =
    hex epc ++ (codes ": " ++ (trap_text interrupt ++ (codes " from privilege " ++ hex priv)))

-- Which way a branch went; nothing for another event.
abbrev pub way_text : Event → List ℕ
way_text event =
    if is_taken event then codes ", taken" else
    if is_branch event then codes ", not taken" else []

-- What is at the row before, and which way it went if it is a branch.
abbrev pub before_text : Image → Option Event → List ℕ
before_text image None = codes "no row before"
before_text image (Some event) = standing_text image event ++ way_text event

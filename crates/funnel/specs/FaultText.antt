-- The texts of faults.
use Rattle.std.specs.Prelude.{ℕ, ◌++◌, List, codes}
use Rattle.std.specs.Fmt.{decimal}
use Rattle.funnel.specs.declared.schedule_fault.ScheduleFault.{ScheduleFault}
use Rattle.funnel.specs.declared.schedule_fault.ScheduleFault.TheVariants.{Word, TooLong, Memory}

-- Why a text is no schedule, as a line of text.
abbrev pub schedule_fault_text : ScheduleFault → List ℕ
schedule_fault_text (Word place) = codes "word " ++ (decimal place ++ codes " is not a turn")
schedule_fault_text TooLong = codes "more than 16777216 turns"
schedule_fault_text Memory = codes "out of memory"

-- The stretches that are collected of harts are whole, and stand apart.
use Rattle.std.proofs.Common.{◌≡◌, ℕ, List, Some, slice_get, sym, subst}
use Rattle.rvclass.specs.Fetch.{words_of}
use Rattle.rvclass.specs.Image.{Image}
use Rattle.rvclass.specs.Words.{IsProgram}
use Rattle.legalpath.specs.Legal.{Legal}
use Rattle.legalpath.specs.ProgramLog.{ProgramLog}
use Rattle.payload.specs.declared.mode.Mode.{Mode}
use Rattle.message.specs.declared.message.Message.{Message}
use Rattle.losses.specs.Apart.{AreRising, StandApart}
use Rattle.losses.specs.Collected.{AreCollected}
use Rattle.losses.specs.WholeStretches.{AreWholeStretches}
use Rattle.losses.specs.Losses.{AreOfLogs, numbers_of}
use Rattle.losses.specs.PartsIn.{parts_in}
use Rattle.losses.specs.declared.part.HartPieces.{HartPieces}
use Rattle.losses.proofs.LogsCollected.{is_legal, is_program, rising}
use Rattle.losses.proofs.StretchesApart.{parts_stand_apart}
use Rattle.losses.proofs.StretchesWhole.{parts_whole}

module _ {A : Type 0} (program : Image) (period : ℕ) (handed : Mode) (own : ℕ → Mode) (logs : List ProgramLog)
    (messages : List Message) (harts : List (HartPieces A))
    (of_logs : AreOfLogs program period handed own logs messages)
    (collected : AreCollected program period own logs messages harts)
    (hart : ℕ) (log : ProgramLog) (pieces : HartPieces A) (at_log : slice_get logs hart ≡ Some log)
    (at_pieces : slice_get harts hart ≡ Some pieces) where
  program_is : IsProgram (words_of program)
  program_is = is_program program period handed own logs messages of_logs hart log at_log

  log_is : Legal (words_of program) log.events
  log_is = is_legal program period handed own logs messages of_logs hart log at_log

  numbers_rise : AreRising 0 (numbers_of hart messages)
  numbers_rise = rising program period handed own logs messages of_logs hart log at_log

  pub hart_whole : AreWholeStretches (words_of program) period (own hart) log.events (numbers_of hart messages) 0
      (parts_in pieces.parts.items)
  hart_whole = subst
      (AreWholeStretches (words_of program) period (own hart) log.events (numbers_of hart messages) 0)
      (sym (collected.parts hart log pieces at_log at_pieces))
      (parts_whole (words_of program) program_is period (own hart) log.events log_is
      (numbers_of hart messages) numbers_rise)

  pub hart_apart : StandApart (parts_in pieces.parts.items) log.events
  hart_apart = subst (λ left. StandApart left log.events) (sym (collected.parts hart log pieces at_log at_pieces))
      (parts_stand_apart (words_of program) program_is period (own hart) log.events log_is (numbers_of hart messages)
      numbers_rise)

-- Harts that are compared with logs.
use Rattle.std.specs.Prelude.{ℕ, ◌≡◌, false, is_none, Bool, List, None, Option, length}
use Rattle.bench.specs.Got.{Got}
use Rattle.captures.specs.declared.outcome.CaptureFault.{CaptureFault}
use Rattle.comparing.specs.Explained.{are_whole_sourced, explained_harts, explained_text}
use Rattle.comparing.specs.Sourced.{AreSourced}
use Rattle.comparing.specs.declared.explained.ExplainedHart.{ExplainedHart}
use Rattle.comparing.specs.declared.sourcing.SourcedHart.{SourcedHart}
use Rattle.legalpath.specs.ProgramLog.{ProgramLog}
use Rattle.rvclass.specs.Words.{Words}
use Rattle.ffi.specs.Compared.{compare_end}
use Rattle.ffi.specs.declared.texts.Written.{Written}

-- There are as many logs as harts, and this is said of the harts by them.
pub record AreCompared (gots : List Got) (said : List ExplainedHart) (logs : List ProgramLog) : Type 0 where
  pub many : length logs ≡ length gots
  pub each : said ≡ explained_harts 0 gots logs

-- The report of what is said of harts is written, with the messages that rows come from, and how it ends.
pub record Writes (words : Words) (capture : List ℕ) (said : List ExplainedHart) (closed : List Bool)
    (stop : Option (ℕ × CaptureFault)) (found : Written) : Type 0 where
  pub sourced : List SourcedHart
  pub from : AreSourced words capture stop said sourced
  pub written : found.text.items ≡ explained_text false None stop sourced
  pub ended : found.end ≡ compare_end closed stop (are_whole_sourced (is_none stop) sourced)

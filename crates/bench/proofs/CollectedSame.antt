-- What a collector has of a hart stays where it has the same of it.
use Rattle.std.proofs.Common.{◌≡◌, ℕ, Bool, true, false, slice_get, subst, sym, ap, ◌∙◌}
use Rattle.legalpath.specs.ProgramLog.{ProgramLog}
use Rattle.payload.specs.declared.mode.Mode.{Mode}
use Rattle.bench.specs.Collected.{Collected, HasCollected, HasOutcome, IsSameOf}
use Rattle.bench.specs.Got.{Got, got_after, kept}
use Rattle.bench.specs.steps.Taking.{IsCutOff}

pub came_same : (hart : ℕ) (got : Got) (refused : Bool) (old new : Collected) → IsSameOf hart old new
    → HasOutcome hart got refused old → HasOutcome hart got refused new
came_same hart got refused old new same came = record {
  taken = same.taken ∙ came.taken;
  decoded = same.received.list ∙ came.decoded;
  closed = same.received.closed ∙ came.closed;
}

pub collected_same : (period : ℕ) (mode : Mode) (count hart : ℕ) (log : ProgramLog) (old new : Collected)
    → IsSameOf hart old new
    → new.logs ≡ old.logs → new.keep ≡ old.keep
    → HasCollected period mode log count hart old → HasCollected period mode log count hart new
collected_same period mode count hart log old new same logs keep has = record {
  known = ap (λ some. slice_get some hart) logs ∙ has.known;
  few = has.few;
  came =
      subst (λ flag. HasOutcome hart (kept flag (got_after period mode log count)) false new) (sym keep)
      (came_same hart (kept old.keep (got_after period mode log count)) false old new same has.came);
  expected = same.received.expected ∙ has.expected;
  holds = record {
    stands = λ decoder list one two.
        has.holds.stands decoder list (sym same.received.decoder ∙ one) (sym same.received.list ∙ two);
    closed = λ is_closed one. has.holds.closed is_closed (sym same.received.closed ∙ one);
  };
}

pub cut_off_same : (period : ℕ) (mode : Mode) (taken hart : ℕ) (log : ProgramLog) (old new : Collected)
    → IsSameOf hart old new
    → new.keep ≡ old.keep → IsCutOff period mode log taken hart old → IsCutOff period mode log taken hart new
cut_off_same period mode taken hart log old new same keep cut = record {
  count = cut.count;
  within = cut.within;
  lacks = cut.lacks;
  few = cut.few;
  came =
      subst (λ flag. HasOutcome hart (kept flag (got_after period mode log cut.count)) true new) (sym keep)
      (came_same hart (kept old.keep (got_after period mode log cut.count)) true old new same cut.came);
}

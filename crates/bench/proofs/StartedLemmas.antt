-- What holds of harts whose workers were started or not, the last first, with one hart more.
use Rattle.std.proofs.Common.{◌≡◌, ◌≢◌, ◌⊎◌, ◌≤◌, ◌<◌, ◌+◌, ◌∙◌, inl, inr, ⊎_elim, ℕ, Bool, true, false, List, [], ◌∷◌}
use Rattle.std.proofs.Common.{◌++◌, Some, length, slice_get, sym, ap, subst, arith}
use Rattle.std.specs.Prelude.{Contains}
use Rattle.std.specs.declared.thread.PromisedHandle.{PromisedHandle}
use Rattle.std.proofs.lemmas.Bool.{cases_eq}
use Rattle.std.proofs.lemmas.List.Elements.{Contains-append_left, Contains-push}
use Rattle.std.proofs.lemmas.Option.{slice_get_within}
use Rattle.legalpath.specs.ProgramLog.{ProgramLog}
use Rattle.encoder.specs.SourceAt.{IsAt, SourceAt}
use Rattle.funnel.specs.Ends.{FunnelId, PortView, new_port}
use Rattle.bench.specs.Collected.{Collected, HasCollected, HasOutcome, IsSameOf}
use Rattle.bench.specs.Got.{Got, got_after, kept}
use Rattle.bench.specs.declared.config.Config.{Config}
use Rattle.bench.specs.declared.worker.Sending.{Sending}
use Rattle.bench.specs.declared.worker.Work.{Work}
use Rattle.bench.specs.steps.Gathering.{IsWorkerOf}
use Rattle.bench.specs.steps.Taking.{IsCutOff}
use Rattle.bench.proofs.CollectedSame.{collected_same, cut_off_same}

-- A worker with this port, the last one, and a new source of the log of its hart.
pub new_worker : {S : Type 0} (at : S → SourceAt) (funnel : FunnelId) (config : Config) (logs : List ProgramLog)
    (worker : PromisedHandle Work (Sending S))
    (place : ℕ) (port : PortView) (source : SourceAt) (log : ProgramLog) → worker.promise.port.value ≡ port
    → at worker.promise.source.value ≡ source → port ≡ new_port funnel place
    → IsAt config.period config.mode log 0 source → slice_get logs place ≡ Some log
    → IsWorkerOf at funnel config logs worker
new_worker at funnel config logs worker place port source log same from last new known = record {
  port = ap (λ (p : PortView). p.funnel) (same ∙ last);
  log =
      ap (λ (p : PortView). slice_get logs p.hart) (same ∙ last) ∙ known
      ∙ ap (λ (s : SourceAt). Some s.log) (sym (from ∙ new));
  period = ap (λ (s : SourceAt). s.period) (from ∙ new);
  mode = ap (λ (s : SourceAt). s.mode) (from ∙ new);
}

module _ (config : Config) (logs : List ProgramLog) where
  -- Nothing came of the hart, and its worker was started, or its thread refused.
  abbrev IsBegun : ProgramLog → List ℕ → ℕ → Collected → Type 0
  IsBegun log started hart collected =
      (Contains started hart × HasCollected config.period config.mode log 0 hart collected)
      ⊎ IsCutOff config.period config.mode log 0 hart collected

  -- Nothing came of any hart, and so much is known of those from this one on.
  pub record AreBegun (from : ℕ) (started : List ℕ) (collected : Collected) : Type 0 where
    pub own : collected.logs ≡ logs
    pub begun : (hart : ℕ) (log : ProgramLog) → hart < from → slice_get logs hart ≡ Some log
        → HasCollected config.period config.mode log 0 hart collected
    pub each : (hart : ℕ) (log : ProgramLog) → from ≤ hart → slice_get logs hart ≡ Some log
        → IsBegun log started hart collected

  -- Before the first.
  pub none_begun : (from : ℕ) (started : List ℕ) (collected : Collected) → from ≡ length logs → collected.logs ≡ logs
      → ((hart : ℕ) (log : ProgramLog) → slice_get logs hart ≡ Some log
      → HasCollected config.period config.mode log 0 hart collected)
      → AreBegun from started collected
  none_begun from started collected all own begun = record {
    own = own;
    begun = λ hart log low at. begun hart log at;
    each = λ hart log past at.
        let within = slice_get_within logs hart log at in absurd (omega (arith, all, past, within));
  }

  module _ (from place left : ℕ) (started : List ℕ) (old : Collected) (next : from ≡ place + 1)
      (same_place : place ≡ left) (before : AreBegun from started old) where
    -- With a worker that was started.
    pub begun_started : (more : List ℕ) → more ≡ started ++ place ∷ [] → AreBegun left more old
    begun_started more is = record {
      own = before.own;
      begun = λ hart log low at. before.begun hart log (omega (arith, next, same_place, low)) at;
      each = λ hart log behind at.
          subst (λ all. IsBegun log all hart old) (sym is)
          (⊎_elim (λ same. its hart log at same)
          (λ other. with_one (before.each hart log (omega (arith, next, same_place, behind, other)) at))
          (cases_eq hart place));
    }
      where
        its : (hart : ℕ) (log : ProgramLog) → slice_get logs hart ≡ Some log → hart ≡ place
            → IsBegun log (started ++ place ∷ []) hart old
        its hart log at same = inl (
          subst (Contains (started ++ place ∷ [])) (sym same) (Contains-push started place),
          before.begun hart log (omega (arith, next, same)) at,
        )

        with_one : {hart : ℕ} {log : ProgramLog} → IsBegun log started hart old
            → IsBegun log (started ++ place ∷ []) hart old
        with_one {hart} (inl runs) = inl (Contains-append_left started (place ∷ []) hart runs.0, runs.1)
        with_one (inr cut) = inr cut

    -- With a hart that is refused.
    pub begun_refused : (new : Collected)
        → ((got : Got) (refused : Bool) → HasOutcome place got refused old → HasOutcome place got true new)
        → ((other : ℕ) → other ≢ place → IsSameOf other old new) → new ≡ record old { harts = new.harts }
        → AreBegun left started new
    begun_refused new refused others same = record {
      own = ap (λ (c : Collected). c.logs) same ∙ before.own;
      begun = λ hart log low at.
          stays hart log (λ is. omega (arith, same_place, low, is))
          (before.begun hart log (omega (arith, next, same_place, low)) at);
      each = λ hart log behind at.
          ⊎_elim (λ here. its hart log at here)
          (λ other. as_before hart log other
          (before.each hart log (omega (arith, next, same_place, behind, other)) at))
          (cases_eq hart place);
    }
      where
        keep : new.keep ≡ old.keep
        keep = ap (λ (c : Collected). c.keep) same

        stays : (hart : ℕ) (log : ProgramLog) → hart ≢ place → HasCollected config.period config.mode log 0 hart old
            → HasCollected config.period config.mode log 0 hart new
        stays hart log other has =
            collected_same config.period config.mode 0 hart log old new (others hart other)
            (ap (λ (c : Collected). c.logs) same) keep has

        as_before : (hart : ℕ) (log : ProgramLog) → hart ≢ place → IsBegun log started hart old
            → IsBegun log started hart new
        as_before hart log other (inl runs) = inl (runs.0, stays hart log other runs.1)
        as_before hart log other (inr cut) =
            inr (cut_off_same config.period config.mode 0 hart log old new (others hart other) keep cut)

        cut : (log : ProgramLog) → HasCollected config.period config.mode log 0 place old
            → IsCutOff config.period config.mode log 0 place new
        cut log has = record {
          count = 0;
          within = omega arith;
          lacks = λ some. omega (arith, some);
          few = omega arith;
          came =
              subst (λ flag. HasOutcome place (kept flag (got_after config.period config.mode log 0)) true new)
              (sym keep)
              (refused (kept old.keep (got_after config.period config.mode log 0)) false has.came);
        }

        its : (hart : ℕ) (log : ProgramLog) → slice_get logs hart ≡ Some log → hart ≡ place
            → IsBegun log started hart new
        its hart log at here =
            inr (subst (λ h. IsCutOff config.period config.mode log 0 h new) (sym here)
            (cut log (before.begun place log (omega (arith, next)) (ap (slice_get logs) (sym here) ∙ at))))

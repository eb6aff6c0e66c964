-- Before the first message of RECEIVED.
use Rattle.std.proofs.Common.{◌≡◌, ℕ, zero, suc, ◌<◌, List, [], Option, None}
use Rattle.std.proofs.Common.{length, max, min, replicate, refl, sym, ap, ◌∙◌, arith}
use Rattle.std.proofs.Math.Path.{fun_ext}
use Rattle.std.proofs.lemmas.List.{length-replicate}
use Rattle.payload.specs.declared.by.By.{By}
use Rattle.live.specs.Auditing.{Stands, runs_in, waiting_in}
use Rattle.live.specs.Following.{Audited, left_after}
use Rattle.live.specs.Holding.{Holding}
use Rattle.live.specs.Holds.{Holds}
use Rattle.live.specs.Live.{start}
use Rattle.live.specs.Runs.{no_run}
use Rattle.live.specs.declared.arrived.Arrived.{Arrived}
use Rattle.live.specs.declared.run.Run.{Run}

-- None waits of any hart.
none_waits : (count hart : ℕ) → waiting_in (replicate count None) hart ≡ None
none_waits zero hart = refl
none_waits (suc count) zero = refl
none_waits (suc count) (suc hart) = none_waits count hart

-- No run of any hart goes on.
none_runs : (count hart : ℕ) → runs_in (replicate count no_run) hart ≡ no_run
none_runs zero hart = refl
none_runs (suc count) zero = refl
none_runs (suc count) (suc hart) = none_runs count hart

-- What is held first.
pub stands_start : (all : Audited) (asked harts : ℕ) (window : Holding) (waiting : List (Option Arrived)) (runs : List Run)
    → all.window ≡ min (max asked 1) 16777216 → all.harts ≡ harts → (how : By) → all.by ≡ how → window.by ≡ how → window.window ≡ min (max asked 1) 16777216
    → length window.harts ≡ harts → Holds [] [] 0 window → waiting ≡ replicate harts None → runs ≡ replicate harts no_run
    → harts < 65536
    → Stands all 0 (start how) (record { window = window; waiting = waiting; runs = runs }) (left_after all 0)
stands_start all asked harts window waiting runs window_is harts_is how by_is same_by same_window same_harts holds none idle few = record {
  reads = record {
    holds = holds;
    within = omega arith;
    remains = refl;
    harts = same_harts ∙ sym harts_is;
    window = same_window ∙ sym window_is;
    by = same_by ∙ sym by_is;
  };
  waiting = ap waiting_in none ∙ fun_ext (none_waits harts);
  by = sym by_is;
  runs = ap runs_in idle ∙ fun_ext (none_runs harts);
  waits = ap length none ∙ length-replicate harts None ∙ sym harts_is;
  counts = ap length idle ∙ length-replicate harts no_run ∙ sym harts_is;
  own_hart = λ hart one is. cc;
  some = omega (arith, window_is);
  few = omega (arith, harts_is, few);
}

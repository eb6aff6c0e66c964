-- Logs are measured one after the other.
use Rattle.std.proofs.Common.{◌≡◌, ℕ, List, [], ◌∷◌, ◌++◌, ap, sym, ◌∙◌}
use Rattle.std.proofs.lemmas.List.{map-append}
use Rattle.std.proofs.lemmas.List.Elements.{All-push}
use Rattle.legalpath.specs.ProgramLog.{ProgramLog}
use Rattle.captures.specs.Bounds.{AreWithin, most_counted}
use Rattle.captures.specs.Measures.{measures_of, measures_of_each}
use Rattle.captures.specs.declared.measures.Measures.{Measures}
use Rattle.payload.specs.declared.mode.Mode.{Mode}
use Rattle.ffi.specs.steps.Measuring.{AreMeasured}

-- One more is.
pub measured_more : (period : ℕ) (mode : Mode) (measures : List Measures) (own : Measures) (logs : List ProgramLog)
    (log : ProgramLog) → AreMeasured period mode measures logs → own ≡ measures_of period mode log
    → AreWithin most_counted own → AreMeasured period mode (measures ++ own ∷ []) (logs ++ log ∷ [])
measured_more period mode measures own logs log before counted within = record {
  counted = ap (λ first. first ++ own ∷ []) before.counted
      ∙ ap (λ last. measures_of_each period mode logs ++ last ∷ []) counted
      ∙ sym (map-append (measures_of period mode) logs (log ∷ []));
  within = All-push (AreWithin most_counted) measures own before.within within;
}

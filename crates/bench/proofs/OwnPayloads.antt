-- The payloads of harts that have logs.
use Rattle.std.proofs.Common.{◌≡◌, ℕ, zero, suc, List, [], ◌∷◌, Some, map, slice_get, refl, ap, ◌∙◌}
use Rattle.std.proofs.lemmas.Option.{get_or_from_slice_get, slice_get-map}
use Rattle.std.specs.Option.{option_map}
use Rattle.legalpath.specs.ProgramLog.{ProgramLog}
use Rattle.payload.specs.declared.mode.Mode.{Mode}
use Rattle.encoder.specs.Payloads.{payloads}
use Rattle.funnel.specs.Payloads.{payloads_of}

module _ (period : ℕ) (mode : Mode) where
  -- The payloads at a log's place are its own.
  pub own_payloads : (hart : ℕ) (logs : List ProgramLog) (log : ProgramLog) → slice_get logs hart ≡ Some log
      → payloads_of hart (map (payloads period mode) logs) ≡ payloads period mode log
  own_payloads hart logs log at =
      get_or_from_slice_get (map (payloads period mode) logs) hart (payloads period mode log) []
      (slice_get-map (payloads period mode) logs hart ∙ ap (option_map (payloads period mode)) at)

  -- The payload is the one of this number of the hart's log.
  pub record HasLog (hart n : ℕ) (logs : List ProgramLog) (payload : List ℕ) : Type 0 where
    pub log : ProgramLog
    pub known : slice_get logs hart ≡ Some log
    pub own : slice_get (payloads period mode log) n ≡ Some payload

  -- A hart with a payload has a log.
  pub has_log : (hart n : ℕ) (logs : List ProgramLog) (payload : List ℕ)
      → slice_get (payloads_of hart (map (payloads period mode) logs)) n ≡ Some payload → HasLog hart n logs payload
  has_log hart n [] payload is = cc
  has_log zero n (log ∷ logs) payload is = record { log = log; known = refl; own = is }
  has_log (suc hart) n (log ∷ logs) payload is =
      let behind = has_log hart n logs payload is in
      record { log = behind.log; known = behind.known; own = behind.own }

-- Logs are read from their texts one after the other.
use Rattle.std.proofs.Common.{◌≡◌, ℕ, suc, ◌+◌, ◌-◌, ◌<◌, ◌≤◌, List, [], ◌∷◌, ◌++◌, drop, length, slice_index_or, take, refl}
use Rattle.std.proofs.Common.{ap, subst, sym, ◌∙◌, arith}
use Rattle.std.proofs.lemmas.List.{append_assoc, length-take-le, take-append-drop, take_all, take_more}
use Rattle.legalpath.specs.ProgramLog.{ProgramLog}
use Rattle.rvclass.specs.Image.{Image}
use Rattle.ffi.specs.Encoded.{AreLogs, IsLegalText, IsNoLegalText, IsRefusedLog, last_end, text_at, text_between}
use Rattle.ffi.specs.declared.fault.Fault.{Fault}
use Rattle.ffi.specs.steps.OfTexts.{AreTextsOf}

-- One text more ends where it ends.
last_end_more : (from : ℕ) (front : List ℕ) (end : ℕ) → last_end from (front ++ end ∷ []) ≡ end
last_end_more from [] end = refl
last_end_more from (first ∷ front) end = last_end_more first front end

-- A text but the first starts where the one before ends.
pub start_after : (ends : List ℕ) (place : ℕ) → ¬ (place ≡ 0) → place < length ends
    → slice_index_or ends (place - 1) 0 ≡ last_end 0 (take place ends)
start_after ends place some within =
    let before : place ≡ place - 1 + 1 = omega (arith, some) in
    sym (ap (λ n. last_end 0 (take n ends)) before
    ∙ ap (last_end 0) (take_more ends (place - 1) 0 (omega (arith, within)))
    ∙ last_end_more 0 (take (place - 1) ends) (slice_index_or ends (place - 1) 0))

-- One legal log more is read.
are_more : (program : Image) (bytes : List ℕ) (from : ℕ) (front : List ℕ) (logs : List ProgramLog) (end : ℕ)
    (log : ProgramLog) → AreLogs program bytes from front logs
    → IsLegalText program (text_between bytes (last_end from front) end) log
    → AreLogs program bytes from (front ++ end ∷ []) (logs ++ log ∷ [])
are_more program bytes from [] [] end log are legal = (legal, tt)
are_more program bytes from [] (first ∷ logs) end log are legal = absurd are
are_more program bytes from (next ∷ front) [] end log are legal = absurd are
are_more program bytes from (next ∷ front) (first ∷ logs) end log are legal =
    (are.0, are_more program bytes next front logs end log are.1 legal)

-- There are as many logs as texts.
pub as_many : (program : Image) (bytes : List ℕ) (from : ℕ) (ends : List ℕ) (logs : List ProgramLog)
    → AreLogs program bytes from ends logs → length logs ≡ length ends
as_many program bytes from [] [] are = refl
as_many program bytes from [] (log ∷ logs) are = absurd are
as_many program bytes from (end ∷ ends) [] are = absurd are
as_many program bytes from (end ∷ ends) (log ∷ logs) are = ap suc (as_many program bytes end ends logs are.1)

module _ (program : Image) (bytes ends : List ℕ) (place : ℕ) where
  abbrev end : ℕ
  end = slice_index_or ends place 0

  module _ (Before Then : List ProgramLog → Type 0) where
    -- One text more is that of a legal log, and so that holds of them.
    pub texts_more : (log : ProgramLog) → place < length ends → IsLegalText program (text_at bytes ends place) log
        → ((logs : List ProgramLog) → length logs ≡ place → Before logs → Then (logs ++ log ∷ []))
        → AreTextsOf program bytes (take place ends) Before → AreTextsOf program bytes (take (place + 1) ends) Then
    texts_more log within legal next before =
        let many = as_many program bytes 0 (take place ends) before.logs before.are
        ∙ length-take-le place ends (omega arith) in
        record {
          logs = before.logs ++ log ∷ [];
          are = subst (λ front. AreLogs program bytes 0 front (before.logs ++ log ∷ []))
              (sym (take_more ends place 0 within))
              (are_more program bytes 0 (take place ends) before.logs end log before.are legal);
          holds = next before.logs many before.holds;
        }

    -- All are, and so that holds of them.
    pub texts_all : length ends ≤ place
        → ((logs : List ProgramLog) → length logs ≡ length ends → Before logs → Then logs)
        → AreTextsOf program bytes (take place ends) Before → AreTextsOf program bytes ends Then
    texts_all past last done =
        let all = subst (λ front. AreLogs program bytes 0 front done.logs) (take_all place ends past) done.are in
        record {
          logs = done.logs;
          are = all;
          holds = last done.logs (as_many program bytes 0 ends done.logs all) done.holds;
        }

  -- One is refused.
  pub text_refused : (Holds : List ProgramLog → Type 0) (at : ℕ) (fault : Fault) → place < length ends → at ≡ place
      → AreTextsOf program bytes (take place ends) Holds → IsNoLegalText program (text_at bytes ends place) fault
      → IsRefusedLog program bytes ends at fault
  text_refused Holds at fault within is before refused = record {
    front = take place ends;
    end = end;
    rest = drop (place + 1) ends;
    logs = before.logs;
    whole = sym (take-append-drop (place + 1) ends)
        ∙ ap (λ front. front ++ drop (place + 1) ends) (take_more ends place 0 within)
        ∙ append_assoc (take place ends) (end ∷ []) (drop (place + 1) ends);
    before = before.are;
    counted = is ∙ sym (length-take-le place ends (omega arith));
    refused = refused;
  }

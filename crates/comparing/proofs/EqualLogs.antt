-- A comparison is whole where what was decoded is just the logs.
use Rattle.std.proofs.Common.{◌≡◌, ◌∙◌, ℕ, suc, Bool, true, false, List, [], ◌∷◌, Option, Some, None, ap, arith, length}
use Rattle.std.proofs.Common.{refl, replicate, subst, sym, true≢false}
use Rattle.std.proofs.lemmas.Bool.{eq-eqb, eqb-true}
use Rattle.std.specs.Prelude.{◌+◌, ◌==◌, ◌&&◌, ◌↔◌, if◌then◌else◌, is_none}
use Rattle.bench.specs.Report.{are_whole, is_whole_verdict}
use Rattle.bench.specs.Verdict.{count_alike, is_alike, is_same_flag, verdict}
use Rattle.bench.specs.declared.verdict.Verdict.TheVariants.{Whole, Beginning, Differs}
use Rattle.captures.specs.declared.outcome.CaptureFault.{CaptureFault}
use Rattle.legalpath.specs.ProgramLog.{ProgramLog}
use Rattle.retire.specs.declared.event.Event.{Event}
use Rattle.retire.specs.declared.event.Event.TheVariants.{Retire, Trap}
use Rattle.comparing.specs.Compared.{gots_by, is_compared_whole}
use Rattle.comparing.specs.Verdicts.{verdict_at}
use Rattle.comparing.specs.Whole.{WholeIsEqual, events_of_logs}
use Rattle.comparing.specs.declared.hart_count.HartCount.{HartCount}

both_true : (a b : Bool) → (a && b) ≡ true → (a ≡ true) × (b ≡ true)
both_true true b is = (refl, is)
both_true false b is = absurd (true≢false (sym is))

same_flag : (a b : Bool) → is_same_flag a b ≡ true → a ≡ b
same_flag true b is = sym is
same_flag false true is = absurd (true≢false (sym is))
same_flag false false is = refl

flag_same : (a : Bool) → is_same_flag a a ≡ true
flag_same true = refl
flag_same false = refl

-- Events that are alike are the same.
pub same_event : (event row : Event) → is_alike event row ≡ true → event ≡ row
same_event (Retire addr itype privilege) (Retire addr' itype' privilege') is =
    let first = both_true (addr == addr') (itype == itype' && privilege == privilege') is in
    let second = both_true (itype == itype') (privilege == privilege') first.1 in
    let a = eqb-true addr addr' first.0 in
    let b = eqb-true itype itype' second.0 in
    let c = eqb-true privilege privilege' second.1 in cc
same_event (Trap privilege interrupt cause epc tval) (Trap privilege' interrupt' cause' epc' tval') is =
    let first = both_true (epc == epc') (privilege == privilege'
    && (is_same_flag interrupt interrupt' && (cause == cause' && tval == tval'))) is in
    let second = both_true (privilege == privilege')
    (is_same_flag interrupt interrupt' && (cause == cause' && tval == tval')) first.1 in
    let third = both_true (is_same_flag interrupt interrupt') (cause == cause' && tval == tval') second.1 in
    let fourth = both_true (cause == cause') (tval == tval') third.1 in
    let a = eqb-true epc epc' first.0 in
    let b = eqb-true privilege privilege' second.0 in
    let c = same_flag interrupt interrupt' third.0 in
    let d = eqb-true cause cause' fourth.0 in
    let e = eqb-true tval tval' fourth.1 in cc
same_event (Retire addr itype privilege) (Trap privilege' interrupt' cause' epc' tval') is =
    absurd (true≢false (sym is))
same_event (Trap privilege interrupt cause epc tval) (Retire addr' itype' privilege') is =
    absurd (true≢false (sym is))

-- An event is like itself.
pub event_same : (event : Event) → is_alike event event ≡ true
event_same (Retire addr itype privilege) =
    let a = eq-eqb addr addr refl in
    let b = eq-eqb itype itype refl in
    let c = eq-eqb privilege privilege refl in rw (a, b, c) refl
event_same (Trap privilege interrupt cause epc tval) =
    let a = eq-eqb epc epc refl in
    let b = eq-eqb privilege privilege refl in
    let c = flag_same interrupt in
    let d = eq-eqb cause cause refl in
    let e = eq-eqb tval tval refl in rw (a, b, c, d, e) refl

-- Lists of which all events are alike are the same.
same_lists : (decoded log : List Event) → count_alike decoded log ≡ length decoded
    → count_alike decoded log ≡ length log → decoded ≡ log
same_lists [] [] all whole = refl
same_lists [] (row ∷ log) all whole = absurd (omega (arith, whole))
same_lists (event ∷ decoded) [] all whole = absurd (omega (arith, all))
same_lists (event ∷ decoded) (row ∷ log) all whole =
    go (is_alike event row) refl (λ all whole. same_lists decoded log all whole) all whole
  where
    go : (alike : Bool) → is_alike event row ≡ alike
        → (count_alike decoded log ≡ length decoded → count_alike decoded log ≡ length log → decoded ≡ log)
        → (if alike then suc (count_alike decoded log) else 0) ≡ suc (length decoded)
        → (if alike then suc (count_alike decoded log) else 0) ≡ suc (length log)
        → event ∷ decoded ≡ row ∷ log
    go true is same all whole =
        let first = same_event event row is in
        let rest = same (omega (arith, all)) (omega (arith, whole)) in cc
    go false is same all whole = absurd (omega (arith, all))

-- All events of a list are like its own.
lists_same : (log : List Event) → count_alike log log ≡ length log
lists_same [] = refl
lists_same (row ∷ log) =
    ap (λ alike. if alike then suc (count_alike log log) else 0) (event_same row) ∙ ap (λ n. suc n) (lists_same log)

-- The verdict by counts is whole only where all is alike and the hart is closed.
counts_whole : (closed : Bool) (alike decoded events : ℕ)
    → is_whole_verdict (verdict_at closed alike decoded events) ≡ true
    → (closed ≡ true) × ((alike ≡ decoded) × (alike ≡ events))
counts_whole closed alike decoded events is =
    go (closed && (alike == decoded && alike == events)) refl (alike == decoded) is
  where
    go : (whole : Bool) → (closed && (alike == decoded && alike == events)) ≡ whole → (beginning : Bool)
        → is_whole_verdict (if whole then Whole else if beginning then Beginning else Differs (alike + 1))
        ≡ true → (closed ≡ true) × ((alike ≡ decoded) × (alike ≡ events))
    go true all beginning is =
        let first = both_true closed (alike == decoded && alike == events) all in
        let second = both_true (alike == decoded) (alike == events) first.1 in
        (first.0, (eqb-true alike decoded second.0, eqb-true alike events second.1))
    go false all true is = absurd (true≢false (sym is))
    go false all false is = absurd (true≢false (sym is))

whole_here : (closed : Bool) (decoded log : List Event) → is_whole_verdict (verdict closed decoded log) ≡ true
    → (closed ≡ true) × (decoded ≡ log)
whole_here closed decoded log is =
    let counts = counts_whole closed (count_alike decoded log) (length decoded) (length log) is in
    (counts.0, same_lists decoded log counts.1.0 counts.1.1)

here_whole : (log : List Event) → is_whole_verdict (verdict true log log) ≡ true
here_whole log =
    let alike = lists_same log in
    let is = eq-eqb (count_alike log log) (length log) alike in rw is refl

-- The logs are what was decoded.
are_equal : (count : ℕ → HartCount) (hart : ℕ) (lists : List (List Event)) (closed : List Bool) (logs : List ProgramLog)
    → length closed ≡ length lists → length logs ≡ length lists → are_whole (gots_by count hart lists closed) logs ≡ true
    → (lists ≡ events_of_logs logs) × (closed ≡ replicate (length lists) true)
are_equal count hart [] [] [] same many is = (refl, refl)
are_equal count hart [] [] (log ∷ logs) same many is = absurd (omega (arith, many))
are_equal count hart [] (flag ∷ closed) logs same many is = absurd (omega (arith, same))
are_equal count hart (list ∷ lists) [] logs same many is = absurd (omega (arith, same))
are_equal count hart (list ∷ lists) (flag ∷ closed) [] same many is = absurd (omega (arith, many))
are_equal count hart (list ∷ lists) (flag ∷ closed) (log ∷ logs) same many is =
    let parts = both_true (is_whole_verdict (verdict flag list log.events))
    (are_whole (gots_by count (hart + 1) lists closed) logs) is in
    let here = whole_here flag list log.events parts.0 in
    let rest = are_equal count (hart + 1) lists closed logs (omega (arith, same)) (omega (arith, many)) parts.1 in
    let first = here.0 in
    let own = here.1 in
    let later = rest.0 in
    let flags = rest.1 in
    (cc, cc)

equal_are : (count : ℕ → HartCount) (hart : ℕ) (logs : List ProgramLog)
    → are_whole (gots_by count hart (events_of_logs logs) (replicate (length (events_of_logs logs)) true)) logs ≡ true
equal_are count hart [] = refl
equal_are count hart (log ∷ logs) =
    let here = here_whole log.events in
    let rest = equal_are count (hart + 1) logs in rw (here, rest) refl

-- Decoding comes to the end where there is no stop.
no_stop : (stop : Option (ℕ × CaptureFault)) → is_none stop ≡ true → stop ≡ None
no_stop None is = refl
no_stop (Some at) is = absurd (true≢false (sym is))

-- A comparison is whole where it comes to the end, and the logs are what was decoded. The first hart has this number.
pub whole_from : (hart : ℕ) (count : ℕ → HartCount) (lists : List (List Event)) (closed : List Bool)
    (stop : Option (ℕ × CaptureFault)) (logs : List ProgramLog) → length closed ≡ length lists
    → length logs ≡ length lists
    → (is_compared_whole stop (gots_by count hart lists closed) logs ≡ true)
    ↔ ((stop ≡ None) × (lists ≡ events_of_logs logs) × (closed ≡ replicate (length lists) true))
whole_from hart count lists closed stop logs same many = (
  (λ is.
      let parts = both_true (is_none stop) (are_whole (gots_by count hart lists closed) logs) is in
      let equal = are_equal count hart lists closed logs same many parts.1 in
      (no_stop stop parts.0, equal.0, equal.1)),
  (λ (none, own, flags).
      let all = equal_are count hart logs in
      let closed_is : closed ≡ replicate (length (events_of_logs logs)) true =
      flags ∙ ap (λ lists. replicate (length lists) true) own in
      subst (λ stop. is_compared_whole stop (gots_by count hart lists closed) logs ≡ true) (sym none)
      (subst (λ closed. are_whole (gots_by count hart lists closed) logs ≡ true) (sym closed_is)
      (subst (λ lists. are_whole (gots_by count hart lists (replicate (length (events_of_logs logs)) true)) logs ≡ true)
      (sym own) all))),
)

pub whole_equal : WholeIsEqual
whole_equal count lists closed stop logs same many = whole_from 0 count lists closed stop logs same many

-- The lines of first harts, and whether their logs came back whole, with one hart more.
use Rattle.std.proofs.Common.{◌≡◌, ◌<◌, ◌≤◌, ◌+◌, ℕ, zero, suc, Bool, List, [], ◌∷◌, ◌++◌, Some, drop, get_or, length}
use Rattle.std.proofs.Common.{map, take, slice_get, refl, subst, sym, ap, ◌∙◌, arith}
use Rattle.std.specs.Option.{option_map}
use Rattle.std.specs.Prelude.{◌&&◌, true, false, is_none, is_some, not, Option, None}
use Rattle.std.proofs.lemmas.List.{append_assoc, append-nil, length-map, take_all}
use Rattle.std.proofs.lemmas.Option.{same_Some, slice_get-map, slice_get_read}
use Rattle.std.specs.Io.KnownBytes.{Appends}
use Rattle.output.specs.Begun.{AppendsBeginning}
use Rattle.output.proofs.Beginnings.{begun_behind, begun_in_front}
use Rattle.legalpath.specs.ProgramLog.{ProgramLog}
use Rattle.bench.specs.Got.{Got, got_of}
use Rattle.bench.specs.Report.{are_whole, report_line, report_lines, is_whole_verdict}
use Rattle.bench.specs.Verdict.{verdict}
use Rattle.bench.specs.declared.outcome.HartOutcome.{HartOutcome}
use Rattle.bench.specs.declared.stop.Stop.{Stop}

-- The lines of first harts, the first of them this one, and of the next.
pub report_lines-next : (hart : ℕ) (gots : List Got) (logs : List ProgramLog) (k : ℕ) (got : Got) (log : ProgramLog)
    → slice_get gots k ≡ Some got → slice_get logs k ≡ Some log
    → report_lines hart (take (suc k) gots) (take (suc k) logs)
    ≡ report_lines hart (take k gots) (take k logs) ++ report_line (hart + k) got log
report_lines-next hart [] logs k got log at there = cc
report_lines-next hart (g ∷ gots) [] k got log at there = cc
report_lines-next hart (g ∷ gots) (l ∷ logs) zero got log at there =
    let here : hart + 0 ≡ hart = omega arith in
    append-nil (report_line hart g l)
    ∙ ap (λ h. report_line h g l) (sym here)
    ∙ ap (λ (one : Got). report_line (hart + 0) one l) (same_Some g got at)
    ∙ ap (λ (one : ProgramLog). report_line (hart + 0) got one) (same_Some l log there)
report_lines-next hart (g ∷ gots) (l ∷ logs) (suc k) got log at there =
    let place : hart + 1 + k ≡ hart + suc k = omega arith in
    ap (λ rest. report_line hart g l ++ rest) (report_lines-next (hart + 1) gots logs k got log at there)
    ∙ sym (append_assoc (report_line hart g l) (report_lines (hart + 1) (take k gots) (take k logs))
    (report_line (hart + 1 + k) got log))
    ∙ ap (λ h. report_line hart g l ++ report_lines (hart + 1) (take k gots) (take k logs) ++ report_line h got log)
    place

-- No logs have no lines.
report_lines-none : (hart : ℕ) (gots : List Got) → report_lines hart gots [] ≡ []
report_lines-none hart [] = refl
report_lines-none hart (g ∷ gots) = refl

-- The lines of first harts, the first of them this one, and of the others.
report_lines-parted : (hart : ℕ) (gots : List Got) (logs : List ProgramLog) (k : ℕ)
    → report_lines hart gots logs
    ≡ report_lines hart (take k gots) (take k logs) ++ report_lines (hart + k) (drop k gots) (drop k logs)
report_lines-parted hart gots logs zero = ap (λ h. report_lines h gots logs) (omega arith)
report_lines-parted hart [] logs (suc k) = refl
report_lines-parted hart (g ∷ gots) [] (suc k) = sym (report_lines-none (hart + suc k) (drop k gots))
report_lines-parted hart (g ∷ gots) (l ∷ logs) (suc k) =
    let place : hart + 1 + k ≡ hart + suc k = omega arith in
    ap (λ rest. report_line hart g l ++ rest) (report_lines-parted (hart + 1) gots logs k)
    ∙ sym (append_assoc (report_line hart g l) (report_lines (hart + 1) (take k gots) (take k logs))
    (report_lines (hart + 1 + k) (drop k gots) (drop k logs)))
    ∙ ap (λ h. (report_line hart g l ++ report_lines (hart + 1) (take k gots) (take k logs))
    ++ report_lines h (drop k gots) (drop k logs)) place

-- The lines of first harts were written, and a beginning of the next.
pub hart_begun : (gots : List Got) (logs : List ProgramLog) (k : ℕ) (got : Got) (log : ProgramLog)
    (old mid new : Option (List ℕ)) → slice_get gots k ≡ Some got → slice_get logs k ≡ Some log
    → Appends old mid (report_lines 0 (take k gots) (take k logs))
    → AppendsBeginning (report_line (0 + k) got log) mid new
    → AppendsBeginning (report_lines 0 gots logs) old new
hart_begun gots logs k got log old mid new at there first begun =
    let front = report_lines 0 (take k gots) (take k logs) in
    let here = report_line (0 + k) got log in
    let rest = report_lines (0 + suc k) (drop (suc k) gots) (drop (suc k) logs) in
    let all : report_lines 0 gots logs ≡ (front ++ here) ++ rest =
    report_lines-parted 0 gots logs (suc k) ∙ ap (λ l. l ++ rest) (report_lines-next 0 gots logs k got log at there) in
    subst (λ l. AppendsBeginning l old new) (sym all)
    (begun_in_front (front ++ here) rest old new (begun_behind front here old mid new first begun))

-- The element at a place, which is the outcome of a hart.
pub got_at : {A : Type 0} (harts : List (HartOutcome A)) (k : ℕ) (hart : HartOutcome A) → k < length harts
    → hart ≡ get_or harts k hart
    → slice_get (map got_of harts) k ≡ Some (got_of hart)
got_at harts k hart within is =
    slice_get-map got_of harts k ∙ ap (option_map got_of) (slice_get_read harts (length harts) k hart refl within is)

-- Whether a hart's log came back whole.
abbrev pub came_back : Got → ProgramLog → Bool
came_back got log = is_whole_verdict (verdict got.closed got.decoded log.events)

and_assoc : (a b c : Bool) → (a && (b && c)) ≡ (a && b && c)
and_assoc true b c = refl
and_assoc false b c = refl

and_true : (a : Bool) → (a && true) ≡ a
and_true true = refl
and_true false = refl

-- Whether the logs of first harts and of the next came back whole.
pub are_whole-next : (gots : List Got) (logs : List ProgramLog) (k : ℕ) (got : Got) (log : ProgramLog)
    → slice_get gots k ≡ Some got → slice_get logs k ≡ Some log
    → are_whole (take (suc k) gots) (take (suc k) logs) ≡ (are_whole (take k gots) (take k logs) && came_back got log)
are_whole-next [] logs k got log at there = cc
are_whole-next (g ∷ gots) [] k got log at there = cc
are_whole-next (g ∷ gots) (l ∷ logs) zero got log at there =
    and_true (came_back g l)
    ∙ ap (λ (one : Got). came_back one l) (same_Some g got at)
    ∙ ap (λ (one : ProgramLog). came_back got one) (same_Some l log there)
are_whole-next (g ∷ gots) (l ∷ logs) (suc k) got log at there =
    ap (λ rest. came_back g l && rest) (are_whole-next gots logs k got log at there)
    ∙ and_assoc (came_back g l) (are_whole (take k gots) (take k logs)) (came_back got log)

-- There are as many as harts.
pub length-gots : {A : Type 0} (harts : List (HartOutcome A)) → length (map got_of harts) ≡ length harts
length-gots harts = length-map harts got_of

module _ (gots : List Got) (logs : List ProgramLog) (k : ℕ) (over : length gots ≤ k) (over_logs : length logs ≤ k) where
  -- The first harts, as many as there are, are all.
  pub are_whole-all : are_whole (take k gots) (take k logs) ≡ are_whole gots logs
  are_whole-all =
      ap (λ first. are_whole first (take k logs)) (take_all k gots over)
      ∙ ap (are_whole gots) (take_all k logs over_logs)

  pub report_lines-all : report_lines 0 (take k gots) (take k logs) ≡ report_lines 0 gots logs
  report_lines-all =
      ap (λ first. report_lines 0 first (take k logs)) (take_all k gots over)
      ∙ ap (report_lines 0 gots) (take_all k logs over_logs)

-- Whether there is a stop.
pub none_of : (why : Option Stop) (none : Bool) → is_some why ≡ not none → none ≡ is_none why
none_of None true is = refl
none_of None false is = cc
none_of (Some why) true is = cc
none_of (Some why) false is = refl

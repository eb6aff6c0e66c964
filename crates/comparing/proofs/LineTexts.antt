-- Lines that are written one after the other, and what they are of.
use Rattle.std.proofs.Common.{◌≡◌, ◌∙◌, ℕ, ◌+◌, ◌<◌, List, [], ◌∷◌, ◌++◌, Bool, true, false, true≢false, Option, None, Some, ap, append-nil, get_or, length}
use Rattle.std.proofs.Common.{arith, refl, subst, suc, sym, take}
use Rattle.std.proofs.KnownBytes.{Appends-trans}
use Rattle.std.proofs.lemmas.Grind.{flat_map-append}
use Rattle.std.proofs.lemmas.List.{take_more}
use Rattle.std.specs.Io.KnownBytes.{Appends}
use Rattle.std.specs.List.{flat_map, list_all}
use Rattle.std.specs.Prelude.{◌&&◌, is_none, is_some, not}
use Rattle.output.specs.Begun.{AppendsBeginning}
use Rattle.output.proofs.Beginnings.{begun_behind}
use Rattle.bench.specs.Got.{Got}
use Rattle.bench.specs.Report.{are_whole, is_whole_verdict, result_line}
use Rattle.bench.specs.Verdict.{verdict}
use Rattle.captures.specs.declared.outcome.CaptureFault.{CaptureFault}
use Rattle.legalpath.specs.ProgramLog.{ProgramLog}
use Rattle.comparing.specs.Compared.{is_compared_whole}
use Rattle.comparing.specs.Explained.{are_whole_sourced, explained_harts, is_whole_hart, is_whole_sourced}
use Rattle.comparing.specs.Sourced.{AreNumbered, AreSourced}
use Rattle.comparing.specs.declared.explained.ExplainedHart.{ExplainedHart}
use Rattle.comparing.specs.declared.sourcing.SourcedHart.{SourcedHart}
use Rattle.rvclass.specs.Words.{Words}

module _ {X : Type 0} (text_of : X → List ℕ) (all : List X) (i : ℕ) (one : X) (within : i < length all)
    (is : one ≡ get_or all i one) (old mid new : Option (List ℕ))
    (first : Appends old mid (flat_map text_of (take i all))) where
  more : flat_map text_of (take (i + 1) all) ≡ flat_map text_of (take i all) ++ text_of one
  more =
      ap (flat_map text_of) (take_more all i one within)
      ∙ flat_map-append text_of (take i all) (get_or all i one ∷ [])
      ∙ ap (λ one. flat_map text_of (take i all) ++ flat_map text_of (one ∷ [])) (sym is)
      ∙ ap (λ text. flat_map text_of (take i all) ++ text) (append-nil (text_of one))

  -- The first lines are written, and then one more.
  pub line_written : Appends mid new (text_of one) → Appends old new (flat_map text_of (take (i + 1) all))
  line_written then =
      subst (Appends old new) (sym more)
      (Appends-trans old mid new (flat_map text_of (take i all)) (text_of one) first then)

-- Whether there is no stop, told by whether there is one.
none_is : (stop : Option (ℕ × CaptureFault)) (none : Bool) → is_some stop ≡ not none → none ≡ is_none stop
none_is None true is = refl
none_is None false is = absurd (true≢false (sym is))
none_is (Some at) true is = absurd (true≢false is)
none_is (Some at) false is = refl

-- The lines are written, and then the line of the result or a prefix of it. Decoding stops there, or comes to the end.
pub ended_begun : (stop : Option (ℕ × CaptureFault)) (ended whole all : Bool) (lines : List ℕ)
    (old mid new : Option (List ℕ)) → is_some stop ≡ not ended → whole ≡ all → Appends old mid lines
    → AppendsBeginning (result_line (ended && whole)) mid new
    → AppendsBeginning (lines ++ result_line (is_none stop && all)) old new
ended_begun stop ended whole all lines old mid new is same text begun =
    subst (λ ended. AppendsBeginning (lines ++ result_line (ended && all)) old new) (none_is stop ended is)
    (begun_behind lines (result_line (ended && all)) old mid new text
    (subst (λ whole. AppendsBeginning (result_line (ended && whole)) mid new) same begun))

-- What is said of harts is whole where their logs came back whole, if there is a log for each hart.
whole_of_harts : (hart : ℕ) (gots : List Got) (logs : List ProgramLog) → length logs ≡ length gots
    → list_all is_whole_hart (explained_harts hart gots logs) ≡ are_whole gots logs
whole_of_harts hart [] logs same = refl
whole_of_harts hart (got ∷ gots) [] same = absurd (omega (arith, same))
whole_of_harts hart (got ∷ gots) (log ∷ logs) same =
    ap (λ rest. is_whole_verdict (verdict got.closed got.decoded log.events) && rest)
    (whole_of_harts (hart + 1) gots logs (omega (arith, same)))

-- It is the same with the messages that rows come from.
whole_of_sourced : (words : Words) (bytes : List ℕ) (stop : Option (ℕ × CaptureFault)) (harts : List ExplainedHart)
    (sourced : List SourcedHart) → AreSourced words bytes stop harts sourced
    → list_all is_whole_sourced sourced ≡ list_all is_whole_hart harts
whole_of_sourced words bytes stop [] [] are = refl
whole_of_sourced words bytes stop [] (one ∷ sourced) are = elim are [ ]
whole_of_sourced words bytes stop (hart ∷ harts) [] are = elim are [ ]
whole_of_sourced words bytes stop (hart ∷ harts) (one ∷ sourced) are =
    ap (λ (hart : ExplainedHart). is_whole_hart hart && list_all is_whole_sourced sourced) are.0.hart_is
    ∙ ap (λ rest. is_whole_hart hart && rest) (whole_of_sourced words bytes stop harts sourced are.1)

-- The harts that are written are whole where the comparison is.
pub sourced_whole : (words : Words) (bytes : List ℕ) (hart : ℕ) (stop : Option (ℕ × CaptureFault)) (gots : List Got)
    (logs : List ProgramLog) (sourced : List SourcedHart) → length logs ≡ length gots
    → AreSourced words bytes stop (explained_harts hart gots logs) sourced
    → are_whole_sourced (is_none stop) sourced ≡ is_compared_whole stop gots logs
sourced_whole words bytes hart stop gots logs sourced same are =
    ap (λ whole. is_none stop && whole)
    (whole_of_sourced words bytes stop (explained_harts hart gots logs) sourced are ∙ whole_of_harts hart gots logs same)

-- What is said of harts has their numbers in order.
pub harts_numbered : (hart : ℕ) (gots : List Got) (logs : List ProgramLog)
    → AreNumbered hart (explained_harts hart gots logs)
harts_numbered hart [] logs = tt
harts_numbered hart (got ∷ gots) [] = tt
harts_numbered hart (got ∷ gots) (log ∷ logs) = (refl, harts_numbered (hart + 1) gots logs)

-- Something is said of each hart.
pub harts_many : (hart : ℕ) (gots : List Got) (logs : List ProgramLog) → length logs ≡ length gots
    → length (explained_harts hart gots logs) ≡ length gots
harts_many hart [] logs same = refl
harts_many hart (got ∷ gots) [] same = absurd (omega (arith, same))
harts_many hart (got ∷ gots) (log ∷ logs) same = ap (λ n. suc n) (harts_many (hart + 1) gots logs (omega (arith, same)))

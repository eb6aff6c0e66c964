-- Harts are compared with logs one after the other.
use Rattle.std.proofs.Common.{◌≡◌, ℕ, suc, ◌+◌, ◌<◌, List, [], ◌∷◌, ◌++◌, Some, length, slice_get, take}
use Rattle.std.proofs.Common.{ap, sym, ◌∙◌, arith}
use Rattle.std.proofs.lemmas.List.{length-take-le, take_more}
use Rattle.std.proofs.lemmas.Option.{same_Some, slice_get-get_or}
use Rattle.bench.specs.Got.{Got}
use Rattle.comparing.specs.Explained.{explained_hart, explained_harts}
use Rattle.comparing.specs.declared.explained.ExplainedHart.{ExplainedHart}
use Rattle.legalpath.specs.ProgramLog.{ProgramLog}

-- One line more is that of the hart after those before.
lines_more : (hart : ℕ) (gots : List Got) (logs : List ProgramLog) (got : Got) (log : ProgramLog)
    → length logs ≡ length gots
    → explained_harts hart (gots ++ got ∷ []) (logs ++ log ∷ [])
    ≡ explained_harts hart gots logs ++ explained_hart (hart + length gots) got log ∷ []
lines_more hart [] [] got log same =
    let here : hart ≡ hart + 0 = omega arith in ap (λ h. explained_hart h got log ∷ []) here
lines_more hart [] (other ∷ logs) got log same = absurd (omega (arith, same))
lines_more hart (first ∷ gots) [] got log same = absurd (omega (arith, same))
lines_more hart (first ∷ gots) (other ∷ logs) got log same =
    let there : hart + 1 + length gots ≡ hart + suc (length gots) = omega arith in
    ap (λ rest. explained_hart hart first other ∷ rest)
    (lines_more (hart + 1) gots logs got log (omega (arith, same))
    ∙ ap (λ h. explained_harts (hart + 1) gots logs ++ explained_hart h got log ∷ []) there)

-- One hart more is compared.
pub compared_more : (gots : List Got) (place : ℕ) (said : List ExplainedHart) (got : Got) (one : ExplainedHart)
    (logs : List ProgramLog) (log : ProgramLog) → place < length gots → slice_get gots place ≡ Some got
    → length logs ≡ place → said ≡ explained_harts 0 (take place gots) logs → one ≡ explained_hart place got log
    → said ++ one ∷ [] ≡ explained_harts 0 (take (place + 1) gots) (logs ++ log ∷ [])
compared_more gots place said got one logs log inside there many before is =
    let known = same_Some _ got (sym (slice_get-get_or gots place got inside) ∙ there) in
    let long = length-take-le place gots (omega (arith, inside)) in
    let at_end : place ≡ 0 + length (take place gots) = omega (arith, long) in
    ap (λ first. first ++ one ∷ []) before
    ∙ ap (λ last. explained_harts 0 (take place gots) logs ++ last ∷ [])
    (is ∙ ap (λ h. explained_hart h got log) at_end)
    ∙ sym (lines_more 0 (take place gots) logs got log (many ∙ sym long))
    ∙ ap (λ front. explained_harts 0 front (logs ++ log ∷ []))
    (sym (take_more gots place got inside ∙ ap (λ g. take place gots ++ g ∷ []) known))

-- The last of a funnel's ports, apart from the others.
use Rattle.std.proofs.Common.{◌≡◌, ◌<◌, ◌+◌, ◌∙◌, ℕ, List, [], ◌∷◌, ◌++◌, Some, length, slice_get, sym, ap, arith}
use Rattle.std.proofs.lemmas.List.{length_push}
use Rattle.std.proofs.lemmas.Option.{same_Some}
use Rattle.message.proofs.Elements.{slice_get-behind, slice_get-some}
use Rattle.funnel.proofs.Places.{slice_get-front}
use Rattle.funnel.specs.Ends.{AreNewPorts, FunnelId, PortView, new_port}

pub last_port : (funnel : FunnelId) (harts place : ℕ) (ports rest : List PortView) (port : PortView)
    → AreNewPorts funnel harts ports → ports ≡ rest ++ port ∷ [] → place ≡ length rest
    → AreNewPorts funnel place rest × (port ≡ new_port funnel place) × (harts ≡ place + 1)
last_port funnel harts place ports rest port all is here = (
  (sym here, λ hart below. front hart (slice_get-some rest hart (omega (arith, below, here))) below),
  same_Some port (new_port funnel place)
      (sym (ap (slice_get (rest ++ port ∷ [])) here ∙ slice_get-behind rest port []) ∙ at place (omega (arith, count))),
  count,
)
  where
    count : harts ≡ place + 1
    count = sym all.0 ∙ ap length is ∙ length_push rest port ∙ ap (λ n. n + 1) (sym here)

    at : (hart : ℕ) → hart < harts → slice_get (rest ++ port ∷ []) hart ≡ Some (new_port funnel hart)
    at hart below = ap (λ some. slice_get some hart) (sym is) ∙ all.1 hart below

    front : (hart : ℕ) → (found : (x : PortView) × (slice_get rest hart ≡ Some x)) → hart < place
        → slice_get rest hart ≡ Some (new_port funnel hart)
    front hart found below =
        found.1
        ∙ sym (slice_get-front rest (port ∷ []) hart found.0 found.1)
        ∙ at hart (omega (arith, below, count))

-- The ports of a funnel, with one more.
use Rattle.std.proofs.Common.{◌≡◌, ◌+◌, ℕ, List, [], ◌∷◌, ◌++◌, length, All, Some, get_or, slice_get, sym, ap, ◌∙◌}
use Rattle.std.proofs.Common.{subst, arith, length-append}
use Rattle.std.proofs.lemmas.Option.{slice_get-get_or}
use mathlib.Core.Logic.{dite}
use native.Mathlib.Decide.{dec_le}
use Rattle.funnel.specs.Ends.{FunnelId, PortView, new_port, AreNewPorts}
use Rattle.message.proofs.Elements.{slice_get-behind}
use Rattle.funnel.proofs.Places.{slice_get-front}

pub new_ports_next : (funnel : FunnelId) (n : ℕ) (ports : List PortView) → AreNewPorts funnel n ports
    → AreNewPorts funnel (n + 1) (ports ++ new_port funnel n ∷ [])
new_ports_next funnel n ports all =
    let new : PortView = new_port funnel n in
    let len : length ports ≡ n = all.0 in (
      omega (arith, length-append ports (new ∷ [])),
      λ h below. dite (dec_le n h)
          (λ past. let same : h ≡ n = omega arith in
          ap (slice_get (ports ++ new ∷ [])) (same ∙ sym len) ∙ slice_get-behind ports new []
          ∙ ap (λ (k : ℕ). Some (new_port funnel k)) (sym same))
          (λ before. slice_get-front ports (new ∷ []) h _ (all.1 h (omega arith))),
    )

-- A new port was handed out and pushed.
pub one_more : (funnel : FunnelId) (n : ℕ) (ports more : List PortView) (port : PortView) (same : FunnelId)
    → AreNewPorts funnel n ports → port ≡ new_port same n → same ≡ funnel → more ≡ ports ++ port ∷ []
    → AreNewPorts funnel (n + 1) more
one_more funnel n ports more port same all is of pushed =
    subst (AreNewPorts funnel (n + 1))
    (sym (pushed ∙ ap (λ p. ports ++ p ∷ []) (is ∙ ap (λ f. new_port f n) of)))
    (new_ports_next funnel n ports all)

-- Each of new ports is of the funnel, and sent nothing.
pub new_ports_each : (funnel : FunnelId) (harts : ℕ) (ports : List PortView) → AreNewPorts funnel harts ports
    → All (λ port. (port.funnel ≡ funnel) × (port.sent ≡ [])) ports
new_ports_each funnel harts ports all k d inside =
    let len : length ports ≡ harts = all.0 in
    let at : get_or ports k d ≡ new_port funnel k =
    some_same _ _ (sym (slice_get-get_or ports k d inside) ∙ all.1 k (omega arith)) in
    (ap (λ (port : PortView). port.funnel) at, ap (λ (port : PortView). port.sent) at)
  where
    some_same : (a b : PortView) → Some a ≡ Some b → a ≡ b
    some_same a b e = cc

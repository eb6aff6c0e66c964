-- What is decoded of no messages.
use Rattle.std.proofs.Common.{◌≡◌, ℕ, ◌<◌, Bool, false, List, [], ◌∷◌, None, get_or, replicate, sym, ◌∙◌}
use Rattle.std.proofs.Common.{arith}
use Rattle.std.proofs.lemmas.List.{same_lists, length-replicate, get_or-replicate}
use Rattle.std.proofs.lemmas.Option.{slice_get-get_or}
use Rattle.retire.specs.declared.event.Event.{Event}
use Rattle.rvclass.specs.Words.{Words}
use Rattle.legalpath.specs.Join.{join}
use Rattle.decoder.specs.Describes.{Describes}
use Rattle.decoder.specs.ModeOf.{mode_of}
use Rattle.decoder.specs.Pieces.{Pieces}
use Rattle.receiver.specs.Holds.{AreDecoded}

-- No packets describe no events.
no_events : (words : Words) (log : List Event) → Describes words [] log → log ≡ []
no_events words log described = go described.pieces described.each described.whole
  where
    go : (pieces : List (List Event)) → Pieces words (mode_of []) None 0 [] None pieces → log ≡ join pieces → log ≡ []
    go [] each whole = whole
    go (piece ∷ pieces) each whole = absurd each

module _ (words : Words) (harts : ℕ) (lists : List (List Event)) (closed : List Bool)
    (decoded : AreDecoded (λ hart. words) harts [] lists closed) where
  -- No list has an event,
  pub no_lists : lists ≡ replicate harts []
  no_lists =
      let count = decoded.lists_count in
      same_lists lists (replicate harts []) (count ∙ sym (length-replicate harts []))
      (λ k d within.
      let known : k < harts = omega (arith, within, count) in
      no_events words (get_or lists k d) (decoded.described k (get_or lists k d) (slice_get-get_or lists k d within))
      ∙ sym (get_or-replicate harts k [] d known))

  -- and no hart is closed.
  pub none_closed : closed ≡ replicate harts false
  none_closed =
      let count = decoded.closed_count in
      same_lists closed (replicate harts false) (count ∙ sym (length-replicate harts false))
      (λ k d within.
      let known : k < harts = omega (arith, within, count) in
      decoded.are_closed k (get_or closed k d) (slice_get-get_or closed k d within)
      ∙ sym (get_or-replicate harts k false d known))

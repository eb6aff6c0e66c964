-- The spans of some harts among all spans: their messages, their offsets, and bytes that belong to no frame.
use Rattle.std.proofs.Common.{◌≡◌, ◌==◌, ℕ, Bool, true, false, if◌then◌else◌, List, [], ◌∷◌, refl, sym, ap}
use Rattle.std.proofs.Common.{subst, ◌∙◌}
use Rattle.std.proofs.lemmas.Bool.{eqb-true}
use Rattle.std.specs.List.{list_any}
use Rattle.frames.specs.declared.span.Span.{Span}
use Rattle.frames.specs.declared.span.Span.TheVariants.{Frame, Bytes}
use Rattle.message.specs.Range.{selected, selects}
use Rattle.message.specs.declared.range.HartRange.{HartRange}
use Rattle.message.specs.declared.message.Message.{Message}
use Rattle.frames.specs.Search.{chosen}
use Rattle.salvage_reports.specs.Offsets.{offsets_in}
use Rattle.salvage_reports.specs.Frames.{is_run, messages_in}

-- The messages of the spans of some harts are those of these harts.
pub messages_chosen : (only : HartRange) (spans : List Span)
    → messages_in (chosen only spans) ≡ selected only (messages_in spans)
messages_chosen only [] = refl
messages_chosen only (Frame offset message ∷ spans) =
    by_hart (selects only message.hart) (messages_chosen only spans)
  where
    by_hart : (own : Bool) → messages_in (chosen only spans) ≡ selected only (messages_in spans)
        → messages_in (if own then Frame offset message ∷ chosen only spans else chosen only spans)
        ≡ (if own then message ∷ selected only (messages_in spans) else selected only (messages_in spans))
    by_hart true rest = ap (λ (l : List Message). message ∷ l) rest
    by_hart false rest = rest
messages_chosen only (Bytes offset count ∷ spans) = messages_chosen only spans

-- Bytes are among both.
pub runs_chosen : (only : HartRange) (spans : List Span)
    → list_any is_run (chosen only spans) ≡ list_any is_run spans
runs_chosen only [] = refl
runs_chosen only (Frame offset message ∷ spans) = by_hart (selects only message.hart) (runs_chosen only spans)
  where
    by_hart : (own : Bool) → list_any is_run (chosen only spans) ≡ list_any is_run spans
        → list_any is_run (if own then Frame offset message ∷ chosen only spans else chosen only spans)
        ≡ list_any is_run spans
    by_hart true rest = rest
    by_hart false rest = rest
runs_chosen only (Bytes offset count ∷ spans) = refl

-- The offsets of one of these harts are the same.
pub offsets_chosen : (only : HartRange) (hart : ℕ) (spans : List Span) → selects only hart ≡ true
    → offsets_in hart (chosen only spans) ≡ offsets_in hart spans
offsets_chosen only hart [] own = refl
offsets_chosen only hart (Bytes offset count ∷ spans) own = offsets_chosen only hart spans own
offsets_chosen only hart (Frame offset message ∷ spans) own =
    by_hart (selects only message.hart) refl (message.hart == hart) refl (offsets_chosen only hart spans own)
  where
    by_hart : (chosen_too : Bool) → selects only message.hart ≡ chosen_too → (same : Bool)
        → (message.hart == hart) ≡ same → offsets_in hart (chosen only spans) ≡ offsets_in hart spans
        → offsets_in hart (if chosen_too then Frame offset message ∷ chosen only spans else chosen only spans)
        ≡ (if same then offset ∷ offsets_in hart spans else offsets_in hart spans)
    by_hart true is same test rest =
        ap (λ b. if b then offset ∷ offsets_in hart (chosen only spans) else offsets_in hart (chosen only spans)) test
        ∙ ap (λ l. if same then offset ∷ l else l) rest
    by_hart false is true test rest =
        let here : selects only message.hart ≡ true =
        subst (λ h. selects only h ≡ true) (sym (eqb-true message.hart hart test)) own in
        let never : false ≡ true = sym is ∙ here in cc
    by_hart false is false test rest = rest

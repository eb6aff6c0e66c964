-- The text of the harts of a range, one hart more at a time.
use Rattle.std.proofs.Common.{◌≡◌, ◌+◌, ◌<◌, ◌∙◌, ℕ, List, [], ◌++◌, true, false, ap, append-nil, arith, get_or, length, take}
use Rattle.std.proofs.lemmas.List.{length-take-le, take_more}
use Rattle.message.specs.Range.{selects}
use Rattle.message.specs.declared.range.HartRange.{HartRange}
use Rattle.retire.specs.LogText.{log_text}
use Rattle.retire.specs.declared.event.Event.{Event}
use Rattle.parallel_decode.proofs.HartTexts.{hart_passed, hart_selected, joined-snoc}
use Rattle.parallel_decode.specs.EachHart.{hart_line, numbered_hart_of}
use Rattle.parallel_decode.specs.HartsText.{harts_text_of}

module _ (range : HartRange) (logs : List (List Event)) (i : ℕ) (within : i < length logs) where
  abbrev own : List Event
  own = get_or logs i []

  one_more : harts_text_of range 0 (take (i + 1) logs)
      ≡ harts_text_of range 0 (take i logs) ++ numbered_hart_of range (λ number. log_text) i own
  one_more =
      let count = length-take-le i logs (omega (arith, within)) in
      ap (harts_text_of range 0) (take_more logs i [] within)
      ∙ joined-snoc (numbered_hart_of range (λ number. log_text)) 0 (take i logs) own
      ∙ ap (λ h. harts_text_of range 0 (take i logs) ++ numbered_hart_of range (λ number. log_text) h own)
      (omega (arith, count))

  -- A hart of the range adds its line and its log,
  pub hart_more : selects range i ≡ true → harts_text_of range 0 (take (i + 1) logs)
      ≡ harts_text_of range 0 (take i logs) ++ (hart_line i ++ log_text own)
  hart_more is =
      one_more
      ∙ ap (λ l. harts_text_of range 0 (take i logs) ++ l) (hart_selected range (λ number. log_text) i own is)

  -- and another hart nothing.
  pub hart_none : selects range i ≡ false
      → harts_text_of range 0 (take (i + 1) logs) ≡ harts_text_of range 0 (take i logs)
  hart_none is =
      one_more
      ∙ ap (λ l. harts_text_of range 0 (take i logs) ++ l) (hart_passed range (λ number. log_text) i own is)
      ∙ append-nil (harts_text_of range 0 (take i logs))

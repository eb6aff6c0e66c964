-- RECEIVED is read span by span by what was sent, and what became of its messages is found span by span.
use Rattle.std.proofs.Common.{◌≡◌, ℕ, ◌+◌, ◌-◌, ◌^◌, ◌<◌, ◌≤◌, List, [], ◌∷◌, ◌++◌, drop, get_or, length, min, refl, sym, ap, ◌∙◌}
use Rattle.std.proofs.Common.{arith, append_assoc}
use Rattle.std.proofs.lemmas.List.{drop_more}
use Rattle.frames.proofs.CountedLemmas.{bytes-more, span_bytes}
use Rattle.frames.specs.Counted.{bytes_in, span_size}
use Rattle.frames.specs.declared.span.Span.{Span}
use Rattle.frames.specs.declared.span.Span.TheVariants.{Frame, Bytes}
use Rattle.auditing.specs.Cursor.{Cursor}
use Rattle.ffi.specs.AuditedAll.{byte_runs}
use Rattle.ffi.specs.AuditedUnnumbered.{arrival_by, arrivals_from, moved_by}
use Rattle.ffi.specs.declared.path_numbers.Arrival.{Arrival}
use Rattle.ffi.specs.declared.path_numbers.ByteRun.{ByteRun}

-- So many bytes of these spans are of no message, and so many more are left.
pub record AreCounted (spans : List Span) (bytes left size : ℕ) : Type 0 where
  pub counted : bytes ≡ bytes_in spans
  pub most : bytes + left ≤ size

-- One span more.
pub counted_more : (spans : List Span) (span : Span) (bytes more left next size : ℕ) → size < 2 ^ 64
    → more ≡ bytes_in (span ∷ []) → span_size span + next ≡ left → AreCounted spans bytes left size
    → AreCounted (spans ++ span ∷ []) (min (bytes + more) (2 ^ 64 - 1)) next size
counted_more spans span bytes more left next size short is sized has =
    let counted = has.counted in
    let most = has.most in
    let of_all = bytes-more spans span in
    let few = span_bytes span in
    record {
      counted = omega (arith, counted, most, of_all, few, is, short, sized);
      most = omega (arith, most, few, is, short, sized);
    }

-- The runs of one span and those of the spans behind it.
runs_first : (span : Span) (more : List Span) → byte_runs (span ∷ more) ≡ byte_runs (span ∷ []) ++ byte_runs more
runs_first (Frame offset message) more = refl
runs_first (Bytes offset count) more = refl

module _ (spans : List Span) (place : ℕ) (span : Span) (within : place < length spans)
    (is : get_or spans place span ≡ span) where
  abbrev left : List Span
  left = drop (place + 1) spans

  next : drop place spans ≡ span ∷ left
  next = drop_more spans place span within ∙ ap (λ s. s ∷ left) is

  -- One message more came.
  pub arrived_more : (states new : List Cursor) (arrivals more whole : List Arrival)
      → arrivals ++ arrivals_from states (drop place spans) ≡ whole → more ≡ arrivals ++ arrival_by states span
      → new ≡ moved_by states span → more ++ arrivals_from new left ≡ whole
  arrived_more states new arrivals more whole has adds moves =
      (λ i. adds i ++ arrivals_from (moves i) left)
      ∙ append_assoc arrivals (arrival_by states span) (arrivals_from (moved_by states span) left)
      ∙ ap (λ s. arrivals ++ arrivals_from states s) (sym next) ∙ has

  -- One run more.
  pub runs_more : (runs more whole : List ByteRun) → runs ++ byte_runs (drop place spans) ≡ whole
      → more ≡ runs ++ byte_runs (span ∷ []) → more ++ byte_runs left ≡ whole
  runs_more runs more whole has adds =
      ap (λ r. r ++ byte_runs left) adds
      ∙ append_assoc runs (byte_runs (span ∷ [])) (byte_runs left)
      ∙ ap (λ r. runs ++ r) (sym (runs_first span left))
      ∙ ap (λ s. runs ++ byte_runs s) (sym next) ∙ has

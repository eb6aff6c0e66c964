-- The lines of messages, with one message more.
use Rattle.std.proofs.Common.{◌≡◌, ℕ, ◌+◌, ◌<◌, List, ◌∷◌, ◌++◌, length, get_or, drop, map, slice_get, sym, ap, ◌∙◌}
use Rattle.std.proofs.Common.{arith}
use Rattle.std.proofs.lemmas.List.{append_assoc, drop_more, get_or-map, length-map}
use Rattle.message.specs.declared.message.Message.{Message}
use Rattle.auditing.specs.Arrivals.{arrival_line, arrival_of, lines_from, moved}
use Rattle.auditing.specs.Cursor.{Cursor}
use Rattle.auditing.specs.declared.arrival_line.Line.{Line}

-- The harts of messages.
abbrev pub harts_of : List Message → List ℕ
harts_of messages = map (λ (message : Message). message.hart) messages

module _ (harts : List ℕ) (whole lines : List Line) (cursors : List Cursor) (place : ℕ)
    (has : whole ≡ lines ++ lines_from cursors place (drop place harts)) where
  pub lines_next : (hart : ℕ) (new : List Cursor) (more : List Line) → place < length harts
      → get_or harts place 0 ≡ hart → new ≡ moved cursors hart (slice_get cursors hart)
      → more ≡ lines ++ arrival_line place hart (arrival_of (slice_get cursors hart))
      → whole ≡ more ++ lines_from new (place + 1) (drop (place + 1) harts)
  lines_next hart new more within here_is new_is more_is =
      let here = arrival_line place hart (arrival_of (slice_get cursors hart)) in
      let left = lines_from (moved cursors hart (slice_get cursors hart)) (place + 1) (drop (place + 1) harts) in
      has
      ∙ ap (λ l. lines ++ lines_from cursors place l)
      (drop_more harts place 0 within ∙ ap (λ h. h ∷ drop (place + 1) harts) here_is)
      ∙ sym (append_assoc lines here left)
      ∙ (λ i. sym more_is i ++ lines_from (sym new_is i) (place + 1) (drop (place + 1) harts))

module _ (messages : List Message) (whole lines : List Line) (cursors : List Cursor) (place : ℕ)
    (has : whole ≡ lines ++ lines_from cursors place (drop place (harts_of messages))) where
  pub lines_more : (m : Message) (new : List Cursor) (more : List Line) → place < length messages
      → m ≡ get_or messages place m → new ≡ moved cursors m.hart (slice_get cursors m.hart)
      → more ≡ lines ++ arrival_line place m.hart (arrival_of (slice_get cursors m.hart))
      → whole ≡ more ++ lines_from new (place + 1) (drop (place + 1) (harts_of messages))
  lines_more m new more within m_is new_is more_is =
      let hart : get_or (harts_of messages) place 0 ≡ m.hart =
      get_or-map (λ (x : Message). x.hart) messages place m 0 within ∙ ap (λ (x : Message). x.hart) (sym m_is) in
      lines_next (harts_of messages) whole lines cursors place has m.hart new more
      (omega (arith, within, length-map messages (λ (x : Message). x.hart))) hart new_is more_is

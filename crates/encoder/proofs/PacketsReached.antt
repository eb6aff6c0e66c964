-- How far the packets of a log have come, one spot at a time.
use Rattle.std.proofs.Common.{◌≡◌, ℕ, true, false, cond, List, [], ◌∷◌, ◌++◌, Option, Some, None, refl, ap, ◌∙◌}
use Rattle.std.proofs.lemmas.List.{append-nil}
use Rattle.std.specs.List.{last_or}
use Rattle.retire.specs.declared.event.Event.{Event}
use Rattle.rvclass.specs.Words.{Words}
use Rattle.payload.specs.declared.mode.Mode.{Mode}
use Rattle.payload.specs.declared.packet.Packet.{Packet}
use Rattle.encoder.specs.Packets.{packet_by, reported_by, reports}
use Rattle.encoder.specs.Piece.{Piece, is_cut, cut_or_go_on, pieces}
use Rattle.encoder.specs.Rule.{rule}
use Rattle.encoder.specs.Spot.{Spot, spots}
use Rattle.encoder.specs.EncoderStands.{count_all, reported_after_pieces, since_cut}
use Rattle.encoder.specs.declared.rule.Rule.{Rule}
use Rattle.encoder.proofs.SpotLemmas.{before_last, spots-append, pieces-append, reports-append}
use Rattle.encoder.proofs.SpotLemmas.{reported_after_pieces-append}
use Rattle.encoder.proofs.SpotLemmas.{since_cut-append}

-- The spot of an event after a log, with this event after it.
abbrev pub spot_after : List Event → Event → Option Event → Spot
spot_after log event next = record {
  number = count_all 0 log;
  before_that = before_last None None log;
  before = last_or None log;
  event = event;
  after = next;
}

pub spots-snoc : (log : List Event) (event : Event) (next : Option Event)
    → spots 0 None None (log ++ event ∷ []) next ≡ spots 0 None None log (Some event) ++ spot_after log event next ∷ []
spots-snoc log event next = spots-append 0 None None log (event ∷ []) next

module _ (words : Words) (period : ℕ) where
  -- The pieces of one spot more.
  pub one_more : (ss : List Spot) (s : Spot) (front : List Event) (by : Rule) → since_cut words period [] ss ≡ front
      → rule words period s ≡ by → pieces words period [] (ss ++ s ∷ []) ≡ pieces words period [] ss
      ++ cut_or_go_on (is_cut front s.event by) (record { front = front; last = s.event; by = by }) (λ w. [])
  one_more ss s front by f r =
      pieces-append words period [] ss (s ∷ [])
      ∙ ap (λ x. pieces words period [] ss ++ cut_or_go_on (is_cut x s.event (rule words period s))
      (record { front = x; last = s.event; by = rule words period s }) (λ w. [])) f
      ∙ ap (λ x. pieces words period [] ss ++ cut_or_go_on (is_cut front s.event x)
      (record { front = front; last = s.event; by = x }) (λ w. [])) r

  -- The events since the last cut with one spot more.
  front_more : (ss : List Spot) (s : Spot) (front : List Event) (by : Rule) → since_cut words period [] ss ≡ front
      → rule words period s ≡ by → since_cut words period [] (ss ++ s ∷ [])
      ≡ cond (is_cut front s.event by) [] (front ++ s.event ∷ [])
  front_more ss s front by f r =
      since_cut-append words period [] ss (s ∷ [])
      ∙ ap (λ x. cond (is_cut x s.event (rule words period s)) [] (x ++ s.event ∷ [])) f
      ∙ ap (λ x. cond (is_cut front s.event x) [] (front ++ s.event ∷ [])) r

module _ (words : Words) (period : ℕ) (mode : Mode) where
  -- The events at these spots give these packets, of which the last reported address is this one; and these come since
  -- the last cut.
  pub record Reaches (ss : List Spot) (packets : List Packet) (reported : ℕ) (front : List Event) : Type 0 where
    pub given : reports mode 0 (pieces words period [] ss) ≡ packets
    pub reported_is : reported_after_pieces 0 (pieces words period [] ss) ≡ reported
    pub open_ : since_cut words period [] ss ≡ front

  pub reaches : (ss : List Spot) → Reaches ss (reports mode 0 (pieces words period [] ss))
      (reported_after_pieces 0 (pieces words period [] ss)) (since_cut words period [] ss)
  reaches ss = record { given = refl; reported_is = refl; open_ = refl }

  pub reaches_cut : (ss : List Spot) (s : Spot) (packets : List Packet) (reported : ℕ) (front : List Event) (by : Rule)
      → Reaches ss packets reported front → rule words period s ≡ by → is_cut front s.event by ≡ true
      → Reaches (ss ++ s ∷ []) (packets ++ packet_by mode reported front s.event by ∷ [])
      (reported_by by reported s.event) []
  reaches_cut ss s packets reported front by h r c =
      let p : Piece = record { front = front; last = s.event; by = by } in
      let before = pieces words period [] ss in
      let more : pieces words period [] (ss ++ s ∷ []) ≡ before ++ p ∷ [] =
      one_more words period ss s front by h.open_ r ∙ ap (λ b. before ++ cut_or_go_on b p (λ w. [])) c in
      record {
        given = ap (reports mode 0) more ∙ reports-append mode 0 before (p ∷ [])
            ∙ ap (λ x. x ++ packet_by mode (reported_after_pieces 0 before) front s.event by ∷ []) h.given
            ∙ ap (λ x. packets ++ packet_by mode x front s.event by ∷ []) h.reported_is;
        reported_is = ap (reported_after_pieces 0) more ∙ reported_after_pieces-append 0 before (p ∷ [])
            ∙ ap (λ x. reported_by by x s.event) h.reported_is;
        open_ = front_more words period ss s front by h.open_ r ∙ ap (λ b. cond b [] (front ++ s.event ∷ [])) c;
      }

  pub reaches_on : (ss : List Spot) (s : Spot) (packets : List Packet) (reported : ℕ) (front : List Event) (by : Rule)
      → Reaches ss packets reported front → rule words period s ≡ by → is_cut front s.event by ≡ false
      → Reaches (ss ++ s ∷ []) packets reported (front ++ s.event ∷ [])
  reaches_on ss s packets reported front by h r c =
      let p : Piece = record { front = front; last = s.event; by = by } in
      let before = pieces words period [] ss in
      let more : pieces words period [] (ss ++ s ∷ []) ≡ before ++ [] =
      one_more words period ss s front by h.open_ r ∙ ap (λ b. before ++ cut_or_go_on b p (λ w. [])) c in
      record {
        given = ap (reports mode 0) more ∙ reports-append mode 0 before [] ∙ append-nil (reports mode 0 before)
            ∙ h.given;
        reported_is = ap (reported_after_pieces 0) more ∙ reported_after_pieces-append 0 before [] ∙ h.reported_is;
        open_ = front_more words period ss s front by h.open_ r ∙ ap (λ b. cond b [] (front ++ s.event ∷ [])) c;
      }

-- Spots and pieces of logs that grow at their end.
use Rattle.std.proofs.Common.{◌≡◌, ℕ, Bool, true, false, cond, List, [], ◌∷◌, ◌++◌, Option, Some, refl, ap}
use Rattle.std.specs.List.{last_or}
use Rattle.retire.specs.declared.event.Event.{Event}
use Rattle.rvclass.specs.Words.{Words}
use Rattle.payload.specs.declared.mode.Mode.{Mode}
use Rattle.encoder.specs.Packets.{packet_by, reported_by, reports, last_rule}
use Rattle.encoder.specs.PacketsSoFar.{known, decided, is_known}
use Rattle.encoder.specs.Piece.{Piece, is_cut, cut_or_go_on, pieces}
use Rattle.encoder.specs.Rule.{rule}
use Rattle.encoder.specs.Spot.{Spot, first_event, count_with, spots}
use Rattle.encoder.specs.EncoderStands.{count_all, reported_after_pieces, since_cut, undecided}
use Rattle.encoder.specs.declared.rule.Rule.{Rule}

-- The event before a log's last one, and the last one.
abbrev pub before_last : Option Event → Option Event → List Event → Option Event
before_last before_that before [] = before_that
before_last before_that before (event ∷ events) = before_last before (Some event) events

pub spots-append : (n : ℕ) (b2 b : Option Event) (es fs : List Event) (next : Option Event)
    → spots n b2 b (es ++ fs) next ≡ spots n b2 b es (first_event fs next)
    ++ spots (count_all n es) (before_last b2 b es) (last_or b es) fs next
spots-append n b2 b [] fs next = refl
spots-append n b2 b (e ∷ []) fs next = refl
spots-append n b2 b (e ∷ f ∷ es) fs next =
    ap (λ ss. record { number = n; before_that = b2; before = b; event = e; after = Some f } ∷ ss)
    (spots-append (count_with n e) b (Some e) (f ∷ es) fs next)

pub count_all-append : (n : ℕ) (es fs : List Event) → count_all n (es ++ fs) ≡ count_all (count_all n es) fs
count_all-append n [] fs = refl
count_all-append n (e ∷ es) fs = count_all-append (count_with n e) es fs

pub last_or-snoc : {A : Type 0} → (b : Option A) (es : List A) (e : A) → last_or b (es ++ e ∷ []) ≡ Some e
last_or-snoc b [] e = refl
last_or-snoc b (f ∷ es) e = last_or-snoc (Some f) es e

pub before_last-snoc : (b2 b : Option Event) (es : List Event) (e : Event)
    → before_last b2 b (es ++ e ∷ []) ≡ last_or b es
before_last-snoc b2 b [] e = refl
before_last-snoc b2 b (f ∷ es) e = before_last-snoc b (Some f) es e

pub decided-snoc : (words : Words) (ss : List Spot) (s : Spot) → decided words (ss ++ s ∷ []) ≡ ss ++ known words s
decided-snoc words [] s = refl
decided-snoc words (t ∷ []) s = refl
decided-snoc words (t ∷ u ∷ ss) s = ap (λ l. t ∷ l) (decided-snoc words (u ∷ ss) s)

pub undecided-snoc : (words : Words) (ss : List Spot) (s : Spot)
    → undecided words (ss ++ s ∷ []) ≡ cond (is_known words s) [] (s.event ∷ [])
undecided-snoc words [] s = refl
undecided-snoc words (t ∷ []) s = refl
undecided-snoc words (t ∷ u ∷ ss) s = undecided-snoc words (u ∷ ss) s

module _ (words : Words) (period : ℕ) where
  pub since_cut-append : (front : List Event) (ss ts : List Spot)
      → since_cut words period front (ss ++ ts) ≡ since_cut words period (since_cut words period front ss) ts
  since_cut-append front [] ts = refl
  since_cut-append front (s ∷ ss) ts =
      since_cut-append (cond (is_cut front s.event (rule words period s)) [] (front ++ s.event ∷ [])) ss ts

  pub pieces-append : (front : List Event) (ss ts : List Spot)
      → pieces words period front (ss ++ ts) ≡ pieces words period front ss
      ++ pieces words period (since_cut words period front ss) ts
  pieces-append front [] ts = refl
  pieces-append front (s ∷ ss) ts =
      go (is_cut front s.event (rule words period s)) (pieces-append [] ss ts)
      (pieces-append (front ++ s.event ∷ []) ss ts)
    where
      go : (c : Bool) → pieces words period [] (ss ++ ts) ≡ pieces words period [] ss
          ++ pieces words period (since_cut words period [] ss) ts
          → pieces words period (front ++ s.event ∷ []) (ss ++ ts) ≡ pieces words period (front ++ s.event ∷ []) ss
          ++ pieces words period (since_cut words period (front ++ s.event ∷ []) ss) ts
          → cut_or_go_on c (record { front = front; last = s.event; by = rule words period s })
          (λ w. pieces words period w (ss ++ ts)) ≡ cut_or_go_on c
          (record { front = front; last = s.event; by = rule words period s }) (λ w. pieces words period w ss)
          ++ pieces words period (since_cut words period (cond c [] (front ++ s.event ∷ [])) ss) ts
      go true a b = ap (λ l. record { front = front; last = s.event; by = rule words period s } ∷ l) a
      go false a b = b

pub reports-append : (mode : Mode) (reported : ℕ) (ps qs : List Piece)
    → reports mode reported (ps ++ qs) ≡ reports mode reported ps ++ reports mode (reported_after_pieces reported ps) qs
reports-append mode reported [] qs = refl
reports-append mode reported (p ∷ ps) qs =
    ap (λ l. packet_by mode reported p.front p.last p.by ∷ l)
    (reports-append mode (reported_by p.by reported p.last) ps qs)

pub reported_after_pieces-append : (reported : ℕ) (ps qs : List Piece)
    → reported_after_pieces reported (ps ++ qs) ≡ reported_after_pieces (reported_after_pieces reported ps) qs
reported_after_pieces-append reported [] qs = refl
reported_after_pieces-append reported (p ∷ ps) qs =
    reported_after_pieces-append (reported_by p.by reported p.last) ps qs

pub last_rule-snoc : (r : Rule) (ps : List Piece) (p : Piece) → last_rule r (ps ++ p ∷ []) ≡ p.by
last_rule-snoc r [] p = refl
last_rule-snoc r (q ∷ ps) p = last_rule-snoc q.by ps p

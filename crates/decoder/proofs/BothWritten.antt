-- What a packet adds is what was written of it on the way and what is written of it then.
use Rattle.std.proofs.Common.{◌≡◌, ℕ, ◌+◌, ◌≤◌, List, [], ◌++◌, length, take, refl, sym, ap, subst, ◌∙◌}
use Rattle.std.proofs.Common.{arith, append_assoc, append-nil, length-append}
use Rattle.std.proofs.Math.Seq.{take-append_seam}
use Rattle.retire.specs.declared.event.Event.{Event}
use Rattle.rvclass.specs.Words.{Words}
use Rattle.decoder.proofs.StretchEnds.{stretch_count-gives}
use Rattle.decoder.specs.steps.Stretches.{AddsSoFar, AddsStretch, AddsBoth, Gives, HasRoomFor, left_of, stretch_count}
use Rattle.decoder.specs.steps.Stretches.{if_pending, stretch_progress}
use Rattle.decoder.specs.steps.WritingAsFound.{AddsAs}
use Rattle.decoder.specs.declared.added_events.AddedEvents.{AddedEvents}
use Rattle.decoder.specs.declared.added_events.AddedEvents.TheVariants.{Nothing, One, Two, Walk}
use Rattle.decoder.specs.declared.walking.Progress.{Progress}
use Rattle.decoder.specs.declared.walking.Progress.TheVariants.{Written, Pending}

-- The events of a stretch in two parts: those that were written, and those that are to be. Nothing was written where
-- what stands before is pending, and nothing is left where the stretch is written.
record Parts (words : Words) (ahead : Progress) (stretch : AddedEvents) (events old new : List Event) : Type 0 where
  made : List Event
  left : List Event
  whole : events ≡ made ++ left
  joined : new ≡ old ++ made
  gives : Gives words (left_of stretch) left
  none_made : ahead ≡ Pending → made ≡ []
  none_left : stretch_progress stretch ≡ Written → left ≡ []

module _ (words : Words) where
  pending : (ahead : Progress) (stretch : AddedEvents) (events old new : List Event) → left_of stretch ≡ stretch →
      Gives words stretch events → new ≡ old → (stretch_progress stretch ≡ Written → events ≡ []) →
      Parts words ahead stretch events old new
  pending ahead stretch events old new same gives is none = record {
    made = [];
    left = events;
    whole = refl;
    joined = is ∙ sym (append-nil old);
    gives = subst (λ s. Gives words s events) (sym same) gives;
    none_made = λ h. refl;
    none_left = none;
  }

  parts : (ahead : Progress) (stretch : AddedEvents) (events old new : List Event) → Gives words stretch events →
      AddsSoFar words ahead stretch old new → Parts words ahead stretch events old new
  parts ahead Nothing events old new gives adds = pending ahead Nothing events old new refl gives adds (λ h. gives)
  parts ahead (One event) events old new gives adds =
      pending ahead (One event) events old new refl gives adds (λ h. cc)
  parts ahead (Two trap event) events old new gives adds =
      pending ahead (Two trap event) events old new refl gives adds (λ h. cc)
  parts ahead (Walk walk) events old new gives adds = by_progress walk.walked.progress refl adds
    where
      by_ahead : (ahead : Progress) → walk.walked.progress ≡ Written →
          AddsAs ahead Written (AddsStretch words (Walk walk) old new) (new ≡ old) →
          Parts words ahead (Walk walk) events old new
      by_ahead Written is adds = record {
        made = events;
        left = [];
        whole = sym (append-nil events);
        joined = adds events gives;
        gives = subst (λ p. Gives words (if_pending p (Walk walk)) []) (sym is) refl;
        none_made = λ h. cc;
        none_left = λ h. refl;
      }
      by_ahead Pending is adds = absurd adds

      by_progress : (progress : Progress) → walk.walked.progress ≡ progress →
          AddsAs ahead progress (AddsStretch words (Walk walk) old new) (new ≡ old) →
          Parts words ahead (Walk walk) events old new
      by_progress Written is adds = by_ahead ahead is adds
      by_progress Pending is adds =
          let same : left_of (Walk walk) ≡ Walk walk = ap (λ p. if_pending p (Walk walk)) is in
          pending ahead (Walk walk) events old new same gives adds (λ h. let no : Pending ≡ Written = sym is ∙ h in cc)

  module _ (first second : AddedEvents) (settled of_packet : List Event) (gives : Gives words first settled)
      (gives' : Gives words second of_packet) (old new : List Event) (adds : AddsBoth words first second old new) where
    one : Parts words Written first settled old adds.0
    one = parts Written first settled old adds.0 gives adds.1

    two : Parts words (stretch_progress first) second of_packet adds.0 new
    two = parts (stretch_progress first) second of_packet adds.0 new gives' adds.2

    -- What is written of both, and then what is left of both, is all of it in its order.
    in_order : (one.made ++ two.made) ++ (one.left ++ two.left) ≡ settled ++ of_packet
    in_order = by_progress (stretch_progress first) refl
      where
        by_progress : (progress : Progress) → stretch_progress first ≡ progress →
            (one.made ++ two.made) ++ (one.left ++ two.left) ≡ settled ++ of_packet
        by_progress Written is =
            let none = one.none_left is in
            let all : settled ≡ one.made = one.whole ∙ ap (λ l. one.made ++ l) none ∙ append-nil one.made in
            ap (λ l. (one.made ++ two.made) ++ (l ++ two.left)) none ∙ append_assoc one.made two.made two.left
            ∙ ap (λ l. one.made ++ l) (sym two.whole) ∙ ap (λ l. l ++ of_packet) (sym all)
        by_progress Pending is =
            let none = two.none_made is in
            let all : of_packet ≡ two.left = two.whole ∙ ap (λ l. l ++ two.left) none in
            ap (λ l. (one.made ++ l) ++ (one.left ++ two.left)) none
            ∙ ap (λ l. l ++ (one.left ++ two.left)) (append-nil one.made)
            ∙ sym (append_assoc one.made one.left two.left) ∙ ap (λ l. l ++ two.left) (sym one.whole)
            ∙ ap (λ l. settled ++ l) (sym all)

    made_counted : length new ≡ length old + length (one.made ++ two.made)
    made_counted = ap length (two.joined ∙ ap (λ l. l ++ two.made) one.joined ∙ append_assoc old one.made two.made)
        ∙ length-append old (one.made ++ two.made)

    -- What is there and what is to be written are all.
    pub both_counted : length new + (stretch_count (left_of first) + stretch_count (left_of second)) ≡ length old +
        (stretch_count first + stretch_count second)
    both_counted =
        let a = stretch_count-gives words first settled gives in
        let b = stretch_count-gives words second of_packet gives' in
        let c = stretch_count-gives words (left_of first) one.left one.gives in
        let d = stretch_count-gives words (left_of second) two.left two.gives in
        let e = made_counted in
        let f = ap length in_order in
        let g = length-append (one.made ++ two.made) (one.left ++ two.left) in
        let h = length-append one.left two.left in
        let i = length-append settled of_packet in
        omega (arith, a, b, c, d, e, f, g, h, i)

    module _ (after : List Event) (adds_first : AddsStretch words (left_of first) new after) where
      after_first : after ≡ new ++ one.left
      after_first = adds_first one.left one.gives

      -- And then for what is left of the second.
      pub room_second : (len capacity : ℕ) → len ≡ length after →
          length new + (stretch_count (left_of first) + stretch_count (left_of second)) ≤ capacity →
          HasRoomFor words (left_of second) len capacity
      room_second len capacity is room =
          let c = stretch_count-gives words (left_of first) one.left one.gives in
          let d = stretch_count-gives words (left_of second) two.left two.gives in
          let e = ap length after_first ∙ length-append new one.left in
          (two.left, two.gives, omega (arith, room, c, d, e, is))

      -- All of it was added.
      pub both_added : (last : List Event) → AddsStretch words (left_of second) after last →
          last ≡ old ++ (settled ++ of_packet)
      both_added last adds_second =
          adds_second two.left two.gives ∙ ap (λ l. l ++ two.left) after_first
          ∙ append_assoc new one.left two.left
          ∙ ap (λ l. l ++ (one.left ++ two.left))
          (two.joined ∙ ap (λ l. l ++ two.made) one.joined ∙ append_assoc old one.made two.made)
          ∙ append_assoc old (one.made ++ two.made) (one.left ++ two.left)
          ∙ ap (λ l. old ++ l) in_order

-- A list that only grew is cut back to what it was.
pub cut_back : (old new rest : List Event) (count : ℕ) → count ≡ length old → new ≡ old ++ rest → take count new ≡ old
cut_back old new rest count counted is = ap (λ n. take n new) counted ∙ ap (take (length old)) is
    ∙ take-append_seam old rest

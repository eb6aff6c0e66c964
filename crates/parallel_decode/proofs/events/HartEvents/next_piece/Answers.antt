-- What is handed out so far goes on: by lemmas on what is left.
use Rattle.std.proofs.Common.{◌≡◌, ◌∙◌, ◌⊎◌, ◌+◌, ◌-◌, ◌<◌, [], arith, ap, false, inl, inr, length, refl, sym, true, vec_capacity, vec_len}
use Rattle.std.proofs.lemmas.Bool.{eqb-true}
use Rattle.std.proofs.lemmas.List.{nil_from_length}
use Rattle.parallel_decode.specs.Left.{HasLeft, left_of}
use Rattle.parallel_decode.proofs.LeftLemmas.{HasHanded, ended, full, hands_more, piece_full}
use Rattle.parallel_decode.proofs.events.HartEvents.next_piece.Goals.{After-loop, Then-not-is_handed_out}
use Rattle.parallel_decode.proofs.events.HartEvents.next_piece.Goals as goal

pub loop-init : goal.loop-init
loop-init g c = record {
  going = λ rest has. record { hands = c.hand_out.ensures.hands rest has; taken_is = refl };
  filled = c.hand_out.ensures.filled;
  places = ap (λ events. events.places) c.hand_out.ensures.same;
  room = c.hand_out.ensures.room;
}

pub loop-preserved : goal.loop-preserved
loop-preserved g c =
    let none = nil_from_length (left_of c.loop.self.left)
    (eqb-true (length (left_of c.loop.self.left)) 0 (sym c.is_handed_out.ensures ∙ c.if-not-is_handed_out.false)) in
    record {
      going = λ rest has.
          let going = c.loop.invariant.going rest has in
          let taken = going.taken_is in
          let before = ap (λ events. length events.places.now) c.hand_out.ensures.same in
          let same = ap (λ places. length places.now) c.loop.invariant.places in
          let within : c.loop.self.taken < length c.loop.self.places.now =
          omega (arith, taken, same, before, c.loop-test.true) in
          record {
            hands = hands_more rest c.args.piece.now.items c.loop.piece.items c.decode_next.new.piece.items c.loop.self
                c.decode_next.new.self going.hands
                (c.decode_next.ensures.hands going.hands.left going.hands.has none within);
            taken_is = c.decode_next.ensures.taken going.hands.left going.hands.has within ∙ ap (λ n. n + 1) taken;
          };
      filled = c.decode_next.ensures.filled none;
      places = c.decode_next.ensures.places ∙ c.loop.invariant.places;
      room = c.decode_next.ensures.room ∙ c.loop.invariant.room;
    }

module _ (g : _) (c : Then-not-is_handed_out g) (rest : _) (has : HasLeft rest c.args.self.now) where
  -- Decoded events are left, so the piece is full.
  at_full : HasHanded rest c.args.piece.now.items c.loop.piece.items
      (vec_capacity c.args.piece.now - vec_len c.args.piece.now) c.loop.self
  at_full =
      let going = c.loop.invariant.going rest has in
      let is = piece_full (left_of c.loop.self.left) (vec_len c.loop.piece) (vec_capacity c.loop.piece) c.loop.invariant.filled
      (sym c.is_handed_out.ensures ∙ c.if-not-is_handed_out.true) in
      full rest c.args.piece.now.items c.loop.piece.items (vec_capacity c.args.piece.now - vec_len c.args.piece.now)
      c.loop.self going.hands (vec_capacity c.args.piece.now)
      (ap (λ n. vec_capacity c.args.piece.now - n) c.args.piece.now.ok.0) (sym c.loop.piece.ok.0 ∙ is ∙ c.loop.invariant.room)

pub returns-then-not-is_handed_out-clause-appended : goal.returns-then-not-is_handed_out-clause-appended
returns-then-not-is_handed_out-clause-appended g c = λ rest has. (at_full g c rest has).appended

pub returns-then-not-is_handed_out-clause-left : goal.returns-then-not-is_handed_out-clause-left
returns-then-not-is_handed_out-clause-left g c = λ rest has. (at_full g c rest has).left

module _ (g : _) (c : After-loop g) (rest : _) (has : HasLeft rest c.args.self.now) where
  -- All messages are decoded.
  at_end : HasHanded rest c.args.piece.now.items c.loop.piece.items
      (vec_capacity c.args.piece.now - vec_len c.args.piece.now) c.loop.self
  at_end =
      let going = c.loop.invariant.going rest has in
      let taken = going.taken_is in
      let before = ap (λ events. length events.places.now) c.hand_out.ensures.same in
      let same = ap (λ places. length places.now) c.loop.invariant.places in
      let room = c.loop.invariant.room in
      ended rest c.args.piece.now.items c.loop.piece.items (vec_capacity c.args.piece.now - vec_len c.args.piece.now)
      c.loop.self going.hands (vec_capacity c.args.piece.now)
      (ap (λ n. vec_capacity c.args.piece.now - n) c.args.piece.now.ok.0)
      (omega (arith, taken, same, before, c.loop-test.false)) (filled c.loop.invariant.filled)
      (omega (arith, c.loop.piece.ok.0, c.loop.piece.ok.1, room))
    where
      filled : (left_of c.loop.self.left ≡ []) ⊎ (vec_len c.loop.piece ≡ vec_capacity c.loop.piece)
          → (left_of c.loop.self.left ≡ []) ⊎ (length c.loop.piece.items ≡ vec_capacity c.args.piece.now)
      filled (inl none) = inl none
      filled (inr is) = inr (sym c.loop.piece.ok.0 ∙ is ∙ c.loop.invariant.room)

pub returns-clause-appended : goal.returns-clause-appended
returns-clause-appended g c = λ rest has. (at_end g c rest has).appended

pub returns-clause-left : goal.returns-clause-left
returns-clause-left g c = λ rest has. (at_end g c rest has).left

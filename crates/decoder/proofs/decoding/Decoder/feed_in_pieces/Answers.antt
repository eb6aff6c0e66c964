-- No search finds what the packets and the stretches stand for, from what the plan ensures.
use Rattle.std.proofs.Common.{ℕ, ◌+◌, ◌-◌, ◌≤◌, ◌<◌, [], ◌++◌, ◌≡◌, arith, inr, sym, ap, subst, ◌∙◌, append-nil}
use Rattle.std.proofs.Common.{length, vec_len, vec_capacity}
use Rattle.rvclass.specs.Fetch.{words_of}
use Rattle.decoder.proofs.BothWritten.{both_added, room_second, cut_back}
use Rattle.decoder.proofs.InPieces.{announced_kept, too_little, adds_in_pieces, only_in_pieces, begins_in_pieces}
use Rattle.decoder.proofs.InPieces.{short_in_pieces}
use Rattle.decoder.proofs.NotOpenedReturned.{named_not_opened}
use Rattle.decoder.proofs.StandsForOneMore.{stands_only, stands_right}
use Rattle.decoder.specs.steps.Planning.{admitted, IsNamed}
use Rattle.decoder.proofs.decoding.Decoder.feed_in_pieces.Goals.{After-of, After-write-2, After-none-2}
use Rattle.decoder.proofs.decoding.Decoder.feed_in_pieces.Goals as goal

pub returns-in-Err-clause-adds_none : goal.returns-in-Err-clause-adds_none
returns-in-Err-clause-adds_none g c = λ packets before s other all.
    let w = words_of c.args.paths.program.now in
    let one = stands_only w c.plan.ensures.words packets before c.args.self.now c.args.packet.now other s all in
    c.in-Err.ensures.none.none (stands_right w packets before c.args.self.now s) one.piece one.more one.can

pub returns-in-Err-clause-adds_first : goal.returns-in-Err-clause-adds_first
returns-in-Err-clause-adds_first g c = λ packets before s.
    let named = subst (λ x. IsNamed (admitted x c.args.packet.now) c.in-Err.fault) s.phase
    c.in-Err.ensures.none.named in
    let one = named_not_opened packets c.args.packet.now c.in-Err.fault named in
    (λ is. one.0 cc, λ is. let is_not = one.1 is in cc)

-- The room that was asked for is not there behind what was written, or it is.
no_room : {cap cap' n len left left' a a' capacity length : ℕ} → capacity - length < left + left' → capacity ≡ cap'
    → length ≡ len → len ≡ n → cap' ≡ cap → left ≡ a → left' ≡ a' → cap < n + (a + a')
no_room full is is' len same count count' = omega (arith, full, is, is', len, same, count, count')

has_room : {cap cap' n len left left' a a' capacity length : ℕ} → left + left' ≤ capacity - length → capacity ≡ cap'
    → length ≡ len → len ≤ cap' → len ≡ n → cap ≡ cap' → left ≡ a → left' ≡ a' → n + (a + a') ≤ cap
has_room fits is is' within len same count count' =
    omega (arith, fits, is, is', within, len, same, count, count')

module _ (g : _) (c : After-of g) where
  -- The piece is as it was.
  back : c.truncate-then-left-capacity.new.self.items ≡ c.args.piece.now.items
  back =
      let old = c.args.piece.now in
      c.truncate-then-left-capacity.ensures.items
      ∙ cut_back old.items c.plan.new.log.items c.plan.ensures.grown.0.0 c.len-count.result
      (c.len-count.ensures ∙ old.ok.0) c.plan.ensures.grown.0.1

  left_is : c.of.result ≡ c.in_default.ensures.found.settled ++ c.in_default.ensures.found.of_packet
  left_is =
      let found = c.in_default.ensures.found in
      c.of.ensures found.settled found.of_packet found.gives_settled found.gives_of_packet

  -- All events of the packet are left.
  all_left : c.truncate-then-left-capacity.new.self.items ++ c.of.result
      ≡ c.args.piece.now.items ++ (c.in_default.ensures.found.settled ++ c.in_default.ensures.found.of_packet)
  all_left = ap (λ l. l ++ c.of.result) back ∙ ap (λ l. c.args.piece.now.items ++ l) left_is

pub returns-then-left-capacity-clause-goes_on : goal.returns-then-left-capacity-clause-goes_on
returns-then-left-capacity-clause-goes_on g c =
    ([], back g (goal.at.returns-then-left-capacity-clause-goes_on g c).After-of ∙ sym (append-nil c.args.piece.now.items))

pub returns-then-left-capacity-clause-all_or_none : goal.returns-then-left-capacity-clause-all_or_none
returns-then-left-capacity-clause-all_or_none g c =
    let at = (goal.at.returns-then-left-capacity-clause-all_or_none g c).After-of in
    let full = no_room c.if-left-capacity.true c.capacity.ensures c.len.ensures c.plan.new.log.ok.0
    c.plan.ensures.grown.1 c.left.ensures c.left-2.ensures in
    let more = too_little (words_of c.args.paths.program.now) c.args.self.now c.args.packet.now c.plan.new.first
    c.plan.new.second c.in_default.ensures.found c.args.piece.now.items c.plan.new.log.items
    (vec_len c.args.piece.now) (vec_capacity c.args.piece.now) c.in_default.ensures.written c.args.piece.now.ok.0 full in
    inr (
      back g at,
      subst (λ l. vec_capacity c.args.piece.now < vec_len c.args.piece.now + length l) (sym (left_is g at)) more,
    )

pub returns-then-left-capacity-clause-short : goal.returns-then-left-capacity-clause-short
returns-then-left-capacity-clause-short g c =
    short_in_pieces (words_of c.args.paths.program.now) c.args.self.now c.args.packet.now c.plan.new.first
    c.plan.new.second c.in_default.ensures.found c.after.result c.after.ensures c.args.piece.now.items
    c.truncate-then-left-capacity.new.self.items c.of.result
    (all_left g (goal.at.returns-then-left-capacity-clause-short g c).After-of) _ _ _ c.in_default.ensures.short
    c.args.piece.now.ok.0 c.truncate-then-left-capacity.new.self.ok.0

pub returns-then-left-capacity-clause-adds : goal.returns-then-left-capacity-clause-adds
returns-then-left-capacity-clause-adds g c =
    adds_in_pieces (words_of c.args.paths.program.now) c.args.self.now c.args.packet.now c.plan.new.first
    c.plan.new.second c.in_default.ensures.found c.after.result c.after.ensures c.args.piece.now.items
    c.truncate-then-left-capacity.new.self.items c.of.result
    (all_left g (goal.at.returns-then-left-capacity-clause-adds g c).After-of)

pub returns-then-left-capacity-clause-only : goal.returns-then-left-capacity-clause-only
returns-then-left-capacity-clause-only g c =
    only_in_pieces (words_of c.args.paths.program.now) c.args.self.now c.args.packet.now c.plan.new.first
    c.plan.new.second c.in_default.ensures.found c.after.result c.after.ensures c.args.piece.now.items
    c.truncate-then-left-capacity.new.self.items c.of.result
    (all_left g (goal.at.returns-then-left-capacity-clause-only g c).After-of) c.plan.ensures.words

pub returns-then-left-capacity-clause-mode_kept : goal.returns-then-left-capacity-clause-mode_kept
returns-then-left-capacity-clause-mode_kept g c = λ mode has opens.
    ap (λ d. d.announced) c.after.ensures
    ∙ announced_kept c.args.packet.now c.args.self.now.announced mode has opens

pub returns-then-left-capacity-clause-begins : goal.returns-then-left-capacity-clause-begins
returns-then-left-capacity-clause-begins g c =
    begins_in_pieces (words_of c.args.paths.program.now) c.args.self.now c.args.packet.now c.plan.new.first
    c.plan.new.second c.in_default.ensures.found c.after.result c.after.ensures c.args.piece.now.items
    c.truncate-then-left-capacity.new.self.items c.of.result
    (all_left g (goal.at.returns-then-left-capacity-clause-begins g c).After-of)

pub write-requires-2-clause-room : goal.write-requires-2-clause-room
write-requires-2-clause-room g c =
    let found = c.in_default.ensures.found in
    let fits = has_room c.if-left-capacity.false c.capacity.ensures c.len.ensures c.plan.new.log.ok.1
    c.plan.new.log.ok.0 c.write.ensures.room c.left.ensures c.left-2.ensures in
    room_second (words_of c.args.paths.program.now) c.plan.new.first c.plan.new.second found.settled found.of_packet
    found.gives_settled found.gives_of_packet c.args.piece.now.items c.plan.new.log.items c.in_default.ensures.written
    c.write.new.log.items c.write.ensures.adds _ _ c.write.new.log.ok.0 fits

module _ (g : _) (c : After-none-2 g) where
  -- The events of both stretches were appended.
  appended : c.write-2.new.log.items
      ≡ c.args.piece.now.items ++ (c.in_default.ensures.found.settled ++ c.in_default.ensures.found.of_packet)
  appended =
      let found = c.in_default.ensures.found in
      both_added (words_of c.args.paths.program.now) c.plan.new.first c.plan.new.second found.settled found.of_packet
      found.gives_settled found.gives_of_packet c.args.piece.now.items c.plan.new.log.items
      c.in_default.ensures.written c.write.new.log.items c.write.ensures.adds c.write-2.new.log.items
      c.write-2.ensures.adds

  all_appended : c.write-2.new.log.items ++ c.none-2.result
      ≡ c.args.piece.now.items ++ (c.in_default.ensures.found.settled ++ c.in_default.ensures.found.of_packet)
  all_appended =
      ap (λ l. c.write-2.new.log.items ++ l) c.none-2.ensures ∙ append-nil c.write-2.new.log.items ∙ appended

pub returns-clause-goes_on : goal.returns-clause-goes_on
returns-clause-goes_on g c = (
  c.in_default.ensures.found.settled ++ c.in_default.ensures.found.of_packet,
  appended g (goal.at.returns-clause-goes_on g c).After-none-2,
)

pub returns-clause-short : goal.returns-clause-short
returns-clause-short g c =
    short_in_pieces (words_of c.args.paths.program.now) c.args.self.now c.args.packet.now c.plan.new.first
    c.plan.new.second c.in_default.ensures.found c.after.result c.after.ensures c.args.piece.now.items
    c.write-2.new.log.items c.none-2.result (all_appended g (goal.at.returns-clause-short g c).After-none-2) _ _ _
    c.in_default.ensures.short c.args.piece.now.ok.0 c.write-2.new.log.ok.0

pub returns-clause-adds : goal.returns-clause-adds
returns-clause-adds g c =
    adds_in_pieces (words_of c.args.paths.program.now) c.args.self.now c.args.packet.now c.plan.new.first
    c.plan.new.second c.in_default.ensures.found c.after.result c.after.ensures c.args.piece.now.items
    c.write-2.new.log.items c.none-2.result (all_appended g (goal.at.returns-clause-adds g c).After-none-2)

pub returns-clause-only : goal.returns-clause-only
returns-clause-only g c =
    only_in_pieces (words_of c.args.paths.program.now) c.args.self.now c.args.packet.now c.plan.new.first
    c.plan.new.second c.in_default.ensures.found c.after.result c.after.ensures c.args.piece.now.items
    c.write-2.new.log.items c.none-2.result (all_appended g (goal.at.returns-clause-only g c).After-none-2)
    c.plan.ensures.words

pub returns-clause-begins : goal.returns-clause-begins
returns-clause-begins g c =
    begins_in_pieces (words_of c.args.paths.program.now) c.args.self.now c.args.packet.now c.plan.new.first
    c.plan.new.second c.in_default.ensures.found c.after.result c.after.ensures c.args.piece.now.items
    c.write-2.new.log.items c.none-2.result (all_appended g (goal.at.returns-clause-begins g c).After-none-2)

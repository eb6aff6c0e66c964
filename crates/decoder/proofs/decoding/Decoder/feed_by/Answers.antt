-- No search finds what the packets and the stretches stand for, from what the plan ensures.
use Rattle.std.proofs.Common.{ℕ, ◌+◌, ◌≤◌, ◌<◌, [], ◌∷◌, ◌++◌, ◌≡◌, arith, Result, true, is_err, Ok, Err, OnErr}
use Rattle.std.proofs.Common.{vec_len, vec_capacity}
use Rattle.std.proofs.Common.{inr, sym, OnOk, false, ap, subst, ◌∙◌, append-nil, length, length-append}
use Rattle.rvclass.specs.Fetch.{words_of}
use Rattle.std.proofs.lemmas.List.{append_cancel_left}
use Rattle.decoder.proofs.BeginsAnew.{passing_right, begins_stretch, begins_longer, begins_only}
use Rattle.decoder.proofs.BothWritten.{both_counted, both_added, room_second, cut_back}
use Rattle.decoder.proofs.NotOpenedReturned.{named_not_opened}
use Rattle.decoder.proofs.StandsForOneMore.{stands_right, stands_more, stands_longer, stands_only}
use Rattle.decoder.proofs.StretchEnds.{stretch_count-gives}
use Rattle.decoder.proofs.UniqueLemmas.{one_log}
use Rattle.decoder.specs.steps.Planning.{admitted, decoder_after, IsNamed}
use Rattle.decoder.specs.Order.{open_packet}
use Rattle.decoder.specs.steps.Stretches.{left_of, stretch_count, AddsStretch}
use Rattle.decoder.specs.DecoderStands.{DecoderStands}
use Rattle.decoder.proofs.decoding.Decoder.feed_by.Goals.{After-write-2}
use Rattle.decoder.proofs.decoding.Decoder.feed_by.Goals as goal

pub returns-in-Err-clause-adds_none : goal.returns-in-Err-clause-adds_none
returns-in-Err-clause-adds_none g c = λ packets before s. inr (λ other all.
    let w = words_of c.args.paths.program.now in
    let one = stands_only w c.plan.ensures.words packets before c.args.self.now c.args.packet.now other s all in
    c.in-Err.ensures.none.none (stands_right w packets before c.args.self.now s) one.piece one.more one.can)

pub returns-in-Err-clause-none : goal.returns-in-Err-clause-none
returns-in-Err-clause-none g c = λ packets s.
    returns-in-Err-clause-adds_none g c packets c.args.log.now.items s

pub returns-in-Err-clause-adds_first : goal.returns-in-Err-clause-adds_first
returns-in-Err-clause-adds_first g c = λ packets before s.
    let named = subst (λ x. IsNamed (admitted x c.args.packet.now) c.in-Err.fault) s.phase
    c.in-Err.ensures.none.named in
    let one = named_not_opened packets c.args.packet.now c.in-Err.fault named in
    (λ is. one.0 cc, λ is. let is_not = one.1 is in cc)

pub returns-in-Err-clause-not_opened : goal.returns-in-Err-clause-not_opened
returns-in-Err-clause-not_opened g c = λ packets s.
    returns-in-Err-clause-adds_first g c packets c.args.log.now.items s

-- What the room lacked that was asked for, it lacks for all of the events.
no_room : {cap cap' n' len' left left' a a' : ℕ} → (n both : ℕ) → cap' < len' + (left + left')
    → n' + (a + a') ≡ n + both
    → cap' ≡ cap → len' ≡ n' → left ≡ a → left' ≡ a' → cap < n + both
no_room n both full all room len' is is' = omega (arith, full, all, room, len', is, is')

-- The room that was asked for is there behind what was written first.
has_room : {cap cap' n len len' left left' a a' : ℕ} → len' + (left + left') ≤ cap' → len' ≡ len → len ≡ n
    → cap ≡ cap' → left ≡ a → left' ≡ a' → n + (a + a') ≤ cap
has_room fits kept len room is is' = omega (arith, fits, kept, len, room, is, is')

-- So many events are added at most as both stretches have.
at_most : {len len' n n' one two both count count' : ℕ} → (most : ℕ) → count ≡ one → count' ≡ two → n' ≡ n + both
    → both ≡ one + two → count + count' ≤ most + 2 → len ≡ n → len' ≡ n' → len' ≤ len + most + 2
at_most most is is' all both short len len' = omega (arith, is, is', all, both, short, len, len')

-- What is said of an error holds where there is one.
where_err : {T E : Type 0} {P : Type 0} (result : Result T E) → true ≡ is_err result → OnErr result P → P
where_err (Ok value) is said = cc
where_err (Err error) is said = said

-- What is said of success holds where there is no error.
where_ok : {T E : Type 0} {P : Type 0} (result : Result T E) → false ≡ is_err result → OnOk result P → P
where_ok (Ok value) is said = said
where_ok (Err error) is said = cc

pub returns-then-is_err-clause-memory : goal.returns-then-is_err-clause-memory
returns-then-is_err-clause-memory g c = λ packets s is.
    let w = words_of c.args.paths.program.now in
    let log = c.args.log.now in
    let first = c.plan.new.first in
    let second = c.plan.new.second in
    let found = c.in_default.ensures.found in
    let can = found.can (stands_right w packets log.items c.args.self.now s) in
    let full = where_err c.reserve.result c.if-is_err.ensures.value c.reserve.ensures.full in
    let all = both_counted w first second found.settled found.of_packet found.gives_settled found.gives_of_packet
    log.items c.plan.new.log.items c.in_default.ensures.written in
    stands_longer w packets log.items c.args.self.now c.args.packet.now first second found.settled found.of_packet
    (vec_capacity log) s found.gives_settled found.gives_of_packet can
    (no_room _ _ full all c.plan.ensures.grown.1 c.plan.new.log.ok.0 c.left.ensures c.left-2.ensures)

module _ (g : _) (c : After-write-2 g) where
  -- The events of both stretches were added.
  all : c.write-2.new.log.items
      ≡ c.args.log.now.items ++ (c.in_default.ensures.found.settled ++ c.in_default.ensures.found.of_packet)
  all =
      let found = c.in_default.ensures.found in
      both_added (words_of c.args.paths.program.now) c.plan.new.first c.plan.new.second found.settled found.of_packet
      found.gives_settled found.gives_of_packet c.args.log.now.items c.plan.new.log.items
      c.in_default.ensures.written c.write.new.log.items
      (subst (λ l. AddsStretch (words_of c.args.paths.program.now) (left_of c.plan.new.first) l c.write.new.log.items)
      c.reserve.ensures.items c.write.ensures.adds) c.write-2.new.log.items c.write-2.ensures.adds

pub returns-clause-adds : goal.returns-clause-adds
returns-clause-adds g c = λ packets before added s is.
    let w = words_of c.args.paths.program.now in
    let d = c.args.self.now in
    let p = c.args.packet.now in
    let first = c.plan.new.first in
    let second = c.plan.new.second in
    let found = c.in_default.ensures.found in
    let can = found.can (stands_right w packets before d s) in
    let new = stands_more w packets before d p first second found.settled found.of_packet s found.gives_settled
    found.gives_of_packet can in
    let same = append_cancel_left c.args.log.now.items (found.settled ++ found.of_packet) added
    (sym (all g (goal.at.returns-clause-adds g c).After-write-2) ∙ is) in
    subst (λ x. DecoderStands w (packets ++ p ∷ []) (before ++ added) x) (sym c.after.ensures)
    (subst (λ l. DecoderStands w (packets ++ p ∷ []) (before ++ l) (decoder_after d p first second)) same new)

pub returns-clause-stands : goal.returns-clause-stands
returns-clause-stands g c = λ packets s.
    let found = c.in_default.ensures.found in
    let whole = all g (goal.at.returns-clause-stands g c).After-write-2 in
    let new = returns-clause-adds g c packets c.args.log.now.items (found.settled ++ found.of_packet) s whole in
    subst (λ l. DecoderStands (words_of c.args.paths.program.now) (packets ++ c.args.packet.now ∷ []) l c.after.result)
    (sym whole) new

pub returns-clause-only : goal.returns-clause-only
returns-clause-only g c = λ packets s other all.
    one_log (words_of c.args.paths.program.now) c.plan.ensures.words (packets ++ c.args.packet.now ∷ []) other
    c.write-2.new.log.items all (returns-clause-stands g c packets s).described

pub returns-then-is_err-clause-goes_on : goal.returns-then-is_err-clause-goes_on
returns-then-is_err-clause-goes_on g c =
    let log = c.args.log.now in
    let grown = c.reserve.ensures.items ∙ c.plan.ensures.grown.0.1 in
    let back = cut_back log.items c.reserve.new.self.items c.plan.ensures.grown.0.0 c.len-count.result
    (c.len-count.ensures ∙ log.ok.0) grown in
    ([], c.truncate-then-is_err.ensures.items ∙ back ∙ sym (append-nil log.items))

pub write-requires-2-clause-room : goal.write-requires-2-clause-room
write-requires-2-clause-room g c =
    let w = words_of c.args.paths.program.now in
    let first = c.plan.new.first in
    let second = c.plan.new.second in
    let found = c.in_default.ensures.found in
    let adds = subst (λ l. AddsStretch w (left_of first) l c.write.new.log.items) c.reserve.ensures.items
    c.write.ensures.adds in
    let fits = where_ok c.reserve.result c.if-is_err.ensures.value c.reserve.ensures.ok in
    room_second w first second found.settled found.of_packet found.gives_settled found.gives_of_packet
    c.args.log.now.items c.plan.new.log.items c.in_default.ensures.written c.write.new.log.items adds _ _
    c.write.new.log.ok.0
    (has_room fits c.reserve.ensures.len c.plan.new.log.ok.0 c.write.ensures.room c.left.ensures c.left-2.ensures)

pub returns-clause-goes_on : goal.returns-clause-goes_on
returns-clause-goes_on g c = (
  c.in_default.ensures.found.settled ++ c.in_default.ensures.found.of_packet,
  all g (goal.at.returns-clause-goes_on g c).After-write-2,
)

pub returns-clause-short : goal.returns-clause-short
unfolding returns-clause-goes_on
returns-clause-short g c =
    let w = words_of c.args.paths.program.now in
    let log = c.args.log.now in
    let found = c.in_default.ensures.found in
    let one = stretch_count-gives w c.plan.new.first found.settled found.gives_settled in
    let two = stretch_count-gives w c.plan.new.second found.of_packet found.gives_of_packet in
    let all = ap length (returns-clause-goes_on g c).1 ∙ length-append log.items (found.settled ++ found.of_packet) in
    let both = length-append found.settled found.of_packet in
    at_most _ one two all both c.in_default.ensures.short log.ok.0 c.write-2.new.log.ok.0

pub returns-then-is_err-clause-begins_memory : goal.returns-then-is_err-clause-begins_memory
returns-then-is_err-clause-begins_memory g c = λ mode over sync is.
    let w = words_of c.args.paths.program.now in
    let log = c.args.log.now in
    let first = c.plan.new.first in
    let second = c.plan.new.second in
    let found = c.in_default.ensures.found in
    let can = found.can (passing_right w mode c.args.self.now over) in
    let full = where_err c.reserve.result c.if-is_err.ensures.value c.reserve.ensures.full in
    let all = both_counted w first second found.settled found.of_packet found.gives_settled found.gives_of_packet
    log.items c.plan.new.log.items c.in_default.ensures.written in
    begins_longer w mode c.args.self.now over c.args.packet.now first second found.settled found.of_packet (vec_len log)
    (vec_capacity log) sync found.gives_settled found.gives_of_packet can
    (subst (λ n. vec_capacity log < n + (stretch_count first + stretch_count second)) (sym log.ok.0)
    (no_room _ _ full all c.plan.ensures.grown.1 c.plan.new.log.ok.0 c.left.ensures c.left-2.ensures))

pub returns-in-Err-clause-begins_none : goal.returns-in-Err-clause-begins_none
returns-in-Err-clause-begins_none g c = λ mode over sync. inr (λ other all.
    let w = words_of c.args.paths.program.now in
    let one = begins_only w mode c.args.self.now over c.plan.ensures.words c.args.packet.now other sync all in
    c.in-Err.ensures.none.none (passing_right w mode c.args.self.now over) one.0 one.1 one.2)

pub returns-clause-begins : goal.returns-clause-begins
returns-clause-begins g c = λ mode over sync stretch is.
    let w = words_of c.args.paths.program.now in
    let found = c.in_default.ensures.found in
    let new = begins_stretch w mode c.args.self.now over c.args.packet.now c.plan.new.first c.plan.new.second
    found.settled found.of_packet sync found.gives_settled found.gives_of_packet
    (found.can (passing_right w mode c.args.self.now over)) in
    let same = append_cancel_left c.args.log.now.items (found.settled ++ found.of_packet) stretch
    (sym (all g (goal.at.returns-clause-begins g c).After-write-2) ∙ is) in
    let trace = open_packet mode ∷ c.args.packet.now ∷ [] in
    subst (λ x. DecoderStands w trace stretch x) (sym c.after.ensures)
    (subst (λ l. DecoderStands w trace l (decoder_after c.args.self.now c.args.packet.now c.plan.new.first
    c.plan.new.second)) same new)

-- Events are pushed block by block.
use Prim.Native.Nat.{suc}
use Rattle.std.proofs.Common.{◌≡◌, ℕ, ◌+◌, ◌-◌, ◌<◌, ◌≤◌, List, ◌∷◌, [], ◌++◌, drop}
use Rattle.std.proofs.Common.{length, map, take, refl, sym, ap, subst, ◌∙◌, arith}
use Rattle.std.specs.Prelude.{slice_set}
use Rattle.std.proofs.Math.Seq.{take-add}
use Rattle.std.proofs.lemmas.List.{append-nil, length-append, length-drop, length-map, length-set}
use Rattle.std.proofs.lemmas.List.{drop-drop, length-take, length-take-le, set_split, take-take, take_all}
use Rattle.encoder.specs.EncoderStands.{EncoderStands}
use Rattle.encoder.specs.PacketsSoFar.{packets_so_far}
use Rattle.encoder.specs.declared.encoder.Encoder.{Encoder}
use Rattle.legalpath.specs.Legal.{Legal}
use Rattle.payload.specs.declared.mode.Mode.{Mode}
use Rattle.payload.specs.declared.packet.Packet.{Packet}
use Rattle.retire.specs.declared.event.Event.{Event}
use Rattle.rvclass.specs.Words.{Words}
use Rattle.ffi.proofs.PushedInTurn.{goes_more, goes_none, pushed_on, turn_more, turn_none, turn_run}
use Rattle.ffi.proofs.WrittenInTurn.{front_more}
use Rattle.ffi.specs.Events.{numbers_of_event}
use Rattle.ffi.specs.Numbers.{numbers_of}
use Rattle.ffi.specs.declared.events.EventNumbers.{EventNumbers}
use Rattle.ffi.specs.declared.numbers.PacketNumbers.{PacketNumbers}
use Rattle.ffi.specs.steps.PushingAll.{ArePushed, GivesInTurn, GoesOn, IsBlockPushed, IsPartPushed}

-- The events up to one that makes a packet due: none before it makes one due.
pub quiet_run : (words : Words) (middle after : Encoder) (rest : List Event) (count : ℕ) (packets : List Packet)
    → GoesOn words middle (take count rest) after packets
    → ((period n : ℕ) (mode : Mode) (log : List Event) → EncoderStands words period mode log middle
    → Legal words (log ++ take n rest) → n < count
    → packets_so_far words period mode (log ++ take n rest) ≡ packets_so_far words period mode log)
    → GivesInTurn words middle (take count rest) packets
quiet_run words middle after rest count packets goes quiet = turn_run words middle after (take count rest) packets goes
    (λ period n mode log stands legal few.
    let many = length-take count rest in
    let short : n < count = omega (arith, few, many) in
    let same : take n (take count rest) ≡ take n rest = take-take n count rest (omega (arith, short)) in
    ap (λ es. packets_so_far words period mode (log ++ es)) same
    ∙ quiet period n mode log stands (subst (λ es. Legal words (log ++ es)) same legal) short)

module _ (words : Words) (first : Encoder) (block : List Event) (old : List PacketNumbers) where
  pub part_none : IsPartPushed words first block 0 first 0 old old
  part_none = record {
    packets = [];
    goes = goes_none words first;
    turn = turn_none words first;
    counted = refl;
    far = omega arith;
    within = omega arith;
    room = refl;
    written = refl;
  }

  module _ (at place count : ℕ) (middle after : Encoder) (now : List PacketNumbers)
      (before : IsPartPushed words first block at middle place old now) where
    module _ (rest : List Event) (lent : rest ≡ drop at block) where
      long : length rest ≡ length block - at
      long = ap length lent ∙ length-drop at block

      joined : take (at + count) block ≡ take at block ++ take count rest
      joined = take-add at count block ∙ ap (λ es. take at block ++ take count es) (sym lent)

      -- The events up to one that makes a packet due were pushed.
      pub part_more : (packet : Packet) (one : PacketNumbers) → one ≡ numbers_of packet → 1 ≤ count
          → count ≤ length rest → length block ≤ length old → place < length block
          → GoesOn words middle (take count rest) after (packet ∷ [])
          → GivesInTurn words middle (take count rest) (packet ∷ [])
          → IsPartPushed words first block (at + count) after (place + 1) old (slice_set now place one)
      part_more packet one is some fits room more goes turn =
          let far = before.far in
          let within = before.within in
          let same = before.room in
          let many = long in
          record {
            packets = before.packets ++ packet ∷ [];
            goes = subst (λ es. GoesOn words first es after (before.packets ++ packet ∷ [])) (sym joined)
                (goes_more words first middle after (take at block) (take count rest) before.packets (packet ∷ [])
                before.goes goes);
            turn = subst (λ es. GivesInTurn words first es (before.packets ++ packet ∷ [])) (sym joined)
                (turn_more words first middle after (take at block) (take count rest) before.packets (packet ∷ [])
                before.goes before.turn turn);
            counted = ap (λ n. n + 1) before.counted ∙ sym (length-append before.packets (packet ∷ []));
            far = omega (arith, some, far);
            within = omega (arith, fits, many, within);
            room = length-set now place one ∙ before.room;
            written = ap (slice_set now place) is
                ∙ set_split now place (numbers_of packet) (omega (arith, more, room, same))
                ∙ ap (λ n. take place now ++ numbers_of packet ∷ drop n now)
                (let on : suc place ≡ place + 1 = omega arith in on)
                ∙ front_more numbers_of old before.packets (packet ∷ []) place now
                (numbers_of packet ∷ drop (place + 1) now) (sym before.counted) before.written
                (ap (λ ns. numbers_of packet ∷ ns) (sym (drop-drop 1 place now)));
          }

      -- The rest makes none due.
      pub part_all : count ≡ length rest → place < length block → GoesOn words middle (take count rest) after []
          → GivesInTurn words middle (take count rest) [] → IsBlockPushed words first block after place old now
      part_all all few goes turn =
          let within = before.within in
          let many = long in
          record {
            packets = before.packets;
            goes = subst (λ es. GoesOn words first es after before.packets)
                (sym joined ∙ take_all (at + count) block (omega (arith, all, many, within)))
                (subst (λ ps. GoesOn words first (take at block ++ take count rest) after ps)
                (append-nil before.packets)
                (goes_more words first middle after (take at block) (take count rest) before.packets [] before.goes
                goes));
            turn = subst (λ es. GivesInTurn words first es before.packets)
                (sym joined ∙ take_all (at + count) block (omega (arith, all, many, within)))
                (subst (λ ps. GivesInTurn words first (take at block ++ take count rest) ps)
                (append-nil before.packets)
                (turn_more words first middle after (take at block) (take count rest) before.packets [] before.goes
                before.turn turn));
            counted = before.counted;
            few = omega (arith, few);
            written = before.written;
          }

    -- Each event made a packet due.
    pub part_end : length block ≤ place → IsBlockPushed words first block middle (length block) old now
    part_end far =
        let on = before.far in
        let within = before.within in
        let last : length block ≡ place = omega (arith, far, on, within) in
        record {
          packets = before.packets;
          goes = subst (λ es. GoesOn words first es middle before.packets)
              (take_all at block (omega (arith, far, on))) before.goes;
          turn = subst (λ es. GivesInTurn words first es before.packets)
              (take_all at block (omega (arith, far, on))) before.turn;
          counted = last ∙ before.counted;
          few = omega arith;
          written = subst (λ n. now ≡ map numbers_of before.packets ++ drop n old) (sym last) before.written;
        }

-- A block more was pushed.
pub pushed_block : (words : Words) (first : Encoder) (numbers : List EventNumbers) (old : List PacketNumbers)
    (place size count more : ℕ) (middle after : Encoder) (block : List Event) (now part tail whole : List PacketNumbers)
    → 1 ≤ size → part ≡ drop count now → whole ≡ take count now ++ tail → place + size ≤ length numbers
    → map numbers_of_event block ≡ take size (drop place numbers) → size ≤ length now - count
    → ArePushed words first numbers place middle count old now → IsBlockPushed words middle block after more part tail
    → ArePushed words first numbers (place + size) after (count + more) old whole
pushed_block words first numbers old place size count more middle after block now part tail whole some lent back within
    is fits before pushed =
    let far = length-drop place numbers in
    let all : length block ≡ size =
    sym (length-map block numbers_of_event)
    ∙ ap length is
    ∙ length-take-le size (drop place numbers) (omega (arith, far, within)) in
    let left : length part ≡ length now - count = ap length lent ∙ length-drop count now in
    let few = pushed.few in
    pushed_on words first numbers old place middle after count more now part tail whole lent back before size block
    pushed.packets some (take-add place size numbers ∙ ap (λ ns. take place numbers ++ ns) (sym is)) pushed.goes
    pushed.turn pushed.counted (omega (arith, few, all)) (omega (arith, few, all, fits, left)) pushed.written

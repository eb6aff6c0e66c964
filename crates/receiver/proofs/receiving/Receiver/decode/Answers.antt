-- What the hart's decoder answers, for the decoder and the list that stand at the hart's place: by lemmas on lists,
-- which no tactic finds.
use Rattle.std.proofs.Common.{◌≡◌, ◌<◌, List, length, set, refl, subst, sym, ap, ◌∙◌, slice_get}
use Rattle.std.specs.Prelude.{Some, vec_capacity}
use Rattle.std.proofs.lemmas.List.{set-get_or}
use Rattle.std.proofs.lemmas.Result.{IfErr-at_err, err_from_is_err_and}
use Rattle.retire.specs.declared.event.Event.{Event}
use Rattle.rvclass.specs.Fetch.{words_of}
use Rattle.payload.specs.declared.packet.Packet.{Packet}
use Rattle.decoder.specs.DecoderStands.{DecoderStands}
use Rattle.decoder.specs.declared.decoding.Decoder.{Decoder}
use Rattle.receiver.proofs.HoldLemmas.{count_after, decoded_more, holds_after, longer_here, others_after, same_hart}
use Rattle.receiver.proofs.HoldLemmas.{stands_here, written_same}
use Rattle.receiver.specs.Holds.{Holds, HoldsHart}
use Rattle.receiver.specs.Received.{Received, events_in}
use Rattle.receiver.proofs.receiving.Receiver.decode.Goals.{After-feed}
use Rattle.receiver.proofs.receiving.Receiver.decode.Goals as goal

module _ (g : _) (c : After-feed g) where
  -- The decoder and the list at the hart's place stand for what is held of the hart.
  stand : (packets : List Packet) → HoldsHart (words_of c.args.program.now) c.args.hart packets c.args.self.now
      → DecoderStands (words_of c.args.program.now) packets c.index_mut-2.result.now.items c.index_mut.result.now
  stand packets given =
      stands_here c.self.inside.demux c.self.inside.decoders.items c.self.inside.lists.items c.self.inside.closed.items
      c.args.hart c.from-hart.result c.from-hart.ensures (words_of c.args.program.now) packets c.index_mut.result.now
      c.index_mut-2.result.now c.args.self.now c.self.view_is c.self.invariant given c.requires.known
      c.index_mut.ensures.value c.index_mut-2.ensures.value

  -- A log for which the list has no room is longer than the events that are held of the hart.
  longer : (list log : List Event) → slice_get c.args.self.now.lists c.args.hart ≡ Some list
      → vec_capacity c.index_mut-2.result.now < length log → length list < length log
  longer list log =
      longer_here c.self.inside.demux c.self.inside.decoders.items c.self.inside.lists.items c.self.inside.closed.items
      c.args.hart c.from-hart.result c.from-hart.ensures c.index_mut-2.result.now list log c.args.self.now
      c.self.view_is c.requires.known c.index_mut-2.ensures.value

pub returns-in_err-feed-clause-none : goal.returns-in_err-feed-clause-none
returns-in_err-feed-clause-none g c = λ packets given.
    let made = err_from_is_err_and c.from_residual.result c.from_residual.ensures.1 in
    let fed = (goal.at.returns-in_err-feed-clause-none g c).After-feed in
    rw (made.1, made.2) (c.in_err-feed.ensures.none packets (stand g fed packets given))

pub returns-in_err-feed-clause-memory : goal.returns-in_err-feed-clause-memory
returns-in_err-feed-clause-memory g c =
    let made = err_from_is_err_and c.from_residual.result c.from_residual.ensures.1 in
    rw (made.1, made.2) (λ packets list given is_list is.
    let fed = (goal.at.returns-in_err-feed-clause-memory g c).After-feed in
    let found = c.in_err-feed.ensures.memory packets (stand g fed packets given) is in
    (found.0, found.1, longer g fed list found.0 is_list found.2))

pub returns-in_err-feed-clause-not_opened : goal.returns-in_err-feed-clause-not_opened
returns-in_err-feed-clause-not_opened g c = λ packets given.
    let made = err_from_is_err_and c.from_residual.result c.from_residual.ensures.1 in
    let fed = (goal.at.returns-in_err-feed-clause-not_opened g c).After-feed in
    rw (made.1, made.2) (c.in_err-feed.ensures.not_opened packets (stand g fed packets given))

pub returns-in_err-feed-clause-after_close : goal.returns-in_err-feed-clause-after_close
returns-in_err-feed-clause-after_close g c = λ packets given.
    let made = err_from_is_err_and c.from_residual.result c.from_residual.ensures.1 in
    let fed = (goal.at.returns-in_err-feed-clause-after_close g c).After-feed in
    rw (made.1, made.2) (c.in_err-feed.ensures.closed packets (stand g fed packets given))

pub returns-in_err-feed-clause-refused : goal.returns-in_err-feed-clause-refused
returns-in_err-feed-clause-refused g c =
    let made = err_from_is_err_and c.from_residual.result c.from_residual.ensures.1 in
    let decoders = c.self.inside.decoders.items in
    let lists = c.self.inside.lists.items in
    let hart = c.from-hart.result in
    let one : set decoders hart c.feed.new.self ≡ decoders =
    ap (set decoders hart) (c.in_err-feed.ensures.kept ∙ c.index_mut.ensures.value)
    ∙ set-get_or decoders hart c.index_mut.result.now in
    let two : events_in (set lists hart c.feed.new.log) ≡ events_in lists =
    written_same lists hart c.index_mut-2.result.now c.feed.new.log c.index_mut-2.ensures.value
    c.in_err-feed.ensures.list_kept in
    let held : List Decoder → List (List Event) → Received =
    λ decoders lists. record {
      expected = c.self.inside.demux;
      decoders = decoders;
      lists = lists;
      closed = c.self.inside.closed.items;
    } in
    let same : held (set decoders hart c.feed.new.self) (events_in (set lists hart c.feed.new.log))
    ≡ held decoders (events_in lists) = cc in
    rw made.1 (same ∙ c.self.view_is)

pub returns-in_err-feed-clause-others : goal.returns-in_err-feed-clause-others
returns-in_err-feed-clause-others g c = λ other apart.
    let made = err_from_is_err_and c.from_residual.result c.from_residual.ensures.1 in
    same_hart other _ _ (IfErr-at_err _ made.1 (returns-in_err-feed-clause-refused g c))

pub returns-clause-memory : goal.returns-clause-memory
returns-clause-memory g c = λ packets list given is_list is.
    let fed = (goal.at.returns-clause-memory g c).After-feed in
    let found = c.in_ok-feed.ensures.memory packets (stand g fed packets given) is in
    (found.0, found.1, longer g fed list found.0 is_list found.2)

pub returns-clause-not_opened : goal.returns-clause-not_opened
returns-clause-not_opened g c = λ packets given.
    let fed = (goal.at.returns-clause-not_opened g c).After-feed in
    c.in_ok-feed.ensures.not_opened packets (stand g fed packets given)

pub returns-clause-after_close : goal.returns-clause-after_close
returns-clause-after_close g c = λ packets given.
    let fed = (goal.at.returns-clause-after_close g c).After-feed in
    c.in_ok-feed.ensures.closed packets (stand g fed packets given)

pub returns-clause-hart : goal.returns-clause-hart
returns-clause-hart g c = λ packets given.
    holds_after c.self.inside.demux c.self.inside.decoders.items c.self.inside.lists.items c.self.inside.closed.items
    c.args.hart c.from-hart.result c.from-hart.ensures (words_of c.args.program.now) packets c.args.packet.now
    c.feed.new.self c.feed.new.log c.is_closing.result c.is_closing.ensures
    (c.in_ok-feed.ensures.stands packets (stand g (goal.at.returns-clause-hart g c).After-feed packets given))

pub returns-clause-others : goal.returns-clause-others
returns-clause-others g c =
    others_after c.self.inside.demux c.self.inside.decoders.items c.self.inside.lists.items c.self.inside.closed.items
    c.args.hart c.from-hart.result c.from-hart.ensures c.feed.new.self c.feed.new.log c.is_closing.result
    c.args.self.now c.self.view_is

pub returns-clause-decoded : goal.returns-clause-decoded
returns-clause-decoded g c = λ programs harts messages message program own read given.
    let all = subst (Holds programs harts messages) (sym c.self.view_is) given in
    decoded_more programs harts messages message c.args.packet.now (words_of c.args.program.now) c.args.hart _ _
    program own read all
    (count_after c.self.inside.demux c.self.inside.decoders.items c.self.inside.lists.items
    c.self.inside.closed.items c.args.hart c.from-hart.result c.from-hart.ensures c.feed.new.self c.feed.new.log
    c.is_closing.result)
    (λ holds.
    returns-clause-hart g c _
    (subst (HoldsHart (words_of c.args.program.now) c.args.hart _) c.self.view_is holds))
    (others_after c.self.inside.demux c.self.inside.decoders.items c.self.inside.lists.items
    c.self.inside.closed.items c.args.hart c.from-hart.result c.from-hart.ensures c.feed.new.self c.feed.new.log
    c.is_closing.result _ refl)

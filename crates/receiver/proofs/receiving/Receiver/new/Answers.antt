-- A receiver that accepted nothing: its lists are made by three calls, whose facts are joined here.
use Rattle.std.proofs.Common.{◌≡◌, [], false, replicate, sym, subst}
use Rattle.message.specs.Harts.{newcomer}
use Rattle.receiver.proofs.HoldLemmas.{received_none}
use Rattle.receiver.specs.Holds.{HasReceived}
use Rattle.receiver.specs.Received.{Received, events_in}
use Rattle.receiver.proofs.receiving.Receiver.new.Goals as goal

pub returns : goal.returns
returns g c = λ programs.
    let harts = c.args.harts in
    let decoder = c.new-2.result in
    let expected : c.in_ok-new.field-0 ≡ replicate harts newcomer = c.in_ok-new.ensures in
    let decoders : c.in_ok-vec.field-0.items ≡ replicate harts decoder =
    subst (λ n. c.in_ok-vec.field-0.items ≡ replicate n decoder) c.from-count.ensures
    (c.in_ok-vec.ensures.items_if_clones_equal (λ y same. same)) in
    let lists : events_in c.in_ok-empty_lists.field-0.items ≡ replicate harts [] =
    subst (λ n. events_in c.in_ok-empty_lists.field-0.items ≡ replicate n []) c.from-count.ensures
    c.in_ok-empty_lists.ensures in
    let closed : c.in_ok-vec-2.field-0.items ≡ replicate harts false =
    subst (λ n. c.in_ok-vec-2.field-0.items ≡ replicate n false) c.from-count.ensures
    (c.in_ok-vec-2.ensures.items_if_clones_equal (λ y same. same)) in
    let made : Received = record {
      expected = c.in_ok-new.field-0;
      decoders = c.in_ok-vec.field-0.items;
      lists = events_in c.in_ok-empty_lists.field-0.items;
      closed = c.in_ok-vec-2.field-0.items;
    } in
    let wanted : Received = record {
      expected = replicate harts newcomer;
      decoders = replicate harts decoder;
      lists = replicate harts [];
      closed = replicate harts false;
    } in
    let same : made ≡ wanted = cc in
    subst (HasReceived programs harts []) (sym same) (received_none programs harts decoder c.new-2.ensures.stands)

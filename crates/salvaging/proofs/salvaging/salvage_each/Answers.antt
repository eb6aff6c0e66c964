-- Which harts are salvaged is found by lemmas on lists.
use Rattle.std.proofs.Common.{◌≡◌, ◌<◌, ◌+◌, Some, length, refl, ap, ◌∙◌, arith, slice_get}
use Rattle.std.proofs.lemmas.List.{length-set, length_push}
use Rattle.std.proofs.lemmas.Option.{slice_get_read}
use Rattle.std.specs.declared.vec.Vec.{Vec}
use Rattle.rvclass.specs.Fetch.{words_of}
use Rattle.losses.proofs.Ending.{left_behind}
use Rattle.salvaging.specs.Salvaged.{IsSalvagedHart}
use Rattle.salvaging.specs.steps.Arrivals.{HaveNumbers, HavePlaces, arrivals_in}
use Rattle.salvaging.specs.declared.received.ReceivedMessage.{ReceivedMessage}
use Rattle.salvaging.proofs.SalvagedEach.{next_list, one_more_hart}
use Rattle.salvaging.proofs.salvaging.salvage_each.Goals as goal

pub loop-hart-preserved : goal.loop-hart-preserved
loop-hart-preserved g c =
    let i = c.loop-hart.hart in
    let inv = c.loop-hart.invariant in
    let first = c.args.lists.now.items in
    let lists = c.loop-hart.lists.items in
    let harts = c.loop-hart.harts.items in
    let list = c.index_mut.result.now in
    let own = c.in_ok-salvage_hart.field-0 in
    let new = c.push_reserved.new.self.items in
    let test = c.loop-hart-test.true in
    let end = c.loop-hart.auto.hart-end in
    let lists_count = inv.lists_count in
    let count = inv.count in
    let room = inv.room in
    let kept = c.push_reserved.ensures.capacity in
    let counted = c.args.lists.now.ok.0 in
    let within : i < length lists = omega (arith, test, end, lists_count, counted) in
    let at = inv.left i list (omega arith) (slice_get_read lists (length lists) i list refl within
    c.index_mut.ensures.value) in
    let pushed = c.push_reserved.ensures.items in
    record {
      lines = ap (λ (p : _). p.now) c.salvage_hart.ensures.lines ∙ inv.lines;
      lists_count = length-set lists i _ ∙ inv.lists_count;
      count = ap length pushed ∙ length_push harts own ∙ ap (λ n. n + 1) inv.count;
      room = omega (arith, room, kept);
      left = left_behind first lists i _ inv.left;
      done = one_more_hart (IsSalvagedHart (words_of c.args.program.now) c.args.mode) first harts new i list own inv.count at pushed
          (λ messages placed. c.in_ok-salvage_hart.ensures.salvaged messages
          (ap (λ (v : Vec ReceivedMessage _). arrivals_in v.items) c.replace-came.ensures.value ∙ placed)) inv.done;
    }

pub salvage_hart-requires-clause-numbers : goal.salvage_hart-requires-clause-numbers
salvage_hart-requires-clause-numbers g c =
    let i = c.loop-hart.hart in
    let inv = c.loop-hart.invariant in
    let first = c.args.lists.now.items in
    let lists = c.loop-hart.lists.items in
    let list = c.index_mut.result.now in
    let test = c.loop-hart-test.true in
    let end = c.loop-hart.auto.hart-end in
    let lists_count = inv.lists_count in
    let counted = c.args.lists.now.ok.0 in
    let within : i < length lists = omega (arith, test, end, lists_count, counted) in
    let at : slice_get first i ≡ Some list = inv.left i list (omega arith)
    (slice_get_read lists (length lists) i list refl within c.index_mut.ensures.value) in
    next_list HaveNumbers first i list c.replace-came.result c.requires.numbers at c.replace-came.ensures.value

pub salvage_hart-requires-clause-places : goal.salvage_hart-requires-clause-places
salvage_hart-requires-clause-places g c =
    let i = c.loop-hart.hart in
    let inv = c.loop-hart.invariant in
    let first = c.args.lists.now.items in
    let lists = c.loop-hart.lists.items in
    let list = c.index_mut.result.now in
    let test = c.loop-hart-test.true in
    let end = c.loop-hart.auto.hart-end in
    let lists_count = inv.lists_count in
    let counted = c.args.lists.now.ok.0 in
    let within : i < length lists = omega (arith, test, end, lists_count, counted) in
    let at : slice_get first i ≡ Some list = inv.left i list (omega arith)
    (slice_get_read lists (length lists) i list refl within c.index_mut.ensures.value) in
    next_list HavePlaces first i list c.replace-came.result c.requires.places at c.replace-came.ensures.value

-- The places so far: by lemmas on messages and their bytes, which no tactic finds.
use Rattle.std.proofs.Common.{◌≡◌, ◌++◌, ◌∙◌, [], ◌∷◌, sym, subst, arith, take, true}
use Rattle.message.specs.Range.{selected, selects}
use Rattle.message.specs.declared.message.Message.{Message}
use Rattle.captures.proofs.FoundInFront.{in_front}
use Rattle.parallel_decode.proofs.PlaceLemmas.{begins_next, next_is_at, next_is_message, next_left, next_message, place_behind}
use Rattle.parallel_decode.proofs.PlaceLemmas.{listed_selected, places_all, places_more}
use Rattle.parallel_decode.specs.Places.{ArePlaced, IsAt}
use Rattle.parallel_decode.proofs.placing.places_of.Goals as goal

pub loop-preserved : goal.loop-preserved
loop-preserved g c =
    let bytes = c.args.bytes.now in
    let range = c.args.range in
    let left = c.loop.messages in
    let next = c.next.new.self in
    let said = c.in-Ok-Some.ensures in
    let found = c.in-Ok-Some.message in
    let front = in_front left next _ found c.in-Ok-Some.field-0-is said.ranges said.message said.shorter in
    let behind = place_behind bytes left next c.loop.place c.size-place.result found c.loop.invariant.left
    c.loop.invariant.within front.here c.size-place.ensures.bytes in
    record {
      harts = c.add_selected.ensures.harts ∙ c.loop.invariant.harts;
      within = behind.1;
      left = behind.0;
      placed = λ messages first.
          let are = c.loop.invariant.placed messages first in
          let own = next_message range bytes c.loop.places.items left c.loop.counter c.args.count messages first are c.loop-test.true in
          let rest = next_left range bytes c.loop.places.items left c.loop.counter c.args.count messages first are c.loop-test.true in
          let back = c.next.ensures.reads_back own rest
          (next_is_message range bytes c.loop.places.items left c.loop.counter c.args.count messages first are c.loop-test.true)
          (begins_next range bytes c.loop.places.items left c.loop.counter c.args.count messages first are c.loop-test.true) in
          let got = c.in-Ok-Some.is in
          let some = c.in-Ok-Some.field-0-is in
          let one = back.0 in
          let same : found ≡ own = cc in
          let is_at = next_is_at range bytes c.loop.places.items left c.loop.counter c.args.count messages first are
          c.loop-test.true c.loop.place c.loop.invariant.within c.loop.invariant.left in
          places_more range bytes c.loop.places.items left c.loop.counter c.args.count messages first are c.loop-test.true
          c.add_selected.new.places.items next back.1
          (subst (λ (m : Message). ArePlaced bytes c.add_selected.new.places.items
          (selected range (take c.loop.counter messages) ++ selected range (m ∷ []))) same
          (listed_selected (IsAt bytes) c.loop.places.items c.add_selected.new.places.items
          (selected range (take c.loop.counter messages)) found c.loop.place are.placed range
          c.in_ok-add_selected-in-Ok-Some.ensures.added c.add_selected.ensures.passed
          (subst (λ (m : Message). selects range m.hart ≡ true → IsAt bytes c.loop.place m) (sym same) is_at)));
    }

pub returns-clause-places : goal.returns-clause-places
returns-clause-places g c = λ messages first.
    places_all c.args.range c.args.bytes.now c.loop.places.items c.loop.messages c.loop.counter c.args.count messages first
    (c.loop.invariant.placed messages first) (omega (arith, c.loop-test.false))

pub returns-in-Ok-None-clause-places : goal.returns-in-Ok-None-clause-places
returns-in-Ok-None-clause-places g c = λ messages first.
    let are = c.loop.invariant.placed messages first in
    let left = c.loop.messages in
    let bytes = c.args.bytes.now in
    let range = c.args.range in
    let one = (c.next.ensures.reads_back _ _
    (next_is_message range bytes c.loop.places.items left c.loop.counter c.args.count messages first are c.loop-test.true)
    (begins_next range bytes c.loop.places.items left c.loop.counter c.args.count messages first are c.loop-test.true)).0 in
    let got = c.in-Ok-None.is in
    let none = c.in-Ok-None.field-0-is in
    absurd cc

pub returns-in-Err-clause-places : goal.returns-in-Err-clause-places
returns-in-Err-clause-places g c = λ messages first.
    let are = c.loop.invariant.placed messages first in
    let left = c.loop.messages in
    let bytes = c.args.bytes.now in
    let range = c.args.range in
    let one = (c.next.ensures.reads_back _ _
    (next_is_message range bytes c.loop.places.items left c.loop.counter c.args.count messages first are c.loop-test.true)
    (begins_next range bytes c.loop.places.items left c.loop.counter c.args.count messages first are c.loop-test.true)).0 in
    let got = c.in-Err.is in
    absurd cc

-- What is received of a section's places: by lemmas on sections.
use Rattle.std.proofs.Common.{◌≡◌, ◌+◌, ◌<◌, ℕ, Global, List, Vec, arith, get_or, length, subst}
use Rattle.rvclass.specs.Fetch.{words_of}
use Rattle.parallel_decode.proofs.PlaceLemmas.{any_message}
use Rattle.message.specs.declared.message.Message.{Message}
use Rattle.parallel_decode.proofs.SectionLemmas.{added-section, on_ok-as, passed-none, said-of, section-next}
use Rattle.parallel_decode.proofs.PlaceLemmas.{message-at}
use Rattle.parallel_decode.specs.declared.own.Own.{Own}
use Rattle.parallel_decode.specs.declared.section_ends.SectionEnd.{SectionEnd}
use Rattle.parallel_decode.specs.steps.Sections.{AreAdded, IsSectionEnd}
use Rattle.parallel_decode.specs.steps.Starts.{StartAt, StartsAt}
use Rattle.parallel_decode.proofs.section_ends.receive_section.Goals.{else-is_cut}
use Rattle.parallel_decode.proofs.section_ends.receive_section.Goals.{then-is_cut+in_ok-add_section}
use Rattle.parallel_decode.proofs.section_ends.receive_section.Goals as goal

pub returns-in_default : goal.returns-in_default
returns-in_default c =
    on_ok-as c.add_section.result
    (added-section (words_of c.args.work.now.program.now) c.args.work.now.announced c.args.work.now.bytes.now
    c.args.places.now c.args.section.hart c.loop-number.first c.loop-number.number c.args.ends.now.items
    c.loop-number.ends.items c.add_section.new.ends.items c.section_of.result c.loop-number.from c.loop-number.own
    c.loop-number.events c.loop-number.invariant.0 c.section_of.ensures c.loop-number.invariant.1) c.add_section.ensures

pub returns-in-Err : goal.returns-in-Err
returns-in-Err c =
    on_ok-as c.add_section-in-Err.result
    (added-section (words_of c.args.work.now.program.now) c.args.work.now.announced c.args.work.now.bytes.now
    c.args.places.now c.args.section.hart c.loop-number.first c.loop-number.number c.args.ends.now.items
    c.loop-number.ends.items c.add_section-in-Err.new.ends.items c.section_of-in-Err.result c.loop-number.from
    c.loop-number.own c.loop-number.events c.loop-number.invariant.0 c.section_of-in-Err.ensures
    c.loop-number.invariant.1) c.add_section-in-Err.ensures

pub loop-number-preserved : goal.loop-number-preserved
loop-number-preserved c =
    let words = words_of c.args.work.now.program.now in
    let announced = c.args.work.now.announced in
    let bytes = c.args.work.now.bytes.now in
    let places = c.args.places.now in
    let hart = c.args.section.hart in
    let number = c.loop-number.number in
    let next = c.receive.new.self in
    let test = c.loop-number-test.true in
    let least = c.min-end.ensures in
    let inside : number < length places = omega (arith, test, least) in
    let some = c.in-Some.is in
    let message = c.in-Some.message in
    let found : (messages : List Message) → StartAt bytes places messages → message ≡ get_or messages number any_message =
    λ messages are.
    let at = c.message_at.ensures (get_or messages number any_message)
    (message-at (StartsAt bytes) places messages number 0 are inside) in cc in
    let stepped = section-next words announced bytes places hart c.loop-number.first number c.loop-number.from
    c.loop-number.own next c.loop-number.events c.in-Ok.more c.saturating_add-events.result message
    c.loop-number.invariant.1 inside found (λ before log is. c.in-Ok.ensures.received before log is)
    c.saturating_add-events.ensures in
    let R = λ (ends : Vec SectionEnd Global) (first : ℕ) (from : Own) (events : ℕ).
    AreAdded words announced bytes places hart c.args.ends.now.items ends.items
    × IsSectionEnd words announced bytes places (record {
      section = record { hart = hart; first = first; end = number + 1 };
      from = from;
      to = next;
      events = events;
    }) in
    elim c.if-is_cut.branch [
      | then-is_cut+in_ok-add_section w ↦
          said-of R _ _ _ _ _ _ _ _ w.ends-is w.first-is w.from-is w.events-is (
            added-section words announced bytes places hart c.loop-number.first (number + 1) c.args.ends.now.items
                c.loop-number.ends.items w.add_section-then-is_cut.new.ends.items w.section_of-then-is_cut.result c.loop-number.from
                next c.saturating_add-events.result c.loop-number.invariant.0 w.section_of-then-is_cut.ensures stepped
                w.in_ok-add_section.ensures,
            passed-none words announced bytes places hart (number + 1) next (omega (arith, inside)),
          )
      | else-is_cut w ↦
          said-of R _ _ _ _ _ _ _ _ w.ends-is w.first-is w.from-is w.events-is (c.loop-number.invariant.0, stepped)
    ]

pub returns : goal.returns
returns c =
    let end = c.min-end.result in
    let last : c.loop-number.number ≡ end = omega (arith, c.loop-number-test.false, c.loop-number.auto.number-end) in
    on_ok-as c.add_section-2.result
    (added-section (words_of c.args.work.now.program.now) c.args.work.now.announced c.args.work.now.bytes.now
    c.args.places.now c.args.section.hart c.loop-number.first end c.args.ends.now.items c.loop-number.ends.items
    c.add_section-2.new.ends.items c.section_of-2.result c.loop-number.from c.loop-number.own c.loop-number.events
    c.loop-number.invariant.0 c.section_of-2.ensures
    (subst (λ n. IsSectionEnd (words_of c.args.work.now.program.now) c.args.work.now.announced c.args.work.now.bytes.now
    c.args.places.now (record {
      section = record { hart = c.args.section.hart; first = c.loop-number.first; end = n };
      from = c.loop-number.from;
      to = c.loop-number.own;
      events = c.loop-number.events;
    })) last c.loop-number.invariant.1)) c.add_section-2.ensures

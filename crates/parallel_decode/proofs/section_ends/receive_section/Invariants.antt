-- Sections were added, and the messages behind them lead from the one state to the other.
use Rattle.rvclass.specs.Fetch.{words_of}
use Rattle.parallel_decode.specs.steps.Sections.{AreAdded, IsSectionEnd}
use Rattle.parallel_decode.proofs.section_ends.receive_section.Given as goal

abbrev pub invariant-loop-number : goal.invariant-loop-number
invariant-loop-number l =
    AreAdded (words_of l.work.program.now) l.work.announced l.work.bytes.now l.places l.hart l.fn.ends.items l.ends.items
    × IsSectionEnd (words_of l.work.program.now) l.work.announced l.work.bytes.now l.places
    (record {
      section = record { hart = l.hart; first = l.first; end = l.number };
      from = l.from;
      to = l.own;
      events = l.events;
    })

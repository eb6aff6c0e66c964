-- What is reported is a record; one clause holds of each log that the state's numbers stand for, which the search does
-- not instantiate.
use Rattle.std.proofs.Common.{◌∙◌, arith, inl, inr, map, refl, rules, subst, sym}
use Rattle.std.proofs.lemmas.Grind.{common_steps}
use Rattle.encoder.specs.Packets.{packets}
use Rattle.encoder.specs.PacketsSoFar.{packets_so_far}
use Rattle.rvclass.specs.Fetch.{words_of}
use Rattle.ffi.proofs.StepsTaken.{is_read_at_end}
use Rattle.ffi.specs.Handed.{IsHandedOut}
use Rattle.ffi.specs.Numbers.{numbers_of}
use Rattle.ffi.specs.Pushed.{AreMore}
use Rattle.ffi.proofs.pushing.finish_over.Goals as goal

pub returns-in-None : goal.returns-in-None
returns-in-None c = record {
  ends = inl (λ some. let same = c.in-None.ensures.only some.0 some.1 in cc, refl);
  packets = λ program period mode log is.
      let same = c.in-None.ensures.only is.stand.state is.stand.is in absurd cc;
  refused = λ no. refl;
  counted = λ no other. refl;
  two = search rules;
  few = search rules;
}

pub returns-in-Err : goal.returns-in-Err
returns-in-Err c = record {
  ends = inr ((c.in-Some.kept, c.in-Some.ensures.found), inl (c.in-Err.fault, c.in-Err.is, c.status.ensures));
  packets = λ program period mode log is. let same = sym c.in-Err.is ∙ is.made in absurd cc;
  refused = λ no. refl;
  counted = λ no other. refl;
  two = λ small. grind (arith, common_steps);
  few = λ either. grind (arith, common_steps);
}

pub returns : goal.returns
returns c =
    let made = c.in-Ok.program in
    let status = c.hand_out_packets.result in
    let count = c.hand_out_packets.new.count in
    let old = c.args.packets.now in
    let new = c.hand_out_packets.new.packets in
    let handed = c.hand_out_packets.ensures in
    record {
      ends = inr ((c.in-Some.kept, c.in-Some.ensures.found), inr (made, c.in-Ok.is, handed.status));
      packets = λ program period mode log is.
          let known = is_read_at_end c.args.image.now program made period mode log c.in-Some.kept c.args.state.now
          c.in-Ok.is c.in-Some.ensures.only is in
          let stands = c.from_state.ensures.stands (words_of made) period mode log known.stands in
          subst (λ p. AreMore (packets_so_far (words_of p) period mode log) (packets (words_of p) period mode log) status
          count old new) known.program_is
          (record {
            more = c.finish-burst.result.items;
            grown = c.finish-burst.ensures.packets period mode log stands;
            profile = c.finish-burst.ensures.profile period mode log stands known.legal;
            handed = subst (λ xs. IsHandedOut (map numbers_of xs) status count old new) c.as_slice.ensures.value
                handed.handed;
          });
      refused = search rules;
      counted = search rules;
      two = search rules;
      few = search rules;
    }

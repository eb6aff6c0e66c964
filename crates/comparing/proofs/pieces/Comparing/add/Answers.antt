-- What came is counted: a log has no more than a number of 64 bits.
use Rattle.std.proofs.Common.{◌≡◌, ◌∙◌, ◌+◌, ◌++◌, ap, arith, length, sym}
use Rattle.std.proofs.Math.Nat.{min-eq_left}
use Rattle.std.proofs.lemmas.List.{length-append}
use Rattle.std.specs.Prelude.{◌-◌, ◌^◌, min}
use Rattle.comparing.proofs.ComparedCounts.{min_add}
use Rattle.comparing.proofs.pieces.Comparing.add.Goals as goal

pub returns : goal.returns
returns c = λ before seen has next few.
    let decoded = c.args.decoded.now in
    let alike = c.alike_with-alike.ensures before seen has next few in
    let came = c.args.self.now.events + length c.args.events.now in
    let events = has.events in
    let all = length-append seen c.args.events.now in
    let sum : min came (2 ^ 64 - 1) ≡ came = min-eq_left (omega (arith, events, all, few)) in
    let count : came ≡ length (seen ++ c.args.events.now) = omega (arith, events, all) in record {
      events = c.saturating_add-self.ensures ∙ sum ∙ count;
      counted =
          c.saturating_add-self-2.ensures
          ∙ ap (λ many. min (many + length decoded) (2 ^ 64 - 1)) has.counted
          ∙ min_add (length before) (length decoded) (2 ^ 64 - 1)
          ∙ ap (λ many. min many (2 ^ 64 - 1)) (sym (length-append before decoded));
      alike = alike;
      near = c.near_with-self.ensures before seen has next few alike;
    }

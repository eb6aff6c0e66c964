-- The messages that the bytes begin with: by lemmas on lists, which no tactic finds.
use Rattle.std.proofs.Common.{◌≡◌, ◌∙◌, Global, Vec, ap, arith, length, map, subst, sym, ℕ}
use Rattle.std.proofs.lemmas.List.{length-map}
use Rattle.stimulus.specs.Mixing.{AllAreInFront, mixed_burst}
use Rattle.stimulus.specs.Order.{first_drawn}
use Rattle.stimulus.proofs.LeftMessages.{all_found, fronts_long}
use Rattle.stimulus.proofs.mixing.Mixing.new.Goals as goal

pub returns-clause-messages : goal.returns-clause-messages
returns-clause-messages g c =
    let found = all_found c.in_ok-left.left.items c.in_ok-left.ensures.bytes in
    record { left = found.left; are = subst (AllAreInFront found.left) c.in_ok-left.ensures.left found.fronts }

pub returns-clause-unmixed : goal.returns-clause-unmixed
returns-clause-unmixed g c = λ left are.
    let harts = c.args.harts.now in
    let long = fronts_long left (map (λ (bytes : Vec ℕ Global). bytes.items) harts) are in
    let same = length-map harts (λ (bytes : Vec ℕ Global). bytes.items) in
    let count : c.in-Ok.count ≡ length left = omega (arith, c.in-Ok.ensures, long, same) in record {
      drawn = c.in_ok-order.ensures ∙ ap (λ n. first_drawn c.args.seed n mixed_burst 1 0) count;
      left = subst (AllAreInFront left) (sym c.in_ok-left.ensures.left) are;
    }

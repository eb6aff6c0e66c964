-- A message that is no stranger is one of a hart.
use Rattle.std.proofs.Common.{rules, ◌≡◌, inl, inr, true, false, refl, sym, ◌∙◌, arith}
use Rattle.salvaging.proofs.TreatedAll.{others_own}
use Rattle.salvaging.proofs.treating.treat_next.Goals as goal

pub returns-then-is_stranger : goal.returns-then-is_stranger
returns-then-is_stranger g c =
    let test : c.is_stranger.result ≡ true = search rules in
    inl (sym c.is_stranger.ensures ∙ test, c.stranger.ensures, refl)

pub treat_own-requires-clause-known : goal.treat_own-requires-clause-known
treat_own-requires-clause-known g c =
    let test : c.is_stranger.result ≡ false = search rules in
    let own = (others_own c.args.harts c.args.message.now (sym c.is_stranger.ensures ∙ test)).0 in
    let many = c.requires.known in
    omega (arith, own, many)

pub treat_own-requires-clause-counted : goal.treat_own-requires-clause-counted
treat_own-requires-clause-counted g c =
    let test : c.is_stranger.result ≡ false = search rules in
    let own = (others_own c.args.harts c.args.message.now (sym c.is_stranger.ensures ∙ test)).0 in
    let many = c.requires.counted in
    omega (arith, own, many)

pub returns : goal.returns
returns g c =
    let test : c.is_stranger.result ≡ false = search rules in
    inr (sym c.is_stranger.ensures ∙ test, c.treat_own.ensures)

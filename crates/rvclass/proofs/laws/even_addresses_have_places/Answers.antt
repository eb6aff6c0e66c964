-- The places are counted by lemmas.
use Rattle.std.proofs.Common.{arith}
use Rattle.rvclass.proofs.HalvesLemmas.{below_halves, below_higher, halves_few, second_byte}
use Rattle.rvclass.proofs.laws.even_addresses_have_places.Goals as goal

pub returns-clause-rising : goal.returns-clause-rising
returns-clause-rising c = λ m addr other memory even also two less.
    let c = second_byte m addr two in
    below_higher addr even m other c.0 memory.each c.1 (omega (arith, even, also, less))

pub returns-clause-below : goal.returns-clause-below
returns-clause-below c = λ m addr memory even two.
    let c = second_byte m addr two in below_halves addr even m c.0 memory.each c.1

pub returns-clause-few : goal.returns-clause-few
returns-clause-few c = halves_few

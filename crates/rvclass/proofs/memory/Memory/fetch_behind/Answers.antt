-- The word of one piece is that of all.
use Rattle.std.proofs.Common.{sym, subst}
use Rattle.rvclass.proofs.PieceBytesLemmas.{byte_behind}
use Rattle.rvclass.specs.steps.HeldBytes.{held_bytes}
use Rattle.rvclass.specs.steps.Kept.{kept_pieces, others_of}
use Rattle.rvclass.specs.steps.Parts.{pieces_of}
use Rattle.rvclass.specs.steps.Search.{HaveWord}
use Rattle.rvclass.proofs.memory.Memory.fetch_behind.Goals as goal

pub returns-in-Some-clause-what : goal.returns-in-Some-clause-what
returns-in-Some-clause-what g c =
    let m = c.self.inside in
    let have = subst (λ l. HaveWord (pieces_of l) c.args.addr c.in-Some.word) c.parts_in.ensures c.in-Some.ensures in
    rw (← c.self.view_is)
    (sym (have (kept_pieces m.base (held_bytes m.bytes) (others_of m.others))
    (λ a b h. byte_behind _ _ a b c.self.invariant.memory.apart.0 h)).0)

pub returns-in-Some-clause-low : goal.returns-in-Some-clause-low
returns-in-Some-clause-low g c =
    let m = c.self.inside in
    let have = subst (λ l. HaveWord (pieces_of l) c.args.addr c.in-Some.word) c.parts_in.ensures c.in-Some.ensures in
    rw (← c.self.view_is)
    (have (kept_pieces m.base (held_bytes m.bytes) (others_of m.others))
    (λ a b h. byte_behind _ _ a b c.self.invariant.memory.apart.0 h)).1

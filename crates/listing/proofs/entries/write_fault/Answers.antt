-- Where an allocation failed there is no entry: the test goes into it, where no tactic puts it.
use Rattle.std.proofs.Common.{◌≡◌, [], cond, ap, subst, sym, ◌∙◌}
use Rattle.std.proofs.KnownBytes.{Appends-nil}
use Rattle.std.specs.Io.KnownBytes.{Appends}
use Rattle.output.proofs.Beginnings.{whole_begun}
use Rattle.listing.specs.Entries.{refused_entry}
use Rattle.listing.specs.steps.Message.{fault_entry}
use Rattle.listing.proofs.entries.write_fault.Goals as goal

pub returns-then-denies_memory-clause-text : goal.returns-then-denies_memory-clause-text
returns-then-denies_memory-clause-text g c =
    let old = g.W.Write.contents c.args.sink.now in
    let refused = refused_entry c.args.form c.args.mode c.args.at.number c.args.at.offset c.args.message.now in
    let none : fault_entry c.args.form c.args.mode c.args.at c.args.message.now c.args.why ≡ [] =
    ap (λ b. cond b [] refused) (sym c.denies_memory.ensures ∙ c.if-denies_memory.true) in
    subst (Appends old old) (sym none) (Appends-nil old)

pub returns-then-denies_memory-clause-begun : goal.returns-then-denies_memory-clause-begun
returns-then-denies_memory-clause-begun g c =
    whole_begun (fault_entry c.args.form c.args.mode c.args.at c.args.message.now c.args.why)
    (g.W.Write.contents c.args.sink.now) (g.W.Write.contents c.args.sink.now)
    (returns-then-denies_memory-clause-text g c)

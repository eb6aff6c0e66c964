-- The mark and the settings are written one after the other: by a lemma on what a writer holds.
use Rattle.std.proofs.Common.{refl, subst}
use Rattle.output.specs.Begun.{AppendsBeginning}
use Rattle.output.proofs.Beginnings.{begun_behind, begun_in_front}
use Rattle.message.specs.Header.{mark, setting_bytes}
use Rattle.message.proofs.Writes.{Appends-then}
use Rattle.message.proofs.writing.write_header.Goals as goal

pub returns-clause-written : goal.returns-clause-written
returns-clause-written g c =
    Appends-then c.put-2.result _ _ _ _ mark _ _ refl c.settings_of.ensures c.in_ok-put.ensures.written
    c.put-2.ensures.written

pub returns-in_err-put-clause-begun : goal.returns-in_err-put-clause-begun
returns-in_err-put-clause-begun g c =
    begun_in_front mark (setting_bytes c.args.header.now) (g.W.Write.contents c.args.w.now)
    (g.W.Write.contents c.put.new.w) c.put.ensures.begun

pub returns-clause-begun : goal.returns-clause-begun
returns-clause-begun g c =
    let mid = g.W.Write.contents c.put.new.w in
    let new = g.W.Write.contents c.put-2.new.w in
    begun_behind mark (setting_bytes c.args.header.now) (g.W.Write.contents c.args.w.now) mid new
    c.in_ok-put.ensures.written
    (subst (λ bytes. AppendsBeginning bytes mid new) c.settings_of.ensures c.put-2.ensures.begun)

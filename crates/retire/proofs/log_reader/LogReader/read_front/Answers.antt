-- What rows at the front of what is held say of the log is named by hand.
use Rattle.std.proofs.Common.{◌∙◌, ap, subst, vec_items}
use Rattle.retire.specs.steps.ReadsRows.{ReadsFront}
use Rattle.retire.proofs.ReaderLemmas.{front-read}
use Rattle.retire.proofs.log_reader.LogReader.read_front.Goals as goal

pub returns-in-Ok-keep-clause-goes_on : goal.returns-in-Ok-keep-clause-goes_on
returns-in-Ok-keep-clause-goes_on g c = λ most seen h.
    front-read g.S.Source.given g.S.Source.left most seen c.args.self.now c.min-rows.result c.in-Ok.read.rows
    c.in-Ok.read.rest.now c.args.events.now.items c.plain_rows.new.events.items c.swap.new.x c.swap.new.y h
    c.requires.rows c.min-rows.ensures
    (subst (λ t. ReadsFront c.args.self.now.most c.min-rows.result c.args.self.now.is_ended t c.args.events.now.items
    c.plain_rows.new.events.items c.in-Ok.read.rows c.in-Ok.read.rest.now) c.deref.ensures.value c.in-Ok.ensures.reads)
    c.in-Ok.ensures.short (ap vec_items c.swap.ensures.x_after ∙ c.in-Ok-keep.ensures.kept)

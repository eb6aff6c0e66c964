-- The turn of each word is handed to the prover: it does not cut a text by itself.
use Rattle.std.proofs.Common.{◌+◌, ◌∙◌, ap, sym, length}
use Rattle.funnel.proofs.TurnsLemmas.{schedule_of-behind}
use Rattle.funnel.specs.declared.word.Word.TheVariants as word
use Rattle.funnel.specs.steps.Words.{turns_behind, turns_then}
use Rattle.funnel.proofs.reading.read_schedule.Goals as goal

pub loop-byte-init : goal.loop-byte-init
loop-byte-init g c =
    schedule_of-behind c.args.harts c.args.text.now
    ∙ ap (λ turns. turns_then turns (turns_behind c.args.harts (length turns + 1) word.Empty c.args.text.now))
    (sym c.new-turns.ensures.items)

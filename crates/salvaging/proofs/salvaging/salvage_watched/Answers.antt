-- What is salvaged of all is put together by lemmas.
use Rattle.std.proofs.Common.{sym, subst}
use Rattle.rvclass.proofs.WordsLemmas.{words_of-IsProgram}
use Rattle.rvclass.specs.Fetch.{words_of}
use Rattle.salvaging.specs.Salvaged.{IsSalvaged}
use Rattle.salvaging.specs.declared.salvaged.Salvaged.{Salvaged}
use Rattle.salvaging.proofs.AllLogs.{logs_salvaged}
use Rattle.salvaging.proofs.CollectedToo.{all_collected}
use Rattle.salvaging.proofs.DistributedAll.{all_salvaged, distributed_placed, distributed_small}
use Rattle.salvaging.proofs.salvaging.salvage_watched.Goals as goal

pub salvage_each-requires-clause-numbers : goal.salvage_each-requires-clause-numbers
salvage_each-requires-clause-numbers g c =
    distributed_small c.args.messages.now c.in_ok-lists.lists.items c.in_ok-lists.ensures.each

pub salvage_each-requires-clause-places : goal.salvage_each-requires-clause-places
salvage_each-requires-clause-places g c =
    distributed_placed c.args.messages.now c.in_ok-lists.lists.items c.in_ok-lists.ensures.each

pub returns-clause-logs : goal.returns-clause-logs
returns-clause-logs g c = λ period own logs of_logs many.
    let words = words_of c.args.program.now in
    let salvaged : Salvaged _ = record { harts = c.in_ok-salvaged.salvaged; strangers = c.strangers.result } in
    let is = all_salvaged words c.args.mode c.args.harts c.args.messages.now c.in_ok-lists.lists.items salvaged
    c.in_ok-lists.ensures.count c.in_ok-lists.ensures.each c.in_ok-salvaged.ensures c.strangers.ensures in
    logs_salvaged c.args.program.now period c.args.mode own logs c.args.messages.now of_logs salvaged
    (subst (λ n. IsSalvaged words c.args.mode n c.args.messages.now salvaged) (sym many) is)

pub returns-clause-collected : goal.returns-clause-collected
returns-clause-collected g c = λ pieces gives.
    let words = words_of c.args.program.now in
    let salvaged : Salvaged _ = record { harts = c.in_ok-salvaged.salvaged; strangers = c.strangers.result } in
    let is = all_salvaged words c.args.mode c.args.harts c.args.messages.now c.in_ok-lists.lists.items salvaged
    c.in_ok-lists.ensures.count c.in_ok-lists.ensures.each c.in_ok-salvaged.ensures c.strangers.ensures in
    all_collected words (words_of-IsProgram c.args.program.now c.base.ensures.kept) c.args.mode c.args.harts
    c.args.messages.now pieces salvaged gives.taken gives.described is

pub returns-clause-salvaged : goal.returns-clause-salvaged
returns-clause-salvaged g c =
    all_salvaged (words_of c.args.program.now) c.args.mode c.args.harts c.args.messages.now c.in_ok-lists.lists.items _
    c.in_ok-lists.ensures.count c.in_ok-lists.ensures.each c.in_ok-salvaged.ensures c.strangers.ensures

-- The law is a lemma on lists, which no search finds.
use Rattle.std.proofs.Common.{◌≡◌, ◌≤◌, ◌^◌, List, length}
use Rattle.std.proofs.lemmas.List.{take_all}
use Rattle.message.specs.Range.{every_hart}
use Rattle.salvage_reports.specs.HartItems.{items_of}
use Rattle.capture_commands.proofs.laws.all_harts_have_items.Goals as goal

all_items : {X : Type 0} (items : List X) → length items ≤ 2 ^ 16 → items_of every_hart items ≡ items
all_items items few = take_all 65536 items few

pub returns-clause-salvaged : goal.returns-clause-salvaged
returns-clause-salvaged c = λ items few. all_items items few

pub returns-clause-pieces : goal.returns-clause-pieces
returns-clause-pieces c = λ items few. all_items items few

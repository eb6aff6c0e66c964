-- What an audit keeps.
use Rattle.std.specs.Prelude.{ℕ, Bool, List, Option, map}
use Rattle.payload.specs.Same.{known_by}
use Rattle.payload.specs.declared.by.By.{By}
use Rattle.message.specs.declared.header.Header.{Header}
use Rattle.auditing.specs.declared.tally.Counts.{Counts}

-- Of a hart: the payloads of its messages in SENT, and whether a true one came, by number; the number after the
-- greatest of those that came; the most by which one was late; and the counts of what came.
pub record HartLedger : Type 0 where
  pub payloads : List (List ℕ)
  pub came : List Bool
  pub past : ℕ
  pub latest : ℕ
  pub counts : Counts

-- By what payloads are compared; SENT's header, if it has one; what is kept of each hart; how many strangers came; how many messages came; and the
-- place of the first that was not in order or skipped a number, if there was one; and of each hart how many of its messages
-- are of each hart, which are not true.
pub record Ledger : Type 0 where
  pub by : By
  pub header : Option Header
  pub harts : List HartLedger
  pub strangers : ℕ
  pub taken : ℕ
  pub first : Option ℕ
  pub moves : List (List ℕ)

-- What is kept of a hart, where each payload is what it is known by.
abbrev pub known_own : By → HartLedger → HartLedger
known_own how own = record own { payloads = map (known_by how) own.payloads }

-- What an audit keeps, where each payload is what it is known by.
abbrev pub known_ledger : Ledger → Ledger
known_ledger ledger = record ledger { harts = map (known_own ledger.by) ledger.harts }

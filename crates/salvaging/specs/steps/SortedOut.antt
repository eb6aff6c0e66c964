-- A hart whose messages are sorted out.
use Rattle.std.specs.Prelude.{ℕ, ◌≡◌, ◌⊎◌, ◌+◌, true, false, Contains, List, Some, length, slice_get, slice_set}
use Rattle.std.specs.List.Sorted.{IsPermutation}
use Rattle.std.specs.declared.vec.Vec.{Vec}
use Rattle.rvclass.specs.Words.{Words}
use Rattle.losses.specs.Apart.{AreRising}
use Rattle.payload.specs.declared.mode.Mode.{Mode}
use Rattle.message.specs.declared.message.Message.{Message}
use Rattle.salvaging.specs.Strangers.{is_stranger}
use Rattle.salvaging.specs.Treatments.{HartTreats, IsTreated, Row, hart_rows, stranger}
use Rattle.salvaging.specs.declared.received.ReceivedMessage.{ReceivedMessage}
use Rattle.salvaging.specs.declared.sorting_out.HartRows.{HartRows}
use Rattle.salvaging.specs.declared.treatment.Treated.{Treated}
use Rattle.salvaging.specs.steps.Arrivals.{AreOrdered, arrivals_in, placed_from}
use Rattle.salvaging.specs.steps.Rows.{AreRowsBack, numbers_in}

-- The messages of a hart are in their order, and it has the rows of its numbers.
pub record IsSortedOut {A : Type 0} (words : Words) (mode : Mode) (messages : List Message) (hart : HartRows A)
    : Type 0 where
  pub treats : HartTreats words mode messages
  pub permuted : IsPermutation (placed_from 0 messages) (arrivals_in hart.came.items)
  pub ordered : AreOrdered (arrivals_in hart.came.items)
  pub back : AreRowsBack (hart_rows treats) hart.rows.items
  pub rising : AreRising 0 (numbers_in (hart_rows treats))
  pub among : (message : Message) → Contains messages message → Contains (numbers_in (hart_rows treats)) message.number

-- The harts of these lists of messages are sorted out.
pub record AreSortedOf {A : Type 0} (words : Words) (mode : Mode) (lists : List (Vec ReceivedMessage A))
    (harts : List (HartRows A)) : Type 0 where
  pub count : length harts ≡ length lists
  pub each : (hart : ℕ) (list : Vec ReceivedMessage A) (own : HartRows A) (messages : List Message)
      → slice_get lists hart ≡ Some list → slice_get harts hart ≡ Some own
      → arrivals_in list.items ≡ placed_from 0 messages → IsSortedOut words mode messages own

-- This is done with the message at a place of a hart that is sorted out.
abbrev pub TreatsBy : {A : Type 0} → HartRows A → ℕ → Message → Treated → Type 0
TreatsBy own place message treated =
    (messages : List Message) (all : List Row) → IsPermutation (placed_from 0 messages) (arrivals_in own.came.items)
    → AreOrdered (arrivals_in own.came.items) → AreRowsBack all own.rows.items → AreRising 0 (numbers_in all)
    → Contains (numbers_in all) message.number → slice_get messages place ≡ Some message
    → IsTreated messages all place message treated

-- The next message of a hart was treated, and counted.
pub record TakesPlace {A : Type 0} (sorted : List (HartRows A)) (old new : List ℕ) (message : Message)
    (treated : Treated) : Type 0 where
  pub own : HartRows A
  pub own_is : slice_get sorted message.hart ≡ Some own
  pub place : ℕ
  pub place_is : slice_get old message.hart ≡ Some place
  pub counted : new ≡ slice_set old message.hart (place + 1)
  pub treats : TreatsBy own place message treated

-- The next message was treated: it is a stranger, or one of a hart.
abbrev pub TreatsNext : {A : Type 0} → ℕ → List (HartRows A) → List ℕ → List ℕ → Message → Treated → Type 0
TreatsNext harts sorted old new message treated =
    ((is_stranger harts message ≡ true) × (treated ≡ stranger) × (new ≡ old))
    ⊎ ((is_stranger harts message ≡ false) × TakesPlace sorted old new message treated)

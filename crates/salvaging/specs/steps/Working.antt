-- A hart whose messages are worked through.
use Rattle.std.specs.Prelude.{◌≡◌, ◌≤◌, List, length, map, take}
use Rattle.std.specs.List.Sorted.{IsPermutation}
use Rattle.rvclass.specs.Words.{Words}
use Rattle.payload.specs.declared.mode.Mode.{Mode}
use Rattle.salvaging.specs.Ends.{AreCutAtEnd, HartLeaves}
use Rattle.salvaging.specs.Entries.{Entry, is_closed}
use Rattle.salvaging.specs.Far.{AreFar}
use Rattle.salvaging.specs.Leaving.{own_mode}
use Rattle.salvaging.specs.PartsIn.{parts_in}
use Rattle.salvaging.specs.Shares.{HartShares, Share}
use Rattle.salvaging.specs.Treatments.{treatment_of}
use Rattle.salvaging.specs.declared.treatment.Treatment.{Treatment}
use Rattle.salvaging.specs.declared.working.WorkedHart.{WorkedHart}
use Rattle.salvaging.specs.steps.Arrivals.{Arrival, AreOrdered, arrivals_in}
use Rattle.salvaging.specs.steps.Grouping.{entries_by}
use Rattle.salvaging.specs.steps.Trails.{goods_of}

-- The messages that came were put in this order, and their entries worked through: the hart has its own mode, the parts
-- that its entries leave, what is kept of what each of them does, which of them are far, and where its end is.
pub record IsWorkedOut {A M : Type 0} (kept : Treatment → M) (words : Words) (mode : Mode)
    (came ordered : List Arrival) (hart : WorkedHart A M) : Type 0 where
  pub permuted : IsPermutation came ordered
  pub are_ordered : AreOrdered ordered
  pub reads : hart.mode ≡ own_mode mode (entries_by ordered)
  pub upto : List Entry
  pub beyond : List Entry
  pub shares : List Share
  pub cut : AreCutAtEnd words hart.mode (entries_by ordered) upto beyond
  pub leaves : HartLeaves words hart.mode upto beyond (goods_of shares) (parts_in hart.parts.items)
  pub does : HartShares words hart.mode upto beyond shares
  pub marks : hart.marks.items ≡ map kept (map treatment_of shares)
  pub closed : hart.closed ≡ is_closed upto
  pub are_far : AreFar (entries_by ordered) hart.far.items
  pub within : hart.end ≤ length hart.came.items
  pub upto_is : upto ≡ entries_by (arrivals_in (take hart.end hart.came.items))

-- How far the entries of a hart are taken.
use Rattle.std.specs.Prelude.{◌≡◌, ◌++◌, Bool, true, List, [], None, map}
use Rattle.rvclass.specs.Words.{Words}
use Rattle.payload.specs.declared.mode.Mode.{Mode}
use Rattle.losses.specs.Apart.{AreRising}
use Rattle.losses.specs.Runs.{Run, first_run}
use Rattle.salvaging.specs.Entries.{Entry, entry_number, next_used}
use Rattle.salvaging.specs.LeftParts.{LeftPart}
use Rattle.salvaging.specs.Leaving.{EntriesLeave, own_mode}
use Rattle.salvaging.specs.PartsIn.{parts_in}
use Rattle.salvaging.specs.Shares.{EntriesShare, Share}
use Rattle.salvaging.specs.Treatments.{is_good_treatment, treatment_of}
use Rattle.salvaging.specs.steps.UnderWay.{IsUnderWay}
use Rattle.salvaging.specs.declared.trail.HartOutcome.{HartOutcome}
use Rattle.salvaging.specs.declared.trail.Trail.{Trail}
use Rattle.salvaging.specs.declared.treatment.Treatment.{Treatment}

-- Which of the entries are good, by what they do.
abbrev pub goods_of : List Share → List Bool
goods_of shares = map is_good_treatment (map treatment_of shares)

-- Of all entries of a hart these are taken and do this, and the rest is still to come. What the rest leaves after the run
-- under way, all leave after the parts so far; and what the rest does, all do after these. The mode is the hart's own.
pub record TakesEntries {A : Type 0} (words : Words) (mode : Mode) (all done : List Entry) (shares : List Share)
    (rest : List Entry) (trail : Trail A) : Type 0 where
  pub own : own_mode mode all ≡ mode
  pub whole : all ≡ done ++ rest
  pub run : Run
  pub closed : Bool
  pub under_way : IsUnderWay words mode mode run trail.next closed trail
  pub begun : run.missing ≡ 0 → run.packets ≡ [] → (done ≡ []) × (trail.next ≡ 0)
  pub over : closed ≡ true → next_used rest ≡ None
  pub rising : AreRising trail.next (map entry_number rest)
  pub leaves : (goods : List Bool) (parts : List LeftPart)
      → EntriesLeave words mode run trail.next rest goods parts
      → EntriesLeave words mode first_run 0 all (goods_of shares ++ goods) (parts_in trail.parts.items ++ parts)
  pub share : (later : List Share) → EntriesShare words mode run trail.next rest later
      → EntriesShare words mode first_run 0 all (shares ++ later)

-- The entries of a hart up to its end were taken: these are the parts that they leave, and this is kept of what they do.
pub record TakesAll {A M : Type 0} (kept : Treatment → M) (words : Words) (mode : Mode) (entries : List Entry)
    (outcome : HartOutcome A M) : Type 0 where
  pub shares : List Share
  pub marks : outcome.marks.items ≡ map kept (map treatment_of shares)
  pub leaves : EntriesLeave words mode first_run 0 entries (goods_of shares) (parts_in outcome.parts.items)
  pub share : EntriesShare words mode first_run 0 entries shares

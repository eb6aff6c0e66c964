-- What a verdict on a number says.
use Rattle.std.specs.Prelude.{Bool, true, false}
use Rattle.salvaging.specs.declared.far_number.FarTreatment.{FarTreatment}
use Rattle.salvaging.specs.declared.far_number.FarTreatment.TheVariants as far
use Rattle.salvaging.specs.declared.mark.Verdict.{Verdict}
use Rattle.salvaging.specs.declared.mark.Verdict.TheVariants as verdict
use Rattle.salvaging.specs.declared.treatment.Treatment.{Treatment}
use Rattle.salvaging.specs.declared.treatment.Treatment.TheVariants as treatment

-- The verdict on a number with whose messages this is done.
abbrev pub verdict_of : Treatment → Verdict
verdict_of (treatment.Taken added) = verdict.Taken
verdict_of treatment.Passed = verdict.Passed
verdict_of (treatment.Bad why) = verdict.NotGood
verdict_of treatment.Alone = verdict.NotGood
verdict_of other = verdict.Doubtful

-- The number is used.
abbrev pub is_used : Verdict → Bool
is_used verdict.Doubtful = false
is_used other = true

-- Its message is decoded.
abbrev pub is_taken : Verdict → Bool
is_taken verdict.Taken = true
is_taken other = false

-- Its message is passed over.
abbrev pub is_passed : Verdict → Bool
is_passed verdict.Passed = true
is_passed other = false

-- Its message is good: decoded or passed over.
abbrev pub is_good : Verdict → Bool
is_good verdict.Taken = true
is_good verdict.Passed = true
is_good other = false

-- What is done with the message of a far number on which this is the verdict.
abbrev pub far_verdict : Verdict → FarTreatment
far_verdict verdict.Taken = far.Taken
far_verdict verdict.Passed = far.Passed
far_verdict other = far.Bad

-- What entries leave where none of them is the end, parted at a number that closes the trace.
use Rattle.std.proofs.Common.{◌≡◌, ◌≢◌, ℕ, ◌+◌, ◌-◌, ◌++◌, Bool, true, false, List, [], ◌∷◌}
use Rattle.std.proofs.Common.{Option, None, refl, sym, ap, ◌∙◌, append_assoc}
use Rattle.rvclass.specs.Words.{Words}
use Rattle.payload.specs.Closing.{is_closing, is_closing_reading}
use Rattle.payload.specs.declared.mode.Mode.{Mode}
use Rattle.payload.specs.declared.packet.Packet.{Packet}
use Rattle.losses.specs.Runs.{Run, longer, run_behind, run_of}
use Rattle.salvaging.specs.Bad.{IsGood}
use Rattle.salvaging.specs.EndsByParts.{MayEndByParts}
use Rattle.salvaging.specs.Entries.{Entry, Used, Doubtful, next_used}
use Rattle.salvaging.specs.Leaving.{EntriesLeave, UsedLeaves}
use Rattle.salvaging.specs.LeftParts.{LeftPart, BadNumber, DoubtfulNumber, gap}
use Rattle.salvaging.specs.declared.reason.Reason.{Reason}
use Rattle.salvaging.proofs.StretchesBehind.{none_begin, none_leave}

module _ (words : Words) (mode : Mode) where
  module _ (number place : ℕ) (payload : List ℕ) (later : List Entry) (closes : is_closing payload ≡ true)
      (some : next_used later ≢ None) where
    -- A message that closes the trace is not good where a greater number is used.
    too_early : (run : Run) (p : Packet) → ¬ IsGood words mode run payload (next_used later) p
    too_early run p good =
        some (good.not_early (sym (ap is_closing_reading good.read) ∙ closes))

    -- The parts before the closing number's, its own, and those after it.
    pub record IsParted (parts : List LeftPart) : Type 0 where
      pub ahead : List LeftPart
      pub why : Reason
      pub after : List LeftPart
      pub whole : parts ≡ ahead ++ BadNumber number place why ∷ after
      pub goods : List Bool
      pub leaves : EntriesLeave words mode (run_of 1 []) (number + 1) later goods after

    more_ahead : (front parts whole : List LeftPart) → whole ≡ front ++ parts → IsParted parts → IsParted whole
    more_ahead front parts whole is p = record {
      ahead = front ++ p.ahead;
      why = p.why;
      after = p.after;
      whole = is ∙ ap (λ l. front ++ l) p.whole
          ∙ sym (append_assoc front p.ahead (BadNumber number place p.why ∷ p.after));
      goods = p.goods;
      leaves = p.leaves;
    }

    parted_here : (run : Run) (good : Bool) (goods : List Bool) (parts : List LeftPart)
        → UsedLeaves words mode run number place payload (next_used later) good
        (λ behind. EntriesLeave words mode behind (number + 1) later goods) parts → IsParted parts
    parted_here run true goods parts (p, good, follows) = absurd (too_early run p good)
    parted_here run false goods parts (why, bad, before, left, rest, is, follows) =
        record { ahead = before; why = why; after = rest; whole = is; goods = goods; leaves = follows }

    parted_used : (run : Run) (other there : ℕ) (bytes : List ℕ) (following : Option ℕ) (good : Bool)
        (Follows : Run → List LeftPart → Type 0) (parts : List LeftPart)
        → ((behind : Run) (rest : List LeftPart) → Follows behind rest → IsParted rest)
        → UsedLeaves words mode run other there bytes following good Follows parts → IsParted parts
    parted_used run other there bytes following true Follows parts more (p, good, follows) =
        more (longer run (p ∷ [])) parts follows
    parted_used run other there bytes following false Follows parts more (why, bad, before, left, rest, is, follows) =
        more_ahead before (BadNumber other there why ∷ rest) parts is
        (more_ahead (BadNumber other there why ∷ []) rest (BadNumber other there why ∷ rest) refl
        (more (run_of 1 []) rest follows))

    parted : (front : List Entry) (run : Run) (next : ℕ) (goods : List Bool) (parts : List LeftPart)
        → EntriesLeave words mode run next (front ++ Used number place payload ∷ later) goods parts → IsParted parts
    parted [] run next [] parts leaves = absurd leaves
    parted [] run next (good ∷ goods) parts (before, leaves_before, rest, is, used) =
        more_ahead before rest parts is (parted_here (run_behind (number - next) run) good goods rest used)
    parted (entry ∷ front) run next [] parts leaves = absurd leaves
    parted (Used other there bytes ∷ front) run next (good ∷ goods) parts (before, leaves_before, rest, is, used) =
        more_ahead before rest parts is
        (parted_used (run_behind (other - next) run) other there bytes
        (next_used (front ++ Used number place payload ∷ later)) good
        (λ behind. EntriesLeave words mode behind (other + 1) (front ++ Used number place payload ∷ later) goods) rest
        (λ behind more follows. parted front behind (other + 1) goods more follows) used)
    parted (Doubtful other first second ∷ front) run next (good ∷ goods) parts (bad, before, over, rest, is, follows) =
        more_ahead before (gap (other - next) ++ DoubtfulNumber other first second ∷ rest) parts is
        (more_ahead (gap (other - next)) (DoubtfulNumber other first second ∷ rest)
        (gap (other - next) ++ DoubtfulNumber other first second ∷ rest) refl
        (more_ahead (DoubtfulNumber other first second ∷ []) rest (DoubtfulNumber other first second ∷ rest) refl
        (parted front (run_of 1 []) other goods rest follows)))

    -- The hart may end at the closing number if and only if no stretch is left after it.
    pub may_end_by_parts : (front : List Entry) (run : Run) (next : ℕ) (goods : List Bool) (parts : List LeftPart)
        → EntriesLeave words mode run next (front ++ Used number place payload ∷ later) goods parts
        → MayEndByParts words mode number place payload later parts
    may_end_by_parts front run next goods parts leaves =
        let p = parted front run next goods parts leaves in
        record {
          ahead = p.ahead;
          why = p.why;
          after = p.after;
          whole = p.whole;
          may_end = (
            λ end. none_leave words mode later 0 [] refl (number + 1) p.goods p.after p.leaves end.2,
            λ none. (closes, some, none_begin words mode later 0 [] refl (number + 1) p.goods p.after p.leaves none),
          );
        }

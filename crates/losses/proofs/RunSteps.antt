-- The runs of a hart's messages, from one of them to the next.
use Rattle.std.proofs.Common.{◌≡◌, inr, ◌<◌, ◌+◌, ℕ, zero, suc, false, List, [], ◌∷◌, ◌++◌, refl, sym}
use Rattle.std.proofs.Common.{subst, arith}
use Rattle.std.proofs.lemmas.List.{append-nil, length_push}
use Rattle.std.specs.Prelude.{⊤, Result, Ok, Err}
use Rattle.retire.specs.declared.event.Event.{Event}
use Rattle.rvclass.specs.Words.{Words}
use Rattle.payload.specs.declared.mode.Mode.{Mode}
use Rattle.payload.specs.declared.packet.Packet.{Packet}
use Rattle.decoder.specs.Resuming.{PassesOver}
use Rattle.decoder.specs.declared.decoding.Decoder.{Decoder}
use Rattle.decoder.specs.declared.fault.DecodeFault.{DecodeFault}
use Rattle.losses.specs.Parts.{LogPart, Missing, stretch}
use Rattle.losses.specs.Runs.{Run, missing_behind, mode_in, over_before, packets_behind, run_of}
use Rattle.losses.specs.DescribedParts.{RunsDescribe}
use Rattle.losses.specs.steps.DecoderSteps.{Feeds, Resumes}
use Rattle.losses.specs.steps.FollowingRuns.{FedRuns, FollowsRun, FollowsRuns, Refuses}
use Rattle.losses.proofs.RunLemmas.{describes_nothing, mode_behind, mode_later, describe_push}
use Rattle.losses.proofs.RunFeeding.{FedRun, feeds_first, feeds_later}
use Rattle.losses.proofs.StateLaws.{state_laws}

module _ (words : Words) (mode : Mode) (p : Packet) (old new : Decoder) (before after : List Event)
    (seen : List LogPart) (packets : List Packet) (next : ℕ) where
  -- What follows where the runs before describe the parts in the mode that is known now.
  runs_on_by : (done : List Run) (missing : ℕ) (result : Result ⊤ DecodeFault)
      → (f : FollowsRuns words mode done missing packets next false old seen before)
      → RunsDescribe words (mode_in mode (done ++ run_of missing (packets ++ p ∷ []) ∷ [])) done f.front
      → FedRun words mode (mode_in mode (done ++ run_of missing (packets ++ p ∷ []) ∷ [])) missing packets p new after
      result
      → FedRuns words mode done missing packets next p new seen after result
  runs_on_by done missing (Err why) f described fed = record { follows = tt; refused = inr fed.refused }
  runs_on_by done missing (Ok fine) f described fed =
      let more = length_push packets p in
      let beyond = f.beyond in
      record {
        follows = record {
          from_zero = λ is. let old_is = f.from_zero is in let count = old_is.1 in (
            old_is.0,
            omega (
              arith,
              count,
              more,
            ),
          );
          beyond = omega (arith, beyond, more);
          front = f.front;
          before = described;
          so_far = f.so_far;
          follows = fed.follows;
        };
        refused = tt;
      }

  pub runs_fed : (done : List Run) (missing : ℕ) (result : Result ⊤ DecodeFault)
      → FollowsRuns words mode done missing packets next false old seen before
      → Feeds words p old new before after result → Refuses words p old before result
      → FedRuns words mode done missing packets next p new seen after result
  runs_fed [] zero result f feeds refuses =
      runs_on_by [] zero result f f.before
      (feeds_first words mode p old new before after packets result feeds refuses f.follows)
  runs_fed (first ∷ done) zero result f feeds refuses = let none = (f.from_zero refl).0 in cc
  runs_fed done (suc missing) result f feeds refuses =
      let same = mode_later mode done missing packets (packets ++ p ∷ []) in
      let fed = feeds_later words mode p old new before after (mode_in mode (done ++ run_of (suc missing) packets ∷ []))
      missing packets f.follows result feeds refuses in
      runs_on_by done (suc missing) result f (subst (λ m. RunsDescribe words m done f.front) same f.before)
      (subst (λ m. FedRun words mode m (suc missing) packets p new after result) same fed)

module _ (words : Words) (mode : Mode) (done : List Run) (missing next : ℕ) (packets : List Packet)
    (old new : Decoder) (seen : List LogPart) (events : List Event)
    (f : FollowsRuns words mode done missing packets next false old seen events) where
  -- Some are missing: the run is over, and another is under way.
  pub runs_lost : (missed : ℕ) → Resumes mode old new
      → FollowsRuns words mode (done ++ run_of missing packets ∷ []) (suc missed) [] (next + suc missed) false new
      ((seen ++ stretch events) ++ Missing (suc missed) ∷ []) []
  runs_lost missed resumes =
      let reads = mode_in mode (done ++ run_of missing packets ∷ []) in
      let behind = mode_behind mode done (run_of missing packets) (run_of (suc missed) []) in
      let over = subst (λ l. RunsDescribe words reads (done ++ run_of missing packets ∷ []) (l ++ stretch events))
      (sym f.so_far)
      (describe_push words reads done (run_of missing packets) f.front events f.before f.follows.described) in
      let passes : PassesOver reads new = subst (λ m. PassesOver m new) f.follows.right
      (resumes.passes_over f.follows.announced f.follows.has_mode (f.follows.stays_open refl)) in
      record {
        from_zero = λ is. cc;
        beyond = omega arith;
        front = seen ++ stretch events;
        before = subst (λ m. RunsDescribe words m (done ++ run_of missing packets ∷ []) (seen ++ stretch events))
            (sym behind) over;
        so_far = refl;
        follows = subst (λ m. FollowsRun words mode m (suc missed) [] false [] new) (sym behind)
            (record {
              described = describes_nothing words;
              stands = λ stays. (passes, refl);
              stays_open = λ stays. state_laws.passing reads new passes;
              announced = f.follows.announced;
              has_mode = resumes.mode_kept f.follows.announced f.follows.has_mode;
              right = f.follows.right;
            });
      }

  -- So many are missing, or none is.
  pub runs_missed : (missed : ℕ) (after : List LogPart) (rest : List Event)
      → (missed ≡ 0 → (new ≡ old) × (after ≡ seen) × (rest ≡ events))
      → (0 < missed → after ≡ (seen ++ stretch events) ++ Missing missed ∷ [])
      → (0 < missed → rest ≡ []) → (0 < missed → Resumes mode old new)
      → FollowsRuns words mode (done ++ over_before missed (run_of missing packets))
      (missing_behind missed missing) (packets_behind missed packets) (next + missed) false new after rest
  runs_missed zero after rest same parts none resumes =
      let is = same refl in
      let at : next ≡ next + 0 = omega arith in
      let by_next = subst (λ n. FollowsRuns words mode done missing packets n false old seen events) at f in
      let by_done = subst (λ l. FollowsRuns words mode l missing packets (next + 0) false old seen events)
      (sym (append-nil done)) by_next in
      let by_new = subst (λ d. FollowsRuns words mode (done ++ []) missing packets (next + 0) false d seen events)
      (sym is.0) by_done in
      let by_parts = subst (λ l. FollowsRuns words mode (done ++ []) missing packets (next + 0) false new l events)
      (sym is.1) by_new in
      subst (λ l. FollowsRuns words mode (done ++ []) missing packets (next + 0) false new after l) (sym is.2) by_parts
  runs_missed (suc missed) after rest same parts none resumes =
      let some : 0 < suc missed = omega arith in
      subst (λ l. FollowsRuns words mode (done ++ run_of missing packets ∷ []) (suc missed) [] (next + suc missed) false
      new after l) (sym (none some))
      (subst (λ l. FollowsRuns words mode (done ++ run_of missing packets ∷ []) (suc missed) [] (next + suc missed)
      false
      new l []) (sym (parts some)) (runs_lost missed (resumes some)))

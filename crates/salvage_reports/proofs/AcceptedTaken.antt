-- Messages that are accepted are taken with their effects.
use Rattle.std.proofs.Common.{◌≡◌, ◌<◌, ◌&&◌, ◌++◌, ◌==◌, ℕ, suc, Bool, true, false, List, [], ◌∷◌, Some, length}
use Rattle.std.proofs.Common.{map, slice_get, refl, sym, ap, ◌∙◌, arith}
use Rattle.std.specs.Prelude.{not, option_map}
use Rattle.std.proofs.lemmas.Bool.{lt-ltb}
use Rattle.std.proofs.lemmas.List.{length-map}
use Rattle.std.proofs.lemmas.Option.{slice_get-map, slice_get_within}
use Rattle.rvclass.specs.Words.{Words}
use Rattle.message.proofs.Elements.{slice_get-some}
use Rattle.message.specs.declared.message.Message.{Message}
use Rattle.listing.specs.Effect.{Effect, HaveEffects}
use Rattle.salvaging.specs.Strangers.{has_number, is_stranger, own_messages}
use Rattle.salvaging.specs.TreatedCounts.{is_own, own_of}
use Rattle.salvaging.specs.declared.treatment.Treated.{Treated}
use Rattle.salvaging.proofs.OwnTreated.{own_at}
use Rattle.salvaging.proofs.TakenWhole.{nothing_described, taken_whole}
use Rattle.salvage_reports.specs.ListedAlike.{AcceptedAreTaken, taken_with}
use Rattle.salvage_reports.proofs.AcceptedInTurn.{accepted_at, added_by, in_turn}

-- There is an effect for each message.
effects_many : (words : Words) (front messages : List Message) (effects : List Effect)
    → HaveEffects words front messages effects → length effects ≡ length messages
effects_many words front [] [] have = refl
effects_many words front [] (effect ∷ effects) have = absurd have
effects_many words front (message ∷ messages) [] have = absurd have
effects_many words front (message ∷ messages) (effect ∷ effects) have =
    ap suc (effects_many words (front ++ message ∷ []) messages effects have.1)

-- Lists with the same items at the same places are the same.
same_items : {X : Type 0} (xs ys : List X) → length xs ≡ length ys
    → ((k : ℕ) (x y : X) → slice_get xs k ≡ Some x → slice_get ys k ≡ Some y → x ≡ y) → xs ≡ ys
same_items [] [] long same = refl
same_items [] (y ∷ ys) long same = absurd (omega (arith, long))
same_items (x ∷ xs) [] long same = absurd (omega (arith, long))
same_items (x ∷ xs) (y ∷ ys) long same =
    ap (λ l. x ∷ l) (same_items xs ys (omega (arith, long)) (λ k. same (suc k)))
    ∙ ap (λ z. z ∷ ys) (same 0 x y refl refl)

-- A message of a known hart, with a number that a hart may have, is no stranger.
no_stranger : (harts : ℕ) (message : Message) → message.hart < harts → is_own message.hart message ≡ true
    → is_stranger harts message ≡ false
no_stranger harts message known own =
    ap (λ b. not (b && has_number message)) (lt-ltb message.hart harts known)
    ∙ ap not (by_test (message.hart == message.hart) own)
  where
    by_test : (b : Bool) → (b && has_number message) ≡ true → has_number message ≡ true
    by_test true both = both
    by_test false both = cc

pub accepted_taken : AcceptedAreTaken
accepted_taken words mode harts messages effects treated program accepted have are =
    same_items treated (map taken_with effects)
    (are.count ∙ sym many ∙ sym (length-map effects taken_with)) one_same
  where
    many : length effects ≡ length messages
    many = effects_many words [] messages effects have

    one_same : (at : ℕ) (one other : Treated) → slice_get treated at ≡ Some one
        → slice_get (map taken_with effects) at ≡ Some other → one ≡ other
    one_same at one other done mapped =
        let within = slice_get_within treated at one done in
        let count = are.count in
        let message = slice_get-some messages at (omega (arith, within, count)) in
        let long = many in
        let effect = slice_get-some effects at (omega (arith, within, count, long)) in
        let known = accepted_at harts [] messages tt accepted at message.0 message.1 in
        let hart = message.0.hart in
        let added = slice_get-map (λ (e : Effect). e.added) effects at
        ∙ ap (option_map (λ (e : Effect). e.added)) effect.1 in
        let own = own_at hart messages (added_by effects) at message.0 effect.0.added message.1 added known.1 in
        let turns = in_turn words program harts [] messages effects tt accepted have hart [] (nothing_described words) in
        let is = taken_whole words program mode (own_messages hart messages) (own_of hart messages (added_by effects))
        turns (are.each_hart hart known.0) _ message.0 one effect.0.added own.0 own.1
        (are.others at message.0 one message.1 done (no_stranger harts message.0 known.0 known.1) known.0) in
        let with_effect : Some (taken_with effect.0) ≡ Some other =
        sym (slice_get-map taken_with effects at ∙ ap (option_map taken_with) effect.1) ∙ mapped in
        is ∙ same_some with_effect
      where
        same_some : {x y : Treated} → Some x ≡ Some y → x ≡ y
        same_some is = cc

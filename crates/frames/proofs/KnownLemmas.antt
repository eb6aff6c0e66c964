-- Where no message is known by its payload alone, every one is clear, and numbers decide.
use Rattle.std.proofs.Common.{◌≡◌, ◌&&◌, ◌||◌, ℕ, Bool, true, false, not, List, drop, refl, ap}
use Rattle.std.proofs.lemmas.Bool.{and_left, and_right}
use Rattle.message.proofs.Answering.{not_both}
use Rattle.frames.specs.Frame.{frame_in, is_complete}
use Rattle.frames.specs.GuidedTaken.{KnowsNone, Sees, after, goes_on, is_clear, is_counted_at, is_known, is_known_at}
use Rattle.frames.specs.GuidedTaken.{is_sent_at, is_taken_first}
use Rattle.frames.specs.Taken.{is_sure}
use Rattle.frames.proofs.TakenLemmas.{inside-none}

none_known : (sees : Sees) (xs : List ℕ) → KnowsNone sees → is_known_at sees xs ≡ false
none_known sees xs none = and_right (is_complete xs) (is_known (sees (frame_in xs))) (none (frame_in xs))

none_sure : (sees : Sees) (xs : List ℕ) → KnowsNone sees → is_sure (is_known_at sees) xs ≡ false
none_sure sees xs none = and_left (is_known_at sees xs) _ (none_known sees xs none)

all_clear : (sees : Sees) (xs : List ℕ) → KnowsNone sees → is_clear sees xs ≡ true
all_clear sees xs none =
    ap not
    (inside-none (is_known_at sees) xs
    (λ k some less. and_left (is_known_at sees (drop k xs)) _ (none_known sees (drop k xs) none)))

-- A complete message that is clear and not known: by whether it was sent, the bytes go on, and the next is counted.
by_parts : (complete clear sent sure goes counted : Bool) → complete ≡ true → clear ≡ true → sure ≡ false
    → ((sent || sure) || (complete && (clear && (goes || counted)))) ≡ (goes || (sent || counted))
by_parts true true true sure true counted c d s = refl
by_parts true true true sure false counted c d s = refl
by_parts true true false true goes counted c d s = absurd (not_both true refl s)
by_parts true true false false true counted c d s = refl
by_parts true true false false false counted c d s = refl
by_parts true false sent sure goes counted c d s = absurd (not_both false d refl)
by_parts false clear sent sure goes counted c d s = absurd (not_both false c refl)

pub first_by_number : (sees : Sees) (xs : List ℕ) → KnowsNone sees → is_complete xs ≡ true
    → is_taken_first sees xs ≡ (goes_on (after xs) || (is_sent_at sees xs || is_counted_at sees (after xs)))
first_by_number sees xs none complete =
    by_parts (is_complete xs) (is_clear sees xs) (is_sent_at sees xs) (is_sure (is_known_at sees) xs)
    (goes_on (after xs)) (is_counted_at sees (after xs)) complete (all_clear sees xs none) (none_sure sees xs none)

-- Whether a hart is closed is decided by the last entry that is used.
use Rattle.std.proofs.Common.{◌≡◌, ℕ, ◌++◌, Bool, false, List, [], ◌∷◌, refl, ap, ◌∙◌}
use Rattle.payload.specs.Closing.{is_closing}
use Rattle.salvaging.specs.Entries.{Entry, Used, Doubtful, closed_behind, is_closed}

closed_by_used : (closed : Bool) (entries : List Entry) (number place : ℕ) (payload : List ℕ)
    → closed_behind closed (entries ++ Used number place payload ∷ []) ≡ is_closing payload
closed_by_used closed [] number place payload = refl
closed_by_used closed (Used before at bytes ∷ entries) number place payload =
    closed_by_used (is_closing bytes) entries number place payload
closed_by_used closed (Doubtful before one other ∷ entries) number place payload =
    closed_by_used closed entries number place payload

closed_but_doubtful : (closed : Bool) (entries : List Entry) (number first second : ℕ)
    → closed_behind closed (entries ++ Doubtful number first second ∷ []) ≡ closed_behind closed entries
closed_but_doubtful closed [] number first second = refl
closed_but_doubtful closed (Used before at bytes ∷ entries) number first second =
    closed_but_doubtful (is_closing bytes) entries number first second
closed_but_doubtful closed (Doubtful before one other ∷ entries) number first second =
    closed_but_doubtful closed entries number first second

-- The last entry is used, and so it decides.
pub used_closes : (entries front : List Entry) (last : Entry) (number place : ℕ) (payload : List ℕ)
    → entries ≡ front ++ last ∷ [] → last ≡ Used number place payload → is_closed entries ≡ is_closing payload
used_closes entries front last number place payload is used =
    ap is_closed is ∙ ap (λ l. is_closed (front ++ l ∷ [])) used
    ∙ closed_by_used false front number place payload

-- It is doubtful, and so those in front decide.
pub doubtful_leaves : (entries front : List Entry) (last : Entry) (number first second : ℕ)
    → entries ≡ front ++ last ∷ [] → last ≡ Doubtful number first second → is_closed entries ≡ is_closed front
doubtful_leaves entries front last number first second is doubtful =
    ap is_closed is ∙ ap (λ l. is_closed (front ++ l ∷ [])) doubtful
    ∙ closed_but_doubtful false front number first second

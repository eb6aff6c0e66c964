-- Numbers are written to a buffer, those of one thing after the other.
use Rattle.std.proofs.Common.{◌≡◌, ℕ, ◌+◌, ◌-◌, ◌<◌, ◌≤◌, List, ◌++◌, drop, length, map}
use Rattle.std.proofs.Common.{◌⊎◌, append_assoc, inl, inr, subst, take, sym, ap, ◌∙◌, arith}
use Rattle.std.proofs.Math.ListN.{drop_of_length-le}
use Rattle.std.proofs.Math.Seq.{drop-append_seam, take-append_seam}
use Rattle.std.proofs.lemmas.Bool.{cases_lt}
use Rattle.std.proofs.lemmas.List.{append-nil, drop-drop, length-drop, length-map, map-append}
use Rattle.std.proofs.lemmas.List.{take_all}
use Rattle.ffi.specs.Handed.{IsHandedOut}
use Rattle.ffi.specs.declared.status.TheConstants.{DONE, TOO_SMALL}

-- The numbers of the first things stand at the beginning of a buffer. What was behind them stays.
pub record AreWritten {X Y : Type 0} (numbers : X → Y) (xs : List X) (old : List Y) (place : ℕ) (now : List Y)
    : Type 0 where
  pub front : take place now ≡ map numbers (take place xs)
  pub behind : drop place now ≡ drop place old
  pub room : length now ≡ length old

module _ {X Y : Type 0} (numbers : X → Y) (old : List Y) where
  -- Behind the numbers at the start of a buffer is what was there.
  pub behind_front : (xs : List X) (count : ℕ) (now : List Y) → length xs ≡ count
      → now ≡ map numbers xs ++ drop count old → drop count now ≡ drop count old
  behind_front xs count now counted is =
      let many : length (map numbers xs) ≡ count = length-map xs numbers ∙ counted in
      ap (drop count) is
      ∙ ap (λ n. drop n (map numbers xs ++ drop count old)) (sym many)
      ∙ drop-append_seam (map numbers xs) (drop count old)

  -- More numbers are written to the start of the rest.
  pub front_more : (xs more : List X) (count : ℕ) (now tail : List Y) → length xs ≡ count
      → now ≡ map numbers xs ++ drop count old → tail ≡ map numbers more ++ drop (length more) (drop count now)
      → take count now ++ tail ≡ map numbers (xs ++ more) ++ drop (count + length more) old
  front_more xs more count now tail counted is then =
      let many : length (map numbers xs) ≡ count = length-map xs numbers ∙ counted in
      let front : take count now ≡ map numbers xs =
      ap (take count) is
      ∙ ap (λ n. take n (map numbers xs ++ drop count old)) (sym many)
      ∙ take-append_seam (map numbers xs) (drop count old) in
      let behind = behind_front xs count now counted is in
      ap (λ ns. ns ++ tail) front
      ∙ ap (λ ns. map numbers xs ++ ns)
      (then ∙ ap (λ ns. map numbers more ++ ns) (ap (drop (length more)) behind ∙ drop-drop (length more) count old))
      ∙ sym (append_assoc (map numbers xs) (map numbers more) (drop (count + length more) old))
      ∙ ap (λ ns. ns ++ drop (count + length more) old) (sym (map-append numbers xs more))

-- The numbers of things were handed out, and all is done.
pub record AreFitted {X Y : Type 0} (numbers : X → Y) (xs : List X) (count : ℕ) (old new : List Y) : Type 0 where
  pub counted : count ≡ length xs
  pub fit : count ≤ length old
  pub written : new ≡ map numbers xs ++ drop count old

-- They were not, since the buffer is too small.
pub record AreKept {X Y : Type 0} (xs : List X) (status : ℕ) (old new : List Y) : Type 0 where
  pub said : status ≡ TOO_SMALL
  pub small : length old < length xs
  pub stays : new ≡ old

module _ {X Y : Type 0} (numbers : X → Y) (xs : List X) (status count : ℕ) (old new : List Y)
    (handed : IsHandedOut (map numbers xs) status count old new) where
  fit_or_not : ((status ≡ DONE) × AreFitted numbers xs count old new)
      ⊎ (AreKept xs status old new × ¬ (status ≡ DONE))
  fit_or_not = decide (cases_lt (length old) (length xs))
    where
      many : length (map numbers xs) ≡ length xs
      many = length-map xs numbers

      counted : count ≡ length xs
      counted = handed.count ∙ many

      decide : (length old < length xs) ⊎ (length xs ≤ length old)
          → ((status ≡ DONE) × AreFitted numbers xs count old new) ⊎ (AreKept xs status old new × ¬ (status ≡ DONE))
      decide (inl small) =
          let kept = handed.small (omega (arith, small, many)) in
          let said = kept.0 in
          inr (record { said = said; small = small; stays = kept.1 }, λ done. let no = sym said ∙ done in cc)
      decide (inr fits) =
          let done = handed.fits (omega (arith, fits, many)) in
          inl (
            done.0,
            record {
              counted = counted;
              fit = omega (arith, fits, counted);
              written = subst (λ n. new ≡ map numbers xs ++ drop n old) (many ∙ sym counted) done.1;
            },
          )

  pub fitted : status ≡ DONE → AreFitted numbers xs count old new
  fitted done = decide fit_or_not
    where
      decide : ((status ≡ DONE) × AreFitted numbers xs count old new)
          ⊎ (AreKept xs status old new × ¬ (status ≡ DONE)) → AreFitted numbers xs count old new
      decide (inl fit) = fit.1
      decide (inr kept) = absurd (kept.1 done)

  pub kept : ¬ (status ≡ DONE) → AreKept xs status old new
  kept other = decide fit_or_not
    where
      decide : ((status ≡ DONE) × AreFitted numbers xs count old new)
          ⊎ (AreKept xs status old new × ¬ (status ≡ DONE)) → AreKept xs status old new
      decide (inl fit) = absurd (other fit.0)
      decide (inr kept) = kept.0

-- A part of a list, from a place on to the end, is lent and comes back.
module _ {X : Type 0} (a : ℕ) (xs : List X) where
  many : length (drop a xs) ≤ length xs - a
  many = let left = length-drop a xs in omega (arith, left)

  pub part_lent : take (length xs - a) (drop a xs) ≡ drop a xs
  part_lent = take_all (length xs - a) (drop a xs) many

  pub part_back : (ys : List X) → take a xs ++ (ys ++ drop (length xs - a) (drop a xs)) ≡ take a xs ++ ys
  part_back ys =
      ap (λ zs. take a xs ++ zs)
      (ap (λ zs. ys ++ zs) (drop_of_length-le (drop a xs) many) ∙ append-nil ys)

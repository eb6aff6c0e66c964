-- What some harts have, and the texts of harts from one on.
use Rattle.std.proofs.Common.{◌≡◌, ◌∙◌, ◌+◌, ◌-◌, ◌<◌, ◌≤◌, ◌++◌, ℕ, List, [], ◌∷◌, Option, sym, ap, refl, true, subst}
use Rattle.std.proofs.Common.{arith, drop, length, get_or, map, min, take, take-append-drop}
use Rattle.std.proofs.KnownBytes.{Appends-trans}
use Rattle.std.proofs.lemmas.Bool.{le-leb}
use Rattle.std.proofs.lemmas.List.{drop_more, length-drop, length-take, length-take-le, take_more}
use Rattle.std.specs.Io.KnownBytes.{Appends}
use Rattle.message.specs.Range.{selects}
use Rattle.message.specs.declared.range.HartRange.{HartRange}
use Rattle.output.specs.Begun.{AppendsBeginning}
use Rattle.output.proofs.Beginnings.{begun_between}
use Rattle.parallel_decode.proofs.HartTexts.{joined-append, joined-snoc}
use Rattle.parallel_decode.specs.EachHart.{each_hart, hart_line, joined_harts, numbered_harts}
use Rattle.salvage_reports.specs.HartItems.{items_of}

-- No more than the harts up to the last have one.
few_items : {X : Type 0} (harts : HartRange) (items : List X)
    → length (items_of harts items) ≡ min (harts.last + 1) (length items) - harts.first
few_items harts items =
    length-drop harts.first (take (harts.last + 1) items)
    ∙ ap (λ n. n - harts.first) (length-take (harts.last + 1) items)

-- Each of them has a hart that is one of these, and of which there is an item.
pub record IsOneOf {X : Type 0} (harts : HartRange) (items : List X) (hart : ℕ) : Type 0 where
  pub selected : selects harts hart ≡ true
  pub within : hart < length items

pub one_of : {X : Type 0} (harts : HartRange) (items : List X) (hart : ℕ) → harts.first ≤ hart
    → hart < harts.first + length (items_of harts items) → IsOneOf harts items hart
one_of harts items hart from within =
    let count = few_items harts items in
    let below : hart ≤ harts.last = omega (arith, from, within, count) in
    let known : hart < length items = omega (arith, from, within, count) in
    record { selected = rw (le-leb harts.first hart from, le-leb hart harts.last below) refl; within = known }

module _ {X : Type 0} (text : ℕ → X → List ℕ) (first : ℕ) (harts : List X) (i : ℕ) (own : X)
    (within : i < length harts) (is : own ≡ get_or harts i own) (old mid new : Option (List ℕ))
    (before : Appends old mid (joined_harts text first (take i harts))) where
  abbrev front : List ℕ
  front = joined_harts text first (take i harts)

  count : length (take i harts) ≡ i
  count = length-take-le i harts (omega (arith, within))

  -- A hart's text was written after those of the harts before.
  pub from_written : Appends mid new (text (first + i) own)
      → Appends old new (joined_harts text first (take (i + 1) harts))
  from_written then =
      let more : joined_harts text first (take (i + 1) harts) ≡ front ++ text (first + i) own =
      ap (joined_harts text first) (take_more harts i own within ∙ ap (λ r. take i harts ++ r ∷ []) (sym is))
      ∙ joined-snoc text first (take i harts) own
      ∙ ap (λ n. front ++ text (first + n) own) count in
      subst (Appends old new) (sym more) (Appends-trans old mid new front (text (first + i) own) before then)

  -- A beginning of a hart's text was written after the texts of the harts before.
  pub from_begun : AppendsBeginning (text (first + i) own) mid new
      → AppendsBeginning (joined_harts text first harts) old new
  from_begun begun =
      let rest = drop (i + 1) harts in
      let cut : harts ≡ take i harts ++ own ∷ rest =
      sym (take-append-drop i harts)
      ∙ ap (λ l. take i harts ++ l) (drop_more harts i own within ∙ ap (λ r. r ∷ rest) (sym is)) in
      let parted : joined_harts text first harts
      ≡ front ++ (text (first + i) own ++ joined_harts text (first + i + 1) rest) =
      ap (joined_harts text first) cut
      ∙ joined-append text first (take i harts) (own ∷ rest)
      ∙ ap (λ n. front ++ joined_harts text (first + n) (own ∷ rest)) count in
      subst (λ l. AppendsBeginning l old new) (sym parted)
      (begun_between front (text (first + i) own) (joined_harts text (first + i + 1) rest) old mid new before begun)

-- The texts of what is made of each.
pub each_of : {X R : Type 0} (text : X → List ℕ) (f : R → X) (hart : ℕ) (harts : List R)
    → each_hart text hart (map f harts) ≡ numbered_harts (λ number own. text (f own)) hart harts
each_of text f hart [] = refl
each_of text f hart (own ∷ harts) =
    ap (λ l. (hart_line hart ++ text (f own)) ++ l) (each_of text f (hart + 1) harts)

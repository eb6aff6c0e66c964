-- Texts of items, one after the other.
use Rattle.std.proofs.Common.{ℕ, ◌+◌, ◌<◌, ◌≤◌, List, ◌++◌, Option, length, get_or, drop}
use Rattle.std.proofs.Common.{Result, Ok, Err, ap, subst, sym, take, take-append-drop, ◌∙◌}
use Rattle.std.proofs.KnownBytes.{Appends-trans}
use Rattle.std.proofs.lemmas.Grind.{flat_map-append}
use Rattle.std.proofs.lemmas.List.{drop_all, drop_more}
use Rattle.std.specs.Io.KnownBytes.{Appends}
use Rattle.std.specs.List.{flat_map}
use Rattle.std.specs.Prelude.{OnOk}
use Rattle.output.specs.Begun.{AppendsBeginning}
use Rattle.output.proofs.FieldParts.{HasWritten, part_all, part_begun, part_more}

-- The items of a list whose texts are written one after the other.
module _ {A : Type 0} (text : A → List ℕ) (items : List A) (place : ℕ) (old mid : Option (List ℕ))
    (has : HasWritten (flat_map text items) (flat_map text (drop place items)) old mid) where
  item_next : (item : A) → place < length items
      → HasWritten (flat_map text items) (text (get_or items place item) ++ flat_map text (drop (place + 1) items)) old mid
  item_next item within =
      subst (λ left. HasWritten (flat_map text items) (flat_map text left) old mid) (drop_more items place item within) has

  pub item_more : (item : A) (new : Option (List ℕ)) → place < length items
      → Appends mid new (text (get_or items place item))
      → HasWritten (flat_map text items) (flat_map text (drop (place + 1) items)) old new
  item_more item new within more =
      part_more (flat_map text items) (text (get_or items place item)) (flat_map text (drop (place + 1) items)) old mid new
      (item_next item within) more

  pub item_begun : (item : A) (new : Option (List ℕ)) → place < length items
      → AppendsBeginning (text (get_or items place item)) mid new → AppendsBeginning (flat_map text items) old new
  item_begun item new within begun =
      part_begun (flat_map text items) (text (get_or items place item)) (flat_map text (drop (place + 1) items)) old mid
      new (item_next item within) begun

  pub items_all : length items ≤ place → Appends old mid (flat_map text items)
  items_all past =
      part_all (flat_map text items) old mid
      (subst (λ left. HasWritten (flat_map text items) (flat_map text left) old mid) (drop_all place items past) has)

-- The texts of the first items were appended, so those of the others are left.
pub items_front : {A : Type 0} (text : A → List ℕ) (items : List A) (place : ℕ) (old mid : Option (List ℕ))
    → Appends old mid (flat_map text (take place items))
    → HasWritten (flat_map text items) (flat_map text (drop place items)) old mid
items_front text items place old mid first = record {
  front = flat_map text (take place items);
  parted =
      ap (flat_map text) (sym (take-append-drop place items))
      ∙ flat_map-append text (take place items) (drop place items);
  appended = first;
}

-- A text is written, and then, unless the output fails, another one.
pub ok_behind : {T E : Type 0} (front back : List ℕ) (old mid new : Option (List ℕ)) (r : Result T E)
    → Appends old mid front → OnOk r (Appends mid new back) → OnOk r (Appends old new (front ++ back))
ok_behind front back old mid new (Ok x) first then = Appends-trans old mid new front back first then
ok_behind front back old mid new (Err e) first then = tt

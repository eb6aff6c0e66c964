-- What is held of a hart is found at its place in the lists.
use Rattle.std.proofs.Common.{◌≡◌, ◌∙◌, ◌<◌, ℕ, Bool, false, List, [], Some, Vec, Global, ap, get_or, length, slice_get}
use Rattle.std.proofs.Common.{slice_index_or, sym, arith}
use Rattle.std.proofs.lemmas.List.{get_or-map, get_or_default, length-map}
use Rattle.comparing.specs.Compared.{got_by, gots_by}
use Rattle.comparing.specs.declared.hart_count.HartCount.{HartCount}
use Rattle.comparing.specs.steps.Held.{count_in}
use Rattle.comparing.proofs.DecodedHarts.{gots_many}
use Rattle.comparing.proofs.HeldHarts.{got_here}
use Rattle.receiver.specs.Received.{events_in}
use Rattle.retire.specs.declared.event.Event.{Event}

module _ (counts : List HartCount) (lists : List (Vec Event Global)) (closed : List Bool) where
  -- There are as many lists of events.
  pub lists_many : length (events_in lists) ≡ length lists
  lists_many = length-map lists (λ (list : Vec Event Global). list.items)

  -- Something is held of each hart.
  pub gots_listed : length closed ≡ length lists
      → length (gots_by (count_in counts) 0 (events_in lists) closed) ≡ length lists
  gots_listed flags = gots_many (count_in counts) 0 (events_in lists) closed (flags ∙ sym lists_many) ∙ lists_many

  -- What is held of a hart is its count, its list and its flag.
  pub got_listed : (place : ℕ) (own : Vec Event Global) (count : HartCount) (decoded : List Event) (flag : Bool)
      → length closed ≡ length lists → place < length lists → own ≡ slice_index_or lists place own
      → count ≡ count_in counts place → decoded ≡ own.items → flag ≡ slice_index_or closed place flag
      → slice_get (gots_by (count_in counts) 0 (events_in lists) closed) place ≡ Some (got_by count decoded flag)
  got_listed place own count decoded flag flags within is counted same flagged =
      let inside : place < length (events_in lists) = let many = lists_many in omega (arith, many, within) in
      let there : get_or (events_in lists) place [] ≡ own.items =
      get_or-map (λ (list : Vec Event Global). list.items) lists place own [] within
      ∙ ap (λ (list : Vec Event Global). list.items) (sym is) in
      got_here counts place (events_in lists) closed (flags ∙ sym lists_many) inside
      ∙ ap (λ events. Some (got_by (count_in counts place) events (get_or closed place false))) (there ∙ sym same)
      ∙ ap (λ n. Some (got_by n decoded (get_or closed place false))) (sym counted)
      ∙ ap (λ f. Some (got_by count decoded f))
      (sym (flagged ∙ get_or_default closed place flag false (omega (arith, flags, within))))

-- All that was distributed has its places and numbers that a hart may have, and all of it is salvaged.
use Rattle.std.proofs.Common.{◌≡◌, ◌<◌, ℕ, ◌+◌, All, Bool, true, false, List, [], ◌∷◌, length}
use Rattle.std.proofs.Common.{slice_index_or}
use Rattle.std.proofs.Common.{refl, sym, subst, ◌∙◌, arith}
use Rattle.std.proofs.lemmas.List.{get_or_default}
use Rattle.std.proofs.lemmas.List.Elements.{All-cons, All-nil}
use Rattle.std.proofs.lemmas.Option.{slice_get_read, slice_get_within}
use Rattle.std.proofs.lemmas.Bool.Decides.{nat_tests}
use Rattle.std.specs.Prelude.{cond, count_by}
use Rattle.std.specs.List.{filter}
use Rattle.std.specs.declared.vec.Vec.{Vec}
use Rattle.rvclass.specs.Words.{Words}
use Rattle.payload.specs.declared.mode.Mode.{Mode}
use Rattle.message.proofs.Elements.{slice_get-some}
use Rattle.message.specs.Harts.{end_of_numbers}
use Rattle.message.specs.OfHart.{of_hart}
use Rattle.message.specs.declared.message.Message.{Message}
use Rattle.salvaging.specs.Salvaged.{IsSalvaged}
use Rattle.salvaging.specs.Strangers.{has_number, is_stranger, own_messages}
use Rattle.salvaging.specs.declared.received.ReceivedMessage.{ReceivedMessage}
use Rattle.salvaging.specs.declared.salvaged.Salvaged.{Salvaged}
use Rattle.salvaging.specs.steps.Arrivals.{Arrival, HaveNumbers, HavePlaces, arrivals_in, placed_from}
use Rattle.salvaging.specs.steps.Distributing.{AreSalvagedOf, Distributes}

abbrev IsSmall : Arrival → Type 0
IsSmall one = one.message.number < end_of_numbers

have_numbers : (from : ℕ) (messages : List Message) → HaveNumbers (placed_from from (filter has_number messages))
have_numbers from [] = All-nil IsSmall
have_numbers from (message ∷ messages) =
    by_test (has_number message) refl (have_numbers (from + 1) messages) (have_numbers from messages)
  where
    by_test : (b : Bool) → has_number message ≡ b
        → HaveNumbers (placed_from (from + 1) (filter has_number messages))
        → HaveNumbers (placed_from from (filter has_number messages))
        → HaveNumbers (placed_from from (cond b (message ∷ filter has_number messages) (filter has_number messages)))
    by_test true has behind here =
        let small : message.number < end_of_numbers = grind (arith, nat_tests) in
        All-cons IsSmall (record { place = from; message = message }) (placed_from (from + 1) (filter has_number
        messages))
        small behind
    by_test false has behind here = here

module _ {A : Type 0} where
  -- What holds of the messages of each hart with their places holds of each list.
  distributed : (Holds : List Arrival → Type 0) (messages : List Message) (lists : List (Vec ReceivedMessage A))
      → Distributes messages lists → ((hart : ℕ) → Holds (placed_from 0 (own_messages hart messages)))
      → All (λ (list : Vec ReceivedMessage A). Holds (arrivals_in list.items)) lists
  distributed Holds messages lists d each k default within =
      let list = slice_index_or lists k default in
      let at = slice_get_read lists (length lists) k list refl within (get_or_default lists k default list within) in
      subst Holds (sym (d.each k list at)) (each k)

  pub distributed_small : (messages : List Message) (lists : List (Vec ReceivedMessage A)) → Distributes messages lists
      → All (λ (list : Vec ReceivedMessage A). HaveNumbers (arrivals_in list.items)) lists
  distributed_small messages lists d =
      distributed HaveNumbers messages lists d (λ hart. have_numbers 0 (of_hart hart messages))

  pub distributed_placed : (messages : List Message) (lists : List (Vec ReceivedMessage A)) → Distributes messages lists
      → All (λ (list : Vec ReceivedMessage A). HavePlaces (arrivals_in list.items)) lists
  distributed_placed messages lists d =
      distributed HavePlaces messages lists d (λ hart. (own_messages hart messages, refl))

  pub all_salvaged : (words : Words) (mode : Mode) (harts : ℕ) (messages : List Message) (lists : List
      (Vec ReceivedMessage A))
      (salvaged : Salvaged A) → length lists ≡ harts → Distributes messages lists
      → AreSalvagedOf words mode lists salvaged.harts.items
      → salvaged.strangers ≡ count_by (is_stranger harts) messages → IsSalvaged words mode harts messages salvaged
  all_salvaged words mode harts messages lists salvaged count d each strangers = record {
    count = each.count ∙ count;
    each = λ hart own at.
        let known = slice_get_within salvaged.harts.items hart own at in
        let many = each.count in
        let list = slice_get-some lists hart (omega (arith, known, many)) in
        each.each hart list.0 own (own_messages hart messages) list.1 at (d.each hart list.0 list.1);
    strangers = strangers;
  }

-- Where the messages of a hart are among others.
use Rattle.std.proofs.Common.{◌≡◌, ℕ, Bool, true, false, cond, eqb, List, [], ◌∷◌, ◌++◌, refl, ap, ◌∙◌}
use Rattle.message.specs.OfHart.{of_hart}
use Rattle.message.specs.declared.message.Message.{Message}
use Rattle.auditing.proofs.PushLemmas.{cons_parts}

-- A place in a list of messages.
pub record Place (all : List Message) (hart : ℕ) (before : List Message) (message : Message) : Type 0 where
  pub front : List Message
  pub back : List Message
  pub whole : all ≡ front ++ message ∷ back
  pub own : of_hart hart front ≡ before

-- A message of a hart has a place, behind the hart's messages before it.
pub place_of : (all : List Message) (hart : ℕ) (before after : List Message) (message : Message)
    → of_hart hart all ≡ before ++ message ∷ after → Place all hart before message
place_of [] hart [] after message same = cc
place_of [] hart (first ∷ before) after message same = cc
place_of (first ∷ all) hart before after message same =
    go (λ before same. place_of all hart before after message same) (eqb first.hart hart) refl before same
  where
    go : ((before : List Message) → of_hart hart all ≡ before ++ message ∷ after → Place all hart before message)
        → (own : Bool) → eqb first.hart hart ≡ own → (before : List Message)
        → cond own (first ∷ of_hart hart all) (of_hart hart all) ≡ before ++ message ∷ after
        → Place (first ∷ all) hart before message
    go later false is before same =
        let rest = later before same in
        record {
          front = first ∷ rest.front;
          back = rest.back;
          whole = ap (λ l. first ∷ l) rest.whole;
          own = ap (λ own. cond own (first ∷ of_hart hart rest.front) (of_hart hart rest.front)) is ∙ rest.own;
        }
    go later true is [] same = record {
      front = [];
      back = all;
      whole = ap (λ m. m ∷ all) (cons_parts first message (of_hart hart all) after same).0;
      own = refl;
    }
    go later true is (one ∷ before) same =
        let split = cons_parts first one (of_hart hart all) (before ++ message ∷ after) same in
        let rest = later before split.1 in
        record {
          front = first ∷ rest.front;
          back = rest.back;
          whole = ap (λ l. first ∷ l) rest.whole;
          own = ap (λ own. cond own (first ∷ of_hart hart rest.front) (of_hart hart rest.front)) is
              ∙ (λ i. split.0 i ∷ rest.own i);
        }

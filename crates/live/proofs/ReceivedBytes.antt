-- A message that bytes begin with is the same, whatever follows them.
use Rattle.std.proofs.Common.{◌≡◌, ◌≤◌, ◌+◌, ◌-◌, ◌++◌, ◌∙◌, ℕ, Bool, true, false, if◌then◌else◌}
use Rattle.std.proofs.Common.{List, Option, Some, None, IfSome, drop, length, take, refl, sym, ap, ap₂, subst, arith}
use Rattle.std.proofs.lemmas.List.{drop-append-le, get_or_append_left, length-append, length-drop, take-append-le, take_rest}
use Rattle.byteorder.specs.Endian.{little_number}
use Rattle.byteorder.specs.Numbers.{little_from-append}
use Rattle.frames.proofs.FrameLemmas.{complete, is_complete-from}
use Rattle.frames.specs.Frame.{frame_in, frame_size, hart_in, is_complete, length_in, message_in, message_size, number_in, payload_in}
use Rattle.message.proofs.Answering.{not_both}
use Rattle.message.specs.declared.message.Message.{Message}
use Rattle.live.specs.steps.Receiving.{Says}

-- Bytes that begin with a message of so many bytes begin with a complete one.
pub its : (bytes : List ℕ) (count : ℕ) → Some count ≡ message_size bytes
    → (is_complete bytes ≡ true) × (count ≡ frame_size bytes)
its bytes count begins = by (is_complete bytes) refl begins
  where
    same_some : (a b : ℕ) → Some a ≡ Some b → a ≡ b
    same_some a b e = cc

    never : Some count ≡ None → ⊥
    never e = cc

    by : (c : Bool) → is_complete bytes ≡ c → Some count ≡ (if c then Some (frame_size bytes) else None)
        → (is_complete bytes ≡ true) × (count ≡ frame_size bytes)
    by true is e = (is, same_some count (frame_size bytes) e)
    by false is e = absurd (never e)

-- Bytes of which no size is known begin with none.
pub none_begins : (bytes : List ℕ) → None ≡ message_size bytes → is_complete bytes ≡ false
none_begins bytes none = by (is_complete bytes) refl none
  where
    never : (a : ℕ) → Some a ≡ None → ⊥
    never a e = cc

    by : (c : Bool) → is_complete bytes ≡ c → None ≡ (if c then Some (frame_size bytes) else None)
        → is_complete bytes ≡ false
    by true is e = absurd (never (frame_size bytes) (sym e))
    by false is e = is

-- The byte for a payload's length.
length_more : (bytes more : List ℕ) → 11 ≤ length bytes → length_in (bytes ++ more) ≡ length_in bytes
length_more bytes more long = get_or_append_left bytes more 0 10 (omega (arith, long))

-- A complete message stays one.
pub complete_more : (bytes more : List ℕ) → is_complete bytes ≡ true → is_complete (bytes ++ more) ≡ true
complete_more bytes more is =
    let c = complete bytes is in
    let some = c.some in
    let few = c.few in
    let fits = c.fits in
    let same = length_more bytes more (omega (arith, fits)) in
    let all = length-append bytes more in
    is_complete-from (bytes ++ more) (record {
      some = omega (arith, some, same);
      few = omega (arith, few, same);
      fits = omega (arith, fits, same, all);
    })

-- It is the same message, with as many bytes.
pub frame_more : (bytes more : List ℕ) → is_complete bytes ≡ true → frame_in (bytes ++ more) ≡ frame_in bytes
frame_more bytes more is =
    let c = complete bytes is in
    let fits = c.fits in
    let left = length-drop 11 bytes in
    let late = length-drop 2 bytes in
    let length_is = length_more bytes more (omega (arith, fits)) in
    let hart : hart_in (bytes ++ more) ≡ hart_in bytes = little_from-append 2 bytes more (omega (arith, fits)) in
    let number : number_in (bytes ++ more) ≡ number_in bytes =
    ap (little_number 8) (drop-append-le 2 bytes more (omega (arith, fits)))
    ∙ little_from-append 8 (drop 2 bytes) more (omega (arith, fits, late)) in
    let payload : payload_in (bytes ++ more) ≡ payload_in bytes =
    ap₂ (λ (n : ℕ) (l : List ℕ). take n l) length_is (drop-append-le 11 bytes more (omega (arith, fits)))
    ∙ take-append-le (length_in bytes) (drop 11 bytes) more (omega (arith, fits, left)) in
    λ i. record { hart = hart i; number = number i; payload = payload i }

pub size_more : (bytes more : List ℕ) → is_complete bytes ≡ true → frame_size (bytes ++ more) ≡ frame_size bytes
size_more bytes more is =
    let c = complete bytes is in
    let fits = c.fits in
    ap (λ n. 11 + n) (length_more bytes more (omega (arith, fits)))

-- Where as many bytes are there as a message has at most, there is a complete one or none.
pub long_more : (bytes more : List ℕ) → 29 ≤ length bytes → is_complete bytes ≡ false → is_complete (bytes ++ more) ≡ false
long_more bytes more long none = by (is_complete (bytes ++ more)) refl
  where
    by : (is : Bool) → is_complete (bytes ++ more) ≡ is → is_complete (bytes ++ more) ≡ false
    by false e = e
    by true e =
        let c = complete (bytes ++ more) e in
        let some = c.some in
        let few = c.few in
        let same = length_more bytes more (omega (arith, long)) in
        let there : is_complete bytes ≡ true = is_complete-from bytes (record {
          some = omega (arith, some, same);
          few = omega (arith, few, same);
          fits = omega (arith, few, same, long);
        }) in
        absurd (not_both (is_complete bytes) there none)

-- How many bytes a message has, by what is complete.
pub sized : (bytes : List ℕ) → is_complete bytes ≡ true → message_size bytes ≡ Some (frame_size bytes)
sized bytes is = ap (λ (b : Bool). if b then Some (frame_size bytes) else None) is

pub unsized : (bytes : List ℕ) → is_complete bytes ≡ false → message_size bytes ≡ None
unsized bytes is = ap (λ (b : Bool). if b then Some (frame_size bytes) else None) is

pub framed : (bytes : List ℕ) → is_complete bytes ≡ true → message_in bytes ≡ Some (frame_in bytes)
framed bytes is = ap (λ (b : Bool). if b then Some (frame_in bytes) else None) is

pub unframed : (bytes : List ℕ) → is_complete bytes ≡ false → message_in bytes ≡ None
unframed bytes is = ap (λ (b : Bool). if b then Some (frame_in bytes) else None) is

-- The size of a message that is held is that of the message, whatever follows.
pub says_size : (bytes : List ℕ) (ended : Bool) (size : ℕ) → Some size ≡ message_size bytes
    → Says message_size bytes ended (Some size)
says_size bytes ended size begins more may =
    let own = its bytes size begins in
    ap Some (own.1 ∙ sym (size_more bytes more own.0)) ∙ sym (sized (bytes ++ more) (complete_more bytes more own.0))

-- Where no message is there, none is complete; and one that is there is the complete one.
module _ (bytes : List ℕ) where
  never_some : {X : Type 0} (x : X) → None ≡ Some x → ⊥
  never_some x e = cc

  same_some : (x y : Message) → Some x ≡ Some y → x ≡ y
  same_some x y e = cc

  pub none_framed : None ≡ message_in bytes → is_complete bytes ≡ false
  none_framed none = by (is_complete bytes) refl
    where
      by : (is : Bool) → is_complete bytes ≡ is → is_complete bytes ≡ false
      by false e = e
      by true e = absurd (never_some (frame_in bytes) (none ∙ framed bytes e))

  pub some_framed : (message : Message) → Some message ≡ message_in bytes
      → (is_complete bytes ≡ true) × (message ≡ frame_in bytes)
  some_framed message some = by (is_complete bytes) refl
    where
      by : (is : Bool) → is_complete bytes ≡ is → (is_complete bytes ≡ true) × (message ≡ frame_in bytes)
      by false e = absurd (never_some message (sym (some ∙ unframed bytes e)))
      by true e = (e, same_some message (frame_in bytes) (some ∙ framed bytes e))

-- What is said of bytes from a place on, which are read as a slice.
pub says_rest : {X : Type 0} (is : List ℕ → X) (bytes : List ℕ) (at : ℕ) (ended : Bool) (answer : X)
    → Says is (take (length bytes - at) (drop at bytes)) ended answer → Says is (drop at bytes) ended answer
says_rest is bytes at ended answer says = subst (λ l. Says is l ended answer) (take_rest bytes at) says

pub begins_rest : (bytes : List ℕ) (at : ℕ) (found : Option ℕ) (size : ℕ) → found ≡ Some size
    → IfSome found (λ n. Some n ≡ message_size (take (length bytes - at) (drop at bytes)))
    → Some size ≡ message_size (drop at bytes)
begins_rest bytes at found size is begins =
    subst (λ l. Some size ≡ message_size l) (take_rest bytes at)
    (subst (λ o. IfSome o (λ n. Some n ≡ message_size (take (length bytes - at) (drop at bytes)))) is begins)

-- A message of a size that is known is complete.
pub begins_held : (bytes : List ℕ) (found : Option ℕ) {size : ℕ} → found ≡ Some size
    → IfSome found (λ n. Some n ≡ message_size bytes) → is_complete bytes ≡ true
begins_held bytes found {size = size} is begins =
    (its bytes size (subst (λ o. IfSome o (λ n. Some n ≡ message_size bytes)) is begins)).0

pub begins_of : (bytes : List ℕ) (found : Option ℕ) (size : ℕ) → found ≡ Some size
    → IfSome found (λ n. Some n ≡ message_size bytes) → Some size ≡ message_size bytes
begins_of bytes found size is begins = subst (λ o. IfSome o (λ n. Some n ≡ message_size bytes)) is begins

pub fits_of : (n : ℕ) (found : Option ℕ) (size : ℕ) → found ≡ Some size → IfSome found (λ k. k ≤ n) → size ≤ n
fits_of n found size is fits = subst (λ o. IfSome o (λ k. k ≤ n)) is fits

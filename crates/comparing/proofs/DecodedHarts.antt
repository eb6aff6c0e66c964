-- How many harts a capture decodes to.
use Rattle.std.proofs.Common.{◌≡◌, ◌∙◌, ◌+◌, ℕ, suc, Bool, true, false, List, [], ◌∷◌, Option, ap, arith, length, refl}
use Rattle.std.proofs.Common.{replicate, subst, sym}
use Rattle.std.proofs.lemmas.List.{length-replicate}
use Rattle.captures.specs.Decoded.{IsDecoded, IsDecodedOf}
use Rattle.captures.specs.declared.outcome.CaptureFault.{CaptureFault}
use Rattle.message.specs.Range.{every_hart}
use Rattle.message.specs.declared.range.HartRange.{HartRange}
use Rattle.retire.specs.declared.event.Event.{Event}
use Rattle.rvclass.specs.Words.{Words}
use Rattle.comparing.specs.Compared.{gots_by, is_compared_whole}
use Rattle.comparing.specs.Counts.{before_stop, count_of}
use Rattle.comparing.specs.Whole.{WholeIsDecoded, events_of_logs}
use Rattle.comparing.specs.declared.hart_count.HartCount.{HartCount}
use Rattle.comparing.proofs.EqualLogs.{whole_equal}

-- There is a flag for each list.
pub flags_many : (range : HartRange) (words : Words) (harts : ℕ) (bytes : List ℕ) (lists : List (List Event))
    (closed : List Bool) (stop : Option (ℕ × CaptureFault)) → IsDecodedOf range words harts bytes lists closed stop
    → length closed ≡ length lists
flags_many range words harts bytes lists closed stop (IsDecodedOf.Version1 unmarked are) =
    are.decoded.closed_count ∙ sym are.decoded.lists_count
flags_many range words harts bytes lists closed stop (IsDecodedOf.Version2 header rest is begins are) =
    are.decoded.closed_count ∙ sym are.decoded.lists_count
flags_many range words harts bytes lists closed stop (IsDecodedOf.NoHeader why none is no_lists no_flags) =
    ap length no_flags ∙ length-replicate harts false ∙ sym (ap length no_lists ∙ length-replicate harts [])

-- There is something for each list.
pub gots_many : (count : ℕ → HartCount) (hart : ℕ) (lists : List (List Event)) (closed : List Bool)
    → length closed ≡ length lists → length (gots_by count hart lists closed) ≡ length lists
gots_many count hart [] closed same = refl
gots_many count hart (list ∷ lists) [] same = absurd (omega (arith, same))
gots_many count hart (list ∷ lists) (flag ∷ closed) same =
    ap (λ n. suc n) (gots_many count (hart + 1) lists closed (omega (arith, same)))

-- Where the result is whole, the bytes decode to the logs.
pub whole_decoded : WholeIsDecoded
whole_decoded words harts bytes gots stop logs got many whole =
    let count = count_of (before_stop stop got.messages) in
    let flags = flags_many every_hart words harts bytes got.lists got.closed stop got.decoded in
    let lists_many : length gots ≡ length got.lists =
    ap length got.each ∙ gots_many count 0 got.lists got.closed flags in
    let is = (whole_equal count got.lists got.closed stop logs flags (many ∙ lists_many)).0
    (subst (λ gots. is_compared_whole stop gots logs ≡ true) got.each whole) in
    let closed_is : got.closed ≡ replicate (length gots) true =
    is.2 ∙ ap (λ n. replicate n true) (sym lists_many) in
    subst (λ stop. IsDecoded words harts bytes (events_of_logs logs) (replicate (length gots) true) stop) is.0
    (subst (λ closed. IsDecoded words harts bytes (events_of_logs logs) closed stop) closed_is
    (subst (λ lists. IsDecoded words harts bytes lists got.closed stop) is.1 got.decoded))

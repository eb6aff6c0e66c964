-- A comparison of some harts is whole where what was decoded of them is just the logs.
use Rattle.std.proofs.Common.{◌≡◌, ◌∙◌, ◌+◌, ◌<◌, ◌≤◌, ◌^◌, ℕ, Bool, true, List, [], Option, ap, arith, length, replicate, subst, sym}
use Rattle.std.proofs.lemmas.List.{length-replicate}
use Rattle.captures.specs.Decoded.{IsDecodedOf}
use Rattle.captures.specs.declared.outcome.CaptureFault.{CaptureFault}
use Rattle.message.specs.Range.{every_hart}
use Rattle.message.specs.declared.range.HartRange.{HartRange}
use Rattle.retire.specs.declared.event.Event.{Event}
use Rattle.rvclass.specs.Words.{Words}
use Rattle.comparing.specs.Compared.{gots_by, is_compared_whole, of_harts}
use Rattle.comparing.specs.Counts.{before_stop, count_of}
use Rattle.comparing.specs.Whole.{AllHartsAreGot, WholeOfHartsIsDecoded, WholeOfHartsIsEqual}
use Rattle.comparing.proofs.DecodedHarts.{flags_many, gots_many}
use Rattle.comparing.proofs.EqualLogs.{whole_from}
use Rattle.comparing.proofs.SomeHarts.{of_all, of_gots, of_same}

-- There are few harts.
lists_few : (range : HartRange) (words : Words) (harts : ℕ) (bytes : List ℕ) (lists : List (List Event))
    (closed : List Bool) (stop : Option (ℕ × CaptureFault)) → harts < 2 ^ 16
    → IsDecodedOf range words harts bytes lists closed stop → length lists ≤ 2 ^ 16
lists_few range words harts bytes lists closed stop few (IsDecodedOf.Version1 unmarked are) =
    let many = are.decoded.lists_count in omega (arith, few, many)
lists_few range words harts bytes lists closed stop few (IsDecodedOf.Version2 header rest is begins are) =
    let many = are.decoded.lists_count in
    let within = is.harts in omega (arith, within, many)
lists_few range words harts bytes lists closed stop few (IsDecodedOf.NoHeader why none is no_lists no_flags) =
    let many = ap length no_lists ∙ length-replicate harts [] in omega (arith, few, many)

-- It is whole where it comes to the end, and the logs are what was decoded of these harts.
pub whole_of_harts : WholeOfHartsIsEqual
whole_of_harts range count lists closed stop logs same many =
    let own = of_gots count range lists closed same in
    let is = whole_from (0 + range.first) count (of_harts range lists) (of_harts range closed) stop logs
    (of_same range closed lists same) many in
    let flags : replicate (length (of_harts range lists)) true ≡ replicate (length logs) true =
    ap (λ n. replicate n true) (sym many) in (
      (λ whole.
          let found = is.0 (subst (λ gots. is_compared_whole stop gots logs ≡ true) own whole) in
          (found.0, found.1, found.2 ∙ flags)),
      (λ (none, events, all).
          subst (λ gots. is_compared_whole stop gots logs ≡ true) (sym own) (is.1 (none, events, all ∙ sym flags))),
    )

-- Where the result is whole, the bytes decode to the logs.
pub whole_of_harts_decoded : WholeOfHartsIsDecoded
whole_of_harts_decoded range words harts bytes gots stop logs got many whole =
    let count = count_of (before_stop stop got.messages) in
    let flags = flags_many range words harts bytes got.lists got.closed stop got.decoded in
    let as_many = of_same range (gots_by count 0 got.lists got.closed) got.lists
    (gots_many count 0 got.lists got.closed flags) in
    let is = (whole_of_harts range count got.lists got.closed stop logs flags (many ∙ ap length got.each ∙ as_many)).0
    (subst (λ gots. is_compared_whole stop gots logs ≡ true) got.each whole) in
    record {
      lists = got.lists;
      closed = got.closed;
      decoded = subst (IsDecodedOf range words harts bytes got.lists got.closed) is.0 got.decoded;
      events = is.1;
      all_closed = is.2;
    }

-- What is got of all harts is what is got of the capture.
pub all_got : AllHartsAreGot
all_got words harts bytes gots stop few got =
    let count = count_of (before_stop stop got.messages) in
    let flags = flags_many every_hart words harts bytes got.lists got.closed stop got.decoded in
    let many = gots_many count 0 got.lists got.closed flags in
    let fewer = lists_few every_hart words harts bytes got.lists got.closed stop few got.decoded in
    record {
      lists = got.lists;
      closed = got.closed;
      decoded = got.decoded;
      header = got.header;
      messages = got.messages;
      end = got.end;
      front = got.front;
      each = got.each ∙ of_all (gots_by count 0 got.lists got.closed) (omega (arith, many, fewer));
    }

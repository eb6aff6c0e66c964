-- The search does not join the bytes of three words.
use Rattle.std.proofs.Common.{◌≡◌, ◌+◌, ◌*◌, ◌/◌, ◌%◌, ◌^◌, ◌++◌, sym, ap, ◌∙◌, arith}
use Rattle.payload.specs.Bytes.{low_bytes}
use Rattle.payload.proofs.ByteLists.{bytes_first, low_bytes-mod}
use Rattle.payload.proofs.LongNumbers.{low_bytes-append}
use Rattle.payload.proofs.payload.bytes_of.Goals as goal

pub returns : goal.returns
returns c =
    let n = c.args.low + 2 ^ 128 * c.args.high in
    let first : c.args.low % 2 ^ 64 ≡ n % 2 ^ 64 = omega arith in
    let second : c.args.low / 2 ^ 64 ≡ n / 2 ^ 64 % 2 ^ 64 = omega arith in
    let third : c.args.high ≡ n / 2 ^ 128 = omega arith in
    let low : c.copy_from_slice.new.self ≡ low_bytes 8 n =
    c.copy_from_slice.ensures.after ∙ c.to_le_bytes.ensures ∙ bytes_first 8 (c.args.low % 2 ^ 64)
    ∙ ap (low_bytes 8) first ∙ low_bytes-mod 8 64 n (omega arith) in
    let middle : c.copy_from_slice-2.new.self ≡ low_bytes 8 (n / 2 ^ 64) =
    c.copy_from_slice-2.ensures.after ∙ c.to_le_bytes-2.ensures ∙ bytes_first 8 (c.args.low / 2 ^ 64)
    ∙ ap (low_bytes 8) second ∙ low_bytes-mod 8 64 (n / 2 ^ 64) (omega arith) in
    let high : c.copy_from_slice-3.new.self ≡ low_bytes 2 (n / 2 ^ 128) =
    c.copy_from_slice-3.ensures.after ∙ c.to_le_bytes-3.ensures ∙ bytes_first 2 c.args.high
    ∙ ap (low_bytes 2) third in
    rw (low, middle, high) (sym (low_bytes-append 16 2 n
    ∙ ap (λ bytes. bytes ++ low_bytes 2 (n / 2 ^ 128)) (low_bytes-append 8 8 n)))

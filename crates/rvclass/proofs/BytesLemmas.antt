-- The bytes at an address decide the word there.
use Rattle.std.proofs.Common.{◌≡◌, ℕ, ◌+◌, ◌*◌, ◌%◌, ◌^◌, ◌&&◌, ◌==◌, true, is_some, unwrap_or, sym, ◌∙◌}
use Rattle.rvclass.specs.FetchedBytes.{byte_at, half_at, has_bytes, word_at}
use Rattle.rvclass.proofs.WordsLemmas.{chosen, word_is}
use Rattle.rvclass.specs.Fetch.{is_compressed, is_longer, words_of}
use Rattle.rvclass.specs.Image.{Image}
use Rattle.rvclass.specs.Word16.{class16}
use Rattle.rvclass.specs.Word32.{class32}
use Rattle.rvclass.specs.declared.class.Class.TheVariants.{NotRetirable}

pub same_words : (m n : Image) → ((a : ℕ) → byte_at m a ≡ byte_at n a) → (addr : ℕ) → words_of m addr ≡ words_of n addr
same_words m n same addr =
    let half : (a : ℕ) → half_at m a ≡ half_at n a =
    (λ a i. unwrap_or (same a i) 0 + 2 ^ 8 * unwrap_or (same (a + 1) i) 0) in
    let word : word_at m addr ≡ word_at n addr = (λ i. half addr i + 2 ^ 16 * half (addr + 2) i) in
    let two : (a : ℕ) → has_bytes m a 2 ≡ has_bytes n a 2 =
    (λ a i. is_some (same a i) && (is_some (same (a + 1) i) && true)) in
    let four : has_bytes m addr 4 ≡ has_bytes n addr 4 =
    (λ i. is_some (same addr i) && (is_some (same (addr + 1) i) && two (addr + 1 + 1) i)) in
    word_is m addr
    ∙ (λ i. chosen (addr % 2 == 0) (two addr i) (is_compressed (half addr i)) (is_longer (half addr i)) (four i)
    (class16 addr (half addr i), 2) (NotRetirable, 2) (class32 addr (word i), 4))
    ∙ sym (word_is n addr)

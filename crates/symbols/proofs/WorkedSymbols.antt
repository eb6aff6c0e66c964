-- Names that were worked by hand, as the definition gives them.
use Rattle.std.proofs.Common.{◌≡◌, ℕ, List, [], ◌∷◌, ◌++◌, refl}
use Rattle.std.specs.Prelude.{codes}
use Rattle.std.specs.Fmt.{digits}
use Rattle.symbols.specs.SymbolText.{symbol_text}

-- The addresses are out of order, and two are equal. Four lines are no symbols: one has no address, one is of another
-- type, one begins with a blank, and one has no name. One line ends with a carriage return, and the last with nothing.
abbrev file : List ℕ
file =
    codes "80000020 W end\n"
    ++ (codes "0000000080000000 T start\n"
    ++ (codes "80000008 t first one" ++ (13 ∷ 10 ∷ codes "80000008 w second\n"
    ++ (codes "U elsewhere\n"
    ++ (codes "80000010 D data\n"
    ++ (codes " 80000010 T shifted\n"
    ++ (codes "80000004 T \n"
    ++ codes "8000000C t last two")))))))

below_all : symbol_text file 0x7fff_fffe ≡ []
unfolding digits
below_all = refl

at_its_address : symbol_text file 0x8000_0000 ≡ codes " <start+0>"
unfolding digits
at_its_address = refl

behind_it : symbol_text file 0x8000_0006 ≡ codes " <start+6>"
unfolding digits
behind_it = refl

of_equal_addresses_the_last : symbol_text file 0x8000_0008 ≡ codes " <second+0>"
unfolding digits
of_equal_addresses_the_last = refl

with_a_blank : symbol_text file 0x8000_001e ≡ codes " <last two+12>"
unfolding digits
with_a_blank = refl

far_behind_the_last : symbol_text file 0x8000_1020 ≡ codes " <end+1000>"
unfolding digits
far_behind_the_last = refl

without_its_return : symbol_text (codes "8 t one" ++ 13 ∷ []) 9 ≡ codes " <one+1>"
unfolding digits
without_its_return = refl

one_return_alone : symbol_text (codes "8 t one" ++ 13 ∷ 13 ∷ []) 9 ≡ codes " <one" ++ 13 ∷ codes "+1>"
unfolding digits
one_return_alone = refl

nothing_but_a_return : symbol_text (codes "8 t " ++ 13 ∷ 10 ∷ []) 9 ≡ []
unfolding digits
nothing_but_a_return = refl

two_blanks_behind_the_type : symbol_text (codes "8 t  one\n") 9 ≡ codes " < one+1>"
unfolding digits
two_blanks_behind_the_type = refl

two_blanks_before_the_type : symbol_text (codes "8  t one\n") 9 ≡ []
unfolding digits
two_blanks_before_the_type = refl

seventeen_digits : symbol_text (codes "00000000000000008 t one\n") 9 ≡ []
unfolding digits
seventeen_digits = refl

a_prefix : symbol_text (codes "0x8 t one\n") 9 ≡ []
unfolding digits
a_prefix = refl

-- Sizes are passed over, and bound nothing.
abbrev sized_file : List ℕ
sized_file = codes "80000000 00000010 T start\n" ++ codes "80000020 00000000ABCDEF08 t last two\n"

within_a_size : symbol_text sized_file 0x8000_0004 ≡ codes " <start+4>"
unfolding digits
within_a_size = refl

behind_a_size : symbol_text sized_file 0x8000_001f ≡ codes " <start+1f>"
unfolding digits
behind_a_size = refl

after_a_size_of_sixteen_digits : symbol_text sized_file 0x8000_0020 ≡ codes " <last two+0>"
unfolding digits
after_a_size_of_sixteen_digits = refl

a_size_of_seven_digits : symbol_text (codes "8 0000010 t one\n") 9 ≡ []
unfolding digits
a_size_of_seven_digits = refl

a_size_of_nine_digits : symbol_text (codes "8 000000010 t one\n") 9 ≡ []
unfolding digits
a_size_of_nine_digits = refl

eight_bytes_that_are_no_size : symbol_text (codes "8 0000001g t one\n") 9 ≡ []
unfolding digits
eight_bytes_that_are_no_size = refl

two_sizes : symbol_text (codes "8 00000010 00000010 t one\n") 9 ≡ []
unfolding digits
two_sizes = refl

a_size_and_no_type : symbol_text (codes "8 00000010 \n") 9 ≡ []
unfolding digits
a_size_and_no_type = refl

a_size_of_data : symbol_text (codes "8 00000010 D one\n") 9 ≡ []
unfolding digits
a_size_of_data = refl

a_dollar_in_front : symbol_text (codes "8 t $x\n") 9 ≡ []
unfolding digits
a_dollar_in_front = refl

a_size_and_a_dollar_in_front : symbol_text (codes "8 00000010 t $d.1\n") 9 ≡ []
unfolding digits
a_size_and_a_dollar_in_front = refl

a_dollar_inside : symbol_text (codes "8 t x$y\n") 9 ≡ codes " <x$y+1>"
unfolding digits
a_dollar_inside = refl

no_file : symbol_text [] 9 ≡ []
no_file = refl

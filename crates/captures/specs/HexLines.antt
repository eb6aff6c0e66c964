-- Messages as lines of hexadecimal.
use Rattle.std.specs.Prelude.{ℕ, List, ◌++◌, codes}
use Rattle.std.specs.Fmt.{decimal}
use Rattle.std.specs.List.{flat_map}
use Rattle.hex.specs.Hex.{encode_lower}
use Rattle.message.specs.declared.message.Message.{Message}

-- The hart, the number and the payload's bytes, two digits a byte, with spaces between them.
abbrev pub hex_line : Message → List ℕ
hex_line message =
    decimal message.hart ++
    (codes " " ++ (decimal message.number ++ (codes " " ++ (encode_lower message.payload ++ codes "\n"))))

-- The lines of messages, in order.
abbrev pub hex_text : List Message → List ℕ
hex_text messages = flat_map hex_line messages

-- The hart of a line is below 1,024.
use Rattle.std.proofs.Common.{◌≡◌, ◌<◌, ◌&&◌, ℕ, Bool, true, false, List, [], ◌∷◌, Option, Some, None, Result, Ok, Err}
use Rattle.std.proofs.Common.{arith, nat_lt, refl}
use Rattle.std.specs.Prelude.{if◌then◌else◌, not}
use Rattle.std.specs.Char.{is_digit}
use Rattle.std.specs.List.{list_all}
use Rattle.std.specs.Str.Parse.{digits_value}
use Rattle.std.proofs.lemmas.Bool.{ltb-true}
use Rattle.message.specs.Version.{most_harts}
use Rattle.message.specs.declared.header.Version.{Version}
use Rattle.message.specs.declared.header.Version.TheVariants.{One, Two}
use Rattle.captures.specs.Line.{are_filled, fields_of, is_over, is_passed_over, is_time, is_within}
use Rattle.captures.specs.Line.{line_by, line_of}
use Rattle.captures.specs.Line.{number_below, number_said, payload_of, said, some_line, with_hart, with_number}
use Rattle.captures.specs.Line.{with_payload, without_prefix}
use Rattle.captures.specs.declared.line_fault.LineFault.{LineFault}
use Rattle.captures.specs.declared.line_fault.LineFault.TheVariants.{Fields, Above}
use Rattle.captures.specs.declared.line_form.Form.{Form}
use Rattle.captures.specs.declared.line_form.Form.TheVariants.{Numbered, Counted}
use Rattle.captures.specs.declared.capture_line.Line.{Line}
use Rattle.captures.specs.declared.line_settings.Settings.{Settings}

-- If a line is said, its hart is below this.
abbrev pub HasHartBelow : ℕ → Result Line LineFault → Type 0
HasHartBelow limit (Ok line) = line.hart < limit
HasHartBelow limit (Err why) = Unit {0}

abbrev IsBelow : ℕ → Option ℕ → Type 0
IsBelow limit (Some n) = n < limit
IsBelow limit None = Unit {0}

tested : (limit n : ℕ) (digits below : Bool) → nat_lt n limit ≡ below
    → IsBelow limit (if digits && below then Some n else None)
tested limit n true true is = ltb-true n limit is
tested limit n true false is = tt
tested limit n false below is = tt

below : (limit : ℕ) (digits : List ℕ) → IsBelow limit (number_below limit digits)
below limit [] = tt
below limit (digit ∷ digits) =
    tested limit (digits_value 10 (digit ∷ digits)) (list_all (λ byte. is_digit byte 10) (digit ∷ digits))
    (nat_lt (digits_value 10 (digit ∷ digits)) limit) refl

few_harts : (version : Version) (hart : ℕ) → hart < most_harts version → hart < 1024
few_harts One hart under = omega (arith, under)
few_harts Two hart under = under

payload_known : (settings : Settings) (hart : ℕ) (number : Option ℕ) (payload : List ℕ) (within : Bool) → hart < 1024
    → HasHartBelow 1024
    (if within then Ok (record { hart = hart; number = number; payload = payload }) else Err Above)
payload_known settings hart number payload true under = under
payload_known settings hart number payload false under = tt

bytes_known : (settings : Settings) (hart : ℕ) (number : Option ℕ) (payload : Option (List ℕ)) → hart < 1024
    → HasHartBelow 1024 (with_payload settings hart number payload)
bytes_known settings hart number None under = tt
bytes_known settings hart number (Some payload) under =
    payload_known settings hart number payload (is_within settings.harts hart) under

number_known : (settings : Settings) (hart : ℕ) (number : Option (Option ℕ)) (bytes : List ℕ) → hart < 1024
    → HasHartBelow 1024 (with_number settings hart number bytes)
number_known settings hart None bytes under = tt
number_known settings hart (Some number) bytes under =
    bytes_known settings hart number (payload_of (without_prefix bytes)) under

hart_known : (settings : Settings) (hart : Option ℕ) (number : Option (List ℕ)) (bytes : List ℕ)
    → IsBelow (most_harts settings.version) hart → HasHartBelow 1024 (with_hart settings hart number bytes)
hart_known settings None number bytes under = tt
hart_known settings (Some hart) number bytes under =
    number_known settings hart (number_said settings.numbers number) bytes (few_harts settings.version hart under)

said_known : (settings : Settings) (hart : List ℕ) (number : Option (List ℕ)) (bytes : List ℕ)
    → HasHartBelow 1024 (said settings hart number bytes)
said_known settings hart number bytes =
    hart_known settings (number_below (most_harts settings.version) hart) number bytes
    (below (most_harts settings.version) hart)

tested_known : (b : Bool) (r : Result Line LineFault) → HasHartBelow 1024 r
    → HasHartBelow 1024 (if b then r else Err Fields)
tested_known true r known = known
tested_known false r known = tt

form_known : (settings : Settings) (form : Form) (fields : List (List ℕ))
    → HasHartBelow 1024 (line_by settings form fields)
form_known settings Counted [] = tt
form_known settings Counted (a ∷ []) = tt
form_known settings Counted (a ∷ b ∷ more) =
    tested_known (are_filled (a ∷ b ∷ []) && is_over more) (said settings a None b) (said_known settings a None b)
form_known settings Numbered [] = tt
form_known settings Numbered (a ∷ []) = tt
form_known settings Numbered (a ∷ b ∷ []) = tt
form_known settings Numbered (a ∷ b ∷ c ∷ more) =
    tested_known (are_filled (a ∷ b ∷ c ∷ []) && (not (is_time c) && is_over more)) (said settings a (Some b) c)
    (said_known settings a (Some b) c)

-- If a line says something, its hart is below this.
abbrev pub HasHartIfTold : ℕ → Result (Option Line) LineFault → Type 0
HasHartIfTold limit (Ok None) = Unit {0}
HasHartIfTold limit (Ok (Some line)) = line.hart < limit
HasHartIfTold limit (Err why) = Unit {0}

some_known : (passed : Bool) (r : Result Line LineFault) → HasHartBelow 1024 r
    → HasHartIfTold 1024 (if passed then Ok None else some_line r)
some_known true r known = tt
some_known false (Ok line) known = known
some_known false (Err why) known = tt

pub line_known : (settings : Settings) (form : Form) (line : List ℕ) → HasHartIfTold 1024 (line_of settings form line)
line_known settings form line =
    some_known (is_passed_over line) (line_by settings form (fields_of line)) (form_known settings form
    (fields_of line))

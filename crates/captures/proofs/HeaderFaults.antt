-- Why bytes begin with no header.
use Rattle.std.proofs.Common.{◌≡◌, ◌⊎◌, ◌++◌, ℕ, List, inl, inr, sym, subst, ap, length, arith}
use Rattle.message.specs.Header.{HasBadHeader, IsCutHeader, IsHeader, IsMarked, header_bytes}
use Rattle.message.specs.declared.fault.MessageFault.{MessageFault}
use Rattle.message.specs.declared.fault.MessageFault.TheVariants as fault
use Rattle.message.specs.declared.header.Header.{Header}
use Rattle.captures.specs.NoMessage.{BeginsNoHeader}

-- The fault of a header says why.
pub no_header : (bytes : List ℕ) (why : MessageFault) → (why ≡ fault.Short) ⊎ (why ≡ fault.BadHeader)
    → (why ≡ fault.Short → IsCutHeader bytes) → (why ≡ fault.BadHeader → HasBadHeader bytes)
    → BeginsNoHeader bytes why
no_header bytes why (inl short) cut bad = subst (BeginsNoHeader bytes) (sym short) (cut short)
no_header bytes why (inr header) cut bad = subst (BeginsNoHeader bytes) (sym header) (bad header)

-- Bytes that begin with no header begin with the mark all the same.
pub marked_by : (bytes : List ℕ) (why : MessageFault) → BeginsNoHeader bytes why → IsMarked bytes
marked_by bytes fault.Short cut = cut.marked
marked_by bytes fault.BadHeader bad = bad.marked
marked_by bytes fault.BadLength none = absurd none
marked_by bytes fault.Read none = absurd none
marked_by bytes fault.Write none = absurd none

-- Bytes that begin with a header do not begin with none.
pub has_header : (header : Header) (rest bytes : List ℕ) (why : MessageFault) → IsHeader header
    → bytes ≡ header_bytes header ++ rest → BeginsNoHeader bytes why → ⊥
has_header header rest bytes fault.Short is begins cut =
    let few = cut.few in let size = ap length begins in omega (arith, few, size)
has_header header rest bytes fault.BadHeader is begins bad = bad.none header rest is begins
has_header header rest bytes fault.BadLength is begins none = none
has_header header rest bytes fault.Read is begins none = none
has_header header rest bytes fault.Write is begins none = none

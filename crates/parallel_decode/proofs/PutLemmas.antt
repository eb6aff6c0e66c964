-- Text that is written, and more behind it.
use Rattle.std.proofs.Common.{◌≡◌, ◌∙◌, ℕ, List, ◌++◌, Option, Ok, Err, Result, IfErr, OnOk, subst, sym}
use Rattle.std.proofs.KnownBytes.{Appends-trans}
use Rattle.std.specs.Io.KnownBytes.{Appends}
use Rattle.output.proofs.Beginnings.{begun_behind, begun_in_front, whole_begun}
use Rattle.output.specs.Begun.{AppendsBeginning}
use Rattle.retire.specs.Split.{Split}
use Rattle.retire.specs.declared.fault.WriteFault.{WriteFault}
use Rattle.retire.specs.declared.fault.WriteFault.TheVariants as fault
use Rattle.parallel_decode.specs.Put.{IsPut}

-- A text was written behind another.
pub put_behind : (ended : Result Unit WriteFault) (old mid new : Option (List ℕ)) (front back : List ℕ)
    → Appends old mid front → IsPut ended mid new back → IsPut ended old new (front ++ back)
put_behind (Ok _) old mid new front back first put = Appends-trans old mid new front back first put
put_behind (Err why) old mid new front back first put =
    (begun_behind front back old mid new first put.0, put.1)

-- Where writing failed, a prefix of any text that goes on was written.
pub put_in_front : (why : WriteFault) (old new : Option (List ℕ)) (front back : List ℕ)
    → IsPut (Err why) old new front → IsPut (Err why) old new (front ++ back)
put_in_front why old new front back put = (begun_in_front front back old new put.0, put.1)

-- At Ok the text was written.
pub put_whole : (ended : Result Unit WriteFault) (old new : Option (List ℕ)) (text : List ℕ) → IsPut ended old new text
    → OnOk ended (Appends old new text)
put_whole (Ok _) old new text put = put
put_whole (Err why) old new text put = tt

-- Writing does not fail for want of memory.
pub put_never_memory : (ended : Result Unit WriteFault) (old new : Option (List ℕ)) (text : List ℕ)
    → IsPut ended old new text → ended ≡ Err fault.Memory → ⊥
put_never_memory (Ok _) old new text put memory = absurd cc
put_never_memory (Err why) old new text put memory =
    let write = put.1 in
    let is : why ≡ fault.Memory = cc in
    absurd (cc (sym write ∙ is))

-- A call that appends bytes, or fails after a prefix, puts them.
pub put_of : (ended : Result Unit WriteFault) (old new : Option (List ℕ)) (text : List ℕ)
    → OnOk ended (Appends old new text) → AppendsBeginning text old new → IfErr ended (λ why. why ≡ fault.Write)
    → IsPut ended old new text
put_of (Ok _) old new text whole begun write = whole
put_of (Err why) old new text whole begun write = (begun, write)

-- What was held is written too.
pub put_held : (ended : Result Unit WriteFault) (old mid new : Option (List ℕ)) (held text : List ℕ)
    → Split old mid held text → IsPut ended mid new held → IsPut ended old new text
put_held ended old mid new held text (written, got, whole) put =
    subst (IsPut ended old new) whole (put_behind ended old mid new written held got put)

-- A prefix was written in any case.
pub put_begun : (ended : Result Unit WriteFault) (old new : Option (List ℕ)) (text : List ℕ) → IsPut ended old new text
    → AppendsBeginning text old new
put_begun (Ok _) old new text put = whole_begun text old new put
put_begun (Err why) old new text put = put.0

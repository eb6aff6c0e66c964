-- Each status is above the one before it, so no two of them are the same.
use Rattle.std.proofs.Common.{◌≡◌, ℕ, Bool, true, List, [], ◌∷◌, ◌&&◌, nat_lt, refl}
use Rattle.ffi.specs.declared.status.TheConstants as status

abbrev ascend : ℕ → List ℕ → Bool
ascend least [] = true
ascend least (one ∷ more) = nat_lt least one && ascend one more

statuses_ascend : ascend status.DONE
    (status.TOO_SMALL ∷ status.MEMORY ∷ status.OUT_OF_RANGE ∷ status.BAD_ENDS ∷ status.SHORT ∷
    status.BAD_LENGTH ∷ status.UNREAD ∷ status.UNWRITTEN ∷ status.BAD_HEADER ∷ status.EMPTY ∷ status.TOO_LONG ∷
    status.BAD_PAD ∷ status.UNSUPPORTED ∷ status.BAD_PRIVILEGE ∷ status.BAD_REPORT ∷ status.NO_PACKET ∷
    status.ODD_BASE ∷ status.TOO_LARGE ∷ status.PAST_END ∷ status.OVERLAP ∷ status.TOO_MUCH ∷ status.TOO_MANY_PIECES ∷
    status.NOT_SORTED ∷ status.WRONG_HEADER ∷ status.WRONG_FIELDS ∷ status.NO_NUMBER ∷ status.ODD_ADDRESS ∷
    status.WRONG_ROW_TYPE ∷ status.WRONG_ROW_PRIVILEGE ∷ status.LARGE_CAUSE ∷ status.WRONG_TRAP_FIELDS ∷
    status.VALUED_INTERRUPT ∷ status.TOO_MANY_ROWS ∷ status.OFF_PROGRAM ∷ status.NOT_RETIRABLE ∷ status.WRONG_TYPE ∷
    status.WRONG_NEXT ∷ status.WRONG_PRIVILEGE ∷ status.WRONG_EPC ∷ status.STRANGER ∷ status.REPEAT ∷ status.GAP ∷
    status.AFTER_CLOSE ∷ status.OTHER_MODE ∷ status.NOT_OPENED ∷ status.WALKS_OFF_PROGRAM ∷ status.MISSED_NOTIFY ∷
    status.WRONG_BRANCHES ∷ status.WRONG_PLACE ∷ status.WALKS_AT_WRONG_PRIVILEGE ∷ status.AFTER_CLOSING_PACKET ∷
    status.BAD_STATE ∷ status.NO_EVENT ∷ status.BAD_BEFORE ∷ status.LINE_FIELDS ∷ status.LINE_HART_ONE ∷
    status.LINE_HART_TWO ∷ status.LINE_NUMBER ∷ status.LINE_BYTES ∷ status.LINE_ABOVE ∷ status.NO_SYMBOL ∷
    status.SYMBOLS_TOO_LARGE ∷ status.UNEQUAL_COUNTS ∷ []) ≡ true
statuses_ascend = refl

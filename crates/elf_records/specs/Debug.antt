-- HDRR, the symbolic header of .mdebug (MIPS debug documentation, "Symbolic Header"): two halves and 23 words, 96 bytes.
use Rattle.std.specs.Prelude.{ℕ, List, [], ◌∷◌, get_or, drop}
use Rattle.base_fields.specs.declared.ByteOrder.{ByteOrder}
use Rattle.base_fields.specs.Layouts.{fields_at, record_bytes}
use Rattle.elf_records.specs.declared.debug.Hdrr.{Hdrr}

-- magic, vstamp; then the words ilineMax, cbLine, cbLineOffset, idnMax, cbDnOffset, ipdMax, cbPdOffset, isymMax, cbSymOffset, ioptMax,
-- cbOptOffset, iauxMax, cbAuxOffset, issMax, cbSsOffset, issExtMax, cbSsExtOffset, ifdMax, cbFdOffset, crfd, cbRfdOffset, iextMax, cbExtOffset
unfoldable pub debug_layout : List ℕ
debug_layout = 2 ∷ 2 ∷ 4 ∷ 4 ∷ 4 ∷ 4 ∷ 4 ∷ 4 ∷ 4 ∷ 4 ∷ 4 ∷ 4 ∷ 4 ∷ 4 ∷ 4 ∷ 4 ∷ 4 ∷ 4 ∷ 4 ∷ 4 ∷ 4 ∷ 4 ∷ 4 ∷ 4 ∷ 4 ∷ []

unfoldable pub debug_from : List ℕ → Hdrr
debug_from v = record { magic = get_or v 0 0; vstamp = get_or v 1 0; words = drop 2 v }

unfoldable pub debug_fields : Hdrr → List ℕ
debug_fields h = h.magic ∷ h.vstamp ∷ h.words

-- the header at o, and the bytes of a header
unfoldable pub debug_at : ByteOrder → List ℕ → ℕ → Hdrr
debug_at order l o = debug_from (fields_at order debug_layout l o)

unfoldable pub debug_bytes : ByteOrder → Hdrr → List ℕ
debug_bytes order h = record_bytes order debug_layout (debug_fields h)

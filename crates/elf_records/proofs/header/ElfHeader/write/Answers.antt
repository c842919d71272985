-- `ElfHeader::write` meets its contract: the identification, two halves, five words and six halves, each right behind the one before, are the
-- bytes of the header.
-- Assumes nothing.
use native.Mathlib.Omega.{arith}
use Prim.Native.Nat.{ℕ, zero, suc, ◌<◌}
use mathlib.Core.Path.{◌≡◌}
use mathlib.Core.List.{[], ◌∷◌}
use lib.ListN.{length, get_or}
use Rattle.elf_records.proofs.Writes.{elf_written}
use Rattle.elf_records.proofs.header.ElfHeader.write.Goals as goal
use Rattle.elf_records.proofs.header.ElfHeader.write.Goals.{Start}

-- what owning the header tells of its array
long : (c : Start) → length c.args.self.e_ident ≡ 16
long c = c.well_formed.0.1.1.0.1.0.1

-- every element of a list of two, or of six, is below 2 ^ 16
two : (a b : ℕ) → a < 65536 → b < 65536 → (i : ℕ) → i < 2 → get_or (a ∷ b ∷ []) i 0 < 65536
two a b p q zero h = p
two a b p q (suc zero) h = q
two a b p q (suc (suc i)) h = absurd (omega arith)

six : (a b c d e f : ℕ) → a < 65536 → b < 65536 → c < 65536 → d < 65536 → e < 65536 → f < 65536
    → (i : ℕ) → i < 6 → get_or (a ∷ b ∷ c ∷ d ∷ e ∷ f ∷ []) i 0 < 65536
six a b c d e f p q r s t u zero h = p
six a b c d e f p q r s t u (suc zero) h = q
six a b c d e f p q r s t u (suc (suc i)) h = four i (omega arith)
  where
    four : (i : ℕ) → i < 4 → get_or (c ∷ d ∷ e ∷ f ∷ []) i 0 < 65536
    four zero h = r
    four (suc zero) h = s
    four (suc (suc i)) h = two e f t u i (omega arith)

pub write_bytes-requires : goal.write_bytes-requires
write_bytes-requires c = omega (arith, long (goal.at.write_bytes-requires c).Start)

pub write_halves-requires : goal.write_halves-requires
write_halves-requires c =
    let h = c.requires.1 in
    (omega arith, two _ _ h.type h.machine)

pub write_halves-requires-2 : goal.write_halves-requires-2
write_halves-requires-2 c =
    let h = c.requires.1 in
    (omega arith, six _ _ _ _ _ _ h.ehsize h.phentsize h.phnum h.shentsize h.shnum h.shstrndx)

pub returns : goal.returns
returns c =
    let a = c.args in
    elf_written a.order a.self a.s.now a.at _ _ _ _ (long (goal.at.returns c).Start) c.requires.0
    c.write_bytes.ensures
    c.write_halves.ensures
    c.write_words.ensures
    c.write_halves-2.ensures

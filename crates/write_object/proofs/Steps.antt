-- What each step writes: a part of the output put back, a section that moves or stays, and a section behind its zeros. Assumes nothing.
use Prim.Native.Nat.{ℕ, ◌+◌, ◌-◌, ◌≤◌, ◌<◌}
use mathlib.Core.Path.{◌≡◌, sym, ap, ◌∙◌}
use mathlib.Core.Bool.{true, false, not}
use mathlib.Core.List.{List, ◌++◌}
use native.Mathlib.Omega.{arith}
use lib.ListN.{length, take, drop, get_or}
use lib.Seq.{drop-drop}
use lib.Dec.{eqb, leb}
use borrow.Author.Tests.{eq-eqb, ne_eqb, eqb-true, eqb-false, leb-true, not-false}
use Rattle.base_lists.specs.Windows.{spliced}
use Rattle.base_lists.specs.Records.{flat}
use Rattle.base_lists.proofs.Records.{length_flat}
use Rattle.base_lists.proofs.Ranges.{by-test, and_parts}
use Rattle.base_lists.proofs.Windows.{length_part, length_spliced, within_take, within_spliced, within_read, spliced_same, spliced_then, spliced_over}
use Rattle.base_buffers.specs.Buffers.{zeros}
use Rattle.base_buffers.proofs.Buffers.{length_zeros}
use Rattle.base_fields.specs.declared.ByteOrder.{ByteOrder}
use Rattle.base_fields.specs.Numbers.{number, encoded}
use Rattle.base_fields.specs.Layouts.{fields_from}
use Rattle.base_fields.proofs.Numbers.{length_encoded, number_lt}
use Rattle.base_scope.specs.Elf.{SHT_NULL, SHT_NOBITS, SHT_MIPS_DEBUG}
use Rattle.elf_records.specs.declared.section.SectionHeader.{SectionHeader}
use Rattle.elf_records.specs.Debug.{debug_at}
use Rattle.elf_records.specs.Header.{elf_layout, elf_from, elf_at, HalfFields}
use Rattle.elf_readers.specs.Readers.{header}
use Rattle.statics_shift.proofs.Shift.{length_moved}
use Rattle.statics_shift.specs.Shift.{HEADER_SIZE, moved_words, moved_debug, has_header, shift_fails}
use Rattle.write_object.specs.Object.{has_place}
use Rattle.write_object.specs.Steps.{front_with, size_with, moves_words, moved_bytes, padded_section}

-- ---- which sections have a place

module _ (h : SectionHeader) where
  pub place_null : h.sh_type ≡ SHT_NULL → false ≡ has_place h
  unfolding has_place
  place_null e = rw (eq-eqb h.sh_type SHT_NULL e)

  pub place_other : (h.sh_type ≡ SHT_NULL → ⊥) → not (eqb h.sh_type SHT_NOBITS) ≡ has_place h
  unfolding has_place
  place_other n = rw (ne_eqb h.sh_type SHT_NULL n)

  -- ---- the size that its header states

  pub size_nobits : (bytes : ℕ) → h.sh_type ≡ SHT_NOBITS → h.sh_size ≡ size_with h bytes
  unfolding size_with
  size_nobits bytes e = rw (eq-eqb h.sh_type SHT_NOBITS e)

  pub size_held : (bytes : ℕ) → (h.sh_type ≡ SHT_NOBITS → ⊥) → bytes ≡ size_with h bytes
  unfolding size_with
  size_held bytes n = rw (ne_eqb h.sh_type SHT_NOBITS n)

-- ---- a part of the output

-- a part put back in its place is written there
pub part_put : (l part : List ℕ) (a k : ℕ) → length part ≡ k → take a l ++ (part ++ drop k (drop a l)) ≡ spliced l a part
unfolding spliced
part_put l part a k e = rw (drop-drop k a l, e)

pub gap_put : (l part : List ℕ) (from to k : ℕ) → from ≤ to → to ≤ length l → k ≡ to - from → part ≡ zeros (length (take k (drop from l)))
    → take from l ++ (part ++ drop k (drop from l)) ≡ spliced l from (zeros (to - from))
gap_put l part from to k h g e z =
    let n : length (take k (drop from l)) ≡ k = length_part l from k (omega (arith, h, g, e)) in
    let q : part ≡ zeros (to - from) = z ∙ ap zeros (n ∙ e) in
    part_put l part from k (ap length (z ∙ ap zeros n) ∙ length_zeros k) ∙ ap (spliced l from) q

-- ---- a section that moves

moved_long : (o : ByteOrder) (D : List ℕ) (old new : ℕ) → HEADER_SIZE ≤ length D → length (moved_debug o D old new) ≡ length D
unfolding moved_debug
moved_long o D old new h =
    let w = moved_words (debug_at o D 0).words old new in
    let n = length_flat (encoded o 4) 4 (length_encoded o 4) w in
    let m = length_moved (debug_at o D 0).words old new in
    length_spliced D 4 (flat (encoded o 4) w) (omega (arith, n, m, h))

has_long : (o : ByteOrder) (D : List ℕ) → has_header o D ≡ true → HEADER_SIZE ≤ length D
unfolding has_header
has_long o D t = leb-true HEADER_SIZE (length D) (and_parts (leb HEADER_SIZE (length D)) _ t).0

module _ (o : ByteOrder) (type : ℕ) (D : List ℕ) (old new : ℕ) where
  pub moved_other : (type ≡ SHT_MIPS_DEBUG → ⊥) → moved_bytes o type D old new ≡ D
  unfolding moved_bytes moves_words
  moved_other n = rw (ne_eqb type SHT_MIPS_DEBUG n)

  pub moved_still : type ≡ SHT_MIPS_DEBUG → old ≡ new → moved_bytes o type D old new ≡ D
  unfolding moved_bytes moves_words
  moved_still e s = rw (eq-eqb type SHT_MIPS_DEBUG e, eq-eqb old new s)

  module _ (e : type ≡ SHT_MIPS_DEBUG) (n : old ≡ new → ⊥) where
    pub moved_words_lem : moved_bytes o type D old new ≡ moved_debug o D old new
    unfolding moved_bytes moves_words
    moved_words_lem = rw (eq-eqb type SHT_MIPS_DEBUG e, ne_eqb old new n)

    pub moved_header : shift_fails o D type old new ≡ false → HEADER_SIZE ≤ length D
    unfolding shift_fails
    moved_header f =
        let g : not (has_header o D) ≡ false = rw (eq-eqb type SHT_MIPS_DEBUG e, ne_eqb old new n) at f in
        has_long o D (not-false (has_header o D) g)

  pub moved_bytes_long : shift_fails o D type old new ≡ false → length (moved_bytes o type D old new) ≡ length D
  moved_bytes_long f = by-test (eqb type SHT_MIPS_DEBUG)
      (λ t. by-test (eqb old new)
      (λ s. ap length (moved_still (eqb-true type SHT_MIPS_DEBUG t) (eqb-true old new s)))
      (λ d.
      let e = eqb-true type SHT_MIPS_DEBUG t in
      let n = eqb-false old new d in
      ap length (moved_words_lem e n) ∙ moved_long o D old new (moved_header e n f)))
      (λ d. ap length (moved_other (eqb-false type SHT_MIPS_DEBUG d)))

-- the output after a move: a section that keeps its bytes, and one whose part was moved
module _ (o : ByteOrder) (type : ℕ) (l : List ℕ) (start size old new : ℕ) (room : start + size ≤ length l) where
  abbrev D : List ℕ
  D = take size (drop start l)

  pub kept_there : moved_bytes o type D old new ≡ D → l ≡ spliced l start (moved_bytes o type D old new)
  kept_there e = rw e (sym (spliced_same l start D (within_take l start size room)))

  pub moved_there : (part : List ℕ) (k : ℕ) → type ≡ SHT_MIPS_DEBUG → (old ≡ new → ⊥) → shift_fails o D type old new ≡ false → k ≡ size
      → part ≡ moved_debug o (take k (drop start l)) old new → take start l ++ (part ++ drop k (drop start l)) ≡ spliced l start (moved_bytes o type D old new)
  moved_there part k e n f q is =
      let m : part ≡ moved_bytes o type D old new = is ∙ ap (λ (j : ℕ). moved_debug o (take j (drop start l)) old new) q ∙ sym (moved_words_lem o type D old new e n) in
      let long : length part ≡ k = ap length m ∙ moved_bytes_long o type D old new f ∙ length_part l start size room ∙ sym q in
      part_put l part start k long ∙ ap (spliced l start) m

-- ---- a section behind its zeros

module _ (o : ByteOrder) (h : SectionHeader) (D l : List ℕ) (end start : ℕ) (low : end ≤ start) (room : start + length D ≤ length l)
    (fine : shift_fails o D h.sh_type h.sh_offset start ≡ false) where
  gap_long : length (zeros (start - end)) ≡ start - end
  gap_long = length_zeros (start - end)

  pub gap_keeps : length (spliced l end (zeros (start - end))) ≡ length l
  gap_keeps = length_spliced l end (zeros (start - end)) (omega (arith, low, room, gap_long))

  -- what was copied is what stands there
  pub copied_there : (m : List ℕ) → m ≡ spliced (spliced l end (zeros (start - end))) start D → take (length D) (drop start m) ≡ D
  copied_there m e = rw e (within_read D _ start (within_spliced (spliced l end (zeros (start - end))) start D (omega (arith, room, gap_keeps))))

  pub section_put : (a b c : List ℕ) → a ≡ spliced l end (zeros (start - end)) → b ≡ spliced a start D
      → c ≡ spliced b start (moved_bytes o h.sh_type (take (length D) (drop start b)) h.sh_offset start) → c ≡ spliced l end (padded_section o h D end start)
  unfolding padded_section
  section_put a b c ea eb ec =
      let g = spliced l end (zeros (start - end)) in
      let b-is : b ≡ spliced g start D = eb ∙ ap (λ (x : List ℕ). spliced x start D) ea in
      let M = moved_bytes o h.sh_type D h.sh_offset start in
      let long : length M ≡ length D = moved_bytes_long o h.sh_type D h.sh_offset start fine in
      ec
      ∙ ap (λ (x : List ℕ). spliced b start (moved_bytes o h.sh_type x h.sh_offset start)) (copied_there b b-is)
      ∙ ap (λ (x : List ℕ). spliced x start M) b-is
      ∙ spliced_over g start D M (omega (arith, long)) (omega (arith, long, room, gap_keeps))
      ∙ spliced_then l end (zeros (start - end)) M start (omega (arith, low, gap_long)) (omega (arith, long, room))

-- ---- the file header

module _ (o : ByteOrder) (F : List ℕ) (bytes : (i : ℕ) → get_or F i 0 < 256) (shoff many : ℕ) (small : many < 65536) where
  half : (k : ℕ) → number o 2 F k < 65536
  half k = number_lt o 2 F k bytes

  -- its fields of two bytes fit
  pub half_fields : HalfFields (front_with (header o F) shoff many)
  unfolding front_with header elf_at elf_from elf_layout fields_from
  half_fields = record {
    type = half 16;
    machine = half 18;
    ehsize = half 40;
    phentsize = half 42;
    phnum = half 44;
    shentsize = half 46;
    shnum = small;
    shstrndx = half 50;
  }

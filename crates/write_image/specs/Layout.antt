-- Where the sections of the written object stand (000, the writer; gABI, "Sections"): one behind the other from 52, the end of the file header, on, each at the next multiple of its
-- sh_addralign; sections of type 8 and 0 have no place. The section headers follow at the next multiple of 4.
use Rattle.std.specs.Prelude.{ℕ, zero, suc, ◌+◌, ◌-◌, ◌*◌, ◌/◌, Bool, cond, eqb}

-- the next multiple of an alignment; 0 and 1 ask for none
unfoldable pub aligned_to : ℕ → ℕ → ℕ
aligned_to end align = cond (eqb align 0) end ((end + (align - 1)) / align * align)

abbrev pub HEADER_END : ℕ
HEADER_END = 52

abbrev pub HEADING_SIZE : ℕ
HEADING_SIZE = 40

-- sections by their index: which have a place, how many bytes they hold, their sh_addralign
pub record Layout : Type 0 where
  pub many : ℕ
  pub placed : ℕ → Bool
  pub size : ℕ → ℕ
  pub align : ℕ → ℕ

module _ (l : Layout) where
  -- the end of the sections before section i, and where section i starts
  unfoldable pub end_before : ℕ → ℕ
  end_before zero = HEADER_END
  end_before (suc i) = cond (l.placed i) (aligned_to (end_before i) (l.align i) + l.size i) (end_before i)

  unfoldable pub start_of : ℕ → ℕ
  start_of i = aligned_to (end_before i) (l.align i)

  -- e_shoff, and the length of the object
  unfoldable pub headings_at : ℕ
  headings_at = aligned_to (end_before l.many) 4

  unfoldable pub image_length : ℕ
  image_length = headings_at + HEADING_SIZE * l.many

-- Two small objects and a block, by computing the definitions: C has g, and its strings are 20 bytes; A has foo at .text 8, a glabel of the block, whose span has 4 bytes, with
-- st_info 10 hex and st_other 83 hex. Assumes nothing.
use Prim.Native.Nat.{ℕ}
use mathlib.Core.Path.{◌≡◌, refl}
use mathlib.Core.Bool.{true}
use mathlib.Core.List.{List, [], ◌∷◌}
use Rattle.base_fields.specs.declared.ByteOrder.TheVariants.{Big}
use Rattle.base_scope.specs.Text.{text}
use Rattle.elf_records.specs.declared.symbol.SymbolEntry.{SymbolEntry}
use Rattle.elf_samples.specs.Samples.{symbol_object}
use Rattle.blocks_places.specs.Places.{Place, nowhere}
use Rattle.symbols_ids.specs.Entries.{finished, late_place, is_placed_a, section_a, value_a, is_glabel_a, type_a, size_a, entry_a}
use Rattle.symbols_ids.specs.Ids.{first_a, first_static, by_origin, entry_static, name_of, entry_of}
use Rattle.symbols_ids.proofs.Everything.{everything}

abbrev C : List ℕ
C = symbol_object 2 (0 ∷ 0 ∷ 0 ∷ 0 ∷ 9 ∷ 4 ∷ 0 ∷ 0x10000001 ∷ [])

abbrev A : List ℕ
A = symbol_object 2 (0 ∷ 0 ∷ 0 ∷ 0 ∷ 13 ∷ 8 ∷ 0 ∷ 0x10830001 ∷ [])

abbrev file : List ℕ
file = text "desc=\ntext=a 4 0\ndata=\nrodata=\nbss=\nglabel=foo\njtbl=0\nend=\n"

abbrev places : List Place
places = record { taken = true; at = 8 } ∷ nowhere ∷ nowhere ∷ nowhere ∷ []

-- ids 0 and 1 are C's, 2 and 3 A's
pub third_name : name_of Big C A [] 3 ≡ text "foo"
unfolding everything name_of by_origin first_a first_static
third_name = refl

-- foo: its name moves behind C's 20 bytes of strings, its type is 2, its size 4, and two bits of st_other stay
pub third_entry : entry_of Big C A places file 0 [] 3
    ≡ record { st_name = 33; st_value = 8; st_size = 4; st_info = 0x12; st_other = 3; st_shndx = 1 }
unfolding everything entry_of name_of by_origin first_a first_static entry_static finished entry_a section_a value_a is_placed_a is_glabel_a type_a size_a late_place
third_entry = refl

-- g as it was
pub first_entry : entry_of Big C A places file 0 [] 1
    ≡ record { st_name = 9; st_value = 4; st_size = 0; st_info = 0x10; st_other = 0; st_shndx = 1 }
unfolding everything entry_of name_of by_origin first_a first_static entry_static finished entry_a section_a value_a is_placed_a is_glabel_a type_a size_a late_place
first_entry = refl

-- `_gp_disp` of type 0 gets type 1
abbrev untyped : SymbolEntry
untyped = record { st_name = 1; st_value = 0; st_size = 0; st_info = 0x10; st_other = 0; st_shndx = 0 }

pub gp_disp_lem : (finished (text "_gp_disp") untyped).st_info ≡ 0x11
unfolding everything finished
gp_disp_lem = refl

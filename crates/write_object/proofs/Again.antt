-- An object that was written again holds the sections of the file, under their names. Assumes nothing.
use Rattle.std.specs.Prelude.{None}
use Prim.Native.Nat.{ℕ, ◌<◌}
use mathlib.Core.Path.{◌≡◌, refl, ◌∙◌}
use mathlib.Core.Bool.{true, false}
use mathlib.Core.List.{List}
use Rattle.base_fields.specs.declared.ByteOrder.{ByteOrder}
use Rattle.elf_readers.specs.Readers.{header, section_count, section, contents, section_strings, section_name}
use Rattle.write_object.specs.Object.{has_place, is_moved_debug, moved_finding}
use Rattle.write_object.specs.Own.{own_plan, own_object}
use Rattle.write_object.proofs.Content.{content_kept}
use Rattle.write_object.proofs.ReadBack.{count_back, contents_back, name_back}
use Rattle.write_object.proofs.Own.{own_ident}

module _ (o : ByteOrder) (F : List ℕ) (clear : moved_finding (own_plan o F) o ≡ None) where
  pub count_again : section_count o (own_object o F) ≡ section_count o F
  unfolding own_object own_plan
  count_again = count_back (own_plan o F) o (header o F) (own_ident o F) clear

  -- a section that is placed and moves no words
  pub contents_again : (i : ℕ) → i < section_count o F → has_place (section o F i) ≡ true → is_moved_debug (own_plan o F) i ≡ false → contents o (own_object o F) i ≡ contents o F i
  unfolding own_object own_plan
  contents_again i below placed still = contents_back (own_plan o F) o (header o F) (own_ident o F) clear i below placed ∙ content_kept (own_plan o F) o i still

  -- where the names' table is one
  pub name_again : (header o F).e_shstrndx < section_count o F → has_place (section o F (header o F).e_shstrndx) ≡ true
      → is_moved_debug (own_plan o F) (header o F).e_shstrndx ≡ false → (i : ℕ) → i < section_count o F → section_name o (own_object o F) i ≡ section_name o F i
  unfolding own_object own_plan section_name section_strings
  name_again there placed still i below = name_back (own_plan o F) o (header o F) (own_ident o F) clear (header o F).e_shstrndx refl there placed still i below

-- The law of the symbols of statics: a section in the view of C is the one of the code. Assumes nothing.
use mathlib.Core.Path.{◌≡◌, ap}
use mathlib.Core.List.{List}
use Prim.Native.Nat.{ℕ, ◌≤◌}
use Rattle.base_fields.specs.declared.ByteOrder.{ByteOrder}
use Rattle.base_scope.specs.Codes.{CODES}
use Rattle.elf_check.specs.declared.View.{View}
use Rattle.elf_check.specs.View.{view_of, section_in}
use Rattle.elf_check.proofs.Views.{view_section}
use Rattle.statics_table.specs.declared.Static.{Static}
use Rattle.statics_symbols.specs.Entries.{symbol_of_static, static_symbol}

-- with the view of C the symbol is that of the definition
pub static_symbol_lem : (o : ByteOrder) (C : List ℕ) (v : View) (mode base : ℕ) (s : Static) → v ≡ view_of o C → 1 ≤ s.code → s.code ≤ CODES
    → symbol_of_static (section_in v s.code) mode base s ≡ static_symbol o C mode base s
unfolding static_symbol
static_symbol_lem o C v mode base s e low high = ap (λ (x : ℕ). symbol_of_static x mode base s) (view_section o C v e s.code low high)

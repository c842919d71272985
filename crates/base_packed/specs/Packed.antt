-- Numbers that share a word: r_info, st_info, st_other (gABI, "Relocation" and "Symbol Table"), and an offset that moves with its section.
use Rattle.std.specs.Prelude.{ℕ, ◌+◌, ◌-◌, ◌*◌, ◌/◌, ◌%◌, ◌^◌}

-- ELF32_R_SYM, ELF32_R_TYPE and ELF32_R_INFO: the symbol index stands above bit 8, the kind below
abbrev pub symbol_of : ℕ → ℕ
symbol_of info = info / 2 ^ 8

abbrev pub kind_of : ℕ → ℕ
kind_of info = info % 2 ^ 8

abbrev pub relocation_info : ℕ → ℕ → ℕ
relocation_info symbol kind = symbol * 2 ^ 8 + kind

-- ELF32_ST_BIND, ELF32_ST_TYPE and ELF32_ST_INFO: the binding is the high four bits, the type the low four
abbrev pub binding_of : ℕ → ℕ
binding_of info = info / 2 ^ 4

abbrev pub type_of : ℕ → ℕ
type_of info = info % 2 ^ 4

abbrev pub symbol_info : ℕ → ℕ → ℕ
symbol_info binding type = binding * 2 ^ 4 + type

-- document 01, "Symbols": st_other is its low two bits
abbrev pub visibility_of : ℕ → ℕ
visibility_of other = other % 2 ^ 2

-- document 01, "Statics": an offset moves by the difference of its section's places, modulo 2 ^ 32
abbrev pub shifted : ℕ → ℕ → ℕ → ℕ
shifted offset old new = (offset + (new + 2 ^ 32 - old)) % 2 ^ 32

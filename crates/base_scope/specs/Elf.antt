-- Constants of the gABI and of the MIPS supplement, by their names there.
use Rattle.std.specs.Prelude.{ℕ}

-- e_ident
abbrev pub EI_DATA : ℕ
EI_DATA = 5

abbrev pub ELFCLASS32 : ℕ
ELFCLASS32 = 1

abbrev pub ELFDATA2LSB : ℕ
ELFDATA2LSB = 1

abbrev pub ELFDATA2MSB : ℕ
ELFDATA2MSB = 2

-- e_type and e_machine
abbrev pub ET_REL : ℕ
ET_REL = 1

abbrev pub EM_MIPS : ℕ
EM_MIPS = 8

-- sh_type
abbrev pub SHT_NULL : ℕ
SHT_NULL = 0

abbrev pub SHT_PROGBITS : ℕ
SHT_PROGBITS = 1

abbrev pub SHT_SYMTAB : ℕ
SHT_SYMTAB = 2

abbrev pub SHT_STRTAB : ℕ
SHT_STRTAB = 3

abbrev pub SHT_RELA : ℕ
SHT_RELA = 4

abbrev pub SHT_NOBITS : ℕ
SHT_NOBITS = 8

abbrev pub SHT_REL : ℕ
SHT_REL = 9

abbrev pub SHT_MIPS_GPTAB : ℕ
SHT_MIPS_GPTAB = 0x70000003

abbrev pub SHT_MIPS_DEBUG : ℕ
SHT_MIPS_DEBUG = 0x70000005

abbrev pub SHT_MIPS_REGINFO : ℕ
SHT_MIPS_REGINFO = 0x70000006

-- sh_flags: bit 7
abbrev pub SHF_LINK_ORDER : ℕ
SHF_LINK_ORDER = 0x80

-- st_shndx: undefined; the reserved indices, of which one is absolute and the last escapes to another table
abbrev pub SHN_UNDEF : ℕ
SHN_UNDEF = 0

abbrev pub SHN_ABS : ℕ
SHN_ABS = 0xFFF1

abbrev pub SHN_LORESERVE : ℕ
SHN_LORESERVE = 0xFF00

abbrev pub SHN_XINDEX : ℕ
SHN_XINDEX = 0xFFFF

-- st_info: bindings and types
abbrev pub STB_LOCAL : ℕ
STB_LOCAL = 0

abbrev pub STB_GLOBAL : ℕ
STB_GLOBAL = 1

abbrev pub STT_OBJECT : ℕ
STT_OBJECT = 1

abbrev pub STT_FUNC : ℕ
STT_FUNC = 2

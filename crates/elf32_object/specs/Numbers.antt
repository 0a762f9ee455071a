-- The numbers of the format that have names, as in the System V gABI (chapter 4, "Object Files") and its supplement for
-- the Intel386; the sizes and the offsets of the header's fields have names of this project's own. Definitions take them
-- from here, and none from the code.
use Rattle.std.specs.Prelude.{ℕ}

-- Identification ("ELF Header", "ELF Identification"): places in e_ident, and what a 32-bit little-endian file of the
-- current version has there.
abbrev pub EI_CLASS : ℕ
EI_CLASS = 4

abbrev pub EI_DATA : ℕ
EI_DATA = 5

abbrev pub EI_VERSION : ℕ
EI_VERSION = 6

abbrev pub ELFCLASS32 : ℕ
ELFCLASS32 = 1

abbrev pub ELFDATA2LSB : ℕ
ELFDATA2LSB = 1

abbrev pub EV_CURRENT : ℕ
EV_CURRENT = 1

-- The header ("ELF Header"): offsets of its fields, e_type of a relocatable file, and e_machine of the Intel386.
abbrev pub E_TYPE : ℕ
E_TYPE = 16

abbrev pub E_MACHINE : ℕ
E_MACHINE = 18

abbrev pub E_VERSION : ℕ
E_VERSION = 20

abbrev pub E_SHOFF : ℕ
E_SHOFF = 32

abbrev pub E_EHSIZE : ℕ
E_EHSIZE = 40

abbrev pub E_SHENTSIZE : ℕ
E_SHENTSIZE = 46

abbrev pub E_SHNUM : ℕ
E_SHNUM = 48

abbrev pub E_SHSTRNDX : ℕ
E_SHSTRNDX = 50

abbrev pub ET_REL : ℕ
ET_REL = 1

abbrev pub EM_386 : ℕ
EM_386 = 3

-- Sizes in bytes: of the header ("ELF Header", Elf32_Ehdr), of a section's header ("Sections", Elf32_Shdr), of a symbol
-- ("Symbol Table", Elf32_Sym) and of a relocation without an addend ("Relocation", Elf32_Rel).
abbrev pub EHDR_SIZE : ℕ
EHDR_SIZE = 52

abbrev pub SHDR_SIZE : ℕ
SHDR_SIZE = 40

abbrev pub SYM_SIZE : ℕ
SYM_SIZE = 16

abbrev pub REL_SIZE : ℕ
REL_SIZE = 8

-- Section types ("Sections", sh_type).
abbrev pub SHT_NULL : ℕ
SHT_NULL = 0

abbrev pub SHT_PROGBITS : ℕ
SHT_PROGBITS = 1

abbrev pub SHT_SYMTAB : ℕ
SHT_SYMTAB = 2

abbrev pub SHT_STRTAB : ℕ
SHT_STRTAB = 3

abbrev pub SHT_RELA : ℕ
SHT_RELA = 4

abbrev pub SHT_NOBITS : ℕ
SHT_NOBITS = 8

abbrev pub SHT_REL : ℕ
SHT_REL = 9

abbrev pub SHT_INIT_ARRAY : ℕ
SHT_INIT_ARRAY = 14

abbrev pub SHT_FINI_ARRAY : ℕ
SHT_FINI_ARRAY = 15

-- Section flags ("Sections", sh_flags).
abbrev pub SHF_WRITE : ℕ
SHF_WRITE = 0x1

abbrev pub SHF_ALLOC : ℕ
SHF_ALLOC = 0x2

abbrev pub SHF_EXECINSTR : ℕ
SHF_EXECINSTR = 0x4

abbrev pub SHF_MERGE : ℕ
SHF_MERGE = 0x10

abbrev pub SHF_STRINGS : ℕ
SHF_STRINGS = 0x20

abbrev pub SHF_TLS : ℕ
SHF_TLS = 0x400

abbrev pub SHF_COMPRESSED : ℕ
SHF_COMPRESSED = 0x800

-- Special section indexes ("Sections", "Special Section Indexes").
abbrev pub SHN_UNDEF : ℕ
SHN_UNDEF = 0

abbrev pub SHN_ABS : ℕ
SHN_ABS = 0xfff1

abbrev pub SHN_COMMON : ℕ
SHN_COMMON = 0xfff2

-- Symbols ("Symbol Table"): bindings, the high four bits of st_info, and types, the low four.
abbrev pub STB_GLOBAL : ℕ
STB_GLOBAL = 1

abbrev pub STB_WEAK : ℕ
STB_WEAK = 2

abbrev pub STT_OBJECT : ℕ
STT_OBJECT = 1

abbrev pub STT_FUNC : ℕ
STT_FUNC = 2

abbrev pub STT_SECTION : ℕ
STT_SECTION = 3

-- Relocations (the supplement's "Relocation Types").
abbrev pub R_386_NONE : ℕ
R_386_NONE = 0

abbrev pub R_386_32 : ℕ
R_386_32 = 1

abbrev pub R_386_PC32 : ℕ
R_386_PC32 = 2

abbrev pub R_386_PLT32 : ℕ
R_386_PLT32 = 4

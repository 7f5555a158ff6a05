-- Numbers of the System V gABI that a written module has (ELF header, section header, symbol table).
use Rattle.std.specs.Prelude.{ℕ, ◌+◌, ◌*◌}

-- the class of 64 bits, the lowest byte first, and the version
abbrev pub elfclass64 : ℕ
elfclass64 = 2

abbrev pub elfdata2lsb : ℕ
elfdata2lsb = 1

abbrev pub ev_current : ℕ
ev_current = 1

-- a file that is loaded where it says, for x86-64
abbrev pub et_exec : ℕ
et_exec = 2

abbrev pub em_x86_64 : ℕ
em_x86_64 = 62

-- how many bytes the ELF header, a section header and a symbol have
abbrev pub ehdr_size : ℕ
ehdr_size = 64

abbrev pub shdr_size : ℕ
shdr_size = 64

abbrev pub sym_size : ℕ
sym_size = 24

-- what a section holds: bytes of the program, symbols, strings
abbrev pub sht_progbits : ℕ
sht_progbits = 1

abbrev pub sht_symtab : ℕ
sht_symtab = 2

abbrev pub sht_strtab : ℕ
sht_strtab = 3

-- what a section's flags say: it is written to, it is loaded, it has instructions
abbrev pub shf_write : ℕ
shf_write = 1

abbrev pub shf_alloc : ℕ
shf_alloc = 2

abbrev pub shf_execinstr : ℕ
shf_execinstr = 4

-- a symbol that other files see, and what it names: data, a function
abbrev pub stb_global : ℕ
stb_global = 1

abbrev pub stt_object : ℕ
stt_object = 1

abbrev pub stt_func : ℕ
stt_func = 2

-- both in one byte
abbrev pub symbol_info : ℕ → ℕ → ℕ
symbol_info binding kind = 16 * binding + kind

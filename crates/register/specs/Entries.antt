-- 01, The register: an entry is "one kind byte and a body whose length the kind fixes". Entries are counted from the start of a journal's body.
use Rattle.std.specs.Prelude.{List, ℕ, ◌+◌, ◌*◌, set}
use Rattle.terms.specs.declared.entry.Entry.{Entry}
use Rattle.register.specs.Bytes.{byte_at, word_at, long_at, put_word, put_long}

-- "Kinds 2 standing, 3 withdrawn, 4 held, one body": day 2 bytes, value 4, type 1, indicator 1, flag 1
abbrev pub entry_bytes : ℕ
entry_bytes = 10

-- where in a body the entry after k others starts
abbrev pub entry_start : ℕ → ℕ
entry_start k = entry_bytes * k

unfoldable pub entry_at : List ℕ → ℕ → Entry
entry_at bytes i =
    record {
      kind = byte_at bytes i;
      day = word_at bytes (i + 1);
      value = long_at bytes (i + 3);
      letter = byte_at bytes (i + 7);
      indicator = byte_at bytes (i + 8);
      flag = byte_at bytes (i + 9);
    }

unfoldable pub put_entry : List ℕ → ℕ → Entry → List ℕ
put_entry bytes i e =
    set
    (set
    (set (put_long (put_word (set bytes i e.kind) (i + 1) e.day) (i + 3) e.value) (i + 7) e.letter)
    (i + 8)
    e.indicator)
    (i + 9)
    e.flag

-- ten zeros, as "a held entry is zeroed" has it
abbrev pub zero_entry : Entry
zero_entry = record { kind = 0; day = 0; value = 0; letter = 0; indicator = 0; flag = 0 }

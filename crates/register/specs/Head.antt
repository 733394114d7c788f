-- 01, The register: a journal is a head, which is the meter's entry and perhaps a carry, and a body, which holds the entries after it.
use Rattle.std.specs.Prelude.{Bool, cond, List, ℕ, ◌+◌, eqb, set, drop}
use Rattle.terms.specs.Entry.{kind_carry}
use Rattle.terms.specs.Profile.{meter_kind, profile_of}
use Rattle.register.specs.declared.head.Carry.{Carry}
use Rattle.register.specs.declared.head.Head.{Head}
use Rattle.register.specs.Bytes.{byte_at, word_at, long_at, put_word, put_long}
use Rattle.register.specs.Entries.{entry_start}

-- "Kind 1, meter, first and only first: dials n (1 byte, ..), capacity in m³ a year (4 bytes, ..)." 02, 4: "Kind 7 stands where
-- kind 1 would, same body".
abbrev pub meter_bytes : ℕ
meter_bytes = 6

-- 02, 2: "a carry, kind 5, right after kind 1: first value (4 bytes), folded reads (2), flagged among them (2)"
abbrev pub carry_bytes : ℕ
carry_bytes = 9

unfoldable pub is_carry_at : List ℕ → ℕ → Bool
is_carry_at area i = eqb (byte_at area i) kind_carry

unfoldable pub carry_at : List ℕ → ℕ → Carry
carry_at area i = record { first = long_at area (i + 1); folded = word_at area (i + 5); flagged = word_at area (i + 7) }

-- the carry of a head that has none
unfoldable pub no_carry : Carry
no_carry = record { first = 0; folded = 0; flagged = 0 }

unfoldable pub head_of : List ℕ → Head
head_of area =
    record {
      profile = profile_of (byte_at area 0);
      dials = byte_at area 1;
      capacity = long_at area 2;
      carried = is_carry_at area meter_bytes;
      carry = cond (is_carry_at area meter_bytes) (carry_at area meter_bytes) no_carry;
    }

-- ---- writing one
unfoldable pub put_meter : List ℕ → Head → List ℕ
put_meter area head = put_long (set (set area 0 (meter_kind head.profile)) 1 head.dials) 2 head.capacity

unfoldable pub put_carry : List ℕ → ℕ → Carry → List ℕ
put_carry area i carry =
    put_word (put_word (put_long (set area i kind_carry) (i + 1) carry.first) (i + 5) carry.folded) (i + 7) carry.flagged

unfoldable pub put_head : List ℕ → Head → List ℕ
put_head area head =
    cond head.carried (put_carry (put_meter area head) meter_bytes head.carry) (put_meter area head)

-- ---- what follows from it
-- how long a head is
unfoldable pub head_bytes : Head → ℕ
head_bytes head = cond head.carried (meter_bytes + carry_bytes) meter_bytes

-- how many entries may follow it: "A sound journal has at most 50 entries after the first."; 02, 2: "After a carry at most 49 entries follow"
unfoldable pub most_entries : Head → ℕ
most_entries head = cond head.carried 49 50

-- what follows the head
unfoldable pub body_of : List ℕ → List ℕ
body_of area = drop (head_bytes (head_of area)) area

-- where in an area the entry after k others starts
unfoldable pub offset_after : Head → ℕ → ℕ
offset_after head k = head_bytes head + entry_start k

unfoldable pub entry_offset : List ℕ → ℕ → ℕ
entry_offset area k = offset_after (head_of area) k

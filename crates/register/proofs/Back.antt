-- What an area holds after a write: the entry written, and the entries below and above as they were.
use mathlib.Core.Path.{◌≡◌, sym, ap, ◌∙◌}
use Prim.Native.Nat.{ℕ, ◌+◌, ◌-◌, ◌/◌, ◌%◌, ◌≤◌, ◌<◌}
use mathlib.Core.List.{List}
use native.Mathlib.Omega.{arith}
use mathlib.Core.Logic.{◌≢◌}
use lib.ListN.{length, get_or, set, take, drop, length-set}
use lib.Seq.{get_or-set_same, get_or-set_other, get_or-take, get_or-drop, take-set-le, drop-set-lt}
use Rattle.terms.specs.declared.entry.Entry.{Entry}
use Rattle.register.specs.Bytes.{word_at, long_at, put_word, put_long}
use Rattle.register.specs.Entries.{entry_at, put_entry}

-- ---- lists that agree from low up to high: what is read there is the same
module _ (a b : List ℕ) (low high : ℕ) (h : (j : ℕ) → low ≤ j → j < high → get_or a j 0 ≡ get_or b j 0) where
  alike_word : (j : ℕ) → low ≤ j → j + 2 ≤ high → word_at a j ≡ word_at b j
  unfolding word_at
  alike_word j g l = cc (h j g (omega arith), h (j + 1) (omega arith) (omega arith))

  alike_long : (j : ℕ) → low ≤ j → j + 4 ≤ high → long_at a j ≡ long_at b j
  unfolding long_at
  alike_long j g l = cc (alike_word j g (omega arith), alike_word (j + 2) (omega arith) (omega arith))

  alike_entry : (j : ℕ) → low ≤ j → j + 10 ≤ high → entry_at a j ≡ entry_at b j
  unfolding entry_at
  alike_entry j g l =
      cc (
        h j g (omega arith),
        alike_word (j + 1) (omega arith) (omega arith),
        alike_long (j + 3) (omega arith) (omega arith),
        h (j + 7) (omega arith) (omega arith),
        h (j + 8) (omega arith) (omega arith),
        h (j + 9) (omega arith) (omega arith),
      )

-- ---- what agrees up to n has the same bytes and entries there
module _ (a b : List ℕ) (n : ℕ) (h : take n a ≡ take n b) where
  pub same_byte : (j : ℕ) → j < n → get_or a j 0 ≡ get_or b j 0
  same_byte j l = sym (get_or-take n a j 0 l) ∙ ap (λ (z : List ℕ). get_or z j 0) h ∙ get_or-take n b j 0 l

  same_up_to : (j : ℕ) → 0 ≤ j → j < n → get_or a j 0 ≡ get_or b j 0
  same_up_to j g l = same_byte j l

  pub same_word : (j : ℕ) → j + 2 ≤ n → word_at a j ≡ word_at b j
  same_word j l = alike_word a b 0 n same_up_to j (omega arith) l

  pub same_long : (j : ℕ) → j + 4 ≤ n → long_at a j ≡ long_at b j
  same_long j l = alike_long a b 0 n same_up_to j (omega arith) l

  pub same_entry : (j : ℕ) → j + 10 ≤ n → entry_at a j ≡ entry_at b j
  same_entry j l = alike_entry a b 0 n same_up_to j (omega arith) l

-- ---- what agrees from n on has the same entries there
module _ (a b : List ℕ) (n : ℕ) (h : drop n a ≡ drop n b) where
  pub past_byte : (j : ℕ) → n ≤ j → get_or a j 0 ≡ get_or b j 0
  past_byte j g =
      let e : n + (j - n) ≡ j = omega arith in
      rw e at (sym (get_or-drop n a (j - n) 0) ∙ ap (λ (z : List ℕ). get_or z (j - n) 0) h ∙ get_or-drop n b (j - n) 0)

  pub past_entry : (i : ℕ) → n ≤ i → entry_at a i ≡ entry_at b i
  past_entry i g = alike_entry a b n (i + 10) (λ j m l. past_byte j m) i g (omega arith)

-- ---- another kind byte: the body is as it was
pub other_kind : (a : List ℕ) (i k : ℕ) → i < length a → entry_at (set a i k) i ≡ record {
  kind = k;
  day = (entry_at a i).day;
  value = (entry_at a i).value;
  letter = (entry_at a i).letter;
  indicator = (entry_at a i).indicator;
  flag = (entry_at a i).flag;
}
unfolding entry_at
other_kind a i k room =
    let b = set a i k in
    let h : (j : ℕ) → i + 1 ≤ j → j < i + 10 → get_or b j 0 ≡ get_or a j 0 = λ j g l. get_or-set_other a i j k 0 (omega arith) in
    cc (
      get_or-set_same a i k 0 room,
      alike_word b a (i + 1) (i + 10) h (i + 1) (omega arith) (omega arith),
      alike_long b a (i + 1) (i + 10) h (i + 3) (omega arith) (omega arith),
      h (i + 7) (omega arith) (omega arith),
      h (i + 8) (omega arith) (omega arith),
      h (i + 9) (omega arith) (omega arith),
    )

-- ---- a write
module _ (a : List ℕ) (i : ℕ) where
  pub word_length : (v : ℕ) → length (put_word a i v) ≡ length a
  unfolding put_word
  word_length v = simp length-set

  pub word_below : (v n : ℕ) → n ≤ i → take n (put_word a i v) ≡ take n a
  unfolding put_word
  word_below v n l = let l' : n ≤ i + 1 = omega arith in simp take-set-le

  pub word_above : (v n : ℕ) → i + 2 ≤ n → drop n (put_word a i v) ≡ drop n a
  unfolding put_word
  word_above v n l =
      let l₀ : i < n = omega arith in
      let l₁ : i + 1 < n = omega arith in
      simp drop-set-lt

  pub word_same : (v : ℕ) → i + 2 ≤ length a → word_at (put_word a i v) i ≡ v
  unfolding word_at put_word
  word_same v l =
      let ne : i ≢ i + 1 = omega arith in
      let l₀ : i < length a = omega arith in
      let l₁ : i + 1 < length (set a i (v % 256)) = simp length-set (omega arith) in
      simp (get_or-set_same, get_or-set_other) (omega arith)

module _ (a : List ℕ) (i : ℕ) where
  pub long_length : (v : ℕ) → length (put_long a i v) ≡ length a
  unfolding put_long
  long_length v = simp word_length

  pub long_below : (v n : ℕ) → n ≤ i → take n (put_long a i v) ≡ take n a
  unfolding put_long
  long_below v n l = let l' : n ≤ i + 2 = omega arith in simp word_below

  pub long_above : (v n : ℕ) → i + 4 ≤ n → drop n (put_long a i v) ≡ drop n a
  unfolding put_long
  long_above v n l =
      let l₀ : i + 2 ≤ n = omega arith in
      let l₂ : i + 2 + 2 ≤ n = omega arith in
      simp word_above

  pub long_same : (v : ℕ) → i + 4 ≤ length a → long_at (put_long a i v) i ≡ v
  unfolding long_at put_long
  long_same v l =
      let low : List ℕ = put_word a i (v % 65536) in
      let l₁ : (i + 2) + 2 ≤ length low = simp word_length (omega arith) in
      let l₀ : i + 2 ≤ length a = omega arith in
      let e : word_at (put_word low (i + 2) (v / 65536)) i ≡ v % 65536 =
      same_word (put_word low (i + 2) (v / 65536)) low (i + 2) (word_below low (i + 2) (v / 65536) (i + 2) (omega arith)) i (omega arith) ∙ word_same a i (v % 65536) l₀
      in
      omega (arith, e, word_same low (i + 2) (v / 65536) l₁)

pub entry_length : (a : List ℕ) (i : ℕ) (e : Entry) → length (put_entry a i e) ≡ length a
unfolding put_entry
entry_length a i e = simp (length-set, word_length, long_length)

pub entry_below : (a : List ℕ) (i : ℕ) (e : Entry) (n : ℕ) → n ≤ i → take n (put_entry a i e) ≡ take n a
unfolding put_entry
entry_below a i e n l =
    let l₁ : n ≤ i + 1 = omega arith in
    let l₃ : n ≤ i + 3 = omega arith in
    let l₇ : n ≤ i + 7 = omega arith in
    let l₈ : n ≤ i + 8 = omega arith in
    let l₉ : n ≤ i + 9 = omega arith in
    simp (take-set-le, word_below, long_below)

-- up to its kind it is that byte alone
pub entry_first : (a : List ℕ) (i : ℕ) (e : Entry) → take (i + 1) (put_entry a i e) ≡ take (i + 1) (set a i e.kind)
unfolding put_entry
entry_first a i e =
    let l₁ : i + 1 ≤ i + 1 = omega arith in
    let l₃ : i + 1 ≤ i + 3 = omega arith in
    let l₇ : i + 1 ≤ i + 7 = omega arith in
    let l₈ : i + 1 ≤ i + 8 = omega arith in
    let l₉ : i + 1 ≤ i + 9 = omega arith in
    simp (take-set-le, word_below, long_below)

pub entry_above : (a : List ℕ) (i : ℕ) (e : Entry) (n : ℕ) → i + 10 ≤ n → drop n (put_entry a i e) ≡ drop n a
unfolding put_entry
entry_above a i e n l =
    let l₀ : i < n = omega arith in
    let l₁ : i + 1 + 2 ≤ n = omega arith in
    let l₃ : i + 3 + 4 ≤ n = omega arith in
    let l₇ : i + 7 < n = omega arith in
    let l₈ : i + 8 < n = omega arith in
    let l₉ : i + 9 < n = omega arith in
    simp (drop-set-lt, word_above, long_above)

-- ---- the entry written is read back
module _ (a : List ℕ) (i : ℕ) (e : Entry) (room : i + 10 ≤ length a) where
  abbrev s₁ : List ℕ
  s₁ = set a i e.kind

  abbrev s₂ : List ℕ
  s₂ = put_word s₁ (i + 1) e.day

  abbrev s₃ : List ℕ
  s₃ = put_long s₂ (i + 3) e.value

  abbrev s₄ : List ℕ
  s₄ = set s₃ (i + 7) e.letter

  abbrev s₅ : List ℕ
  s₅ = set s₄ (i + 8) e.indicator

  abbrev s₆ : List ℕ
  s₆ = set s₅ (i + 9) e.flag

  length₁ : length s₁ ≡ length a
  length₁ = simp length-set

  length₂ : length s₂ ≡ length a
  length₂ = simp (word_length, length-set)

  length₃ : length s₃ ≡ length a
  length₃ = simp (long_length, word_length, length-set)

  from₃ : (n : ℕ) → n ≤ i + 7 → take n s₆ ≡ take n s₃
  from₃ n l =
      let l₈ : n ≤ i + 8 = omega arith in
      let l₉ : n ≤ i + 9 = omega arith in
      simp take-set-le

  from₂ : (n : ℕ) → n ≤ i + 3 → take n s₆ ≡ take n s₂
  from₂ n l = from₃ n (omega arith) ∙ long_below s₂ (i + 3) e.value n l

  from₁ : (n : ℕ) → n ≤ i + 1 → take n s₆ ≡ take n s₁
  from₁ n l = from₂ n (omega arith) ∙ word_below s₁ (i + 1) e.day n l

  pub entry_same : entry_at (put_entry a i e) i ≡ e
  unfolding entry_at put_entry
  entry_same =
      let l₄ : i + 8 < length s₄ = simp length-set (omega (arith, length₃)) in
      let l₅ : i + 9 < length s₅ = simp length-set (omega (arith, length₃)) in
      let n₈ : i + 8 ≤ i + 8 = omega arith in
      let n₉ : i + 8 ≤ i + 9 = omega arith in
      let n₁₀ : i + 9 ≤ i + 9 = omega arith in
      let e₄ : take (i + 8) s₆ ≡ take (i + 8) s₄ = simp take-set-le in
      let e₅ : take (i + 9) s₆ ≡ take (i + 9) s₅ = simp take-set-le in
      let kind = same_byte s₆ s₁ (i + 1) (from₁ (i + 1) (omega arith)) i (omega arith) ∙ get_or-set_same a i e.kind 0 (omega arith) in
      let day = same_word s₆ s₂ (i + 3) (from₂ (i + 3) (omega arith)) (i + 1) (omega arith) ∙ word_same s₁ (i + 1) e.day (omega (arith, length₁)) in
      let value = same_long s₆ s₃ (i + 7) (from₃ (i + 7) (omega arith)) (i + 3) (omega arith) ∙ long_same s₂ (i + 3) e.value (omega (arith, length₂)) in
      let letter = same_byte s₆ s₄ (i + 8) e₄ (i + 7) (omega arith) ∙ get_or-set_same s₃ (i + 7) e.letter 0 (omega (arith, length₃)) in
      let indicator = same_byte s₆ s₅ (i + 9) e₅ (i + 8) (omega arith) ∙ get_or-set_same s₄ (i + 8) e.indicator 0 l₄ in
      let flag = get_or-set_same s₅ (i + 9) e.flag 0 l₅ in
      λ t. record { kind = kind t; day = day t; value = value t; letter = letter t; indicator = indicator t; flag = flag t }

-- 01, Calls: the table of numbers, each under its word.
use Rattle.std.specs.Prelude.{ℕ}

abbrev pub accepted : ℕ
accepted = 0

abbrev pub repeat : ℕ
repeat = 1

abbrev pub misfit : ℕ
misfit = 2

abbrev pub no_meter : ℕ
no_meter = 3

abbrev pub damaged : ℕ
damaged = 4

abbrev pub missing : ℕ
missing = 5

abbrev pub content : ℕ
content = 6

abbrev pub date : ℕ
date = 7

abbrev pub withdrawn_read : ℕ
withdrawn_read = 8

abbrev pub read_at : ℕ
read_at = 9

abbrev pub read_eh : ℕ
read_eh = 10

abbrev pub read_bf : ℕ
read_bf = 11

abbrev pub back_dated : ℕ
back_dated = 12

abbrev pub read_df : ℕ
read_df = 13

abbrev pub indicator_on_opening : ℕ
indicator_on_opening = 14

abbrev pub no_original : ℕ
no_original = 15

abbrev pub full : ℕ
full = 16

abbrev pub read_ee : ℕ
read_ee = 17

abbrev pub read_ef : ℕ
read_ef = 18

abbrev pub low : ℕ
low = 19

abbrev pub high : ℕ
high = 20

abbrev pub over_capacity : ℕ
over_capacity = 21

abbrev pub not_standing : ℕ
not_standing = 22

abbrev pub not_last : ℕ
not_last = 23

abbrev pub enrolled : ℕ
enrolled = 24

abbrev pub plate : ℕ
plate = 25

abbrev pub sheet_fault : ℕ
sheet_fault = 26

-- 02, 2
abbrev pub no_fold : ℕ
no_fold = 27

abbrev pub oldest_kept : ℕ
oldest_kept = 28

-- 02, 4
abbrev pub other_type : ℕ
other_type = 29

-- Sixteens, and then fours.
use Rattle.std.proofs.Common.{◌≡◌, ◌*◌, ◌/◌, length, take, bit_or, fold, rules, arith}
use Rattle.std.specs.Simd.{first_chunks}
use Rattle.std.specs.Int.{w32, w128, from_le_bytes}
use Rattle.zeros.proofs.Zero.{zero_chunks, zero_bytes, zero_parts}
use Rattle.std.proofs.lemmas.List.{take_all}
use Rattle.zeros.proofs.bits_of.Goals as goal

pub returns : goal.returns
returns c =
    let bytes = c.args.bytes.now in
    let rest = c.as_chunks.result.1.now in
    let wide : c.fold-bits.result ≡ fold (λ bits x. bit_or bits (from_le_bytes w128 x)) 0 (first_chunks 16 (length bytes / 16) bytes) = search rules in
    let narrow : c.fold.result ≡ fold (λ bits x. bit_or bits (from_le_bytes w32 x)) c.fold-bits.result (first_chunks 4 (length rest / 4) rest) = search rules in
    let size = c.as_chunks.ensures.back_len in
    let first = zero_chunks (from_le_bytes w128) 16 (zero_bytes 15) (length bytes / 16) 0 bytes (omega arith) in
    let others = zero_chunks (from_le_bytes w32) 4 (zero_bytes 3) (length rest / 4) c.fold-bits.result rest (omega arith) in
    let all : take (length rest / 4 * 4) rest ≡ rest = take_all (length rest / 4 * 4) rest (omega arith) in
    rw (narrow, others, all, wide, first, c.as_chunks.ensures.back) (zero_parts (length bytes / 16 * 16) bytes)

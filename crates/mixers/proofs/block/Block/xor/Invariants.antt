use Rattle.std.proofs.Common.{◌≡◌, ◌++◌, length, take, drop}
use Rattle.words.specs.Bytes.{xor_bytes}
use Rattle.mixers.proofs.block.Block.xor.Given as goal

abbrev pub invariant-loop-i : goal.invariant-loop-i
invariant-loop-i g l =
    (length l.byte-items ≡ length l.initial.byte-items) × (take l.i l.byte-items ++ xor_bytes (drop l.i l.byte-items) (drop l.i l.other.bytes) ≡ xor_bytes l.initial.byte-items l.other.bytes)

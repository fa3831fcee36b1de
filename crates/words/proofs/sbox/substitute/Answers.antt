use Rattle.std.proofs.Common.{◌<◌, refl, rules}
use Rattle.words.specs.Sbox.{sbox_of}
use Rattle.words.proofs.Field.{inverts}
use Rattle.words.proofs.Table.{at_each}
use Rattle.words.proofs.sbox.substitute.Goals as goal

-- `refl`: the prover computes the S-box at all 256 bytes, once, and that list is the table of the code
pub returns : goal.returns
unfolding sbox_of
returns c =
    let h : c.args.byte < 256 = search rules in
    record { value = rw c.from.ensures (at_each _ sbox_of 256 refl c.args.byte h); inverts = inverts }

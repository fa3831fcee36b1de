-- The exchange on blocks of 32 bytes, for running the mode at that width.
use Rattle.std.proofs.Common.{inr, lit≤}
use Rattle.std.specs.Prelude.{refl}
use Rattle.mixers.specs.Exchange.{exchanged, exchanged_lawful}
use Rattle.mixers.specs.Halves.{Lawful}

pub wide_lawful : Lawful 32 255 exchanged
wide_lawful = exchanged_lawful 32 255 (inr refl) (lit≤ tt) (lit≤ tt)

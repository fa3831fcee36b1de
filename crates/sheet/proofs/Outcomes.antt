-- What an Ok or a Some tells of where it came from. `OneColumn` stands on it, and the calls on whole texts will.
use Rattle.std.proofs.Common.{◌≡◌, Bool, true, false, cond, Some, None, Option, Ok, Err, Result, ok_or, refl}
use Rattle.sheet.specs.Faults.{through, carried}
use Rattle.sheet.specs.declared.fault.ColumnFault.{ColumnFault}

-- an Ok that came through came from an Ok
pub through-ok : {A B E : Type 0} (r : Result A E) (f : A → Result B E) (y : B) → through r f ≡ Ok y → (x : A) × (r ≡ Ok x) × (f x ≡ Ok y)
through-ok (Ok x) f y e = (x, refl, e)
through-ok (Err d) f y e = cc

pub carried-ok : {A : Type 0} (r : Result A ColumnFault) (x : A) → carried r ≡ Ok x → r ≡ Ok x
carried-ok (Ok y) x e = cc
carried-ok (Err d) x e = cc

-- a value that a test let pass
pub cond-ok : {A E : Type 0} (b : Bool) (v x : A) (e : E) → cond b (Ok v) (Err e) ≡ Ok x → (b ≡ true) × (v ≡ x)
cond-ok true v x e q = (refl, cc)
cond-ok false v x e q = cc

pub some-ok : {A E : Type 0} (o : Option A) (e : E) (x : A) → ok_or o e ≡ Ok x → o ≡ Some x
some-ok (Some y) e x q = cc
some-ok None e x q = cc

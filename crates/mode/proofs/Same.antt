-- A comparison of byte strings that gathers their differences.
use Rattle.std.proofs.Common.{◌≡◌, ℕ, List, [], ◌∷◌, length, sym, refl, ap, ◌∙◌, arith}
use Rattle.std.specs.List.{fold, zip}
use Rattle.std.proofs.lemmas.Nat.{le_or_l, le_or_r}
use lib.Bits.{bit_or, bit_xor, xor_assoc, xor_self, xor_zero_l, xor_zero_r}

or_none : (a b : ℕ) → bit_or a b ≡ 0 → (a ≡ 0) × (b ≡ 0)
or_none a b e = (omega (arith, le_or_l a b), omega (arith, le_or_r a b))

xor_none : (a b : ℕ) → bit_xor a b ≡ 0 → a ≡ b
xor_none a b e = sym (xor_zero_r a) ∙ ap (bit_xor a) (sym e) ∙ sym (xor_assoc a a b) ∙ ap (λ z. bit_xor z b) (xor_self a) ∙ xor_zero_l b

-- d, and the differences of a pair of bytes
abbrev pub gathered : ℕ → ℕ × ℕ → ℕ
gathered d p = bit_or d (bit_xor p.0 p.1)

-- all that is gathered is 0 just where nothing was gathered before and the two are equal
pub alike : (a b : List ℕ) (d : ℕ) → length a ≡ length b → (fold gathered d (zip a b) ≡ 0 → (d ≡ 0) × (a ≡ b)) × (d ≡ 0 → a ≡ b → fold gathered d (zip a b) ≡ 0)
alike [] [] d l = (λ e. (e, refl), λ e _. e)
alike [] (y ∷ b) d l = absurd (omega arith)
alike (x ∷ a) [] d l = absurd (omega arith)
alike (x ∷ a) (y ∷ b) d l =
    let ih = alike a b (bit_or d (bit_xor x y)) (omega arith) in (
      λ e. let r = ih.0 e in let z = or_none d (bit_xor x y) r.0 in let q = xor_none x y z.1 in (z.0, let t : a ≡ b = r.1 in cc),
      λ e s. let q : x ≡ y = cc in let t : a ≡ b = cc in ih.1 (ap (λ v. bit_or v (bit_xor x y)) e ∙ ap (bit_or 0) (ap (λ v. bit_xor v y) q ∙ xor_self y)) t,
    )
